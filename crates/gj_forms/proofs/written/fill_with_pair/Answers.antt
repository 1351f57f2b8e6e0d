use Rattle.std.proofs.Common.{ℕ, List, ◌++◌, ◌∷◌, ap, ◌∙◌, arith}
use Rattle.std.proofs.lemmas.List.{drop_all}
use Rattle.gj_lex.specs.NumberText.{fraction_text}
use Rattle.gj_forms.proofs.written.fill_with_pair.Goals as goal

pub returns-clause-written : goal.returns-clause-written
returns-clause-written c =
    let front = 32 ∷ fraction_text c.args.x ++ 32 ∷ fraction_text c.args.y in
    c.write_pair.ensures.written
    ∙ ap (λ (xs : List ℕ). front ++ (10 ∷ xs))
    (drop_all 163 c.args.text.now (omega (arith, c.requires)))
