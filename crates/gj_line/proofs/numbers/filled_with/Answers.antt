use Rattle.std.proofs.Common.{ℕ, List, ◌++◌, ◌∷◌, append-nil, ap, ◌∙◌, arith}
use Rattle.std.proofs.lemmas.List.{drop_all}
use Rattle.gj_lex.specs.NumberText.{fraction_text}
use Rattle.gj_line.proofs.numbers.filled_with.Goals as goal

pub returns-clause-written : goal.returns-clause-written
returns-clause-written c =
    let spaced = 32 ∷ fraction_text c.args.x in
    c.write_spaced.ensures.written
    ∙ ap (λ (xs : List ℕ). spaced ++ xs) (drop_all 81 c.args.text.now (omega (arith, c.requires)))
    ∙ append-nil spaced
