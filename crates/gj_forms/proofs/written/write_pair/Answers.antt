use Rattle.std.proofs.Common.{ℕ, List, ◌++◌, ◌∷◌, sym, ap, ◌∙◌, arith, append_assoc, drop}
use Rattle.gj_lex.specs.NumberText.{fraction_text}
use Rattle.gj_lex.proofs.Decimals.{written_before}
use Rattle.gj_forms.proofs.written.write_pair.Goals as goal

pub returns-clause-written : goal.returns-clause-written
returns-clause-written c =
    let first = 32 ∷ fraction_text c.args.x in
    let second = 32 ∷ fraction_text c.args.y in
    let behind = drop c.args.end c.args.text.now in
    let last = written_before c.args.text.now c.args.end 10 (omega arith) (omega arith) in
    c.write_spaced.ensures.written
    ∙ ap (λ (xs : List ℕ). first ++ xs) (c.write_spaced-second.ensures.written
    ∙ ap (λ (xs : List ℕ). second ++ xs) last)
    ∙ sym (append_assoc first second (10 ∷ behind))
