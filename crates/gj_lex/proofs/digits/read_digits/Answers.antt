use Rattle.std.proofs.Common.{◌≡◌, ap, get_or, length, decimal, arith}
use Rattle.std.proofs.lemmas.Grind.{common_steps}
use Rattle.gj_lex.proofs.Decimals.{read_digits_found, read_digits_only, decimal_some, decimal_leading_zero}
use Rattle.gj_lex.proofs.digits.read_digits.Goals as goal
use Rattle.gj_lex.proofs.digits.read_digits.Goals.{then-is_empty-via-then-is_empty, then-is_empty-via-else-is_empty+then-has_leading_zero}

pub returns-then-is_empty-clause-only : goal.returns-then-is_empty-clause-only
returns-then-is_empty-clause-only c = λ n small e.
    let some = decimal_some n (omega arith) in
    let same : length c.args.word.now ≡ length (decimal n) = ap length e in
    absurd
    (elim c.then-is_empty.branch [
      | then-is_empty-via-then-is_empty w ↦ grind (arith, common_steps)
      | then-is_empty-via-else-is_empty+then-has_leading_zero w ↦
          let h = w.has_leading_zero.ensures.0 w.if-has_leading_zero.true in
          omega (
            arith,
            h.0,
            decimal_leading_zero n (omega arith)
                (omega (arith, h.1, ap (λ ds. get_or ds 0 0) e)),
          )
    ])

pub returns-clause-found : goal.returns-clause-found
returns-clause-found c =
    read_digits_found _ _ c.value_of.ensures (grind (arith, common_steps))
    (λ lead. grind (arith, common_steps))

pub returns-clause-only : goal.returns-clause-only
returns-clause-only c = read_digits_only _ _ c.value_of.ensures
