use Rattle.std.proofs.Common.{◌≡◌, unwrap_or, refl, sym, ap, ◌∙◌, arith}
use Rattle.gj_proof.proofs.fields.count_below.Goals as goal

pub returns-in_default-clause-fault : goal.returns-in_default-clause-fault
returns-in_default-clause-fault c = (
  refl,
  λ n below is.
      let fits = c.ranges.limit.fits in
      c.in_default.not-Some n (c.read_count.ensures.only n (omega arith) is),
)

pub returns-then-n-limit-clause-fault : goal.returns-then-n-limit-clause-fault
returns-then-n-limit-clause-fault c = (
  refl,
  λ n below is.
      let fits = c.ranges.limit.fits in
      let found = c.read_count.ensures.only n (omega arith) is in
      let same : c.in-Some.n ≡ n = ap (λ o. unwrap_or o 0) (sym c.in-Some.is ∙ found) in
      let high = c.if-n-limit.true in
      absurd (omega (arith, same, high, below)),
)
