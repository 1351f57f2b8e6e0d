use Rattle.std.proofs.Common.{subst, sym, arith}
use Rattle.std.specs.Int.{IsGcd}
use Rattle.std.proofs.Math.Nat.{one-dvd}
use Rattle.std.proofs.lemmas.Nat.Gcd.{IsGcd-from_zero, IsGcd-from_mod}
use Rattle.gj_frac.proofs.OddParts.{from_sorted}
use Rattle.gj_frac.proofs.divisors.gcd_in_64_bits.Goals as goal

pub returns-then-lesser-eq0 : goal.returns-then-lesser-eq0
returns-then-lesser-eq0 c = from_sorted _ _ _ _ _ c.max-greater.ensures c.min-lesser.ensures
    (IsGcd-from_zero _ _ (omega arith))

pub returns-then-lesser-eq1 : goal.returns-then-lesser-eq1
returns-then-lesser-eq1 c = from_sorted _ _ _ _ _ c.max-greater.ensures c.min-lesser.ensures
    (subst (λ n. IsGcd c.max-greater.result n 1) (sym c.if-lesser-eq1.true)
    (one-dvd _, one-dvd 1, λ d p q. q))

pub returns-then-rest-eq0 : goal.returns-then-rest-eq0
returns-then-rest-eq0 c = from_sorted _ _ _ _ _ c.max-greater.ensures c.min-lesser.ensures
    (IsGcd-from_mod _ _ _ (IsGcd-from_zero _ _ (omega arith)))

pub returns : goal.returns
returns c = from_sorted _ _ _ _ _ c.max-greater.ensures c.min-lesser.ensures
    (IsGcd-from_mod _ _ _ c.gcd_of_positive.ensures)
