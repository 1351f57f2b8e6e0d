use Rattle.std.proofs.Common.{ℕ, ◌%◌, sym, subst, arith}
use Rattle.std.specs.Int.{IsGcd}
use Rattle.std.proofs.lemmas.Nat.Gcd.{IsGcd-from_zero, IsGcd-from_mod}
use Rattle.gj_frac.proofs.divisors.gcd.Goals as goal

pub loop-y-preserved : goal.loop-y-preserved
loop-y-preserved c g h = c.loop-y.invariant g (IsGcd-from_mod _ _ g h)

pub returns-then-y-eq0 : goal.returns-then-y-eq0
returns-then-y-eq0 c = c.loop-y.invariant _ (IsGcd-from_zero _ _ (omega arith))

pub returns-then-x : goal.returns-then-x
returns-then-x c =
    let same = c.from.ensures in
    c.loop-y.invariant _
    (subst (λ (g : ℕ). IsGcd c.loop-y.x c.loop-y.y g) (sym same) c.gcd_in_64_bits.ensures)

pub returns : goal.returns
returns c =
    let same = c.from-2.ensures in
    c.loop-y.invariant _
    (IsGcd-from_mod _ _ _
    (subst (λ (g : ℕ). IsGcd c.loop-y.y (c.loop-y.x % c.loop-y.y) g)
    (sym same) c.gcd_in_64_bits-2.ensures))
