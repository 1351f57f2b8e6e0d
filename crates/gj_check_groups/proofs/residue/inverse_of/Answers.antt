use Rattle.std.proofs.Common.{ℕ, ◌%◌, ◌<◌, ◌≤◌, sym, lit<, arith}
use Rattle.gj_theory.specs.Modulus.{modulus}
use Rattle.gj_theory.proofs.Euclid.{euclid_start, euclid_step, euclid_inverse, euclid_none}
use Rattle.std.proofs.Math.Nat.{mod-lt}
use Rattle.gj_check_groups.proofs.residue.inverse_of.Goals as goal

-- the rest of a division is at most what the divisor is
rest_high : (r n m : ℕ) → 0 < n → n ≤ m → r % n ≤ m
rest_high r n m some high = let low : r % n < n = mod-lt r some in omega arith

pub loop-next-init : goal.loop-next-init
loop-next-init c = record {
  euclid = euclid_start modulus c.args.x (lit< tt);
  high =
      omega arith;
  next_high = omega (arith, c.requires);
}

pub loop-next-preserved : goal.loop-next-preserved
loop-next-preserved c = record {
  euclid = euclid_step modulus c.args.x c.loop-next.remainder c.loop-next.next c.loop-next.factor
      c.loop-next.next_factor
      c.less_multiple-rest_factor.result c.loop-next.invariant.euclid
      (lit< tt) c.less_multiple-rest_factor.ensures.below
      c.less_multiple-rest_factor.ensures.value;
  high = c.loop-next.invariant.next_high;
  next_high = rest_high c.loop-next.remainder c.loop-next.next modulus
      (omega arith) c.loop-next.invariant.next_high;
}

pub returns-then-remainder-eq1 : goal.returns-then-remainder-eq1
returns-then-remainder-eq1 c =
    sym
    (euclid_inverse modulus c.args.x c.loop-next.next c.loop-next.factor c.loop-next.next_factor
    c.loop-next.remainder (lit< tt)
    c.loop-next.invariant.euclid (omega arith))

pub returns-else-remainder-eq1 : goal.returns-else-remainder-eq1
returns-else-remainder-eq1 c =
    sym
    (euclid_none modulus c.args.x c.loop-next.next c.loop-next.factor c.loop-next.next_factor
    c.loop-next.remainder (lit< tt)
    c.loop-next.invariant.euclid (omega arith) (omega arith))
