use Rattle.std.proofs.Common.{refl, sym, subst, arith}
use Rattle.std.proofs.lemmas.Nat.Gcd.{le_of_dvd}
use Rattle.std.specs.Int.{◌∣◌}
use Rattle.gj_lemmas.specs.Divisors.{IsLcm}
use Rattle.gj_shape.proofs.denominators.extended.Goals as goal

pub returns-in_default-clause-fault : goal.returns-in_default-clause-fault
returns-in_default-clause-fault c = (
  c.if-not-is_small.ensures.0 refl,
  λ m low high a b. let less = le_of_dvd low b in
      c.in_default.ensures (omega arith),
)

pub returns-then-multiple-from-clause-fault : goal.returns-then-multiple-from-clause-fault
returns-then-multiple-from-clause-fault c = (
  c.if-not-is_small.ensures.0 refl,
  λ m low high a b.
      let lcm = c.lcm-multiple.ensures in
      let den : c.in-Some.den ∣ m = subst (λ n. n ∣ m) (sym c.in-Some.ensures.1) b in
      let less = le_of_dvd low (lcm.2 m a den) in
      omega (arith, c.if-multiple-from.true),
)

pub returns-clause-least : goal.returns-clause-least
returns-clause-least c = record {
  small = c.if-not-is_small.ensures.0 refl;
  least = subst (λ n. IsLcm c.args.scale n c.lcm-multiple.result) c.in-Some.ensures.1
      c.lcm-multiple.ensures;
  high = omega (arith, c.if-multiple-from.false);
}
