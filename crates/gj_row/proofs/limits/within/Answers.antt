use Rattle.std.proofs.Common.{refl, sym, subst, arith, rules}
use Rattle.std.proofs.lemmas.Nat.Gcd.{le_of_dvd, dvd_refl, dvd_of_mod-eq-zero}
use Rattle.std.specs.Int.{◌∣◌}
use Rattle.gj_lemmas.specs.Divisors.{IsLcm}
use Rattle.gj_row.proofs.limits.within.Goals as goal

pub returns-then-not-is_small-clause-refused : goal.returns-then-not-is_small-clause-refused
returns-then-not-is_small-clause-refused c =
    (c.in-Some.x, c.in-Some.is, λ small. search (rules, c.if-not-is_small.ensures.1 small))

pub returns-in_default-small_denominator-clause-refused :
    goal.returns-in_default-small_denominator-clause-refused
returns-in_default-small_denominator-clause-refused c = (
  c.in-Some.x,
  c.in-Some.is,
  c.if-not-is_small.ensures.0 refl,
  λ m low high a b. let less = le_of_dvd low b in
      c.in_default-small_denominator.ensures (omega arith),
)

pub returns-then-multiple-from-clause-refused : goal.returns-then-multiple-from-clause-refused
returns-then-multiple-from-clause-refused c = (
  c.in-Some.x,
  c.in-Some.is,
  c.if-not-is_small.ensures.0 refl,
  λ m low high a b.
      let lcm = c.lcm-multiple.ensures in
      let den : c.in-Some-small_denominator.den ∣ m =
      subst (λ n. n ∣ m) (sym c.in-Some-small_denominator.ensures.1) b in
      let less = le_of_dvd low (lcm.2 m a den) in
      omega (arith, c.if-multiple-from.true),
)

pub returns-clause-least : goal.returns-clause-least
returns-clause-least c = record {
  small = c.if-not-is_small.ensures.0 refl;
  least = subst (λ n. IsLcm c.args.scale n c.lcm-multiple.result)
      c.in-Some-small_denominator.ensures.1
      c.lcm-multiple.ensures;
  high = omega (arith, c.if-multiple-from.false);
}

pub returns-then-scale-den-eq0-clause-least : goal.returns-then-scale-den-eq0-clause-least
returns-then-scale-den-eq0-clause-least c = record {
  small = c.if-not-is_small.ensures.0 refl;
  least = subst (λ n. IsLcm c.args.scale n c.args.scale) c.in-Some-small_denominator.ensures.1 (
    dvd_refl c.args.scale,
    dvd_of_mod-eq-zero c.in-Some-small_denominator.den
        c.if-scale-den-eq0.true,
    λ m p q. p,
  );
  high = c.requires.high;
}
