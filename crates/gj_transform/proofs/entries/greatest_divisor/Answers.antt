use Rattle.std.proofs.Common.{◌≡◌, ◌≤◌, inl, get_or, pos, unsigned_abs, to_z, of_z, ap, subst₂, ◌∙◌, rules, arith}
use Rattle.std.specs.Int.{IsGcd}
use Rattle.std.proofs.lemmas.Int.{to_z-of_z}
use Rattle.std.proofs.lemmas.Nat.Gcd.{le_of_dvd}
use Rattle.gj_lemmas.proofs.Divisors.{gcd_positive}
use Rattle.gj_transform.proofs.GreatestDivisors.{divisor_next}
use Rattle.gj_transform.proofs.entries.greatest_divisor.Goals as goal
use mir.Syntax.{w64}

pub overflow_cast-divisor : goal.overflow_cast-divisor
overflow_cast-divisor c =
    let low : c.loop-n.divisor ≤ c.args.number =
    le_of_dvd c.requires c.loop-n.invariant.divisor.number_is in
    let at_most : c.gcd-divisor.result ≤ c.from.result =
    le_of_dvd (omega arith) c.gcd-divisor.ensures.0 in
    omega arith

pub loop-n-preserved : goal.loop-n-preserved
loop-n-preserved c =
    let xs = c.args.entries.now in
    let read : to_z w64 (of_z w64 (get_or xs c.loop-n.n-index (pos 0)))
    ≡ get_or xs c.loop-n.n-index (pos 0) = to_z-of_z w64 _ (search rules) in
    let entry : c.from-in-loop-n.result ≡ unsigned_abs (get_or xs c.loop-n.n-index (pos 0)) =
    c.from-in-loop-n.ensures ∙ c.unsigned_abs.ensures.value ∙ ap unsigned_abs read in
    let is : IsGcd c.loop-n.divisor (unsigned_abs (get_or xs c.loop-n.n-index (pos 0)))
    c.gcd-divisor.result =
    subst₂ (λ a b. IsGcd a b c.gcd-divisor.result) c.from.ensures entry c.gcd-divisor.ensures in
    record {
      divisor = divisor_next c.args.number xs c.loop-n.n-index c.loop-n.divisor c.gcd-divisor.result
          c.loop-n-test.true
          c.loop-n.invariant.divisor is;
      some = gcd_positive _ _ _ is (inl c.loop-n.invariant.some);
    }
