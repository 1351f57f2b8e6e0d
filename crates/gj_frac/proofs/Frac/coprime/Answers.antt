use Rattle.std.proofs.Common.{◌≡◌, ◌≢◌, zero, suc, negsuc, false, refl, ℤ, pos, unsigned_abs, ◌-ℤ◌, ◌<ℤ◌, arith}
use Rattle.std.proofs.lemmas.Int.{to_z-of_z, ints}
use Rattle.gj_frac.specs.Lowest.{IsLowest}
use Rattle.gj_frac.proofs.Reduced.{lowest_negated}
use Rattle.gj_frac.proofs.Frac.coprime.Goals as goal
use borrow.Author.Differences.{lt-false}
use lib.Signed.{lt_z}
use mir.Syntax.{w128}

-- what is neither above 0 nor 0 is above 0 with its sign turned
negated_positive : (n : ℤ) → unsigned_abs n ≢ 0 → lt_z (pos 0) n ≡ false → pos 0 <ℤ (pos 0 -ℤ n)
negated_positive (pos zero) h e = absurd (h refl)
negated_positive (pos (suc n)) h e = absurd (omega (arith, ints, lt-false (pos 0) (pos (suc n)) e))
negated_positive (negsuc n) h e = omega (arith, ints)

pub invariant_of-result : goal.invariant_of-result
invariant_of-result c =
    let num = to_z-of_z w128 c.args.num c.ranges.num in
    let den = to_z-of_z w128 c.args.den c.ranges.den in
    let positive : pos 0 <ℤ c.args.den = omega (arith, ints) in
    let lowest : IsLowest c.args.num c.args.den = record {
      positive = positive;
      num_fits = c.requires.num_fits;
      den_fits = c.requires.den_fits;
      coprime = c.requires.coprime;
    } in
    simp (num, den) (record { lowest = lowest })

pub invariant_of-result-2 : goal.invariant_of-result-2
invariant_of-result-2 c =
    let num = to_z-of_z w128 c.args.num c.ranges.num in
    let den = to_z-of_z w128 c.args.den c.ranges.den in
    let num' = to_z-of_z w128 (pos 0 -ℤ c.args.num) (omega (arith, ints, c.requires.num_fits)) in
    let den' = to_z-of_z w128 (pos 0 -ℤ c.args.den) (omega (arith, ints, c.requires.den_fits)) in
    let zero = c.requires.zero in
    let positive : pos 0 <ℤ (pos 0 -ℤ c.args.den) =
    negated_positive c.args.den zero (simp den at c.if-den-gt0.false) in
    let lowest = lowest_negated c.args.num c.args.den positive c.requires.num_fits
    c.requires.den_fits c.requires.coprime in
    simp (num, den, num', den') (record { lowest = lowest })
