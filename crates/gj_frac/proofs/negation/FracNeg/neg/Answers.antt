use Rattle.std.proofs.Common.{ℤ, pos, ◌-ℤ◌, sym, refl, arith}
use Rattle.std.proofs.lemmas.Int.{to_z-of_z, ints}
use Rattle.gj_frac.specs.Lowest.{IsLowest}
use Rattle.gj_frac.proofs.Reduced.{read_part, gcd_along, unsigned_abs-negated}
use Rattle.gj_frac.proofs.negation.FracNeg.neg.Goals as goal
use mir.Syntax.{w128}

-- with the sign of the numerator turned the parts stay in lowest terms
lowest_turned : (num den : ℤ) → IsLowest num den → IsLowest (pos 0 -ℤ num) den
lowest_turned num den h =
    let same = unsigned_abs-negated num in
    record {
      positive = h.positive;
      num_fits = rw same h.num_fits;
      den_fits = h.den_fits;
      coprime = gcd_along _ _ _ _ _ _ (sym same) refl refl h.coprime;
    }

pub invariant_of-result : goal.invariant_of-result
invariant_of-result c =
    let num = read_part c.args.self.num c.args.self.lowest.num_fits in
    let den = read_part c.args.self.den c.args.self.lowest.den_fits in
    let fits = c.args.self.lowest.num_fits in
    let turned = to_z-of_z w128 (pos 0 -ℤ c.args.self.num) (omega (arith, ints)) in
    simp (num, den, turned)
    (record { lowest = lowest_turned c.args.self.num c.args.self.den c.args.self.lowest })
