use Rattle.std.proofs.Common.{rules, ◌≡◌, ◌*ℤ◌, ◌<ℤ◌, ap, ◌∙◌, arith}
use Rattle.std.proofs.lemmas.Int.{to_z-of_z, ints}
use Rattle.std.specs.Int.{int_rem_euclid}
use Rattle.gj_frac.specs.Lowest.{IsLowest}
use Rattle.gj_frac.proofs.Floors.{rest_lowest, rest_from_floor}
use Rattle.gj_frac.proofs.Reduced.{read_part}
use Rattle.gj_frac.proofs.Frac.fract.Goals as goal
use mir.Syntax.{w128}

pub invariant_of-result : goal.invariant_of-result
invariant_of-result c =
    let num = read_part c.args.self.num c.args.self.lowest.num_fits in
    let den = read_part c.args.self.den c.args.self.lowest.den_fits in
    let rest = to_z-of_z w128 c.floor_rest.result (search rules) in
    let is : c.floor_rest.result ≡ int_rem_euclid c.args.self.num c.args.self.den =
    simp (num, den) at c.floor_rest.ensures.value in
    let below : c.floor_rest.result <ℤ c.args.self.den = simp den at c.floor_rest.ensures.below in
    let above = c.floor_rest.ensures.not_negative in
    let lowest : IsLowest c.floor_rest.result c.args.self.den =
    rest_lowest c.args.self.num c.args.self.den c.floor_rest.result c.args.self.lowest is above
    (omega (arith, ints)) in
    simp (rest, den) (record { lowest = lowest })

pub returns-clause-value : goal.returns-clause-value
returns-clause-value c n h =
    let num = read_part c.args.self.num c.args.self.lowest.num_fits in
    let den = read_part c.args.self.den c.args.self.lowest.den_fits in
    let rest = to_z-of_z w128 c.floor_rest.result (search rules) in
    let is : c.floor_rest.result ≡ int_rem_euclid c.args.self.num c.args.self.den =
    simp (num, den) at c.floor_rest.ensures.value in
    simp (rest, den) (ap (λ z. z *ℤ c.args.self.den) (is ∙ rest_from_floor c.args.self n h))
