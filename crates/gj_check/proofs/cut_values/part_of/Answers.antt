use Rattle.std.proofs.Common.{◌≡◌, ◌<◌, pos, unsigned_abs, rules, to_z, of_z, subst, sym, ap, ◌∙◌, arith}
use Rattle.std.specs.Int.{int_rem_euclid}
use Rattle.std.proofs.lemmas.Int.{ints, to_z-of_z}
use Rattle.gj_frac.proofs.Floors.{rest_from_floor}
use Rattle.gj_frac.proofs.Reduced.{read_part}
use Rattle.gj_check.proofs.cut_values.part_of.Goals as goal
use mir.Syntax.{w64}

pub returns-clause-value : goal.returns-clause-value
returns-clause-value c w floor =
    let x = c.args.x in
    let positive = x.lowest.positive in
    let small = c.requires.small in
    let fine = c.requires.fine in
    let wide_num = read_part x.num x.lowest.num_fits in
    let wide_den = read_part x.den x.lowest.den_fits in
    let num : to_z w64 (of_z w64 x.num) ≡ x.num = to_z-of_z w64 x.num (omega (arith, ints)) in
    let den : to_z w64 (of_z w64 x.den) ≡ x.den = to_z-of_z w64 x.den (omega (arith, ints)) in
    let rest = to_z-of_z w64 c.rem_euclid.result (search rules) in
    let value : c.rem_euclid.result ≡ int_rem_euclid x.num x.den =
    simp (c.num.ensures, c.den.ensures, wide_num, wide_den, num, den) at
    c.rem_euclid.ensures.value in
    let above = c.rem_euclid.ensures.lower_bound in
    let natural : pos (unsigned_abs c.rem_euclid.result) ≡ c.rem_euclid.result =
    omega (arith, ints) in
    ap (λ z. pos (unsigned_abs z)) rest ∙ natural ∙ value ∙ rest_from_floor x w floor

pub returns-clause-below : goal.returns-clause-below
returns-clause-below c =
    let x = c.args.x in
    let positive = x.lowest.positive in
    let fine = c.requires.fine in
    let wide_den = read_part x.den x.lowest.den_fits in
    let den : to_z w64 (of_z w64 x.den) ≡ x.den = to_z-of_z w64 x.den (omega (arith, ints)) in
    let rest = to_z-of_z w64 c.rem_euclid.result (search rules) in
    let below : unsigned_abs c.rem_euclid.result < unsigned_abs x.den =
    simp (c.den.ensures, wide_den, den) at
    c.rem_euclid.ensures.upper_bound in
    subst (λ z. unsigned_abs z < unsigned_abs x.den) (sym rest) below
