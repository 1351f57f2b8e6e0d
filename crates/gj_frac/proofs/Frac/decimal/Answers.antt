use Rattle.std.proofs.Common.{◌≡◌, ◌<◌, ◌^◌, pos, unsigned_abs, subst, ◌∙◌, ap, ap₂, to_z, of_z, arith}
use Rattle.std.proofs.Math.Nat.{one-le-pow}
use Rattle.std.proofs.lemmas.Int.{to_z-of_z, ints}
use Rattle.gj_frac.specs.Fraction.{IsRatio, with_sign}
use Rattle.gj_frac.proofs.TenPowers.{ten_small, read_ten, sign_and_size}
use Rattle.gj_frac.proofs.Frac.decimal.Goals as goal
use lib.Signed.{lt_z}
use mir.Syntax.{w128}

pub overflow_cast-power_of_ten : goal.overflow_cast-power_of_ten
overflow_cast-power_of_ten c =
    let small = ten_small c.args.places c.requires.places in
    omega (arith, ints, c.power_of_ten.ensures)

pub reduced-requires-clause-zero : goal.reduced-requires-clause-zero
reduced-requires-clause-zero c =
    let power = read_ten c.power_of_ten.result c.args.places c.power_of_ten.ensures
    c.requires.places in
    let some : 0 < 10 ^ c.args.places = one-le-pow c.args.places 10 (omega arith) in
    simp power (λ none. omega arith)

pub reduced-requires-clause-den_fits : goal.reduced-requires-clause-den_fits
reduced-requires-clause-den_fits c =
    let power = read_ten c.power_of_ten.result c.args.places c.power_of_ten.ensures
    c.requires.places in
    simp power (ten_small c.args.places c.requires.places)

pub returns-then-size : goal.returns-then-size
returns-then-size c =
    let power = read_ten c.power_of_ten.result c.args.places c.power_of_ten.ensures
    c.requires.places in
    let num = to_z-of_z w128 c.args.num c.ranges.num in
    simp (num, power) at c.reduced.ensures

pub returns : goal.returns
returns c =
    let num = to_z-of_z w128 c.args.num c.ranges.num in
    let size : c.unsigned_abs-size.result ≡ unsigned_abs c.args.num =
    c.unsigned_abs-size.ensures.value ∙ ap unsigned_abs num in
    let value : with_sign (lt_z (to_z w128 (of_z w128 c.args.num)) (pos 0))
    c.unsigned_abs-size.result ≡ c.args.num =
    ap₂ (λ z n. with_sign (lt_z z (pos 0)) n) num size ∙ sign_and_size c.args.num in
    subst (λ z. IsRatio c.short_decimal.result z (pos (10 ^ c.args.places))) value
    c.short_decimal.ensures
