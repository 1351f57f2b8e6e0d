use Rattle.std.proofs.Common.{◌≡◌, pos, w64, to_z, of_z, unsigned_abs, sym, subst, ◌∙◌, rules, arith}
use Rattle.std.proofs.lemmas.Int.{ints, to_z-of_z}
use Rattle.gj_frac.specs.Fraction.{IsRatio}
use Rattle.gj_shape.proofs.BreakLines.{place_divides}
use Rattle.gj_shape.proofs.OverScale.{numerator_from_over}
use Rattle.gj_shape.proofs.pieces.place_of.Goals as goal

pub numerator_over-requires-clause-multiple : goal.numerator_over-requires-clause-multiple
numerator_over-requires-clause-multiple c = place_divides c.args.q c.args.x c.requires.place

pub overflow_cast-result : goal.overflow_cast-result
overflow_cast-result c =
    let (p, below, is) = c.requires.place in
    let place : to_z w64 (of_z w64 c.numerator_over.result) ≡ pos p =
    to_z-of_z w64 c.numerator_over.result (search rules) ∙ c.numerator_over.ensures
    ∙ sym (numerator_from_over c.args.q c.args.x (pos p) is) in
    omega (arith, ints)

pub returns : goal.returns
returns c =
    let (p, below, is) = c.requires.place in
    let place : to_z w64 (of_z w64 c.numerator_over.result) ≡ pos p =
    to_z-of_z w64 c.numerator_over.result (search rules) ∙ c.numerator_over.ensures
    ∙ sym (numerator_from_over c.args.q c.args.x (pos p) is) in
    subst (λ z. IsRatio c.args.x (pos (unsigned_abs z)) (pos c.args.q)) (sym place) is
