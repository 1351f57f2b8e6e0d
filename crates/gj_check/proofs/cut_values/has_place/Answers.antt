use Rattle.std.proofs.Common.{◌∙◌, ◌↔◌, IsTrue, pos, subst₂}
use Rattle.gj_frac.specs.Fraction.{IsRatio}
use Rattle.gj_check_minimal.proofs.TestsInTurn.{in_other_words}
use Rattle.gj_check.proofs.FractionalParts.{part_is_fraction}
use Rattle.gj_check.proofs.cut_values.has_place.Goals as goal

pub returns : goal.returns
returns c =
    let f = c.args.shape.now in
    let place = c.into.ensures ∙ c.place.ensures.value in
    let order = c.into-2.ensures ∙ c.order.ensures.value in
    in_other_words _ _ _
    (subst₂ (λ k q. IsTrue c.is_ratio.result ↔ IsRatio c.fract.result (pos k) (pos q)) place order
    c.is_ratio.ensures)
    (part_is_fraction c.args.x c.fract.result (pos f.place) (pos f.order) c.fract.ensures.value)
