use Rattle.std.proofs.Common.{◌≡◌, ◌-◌, ◌+ℤ◌, ◌*ℤ◌, ◌*◌, pos, [], ◌∷◌, w64, to_z, of_z, sym, subst, subst₂, ◌∙◌, rules}
use Rattle.std.proofs.lemmas.Int.{to_z-of_z}
use Rattle.std.proofs.lemmas.List.Elements.{All-head, All-tail}
use Rattle.gj_frac.specs.Fraction.{IsRatio}
use Rattle.gj_shape.specs.Given.{IsSmall, numerator_over}
use Rattle.gj_shape.proofs.BreakLines.{IsScaleOf, line_over_scale}
use Rattle.gj_shape.proofs.BreakPieces.{line_more, no_line_yet, IsLineSoFar}
use Rattle.gj_shape.proofs.pieces.push_line.Goals as goal

pub numerator_over-end-requires-clause-small : goal.numerator_over-end-requires-clause-small
numerator_over-end-requires-clause-small c =
    All-head IsSmall c.args.w [] (All-tail IsSmall c.args.u (c.args.w ∷ []) c.requires.within.small)

pub loop-i-init : goal.loop-i-init
loop-i-init c = no_line_yet _ _ _ _

pub loop-i-preserved : goal.loop-i-preserved
loop-i-preserved c =
    let u = c.args.u in
    let w = c.args.w in
    let n = c.args.steps in
    let i = c.loop-i.i in
    let s = c.scale_of-scale.result in
    let e = c.scale_of-scale.ensures in
    let scale : IsScaleOf u w s =
    record { low = e.low; high = e.high; first = e.first; second = e.second } in
    let start : to_z w64 (of_z w64 c.numerator_over-start.result) ≡ numerator_over s u =
    to_z-of_z w64 c.numerator_over-start.result (search rules) ∙ c.numerator_over-start.ensures in
    let end : to_z w64 (of_z w64 c.numerator_over-end.result) ≡ numerator_over s w =
    to_z-of_z w64 c.numerator_over-end.result (search rules) ∙ c.numerator_over-end.ensures in
    let over : IsRatio c.on_line-x.result
    (pos (n - i) *ℤ numerator_over s u +ℤ pos i *ℤ numerator_over s w) (pos (s * n)) =
    subst₂ (λ y z. IsRatio c.on_line-x.result (pos (n - i) *ℤ y +ℤ pos i *ℤ z) (pos (s * n))) start
    end c.on_line-x.ensures in
    let on = line_over_scale u w c.on_line-x.result s n i scale c.requires.some over in
    subst (IsLineSoFar _ u w n _) (sym c.in_ok-push.ensures.items)
    (line_more _ u w n i _ c.on_line-x.result c.loop-i.invariant on)
