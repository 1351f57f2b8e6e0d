use Rattle.std.proofs.Common.{◌+◌, refl, ap₂, ◌∙◌, sym, subst₂, min, max}
use Rattle.gj_perturb.specs.Lanes.{AreLeast, IsInRow}
use Rattle.gj_perturb.proofs.LaneSlacks.{one_triangle, one_square_more}
use Rattle.gj_perturb.proofs.lanes.least_in_row.Goals as goal

pub loop-j-preserved : goal.loop-j-preserved
loop-j-preserved c =
    let lanes = c.args.lanes.now in
    let n = c.args.n in
    let i = c.args.i in
    let j = c.loop-j.j in
    let here = one_triangle lanes n i j c.min-least.result c.max-greatest.result
    c.where_greatest_is_none.result c.requires.lanes
    c.requires.below c.loop-j-test.true
    (record {
      least_is = c.min-least.ensures ∙ ap₂ min c.min.ensures refl;
      greatest_is = c.max-greatest.ensures ∙ ap₂ max c.max.ensures refl;
      none = c.where_greatest_is_none.ensures.none;
      some = c.where_greatest_is_none.ensures.some;
    }) in
    subst₂ (AreLeast lanes n (IsInRow i (j + 1))) (sym c.min-any.ensures)
    (sym c.min-beside_zero.ensures)
    (one_square_more lanes n i j _ _ _ _ c.loop-j.invariant here)
