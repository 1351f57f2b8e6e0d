use Rattle.std.proofs.Common.{List, map, sym, subst, arith}
use Rattle.gj_frac.specs.declared.Frac.{Frac}
use Rattle.gj_shape.specs.Breaks.{AreAscending}
use Rattle.gj_fill.specs.FillPoints.{AreFillPoints}
use Rattle.gj_fill.proofs.Ascending.{even_break, fill_points_ascend}
use Rattle.gj_fill.proofs.WholeFillIn.{fill_in_of}
use Rattle.gj_fill.proofs.fill_in.fill.Goals as goal

pub returns-clause-points : goal.returns-clause-points
returns-clause-points c =
    let s = c.greatest_steps-steps.result.rise in
    let t = c.greatest_steps-steps.result.fall in
    subst (AreFillPoints c.args.shape.now) (sym c.of.ensures) (record {
      rise = s;
      fall = t;
      greatest = c.greatest_steps-steps.ensures;
      are_points = c.in_ok-points.ensures;
    })

pub returns-clause-ascending : goal.returns-clause-ascending
returns-clause-ascending c =
    let low = c.f-f.ensures.limits.order_low in
    subst (λ (pairs : List (Frac × Frac)). AreAscending (map even_break pairs)) (sym c.of.ensures)
    (fill_points_ascend c.args.shape.now c.greatest_steps-steps.result.rise
    c.greatest_steps-steps.result.fall
    c.in_ok-points.points.items (omega arith) c.in_ok-points.ensures)

pub returns-clause-fill_in : goal.returns-clause-fill_in
returns-clause-fill_in c = λ s t greatest.
    let low = c.f-f.ensures.limits.order_low in
    fill_in_of c.args.shape.now s t (omega arith) c.in_default.ensures.none greatest
