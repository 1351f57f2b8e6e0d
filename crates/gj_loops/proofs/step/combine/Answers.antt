use Rattle.std.proofs.Common.{rules, pos, get_or, ◌∙◌, arith}
use Rattle.std.proofs.lemmas.Int.{to_z-of_z}
use mir.Syntax.{w128}
use Rattle.gj_frac.proofs.Refusals.{on_err}
use Rattle.gj_theory.proofs.CombinedRows.{combined_start, combined_more, combined_value, combined_narrow, combined_wide}
use Rattle.gj_loops.proofs.step.combine.Goals as goal

pub loop-i-init : goal.loop-i-init
loop-i-init c = combined_start _ _ _ _

pub loop-i-preserved : goal.loop-i-preserved
loop-i-preserved c =
    let x = to_z-of_z w128 (get_or c.loop-i.row c.loop-i.i (pos 0)) (search rules) in
    let e = to_z-of_z w128 (get_or c.args.kept.now c.loop-i.i (pos 0)) (search rules) in
    let value = simp (x, e) at c.in_ok-row.ensures.value in
    let fits = simp (x, e) at c.in_ok-row.ensures.fits in
    combined_more _ _ _ _ c.loop-i.row c.loop-i.i _ c.loop-i.invariant (omega arith)
    (to_z-of_z w128 c.in_ok-row.field-0 (search rules) ∙ value) fits

pub returns-in_err-row-clause-wide : goal.returns-in_err-row-clause-wide
returns-in_err-row-clause-wide c =
    let u = to_z-of_z w128 c.args.u c.ranges.u in
    let w = to_z-of_z w128 c.args.w c.ranges.w in
    let x = to_z-of_z w128 (get_or c.loop-i.row c.loop-i.i (pos 0)) (search rules) in
    let e = to_z-of_z w128 (get_or c.args.kept.now c.loop-i.i (pos 0)) (search rules) in
    on_err _ _
    (combined_wide c.args.u c.args.w c.args.row.now c.args.kept.now c.loop-i.row c.loop-i.i
    (simp (u, w) at c.loop-i.invariant) c.requires
    c.loop-i.auto.row (omega arith) (simp (u, x, w, e) at c.in_err-row.ensures.wide))

pub returns-clause-value : goal.returns-clause-value
returns-clause-value c =
    let u = to_z-of_z w128 c.args.u c.ranges.u in
    let w = to_z-of_z w128 c.args.w c.ranges.w in
    combined_value c.args.u c.args.w c.args.row.now c.args.kept.now c.loop-i.row c.loop-i.i
    (simp (u, w) at c.loop-i.invariant) c.requires
    c.loop-i.auto.row (omega arith)

pub returns-clause-fits : goal.returns-clause-fits
returns-clause-fits c =
    let u = to_z-of_z w128 c.args.u c.ranges.u in
    let w = to_z-of_z w128 c.args.w c.ranges.w in
    combined_narrow c.args.u c.args.w c.args.row.now c.args.kept.now c.loop-i.row c.loop-i.i
    (simp (u, w) at c.loop-i.invariant) c.requires
    c.loop-i.auto.row (omega arith)
