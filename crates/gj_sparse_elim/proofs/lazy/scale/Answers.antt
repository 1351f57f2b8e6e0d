use Rattle.std.proofs.Common.{rules, ◌<◌, ◌^◌, ◌*ℤ◌, ℤ, pos, get_or, to_z, of_z, unsigned_abs, sym, ap, subst, ◌∙◌, arith}
use Rattle.std.proofs.lemmas.Int.{to_z-of_z}
use mir.Syntax.{w64}
use Rattle.gj_elim.proofs.LazyRows.{code_factor}
use Rattle.gj_sparse_elim.proofs.ColumnSets.{next_column}
use Rattle.gj_sparse_elim.proofs.SparseSteps.{scaled_start, scaled_more, scaled_end}
use Rattle.gj_sparse_elim.proofs.lazy.scale.Goals as goal

pub loop-column-init : goal.loop-column-init
loop-column-init c = scaled_start _ c.args.row.now

pub overflow_mul-row : goal.overflow_mul-row
overflow_mul-row c =
    let next = next_column c.args.touched.now c.args.row.now c.loop-column.next c.in-Some.column
    c.requires.support c.in-Some.ensures in
    code_factor c.args.factor (get_or c.loop-column.row c.in-Some.column (pos 0)) (search rules)
    (search rules)
    (subst (λ (x : ℤ). unsigned_abs (c.args.factor *ℤ x) < 2 ^ 62)
    (sym (c.loop-column.invariant.later c.in-Some.column next.behind))
    (c.requires.small c.in-Some.column))

pub loop-column-smaller : goal.loop-column-smaller
loop-column-smaller c =
    let next = next_column c.args.touched.now c.args.row.now c.loop-column.next c.in-Some.column
    c.requires.support c.in-Some.ensures in
    let behind = next.behind in
    let inside = next.inside in
    omega arith

pub loop-column-preserved : goal.loop-column-preserved
loop-column-preserved c =
    let next = next_column c.args.touched.now c.args.row.now c.loop-column.next c.in-Some.column
    c.requires.support c.in-Some.ensures in
    let fits = code_factor c.args.factor (get_or c.loop-column.row c.in-Some.column (pos 0))
    (search rules) (search rules)
    (subst (λ (x : ℤ). unsigned_abs (c.args.factor *ℤ x) < 2 ^ 62)
    (sym (c.loop-column.invariant.later c.in-Some.column next.behind))
    (c.requires.small c.in-Some.column)) in
    let read = to_z-of_z w64 (get_or c.loop-column.row c.in-Some.column (pos 0)) (search rules) in
    scaled_more _ c.args.row.now c.loop-column.row c.loop-column.next c.in-Some.column _
    c.loop-column.invariant next c.loop-column.auto.row
    (to_z-of_z w64 _ fits ∙ ap (λ x. to_z w64 (of_z w64 c.args.factor) *ℤ x) read)

pub returns : goal.returns
returns c =
    scaled_end c.args.factor c.args.row.now c.loop-column.row c.loop-column.next
    (simp (to_z-of_z w64 c.args.factor c.ranges.factor) at c.loop-column.invariant)
    c.loop-column.auto.row
    (λ k high. c.requires.support.zero k (c.in_default.ensures k high))
