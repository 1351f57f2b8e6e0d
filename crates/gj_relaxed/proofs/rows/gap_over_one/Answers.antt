use Rattle.std.proofs.Common.{◌++◌, ℕ, List, pos, subst}
use Rattle.gj_problem.specs.declared.pieces.Piece.{Piece}
use Rattle.gj_problem.proofs.AddedSums.{whole_ratio}
use Rattle.gj_relaxed.specs.RelaxedRows.{IsWideRelaxedRow}
use Rattle.gj_relaxed.specs.Gaps.{AreRisesAdded, IsGapOfRow}
use Rattle.gj_relaxed.proofs.RowGaps.{difference_value}
use Rattle.gj_relaxed.proofs.GapSums.{gap_is, gap_fits}
use Rattle.gj_relaxed.proofs.rows.gap_over_one.Goals as goal

pub returns-clause-gap : goal.returns-clause-gap
returns-clause-gap c =
    let n = c.from-grid.result in
    let to = c.args.to in
    let row = c.args.row.now in
    let ps = row.slacks.items in
    let qs = row.bounds.items in
    let right' = c.in_ok-right.right in
    let fall = c.in_ok-fall.fall in
    let q = c.in_ok-inequality.inequality in
    let (cs, r, parts, none) = c.in_ok-sum.ensures in
    let (ds, t, fall_parts, added) = c.in_ok-add.ensures cs r parts in
    let (es, u, middle_parts, one) = c.in_ok-add_rises.ensures ds t fall_parts in
    let (vs, w, last_parts, two) = c.in_ok-add_rises-2.ensures es u middle_parts in
    let first : AreRisesAdded n ps ds t es u =
    subst (λ (xs : List Piece). AreRisesAdded n xs ds t es u) c.as_slice.ensures.value one in
    let second : AreRisesAdded n qs es u vs w =
    subst (λ (xs : List Piece). AreRisesAdded n xs es u vs w) c.as_slice-2.ensures.value two in
    subst (λ (k : ℕ). IsGapOfRow to k c.args.columns (ps ++ qs) row.right
    (record { inequality = q; right = right' })) c.from-grid.ensures
    (gap_is to n c.args.columns ps qs row.right right' fall c.ratio.result cs r ds t es u vs w none
    (difference_value right' row.right fall c.in_ok-fall.ensures.value)
    (whole_ratio c.ratio.result (pos 1) c.ratio.ensures) added first second q
    (c.in_ok-inequality.ensures vs w last_parts) c.in_ok-right.ensures.moved)

pub returns-clause-narrow : goal.returns-clause-narrow
returns-clause-narrow c =
    let n = c.from-grid.result in
    let to = c.args.to in
    let row = c.args.row.now in
    let ps = row.slacks.items in
    let qs = row.bounds.items in
    let right' = c.in_ok-right.right in
    let fall = c.in_ok-fall.fall in
    let (cs, r, parts, none) = c.in_ok-sum.ensures in
    let (ds, t, fall_parts, added) = c.in_ok-add.ensures cs r parts in
    let (es, u, middle_parts, one) = c.in_ok-add_rises.ensures ds t fall_parts in
    let (vs, w, last_parts, two) = c.in_ok-add_rises-2.ensures es u middle_parts in
    let first : AreRisesAdded n ps ds t es u =
    subst (λ (xs : List Piece). AreRisesAdded n xs ds t es u) c.as_slice.ensures.value one in
    let second : AreRisesAdded n qs es u vs w =
    subst (λ (xs : List Piece). AreRisesAdded n xs es u vs w) c.as_slice-2.ensures.value two in
    subst (λ (k : ℕ). IsWideRelaxedRow to k c.args.columns (ps ++ qs) row.right →
    ⊥) c.from-grid.ensures
    (gap_fits to n c.args.columns ps qs row.right right' fall c.ratio.result cs r ds t es u vs w
    none
    (difference_value right' row.right fall c.in_ok-fall.ensures.value)
    (whole_ratio c.ratio.result (pos 1) c.ratio.ensures) added first second
    c.in_ok-inequality.inequality (c.in_ok-inequality.ensures vs w last_parts)
    c.in_ok-right.ensures.moved c.in_ok-right.ensures.narrow
    c.in_ok-fall.ensures.fits)
