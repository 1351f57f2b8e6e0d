use Rattle.std.proofs.Common.{Bool, List, length, subst, sym, ◌∙◌}
use Rattle.gj_mixed.specs.MixedCuts.{IsGmicMixedCutOf}
use Rattle.gj_proof.specs.declared.cut.CutRule.TheVariants.{Gmic}
use Rattle.gj_cut_text.specs.MixedLines.{AreInColumns, IsMadeCut}
use Rattle.gj_cut_text.proofs.MixedRowLines.{columns_flagged, gmic_has_columns, gmic_in_columns, mixed_made, one_row_more, row_within, whole_made}
use Rattle.gj_cut_text.proofs.lines.push_gmic_lines.Goals as goal
use Rattle.gj_cut_text.proofs.lines.push_gmic_lines.Goals.{then-mixed+in_ok-cut, else-mixed+in_ok-whole}

pub gmic_cut_mixed-requires-clause-limits : goal.gmic_cut_mixed-requires-clause-limits
gmic_cut_mixed-requires-clause-limits c =
    (row_within (length c.args.columns.now) c.args.rows.now c.loop-row.row-index c.row-item.result
    c.loop-row-test.true c.row-item.is c.requires.rows).numbers

pub gmic_cut_mixed-requires-clause-columns : goal.gmic_cut_mixed-requires-clause-columns
gmic_cut_mixed-requires-clause-columns c =
    columns_flagged c.args.columns.now c.args.continuous.now c.row-item.result
    (c.requires.flags c.if-mixed.true)
    (row_within (length c.args.columns.now) c.args.rows.now c.loop-row.row-index c.row-item.result
    c.loop-row-test.true c.row-item.is c.requires.rows)

pub gmic_cut_row-requires : goal.gmic_cut_row-requires
gmic_cut_row-requires c =
    (row_within (length c.args.columns.now) c.args.rows.now c.loop-row.row-index c.row-item.result
    c.loop-row-test.true c.row-item.is c.requires.rows).numbers

pub push_cut-requires : goal.push_cut-requires
push_cut-requires c =
    let n = length c.args.columns.now in
    let row = c.row-item.result in
    let limits = row_within n c.args.rows.now c.loop-row.row-index row c.loop-row-test.true
    c.row-item.is c.requires.rows in
    elim c.if-mixed.branch [
      | then-mixed+in_ok-cut w ↦ subst (AreInColumns n) (sym w.cut-is)
          (gmic_in_columns c.args.continuous.now n row w.in_ok-cut.cut limits
          w.in_ok-cut.ensures.cut)
      | else-mixed+in_ok-whole w ↦ subst (AreInColumns n) (sym (w.cut-is ∙ w.of_whole-cut.ensures))
          (gmic_has_columns n row w.in_ok-whole.whole limits w.in_ok-whole.ensures.cut)
    ]

pub loop-row-preserved : goal.loop-row-preserved
loop-row-preserved c =
    let columns = c.args.columns.now in
    let row = c.row-item.result in
    let (m, names, pushed) = c.in_ok-push_cut.ensures in
    let made : IsMadeCut c.args.mixed Gmic columns row c.if-mixed.cut =
    elim c.if-mixed.branch [
      | then-mixed+in_ok-cut w ↦ mixed_made c.args.mixed Gmic columns row c.if-mixed.cut
          w.in_ok-cut.cut w.if-mixed.true w.cut-is
          (subst (λ (f : List Bool). IsGmicMixedCutOf f row w.in_ok-cut.cut)
          (c.requires.flags w.if-mixed.true) w.in_ok-cut.ensures.cut)
          w.in_ok-cut.ensures.holds
      | else-mixed+in_ok-whole w ↦ whole_made c.args.mixed Gmic columns row c.if-mixed.cut
          w.of_whole-cut.result w.in_ok-whole.whole w.if-mixed.false w.cut-is
          w.of_whole-cut.ensures w.in_ok-whole.ensures.cut
    ] in
    one_row_more c.args.mixed Gmic columns c.args.rows.now c.loop-row.row-index row _ _ _ m
    c.loop-row-test.true c.row-item.is c.loop-row.invariant
    (record { cut = c.if-mixed.cut; is_made = made; names = names }) pushed
