use Rattle.std.proofs.Common.{Bool, List, length, sym, subst, subst₂, ◌∙◌}
use Rattle.gj_frac.specs.declared.Frac.{Frac}
use Rattle.gj_cut.proofs.RowTerms.{cut_of_kind}
use Rattle.gj_cut.specs.RowCuts.{IsCutOfKind}
use Rattle.gj_rule.specs.Kind.{IsMinimalKind}
use Rattle.gj_rule.specs.declared.kind.RuleKind.{RuleKind}
use Rattle.gj_mixed.specs.MixedCuts.{IsMixedCutOfKind}
use Rattle.gj_mixed.specs.Slopes.{AreSlopesAtZero, AreSlopesOfKind}
use Rattle.gj_mixed.proofs.MixedTerms.{mixed_cut_of_kind}
use Rattle.gj_proof.specs.declared.cut.CutRule.TheVariants.{Table}
use Rattle.gj_cut_text.specs.MixedLines.{AreInColumns, IsMadeCut}
use Rattle.gj_cut_text.proofs.MixedRowLines.{columns_flagged, cut_has_columns, cut_in_columns, mixed_made, one_row_more, row_within, whole_made}
use Rattle.gj_cut_text.proofs.lines.push_lines_by.Goals as goal
use Rattle.gj_cut_text.proofs.lines.push_lines_by.Goals.{then-mixed+in_ok-cut, else-mixed+in_ok-whole}

pub cut_mixed-requires-clause-limits : goal.cut_mixed-requires-clause-limits
cut_mixed-requires-clause-limits g c =
    (row_within (length c.args.columns.now) c.args.rows.now c.loop-row.row-index c.row-item.result
    c.loop-row-test.true c.row-item.is c.requires.rows).numbers

pub cut_mixed-requires-clause-columns : goal.cut_mixed-requires-clause-columns
cut_mixed-requires-clause-columns g c =
    columns_flagged c.args.columns.now c.args.continuous.now c.row-item.result
    (c.requires.flags c.if-mixed.true)
    (row_within (length c.args.columns.now) c.args.rows.now c.loop-row.row-index c.row-item.result
    c.loop-row-test.true c.row-item.is c.requires.rows)

pub cut_mixed-requires-clause-slopes : goal.cut_mixed-requires-clause-slopes
cut_mixed-requires-clause-slopes g c =
    let up = c.new-slopes.result.up in
    let down = c.new-slopes.result.down in
    subst (λ (k : RuleKind). AreSlopesOfKind k up down) (sym c.new-rule.ensures.kind) (
      c.requires.jumps_not c.if-mixed.true,
      subst₂ (λ (u d : Frac). AreSlopesAtZero c.args.shape u d) (sym c.new-slopes.ensures.up)
          (sym c.new-slopes.ensures.down) c.requires.slopes,
    )

pub cut_row-requires : goal.cut_row-requires
cut_row-requires g c =
    (row_within (length c.args.columns.now) c.args.rows.now c.loop-row.row-index c.row-item.result
    c.loop-row-test.true c.row-item.is c.requires.rows).numbers

pub push_cut-requires : goal.push_cut-requires
push_cut-requires g c =
    let n = length c.args.columns.now in
    let row = c.row-item.result in
    let answers = g.E.Evaluator.answers in
    let rule = c.new-rule.result in
    let slopes = c.new-slopes.result in
    let flags = c.args.continuous.now in
    let limits = row_within n c.args.rows.now c.loop-row.row-index row c.loop-row-test.true
    c.row-item.is c.requires.rows in
    elim c.if-mixed.branch [
      | then-mixed+in_ok-cut w ↦ subst (AreInColumns n) (sym w.cut-is)
          (cut_in_columns rule.kind slopes.up slopes.down flags n row w.in_ok-cut.cut limits
          (mixed_cut_of_kind answers g.G.Evaluator.answers rule slopes flags row w.in_ok-cut.cut
          w.in_ok-cut.ensures.cut))
      | else-mixed+in_ok-whole w ↦ subst (AreInColumns n) (sym (w.cut-is ∙ w.of_whole-cut.ensures))
          (cut_has_columns rule.kind n row w.in_ok-whole.whole limits
          (cut_of_kind answers rule row w.in_ok-whole.whole w.in_ok-whole.ensures.cut))
    ]

pub loop-row-preserved : goal.loop-row-preserved
loop-row-preserved g c =
    let columns = c.args.columns.now in
    let shape = c.args.shape in
    let row = c.row-item.result in
    let (m, names, pushed) = c.in_ok-push_cut.ensures in
    let answers = g.E.Evaluator.answers in
    let weighs = g.G.Evaluator.answers in
    let rule = c.new-rule.result in
    let slopes = c.new-slopes.result in
    let made : IsMadeCut c.args.mixed (Table shape) columns row c.if-mixed.cut =
    elim c.if-mixed.branch [
      | then-mixed+in_ok-cut w ↦
          let cut = w.in_ok-cut.cut in
          let flags = c.args.continuous.now in
          mixed_made c.args.mixed (Table shape) columns row c.if-mixed.cut cut w.if-mixed.true
          w.cut-is (
            slopes.up,
            slopes.down,
            subst₂ (λ (u d : Frac). AreSlopesAtZero shape u d) (sym c.new-slopes.ensures.up)
                (sym c.new-slopes.ensures.down) c.requires.slopes,
            subst₂ (λ (k : RuleKind) (f : List Bool). IsMixedCutOfKind k slopes.up slopes.down f row
                cut) c.new-rule.ensures.kind (c.requires.flags w.if-mixed.true)
                (mixed_cut_of_kind answers weighs rule slopes flags row cut
                w.in_ok-cut.ensures.cut),
          )
          (w.in_ok-cut.ensures.holds
          (subst IsMinimalKind (sym c.new-rule.ensures.kind) c.requires.minimal))
      | else-mixed+in_ok-whole w ↦ whole_made c.args.mixed (Table shape) columns row
          c.if-mixed.cut w.of_whole-cut.result w.in_ok-whole.whole w.if-mixed.false w.cut-is
          w.of_whole-cut.ensures
          (subst (λ (k : RuleKind). IsCutOfKind k row w.in_ok-whole.whole) c.new-rule.ensures.kind
          (cut_of_kind answers rule row w.in_ok-whole.whole w.in_ok-whole.ensures.cut))
    ] in
    one_row_more c.args.mixed (Table shape) columns c.args.rows.now c.loop-row.row-index row _ _ _ m
    c.loop-row-test.true c.row-item.is c.loop-row.invariant
    (record { cut = c.if-mixed.cut; is_made = made; names = names }) pushed
