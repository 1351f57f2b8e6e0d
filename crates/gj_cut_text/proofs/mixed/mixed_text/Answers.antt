use Rattle.std.proofs.Common.{codes, flat_map, true}
use Rattle.gj_cut.proofs.RowTerms.{zip_weaker}
use Rattle.gj_function_lines.specs.FunctionLines.{line}
use Rattle.gj_cut_text.specs.MixedLines.{IsMadeLine, IsMixedLineFor, mixed_row_text}
use Rattle.gj_cut_text.proofs.MixedRowLines.{made_hold, makes_mixed, text_written}
use Rattle.gj_cut_text.proofs.mixed.mixed_text.Goals as goal

pub push_row_lines-requires-clause-makes : goal.push_row_lines-requires-clause-makes
push_row_lines-requires-clause-makes c = makes_mixed c.args.rule.now c.requires.makes

pub returns : goal.returns
returns c =
    let columns = c.args.tableau.now.columns in
    let rows = c.args.tableau.now.rows in
    let made = c.in_ok-push_row_lines.ensures in
    let pushed = c.in_ok-push_rule_lines.ensures in
    record {
      lines = made.lines;
      lines_are = zip_weaker (IsMadeLine true c.args.rule.now columns)
          (IsMixedLineFor c.args.rule.now columns) rows made.lines
          (λ row m h. record { cut = h.cut; is_cut = h.is_made.0; names = h.names }) made.are_made;
      hold = made_hold c.args.rule.now columns rows made.lines made.are_made;
      subject = pushed.0;
      subject_is = pushed.1;
      spelled = text_written (line (codes "gj-mixed 1")) pushed.0
          (flat_map mixed_row_text made.lines) (line (codes "end")) _ _ _ _
          c.in_ok-text.ensures.items pushed.2 made.appended c.in_ok-extend_from_slice.ensures.items;
    }
