use Rattle.std.proofs.Common.{sym, ◌∙◌}
use Rattle.gj_shape.specs.declared.points.Point.{Point}
use Rattle.gj_function_lines.proofs.PrintedPoints.{jump_printed}
use Rattle.gj_function_lines.proofs.printed.printed_jump.Goals as goal

pub returns : goal.returns
returns c =
    let p : Point = record {
      left = c.args.left;
      value = c.in_ok-value.value;
      right =
          c.in_ok-right.right;
    } in
    jump_printed p _ _ _ _ _ _ (sym c.has_no_jump.ensures ∙ c.if-has_no_jump.false)
    c.in_ok-behind_byte.ensures.found c.in_ok-value.ensures.found
    c.in_ok-behind_byte-2.ensures.found c.in_ok-right.ensures.found c.in_ok-rest.ensures.found
