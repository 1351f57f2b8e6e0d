use Rattle.std.proofs.Common.{◌++◌, codes, ap, subst, ◌∙◌}
use Rattle.gj_function_lines.proofs.PointLines.{AreNumbersPushed, break_pushed}
use Rattle.gj_function_lines.proofs.print.push_break_by_parts.Goals as goal

pub returns : goal.returns
returns c =
    let second = c.in_ok-extend_from_slice-2.ensures.items
    ∙ ap (λ t. t ++ codes " ") c.in_ok-print_frac.ensures.ok in
    c.in_ok-push.ensures.items
    ∙ break_pushed c.args.point _ _ _ _ c.in_ok-extend_from_slice.ensures.items second
    (subst (λ p. AreNumbersPushed p c.extend_from_slice-2.new.self.items c.push_point.new.out.items)
    c.limits_of.ensures c.in_ok-push_point.ensures)
