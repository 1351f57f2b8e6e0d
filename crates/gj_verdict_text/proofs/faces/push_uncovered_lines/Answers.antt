use Rattle.std.proofs.Common.{sym, ap, subst, ◌∙◌}
use Rattle.gj_verdict_text.specs.FacesText.{ArePushed}
use Rattle.gj_verdict_text.proofs.FacesTexts.{none_pushed, one_pushed, none_more, with_number, without_number}
use Rattle.gj_verdict_text.proofs.faces.push_uncovered_lines.Goals as goal
use Rattle.gj_verdict_text.proofs.faces.push_uncovered_lines.Goals.{then-is_none+in_ok-push_count_line, else-is_none}

pub loop-interval-init : goal.loop-interval-init
loop-interval-init c = none_pushed c.args.component.now c.args.out.now.items

pub loop-interval-preserved : goal.loop-interval-preserved
loop-interval-preserved c =
    let component = c.args.component.now in
    let old = c.args.out.now.items in
    elim c.if-is_none.branch [
      | then-is_none+in_ok-push_count_line w ↦
          one_pushed component c.loop-interval.interval old c.loop-interval.out.items
          c.if-is_none.out.items c.loop-interval.invariant
          (without_number _ w.if-is_none.ensures) (ap (λ o. o.items) w.out-is
          ∙ w.in_ok-push_count_line.ensures)
      | else-is_none w ↦
          none_more component c.loop-interval.interval old c.if-is_none.out.items
          (subst (λ o. ArePushed component c.loop-interval.interval old o.items)
          (sym w.out-is) c.loop-interval.invariant)
          (with_number _ w.if-is_none.ensures)
    ]
