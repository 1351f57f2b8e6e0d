use Rattle.std.proofs.Common.{arith}
use Rattle.gj_top.proofs.group.group_reply.Goals as goal

pub returns-in_ok-group_text-in-Ok : goal.returns-in_ok-group_text-in-Ok
returns-in_ok-group_text-in-Ok c = (
  rw c.in_default.is at c.in_ok-jump.ensures.none,
  record {
    few = omega arith;
    narrow = c.in-Ok.ensures.narrow;
    answer = c.in-Ok.answer;
    says = c.in-Ok.ensures.says;
    found = c.in-Ok.ensures.found;
    spelled = c.in_ok-group_text-in-Ok.ensures.text;
  },
)

pub returns-in_ok-from_slice-in-Err-Wide : goal.returns-in_ok-from_slice-in-Err-Wide
returns-in_ok-from_slice-in-Err-Wide c =
    let wide = c.in-Err-Wide.ensures.wide (cc (c.in-Err-Wide.field-0-is)) in (
      rw c.in_default.is at c.in_ok-jump.ensures.none,
      record {
        few = omega arith;
        minimal = wide.0;
        wide = wide.1;
        spelled = c.in_ok-from_slice-in-Err-Wide.ensures.items;
      },
    )
