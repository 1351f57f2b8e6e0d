use Rattle.std.proofs.Common.{refl, arith}
use Rattle.gj_json.proofs.ReadSoFar.{one_more, none_at}
use Rattle.gj_json.proofs.entries.fractions.Goals as goal

pub returns-in_default-clause-refused : goal.returns-in_default-clause-refused
returns-in_default-clause-refused c = (
  refl,
  none_at c.args.values.now c.loop-value.value-index c.value-item.result
      (omega arith) c.value-item.is c.in_default.ensures.none,
)

pub loop-value-preserved : goal.loop-value-preserved
loop-value-preserved c =
    rw c.in_ok-push.ensures.items
    (one_more c.args.values.now c.loop-value.value-index c.value-item.result
    c.loop-value.fractions.items c.in-Some.x (omega arith)
    c.loop-value.invariant c.value-item.is c.in-Some.ensures.found)
