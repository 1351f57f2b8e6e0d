use Rattle.std.proofs.Common.{refl}
use Rattle.gj_function_lines.proofs.LinesRead.{no_order}
use Rattle.gj_function_lines.proofs.head.order_in.Goals as goal

pub returns-in-None-clause-broken : goal.returns-in-None-clause-broken
returns-in-None-clause-broken c =
    no_order c.args.spelling _ _ _ c.in-Some.ensures.found
    (c.if-not-is_count.ensures.0 refl) c.in-None.ensures.none
