use Rattle.std.proofs.Common.{ap, ◌∙◌, Err}
use Rattle.gj_demo.proofs.Values.{demo_continuous, demo_minimal}
use Rattle.gj_demo.proofs.Verdicts.{demo_decided, demo_not_wide}
use Rattle.gj_demo.proofs.summary_text.verdict.Goals as goal

pub decide_by_cover-requires-clause-minimal : goal.decide_by_cover-requires-clause-minimal
decide_by_cover-requires-clause-minimal c =
    demo_minimal c.args.n c.args.shape.now c.requires.demo c.requires.within

pub decide_by_cover-requires-clause-continuous : goal.decide_by_cover-requires-clause-continuous
decide_by_cover-requires-clause-continuous c =
    demo_continuous c.args.n c.args.shape.now c.requires.demo

pub returns-in-Ok-clause-not_extreme : goal.returns-in-Ok-clause-not_extreme
returns-in-Ok-clause-not_extreme c =
    demo_decided c.args.n c.args.shape.now c.in-Ok.proof c.requires.low c.requires.demo
    c.requires.within c.in-Ok.ensures.decided

pub unreachable-requires : goal.unreachable-requires
unreachable-requires c =
    c.decide_by_cover.ensures.no_jump c.in-Err-NotContinuous._index
    (c.in-Err-NotContinuous.is ∙ ap Err c.in-Err-NotContinuous.field-0-is)

pub unreachable-requires-in-Err-Wide : goal.unreachable-requires-in-Err-Wide
unreachable-requires-in-Err-Wide c =
    demo_not_wide c.args.n c.args.shape.now c.requires.demo c.requires.within
    (c.decide_by_cover.ensures.wide (c.in-Err-Wide.is ∙ ap Err c.in-Err-Wide.field-0-is))
