use Rattle.std.proofs.Common.{below_more, arith, refl}
use Rattle.gj_check_minimal.specs.Bends.{bend, PassesAtBends}
use Rattle.gj_check_minimal.proofs.TestsInTurn.{one_fails}
use Rattle.gj_check_minimal.proofs.bends.pass_at_bends.Goals as goal

pub loop-p-init : goal.loop-p-init
loop-p-init g c = λ values len periods p below. absurd (omega arith)

pub loop-p-preserved : goal.loop-p-preserved
loop-p-preserved g c = λ values len periods.
    below_more (λ p. PassesAtBends values c.args.bends.now (bend c.args.bends.now p)) c.loop-p.p
    (c.loop-p.invariant values len periods)
    ((c.passes_at_bends.ensures values len periods).0 c.if-not-passes_at_bends.false)

pub returns-then-not-passes_at_bends : goal.returns-then-not-passes_at_bends
returns-then-not-passes_at_bends g c = λ values len periods.
    one_fails _ _ _ c.if-not-passes_at_bends.true (c.passes_at_bends.ensures values len periods)
    (λ all. all c.loop-p.p (omega arith))

pub returns : goal.returns
returns g c = λ values len periods. (
  λ _ p below. c.loop-p.invariant values len periods p (omega arith),
  λ _. refl,
)
