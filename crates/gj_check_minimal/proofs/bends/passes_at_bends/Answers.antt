use Rattle.std.proofs.Common.{◌+◌, ◌-◌, length, below_more, arith, refl}
use Rattle.gj_check_minimal.specs.Tables.{IsSubadditivePair}
use Rattle.gj_check_minimal.specs.Bends.{bend}
use Rattle.gj_check_minimal.proofs.TestsInTurn.{one_fails}
use Rattle.gj_check_minimal.proofs.bends.passes_at_bends.Goals as goal

pub loop-p-init : goal.loop-p-init
loop-p-init g c = λ values len periods p below. absurd (omega arith)

pub loop-p-preserved : goal.loop-p-preserved
loop-p-preserved g c = λ values len periods.
    let b = c.args.bends.now in
    let i = c.args.i in
    below_more (λ p. IsSubadditivePair values i (bend b p)
    × IsSubadditivePair values i (length values + bend b p - i)) c.loop-p.p
    (c.loop-p.invariant values len periods)
    ((c.passes_with.ensures values len periods).0 c.if-not-passes_with.false)

pub returns-then-not-passes_with : goal.returns-then-not-passes_with
returns-then-not-passes_with g c = λ values len periods.
    one_fails _ _ _ c.if-not-passes_with.true (c.passes_with.ensures values len periods)
    (λ all. all c.loop-p.p (omega arith))

pub returns : goal.returns
returns g c = λ values len periods. (
  λ _ p below. c.loop-p.invariant values len periods p (omega arith),
  λ _. refl,
)
