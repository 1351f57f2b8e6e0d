use Rattle.gj_cover.specs.Linking.{tight_linking}
use Rattle.gj_cover.proofs.Linked.{tight_linked}
use Rattle.gj_cover.specs.Table.{IsTightInTable}
use Rattle.gj_cover.specs.Reached.{reached_data}
use Rattle.gj_cover.proofs.Classes.{reached_on, reached_all}
use Rattle.gj_cover.proofs.reached.Reached.from.Goals as goal

pub new-found-requires : goal.new-found-requires
new-found-requires c = c.requires.uncovered.within c.args.start c.requires.start

pub reach-requires-clause-within : goal.reach-requires-clause-within
reach-requires-clause-within c =
    let x = c.in-Some.interval in
    (c.loop-interval.invariant.led x
    (c.loop-interval.invariant.waiting x c.in-Some.ensures.found)).0

pub reach-requires-clause-reached : goal.reach-requires-clause-reached
reach-requires-clause-reached c =
    c.loop-interval.invariant.waiting c.in-Some.interval c.in-Some.ensures.found

pub reach-requires-clause-waits : goal.reach-requires-clause-waits
reach-requires-clause-waits c = c.in-Some.ensures.found

pub loop-interval-preserved : goal.loop-interval-preserved
loop-interval-preserved c =
    let t = c.args.table.now in
    reached_on (tight_linking t.order (IsTightInTable t)) (tight_linked t.order (IsTightInTable t))
    c.args.free.now c.args.start c.in-Some.interval
    (reached_data c.loop-interval.found) (reached_data c.reach.new.self)
    c.requires.uncovered c.requires.start c.loop-interval.invariant c.in-Some.ensures.found
    c.reach.ensures

pub loop-interval-smaller : goal.loop-interval-smaller
loop-interval-smaller c = c.reach.ensures.fewer

pub returns : goal.returns
returns c =
    let t = c.args.table.now in
    reached_all (tight_linking t.order (IsTightInTable t)) (tight_linked t.order (IsTightInTable t))
    c.args.start (reached_data c.loop-interval.found)
    (c.requires.uncovered.within c.args.start c.requires.start)
    c.loop-interval.invariant c.in_default.ensures
