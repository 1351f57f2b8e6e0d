use Rattle.gj_jumps.specs.LimitCover.{IsTightAt}
use Rattle.gj_limit_cover.specs.Linking.{limit_linking}
use Rattle.gj_limit_cover.proofs.Linked.{limit_linked}
use Rattle.gj_limit_cover.specs.Reached.{reached_data}
use Rattle.gj_cover.proofs.Classes.{reached_on, reached_all}
use Rattle.gj_limit_cover.proofs.reached.Reached.from.Goals as goal

pub new-found-requires-clause-start : goal.new-found-requires-clause-start
new-found-requires-clause-start c = c.requires.uncovered.within c.args.start c.requires.start

pub reach-requires-clause-within : goal.reach-requires-clause-within
reach-requires-clause-within c =
    let x = c.in-Some.interval in
    (c.loop-interval.invariant.led x (c.loop-interval.invariant.waiting x
    c.in-Some.ensures.found)).0

pub reach-requires-clause-reached : goal.reach-requires-clause-reached
reach-requires-clause-reached c = c.loop-interval.invariant.waiting c.in-Some.interval
    c.in-Some.ensures.found

pub reach-requires-clause-waits : goal.reach-requires-clause-waits
reach-requires-clause-waits c = c.in-Some.ensures.found

pub loop-interval-preserved : goal.loop-interval-preserved
loop-interval-preserved c =
    let t = c.args.shape.now in
    reached_on (limit_linking t.order (IsTightAt t)) (limit_linked t.order (IsTightAt t))
    c.args.free.now c.args.start c.in-Some.interval
    (reached_data c.loop-interval.found) (reached_data c.reach.new.self)
    c.requires.uncovered c.requires.start c.loop-interval.invariant c.in-Some.ensures.found
    c.reach.ensures

pub loop-interval-smaller : goal.loop-interval-smaller
loop-interval-smaller c = c.reach.ensures.fewer

pub returns : goal.returns
returns c =
    let t = c.args.shape.now in
    reached_all (limit_linking t.order (IsTightAt t)) (limit_linked t.order (IsTightAt t))
    c.args.start (reached_data c.loop-interval.found)
    (c.requires.uncovered.within c.args.start c.requires.start)
    c.loop-interval.invariant c.in_default.ensures
