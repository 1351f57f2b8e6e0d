use Rattle.gj_cover.proofs.Classes.{none_uncovered, some_uncovered}
use Rattle.gj_jumps.specs.LimitCover.{IsTightAt}
use Rattle.gj_limit_cover.specs.Linking.{limit_linking}
use Rattle.gj_limit_cover.proofs.Linked.{limit_linked, limit_class}
use Rattle.gj_limit_cover.proofs.class.least_class.Goals as goal

pub returns-in_default : goal.returns-in_default
returns-in_default c =
    let t = c.args.shape.now in
    limit_class t.order (IsTightAt t) c.new.result.items
    (none_uncovered (limit_linking t.order (IsTightAt t)) (limit_linked t.order (IsTightAt t))
    c.args.free.now c.new.result.items
    c.requires.uncovered c.in_default.ensures c.new.ensures.items)

pub returns : goal.returns
returns c =
    let t = c.args.shape.now in
    limit_class t.order (IsTightAt t) c.in_ok-places.places.items
    (some_uncovered (limit_linking t.order (IsTightAt t)) (limit_linked t.order (IsTightAt t))
    c.args.free.now c.in-Some.least c.from-reached.result
    c.in_ok-places.places.items
    c.requires.uncovered c.in-Some.ensures c.from-reached.ensures c.in_ok-places.ensures.ascending
    c.in_ok-places.ensures.members)
