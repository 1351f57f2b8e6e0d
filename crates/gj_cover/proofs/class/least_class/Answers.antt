use Rattle.gj_cover.proofs.Classes.{none_uncovered, some_uncovered, tight_class}
use Rattle.gj_cover.specs.Linking.{tight_linking}
use Rattle.gj_cover.proofs.Linked.{tight_linked}
use Rattle.gj_cover.specs.Table.{IsTightInTable}
use Rattle.gj_cover.proofs.class.least_class.Goals as goal

pub returns-in_default : goal.returns-in_default
returns-in_default c =
    let t = c.args.table.now in
    tight_class t.order (IsTightInTable t) c.new.result.items
    (none_uncovered (tight_linking t.order (IsTightInTable t))
    (tight_linked t.order (IsTightInTable t))
    c.args.free.now c.new.result.items
    c.requires c.in_default.ensures c.new.ensures.items)

pub returns : goal.returns
returns c =
    let t = c.args.table.now in
    tight_class t.order (IsTightInTable t) c.in_ok-places.places.items
    (some_uncovered (tight_linking t.order (IsTightInTable t))
    (tight_linked t.order (IsTightInTable t))
    c.args.free.now c.in-Some.least c.from-reached.result
    c.in_ok-places.places.items
    c.requires c.in-Some.ensures c.from-reached.ensures c.in_ok-places.ensures.ascending
    c.in_ok-places.ensures.members)
