use Rattle.std.proofs.Common.{◌∙◌}
use Rattle.gj_check_minimal.proofs.TableTests.{rest_value, value_fits, one_more_entry}
use Rattle.gj_check_minimal.proofs.tables.two_periods.Goals as goal

pub of-requires-clause-low : goal.of-requires-clause-low
of-requires-clause-low g c =
    let (place, scale, t, fits) = c.requires in
    (value_fits _ _ _ _ _ _ t fits
    (rest_value c.args.values.now _ _ c.loop-i.i _ t c.wrapped.ensures)).0

pub of-requires-clause-high : goal.of-requires-clause-high
of-requires-clause-high g c =
    let (place, scale, t, fits) = c.requires in
    (value_fits _ _ _ _ _ _ t fits
    (rest_value c.args.values.now _ _ c.loop-i.i _ t c.wrapped.ensures)).1

pub loop-i-preserved : goal.loop-i-preserved
loop-i-preserved g c =
    let (place, scale, t, fits) = c.requires in
    let values = c.args.values.now in
    let value = rest_value values _ _ c.loop-i.i _ t c.wrapped.ensures in
    one_more_entry g.E.Entry.number c.loop-i.entries.items c.push.new.self.items values c.loop-i.i _
    (c.of.ensures ∙ value)
    c.in_ok-push.ensures.items c.loop-i.invariant
