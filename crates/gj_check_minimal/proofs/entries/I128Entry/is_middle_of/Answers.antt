use Rattle.std.proofs.Common.{arith}
use mir.Syntax.{w128}
use Rattle.std.proofs.lemmas.Int.{ints}
use Rattle.gj_check_minimal.proofs.MiddleEntries.{middle_test}
use Rattle.gj_check_minimal.proofs.entries.I128Entry.is_middle_of.Goals as goal

pub returns : goal.returns
returns c =
    let before = c.requires.before in
    let here = c.requires.here in
    let next = c.requires.next in
    let high = c.ranges.self in
    let next_high = c.ranges.next in
    middle_test w128 c.args.before c.args.self c.args.next c.ranges.before c.ranges.self
    c.ranges.next (omega (arith, ints)) (omega (arith, ints))
