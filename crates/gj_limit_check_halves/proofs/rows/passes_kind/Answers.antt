use Rattle.std.proofs.Common.{below_more, arith}
use Rattle.gj_check_minimal.proofs.TestsInTurn.{one_fails}
use Rattle.gj_limit_check_halves.specs.Half.{data_of}
use Rattle.gj_limit_check_halves.specs.RowTests.{PassesCorner}
use Rattle.gj_limit_check_halves.proofs.HalfTests.{corner_by_terms}
use Rattle.gj_limit_check_halves.proofs.rows.passes_kind.Goals as goal

pub returns-then-not-passes_terms : goal.returns-then-not-passes_terms
returns-then-not-passes_terms c =
    let corner = c.loop-corner.corner in
    let low = c.loop-corner-test.true in
    let end = c.corners-corner-end.ensures in
    one_fails _ _ _ c.if-not-passes_terms.true c.passes_terms.ensures
    (λ all. (corner_by_terms (data_of c.args.half) c.args.kind corner c.terms_of.result c.args.a
    c.terms_of.ensures.value (omega arith)).1
    (all corner (omega arith)))

pub loop-corner-preserved : goal.loop-corner-preserved
loop-corner-preserved c =
    let f = data_of c.args.half in
    let corner = c.loop-corner.corner in
    let low = c.loop-corner-test.true in
    let end = c.corners-corner-end.ensures in
    below_more (PassesCorner f c.args.kind c.args.a) corner c.loop-corner.invariant
    ((corner_by_terms f c.args.kind corner c.terms_of.result c.args.a c.terms_of.ensures.value
    (omega arith)).0
    (c.passes_terms.ensures.0 c.if-not-passes_terms.false))
