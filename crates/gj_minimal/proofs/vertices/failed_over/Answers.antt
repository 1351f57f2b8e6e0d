use Rattle.std.proofs.Common.{below_more, arith}
use Rattle.gj_minimal.specs.Failures.{PassesVertexRow}
use Rattle.gj_minimal.proofs.FailedVertices.{vertex_fails}
use Rattle.gj_loops.proofs.LaidNumbers.{up_to_scale}
use Rattle.gj_theory.proofs.Lanes.{are_bounded}
use Rattle.gj_minimal.proofs.vertices.failed_over.Goals as goal

pub returns-in-Some-clause-found : goal.returns-in-Some-clause-found
returns-in-Some-clause-found g c =
    vertex_fails c.args.shape.now c.loop-a.a c.in-Some.b c.vertex.result c.requires.symmetry
    c.vertex.ensures
    (omega arith) c.loop-a.invariant c.in-Some.ensures.found

pub loop-a-preserved : goal.loop-a-preserved
loop-a-preserved g c =
    below_more (PassesVertexRow c.args.shape.now) c.loop-a.a c.loop-a.invariant
    c.in_default.ensures.none

pub returns-clause-none : goal.returns-clause-none
returns-clause-none g c = record {
  symmetry = c.requires.symmetry;
  vertices = λ a b a_below b_below. c.loop-a.invariant a (omega arith) b b_below;
}

pub write_periods-requires-clause-range : goal.write_periods-requires-clause-range
write_periods-requires-clause-range g c =
    let read = c.value_numerators.ensures in
    let all = are_bounded c.args.shape.now read.limits c.requires.symmetry in
    up_to_scale _ _ _ _ read.value g.met.L.UnsignedLane.from_zero c.requires.fits all.value_low
    all.value_high
