use Rattle.std.proofs.Common.{IsTrue, arith}
use Rattle.gj_loops.specs.IndexSets.{has}
use Rattle.gj_faces.proofs.PairRows.{row_more}
use Rattle.gj_faces.proofs.Readings.{row_of_lanes}
use Rattle.gj_faces.proofs.lanes.rows_over.Goals as goal

pub loop-a-preserved : goal.loop-a-preserved
loop-a-preserved g c =
    let f = c.args.shape.now in
    let a = c.loop-a.a in
    let read = c.value_numerators-values in
    let first = c.index-lanes-a.result in
    let row = c.of_sums.result in (
      rw c.push_reserved.ensures.items (row_more f c.loop-a.rows.items a row c.loop-a.invariant.0
          (λ b. row_of_lanes g.L.Lane.number g.L.Lane.least g.L.Lane.bound f a
          c.write_periods.new.lanes read.result.now first
          read.ensures.limits read.ensures.value c.write_periods.ensures.periods c.loop-a-test.true
          c.index-lanes-a.is b
          (IsTrue (has row b)) (c.of_sums.ensures b first))),
      omega (arith, c.loop-a.invariant.1),
    )
