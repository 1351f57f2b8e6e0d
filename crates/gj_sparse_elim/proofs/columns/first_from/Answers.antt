use Rattle.std.proofs.Common.{refl, arith}
use Rattle.gj_sparse_elim.proofs.ColumnSets.{passed_start, passed_more, passed_found, passed_end}
use Rattle.gj_sparse_elim.proofs.columns.first_from.Goals as goal

pub loop-place-init : goal.loop-place-init
loop-place-init c = record { passed = passed_start c.args.parts.now c.args.from; low = omega arith }

pub returns-in-Some : goal.returns-in-Some
returns-in-Some c =
    passed_found c.args.parts.now c.args.from c.loop-place.place c.loop-place.start c.in-Some.index
    _ c.loop-place.invariant.passed refl
    c.in-Some.ensures

pub loop-place-preserved : goal.loop-place-preserved
loop-place-preserved c = record {
  passed = passed_more c.args.parts.now c.args.from c.loop-place.place c.loop-place.start _
      c.loop-place.invariant.passed refl
      c.loop-place.invariant.low c.in_default.ensures;
  low = omega arith;
}

pub returns : goal.returns
returns c =
    passed_end c.args.parts.now c.args.from c.loop-place.place c.loop-place.start
    c.loop-place.invariant.passed (omega arith)
