use Rattle.std.proofs.Common.{◌<◌, ◌≤◌, ◌≡◌, ◌⊎◌, inl, inr, pos, arith}
use Rattle.std.proofs.lemmas.Bool.{cases_lt}
use Rattle.std.proofs.lemmas.List.{length-set}
use Rattle.gj_shape.specs.Elimination.{at_column}
use Rattle.gj_sparse_elim.proofs.ColumnSets.{next_column, support_still}
use Rattle.gj_sparse_elim.proofs.SparseSteps.{erased_more, erased_still}
use Rattle.gj_sparse_elim.proofs.lazy.erase.Goals as goal

pub loop-column-init : goal.loop-column-init
loop-column-init c = record { done = λ k below. absurd (omega arith); support = c.requires }

pub loop-column-smaller : goal.loop-column-smaller
loop-column-smaller c =
    let next = next_column c.args.touched.now c.loop-column.row c.loop-column.next c.in-Some.column
    c.loop-column.invariant.support
    c.in-Some.ensures in
    let behind = next.behind in
    let inside = next.inside in
    omega arith

pub loop-column-preserved : goal.loop-column-preserved
loop-column-preserved c =
    let next = next_column c.args.touched.now c.loop-column.row c.loop-column.next c.in-Some.column
    c.loop-column.invariant.support
    c.in-Some.ensures in
    record {
      done = λ k below. erased_more c.loop-column.row c.loop-column.next c.in-Some.column k
          c.loop-column.invariant.done next below;
      support = support_still c.args.touched.now c.loop-column.row _ c.loop-column.invariant.support
          (length-set c.loop-column.row c.in-Some.column (pos 0))
          (λ k none. erased_still c.loop-column.row c.in-Some.column k none);
    }

pub returns : goal.returns
returns c k = by_place (cases_lt k c.loop-column.next)
  where
    by_place : (k < c.loop-column.next) ⊎ (c.loop-column.next ≤ k) →
        at_column c.loop-column.row k ≡ pos 0
    by_place (inl low) = c.loop-column.invariant.done k low
    by_place (inr high) = c.loop-column.invariant.support.zero k (c.in_default.ensures k high)
