use Rattle.std.proofs.Common.{◌+◌, length, ap, ◌∙◌, arith}
use Rattle.std.proofs.lemmas.List.{length_push}
use Rattle.gj_sparse_elim.proofs.ColumnSets.{empty_start, empty_push, none_in_parts}
use Rattle.gj_sparse_elim.proofs.columns.no_columns.Goals as goal

pub loop-init : goal.loop-init
loop-init c = record {
  empty = empty_start c.new-parts.result.items;
  count = ap length
      c.new-parts.ensures.items;
}

pub loop-preserved : goal.loop-preserved
loop-preserved c = record {
  empty = empty_push c.loop.parts.items _ c.loop.counter c.empty.result c.loop.invariant.empty
      c.loop.invariant.count c.empty.ensures
      c.in_ok-push.ensures.items;
  count = ap length c.in_ok-push.ensures.items ∙ length_push c.loop.parts.items c.empty.result
      ∙ ap (λ n. n + 1) c.loop.invariant.count;
}

pub returns-clause-empty : goal.returns-clause-empty
returns-clause-empty c =
    none_in_parts c.loop.parts.items c.loop.counter
    (let count = c.loop.invariant.count in omega arith) c.loop.invariant.empty

pub returns-clause-room : goal.returns-clause-room
returns-clause-room c = let count = c.loop.invariant.count in omega arith

pub returns-clause-few : goal.returns-clause-few
returns-clause-few c =
    let count = c.loop.invariant.count in
    let most = c.requires in
    omega arith
