use Rattle.std.proofs.Common.{rules, ◌≡◌, ◌≤◌, ℤ, pos, get_or, ◌∙◌, ap, sym, subst, unsigned_abs, arith}
use Rattle.std.proofs.lemmas.Int.{to_z-of_z}
use mir.Syntax.{w64}
use Rattle.gj_sparse_elim.proofs.ColumnSets.{next_column}
use Rattle.gj_sparse_elim.proofs.SparseSteps.{bound_to, bound_end}
use Rattle.gj_sparse_elim.proofs.tighten.bound_from.Goals as goal

pub loop-found-init : goal.loop-found-init
loop-found-init c = record {
  is = λ k below. subst (λ (x : ℤ). unsigned_abs x ≤ 0) (sym (c.requires.zero.before k below))
      (omega arith);
  low = omega arith;
}

pub loop-found-smaller : goal.loop-found-smaller
loop-found-smaller c =
    let next = next_column c.args.touched.now c.args.row.now c.loop-found.next c.in-Some.found
    c.requires.support c.in-Some.ensures in
    let behind = next.behind in
    let inside = next.inside in
    omega arith

pub loop-found-preserved : goal.loop-found-preserved
loop-found-preserved c =
    let next = next_column c.args.touched.now c.args.row.now c.loop-found.next c.in-Some.found
    c.requires.support c.in-Some.ensures in
    let small = c.requires.small c.in-Some.found in
    let size : c.unsigned_abs.result ≡ unsigned_abs
    (get_or c.args.row.now c.in-Some.found (pos 0)) =
    c.unsigned_abs.ensures.value ∙ ap unsigned_abs
    (to_z-of_z w64 (get_or c.args.row.now c.in-Some.found (pos 0)) (search rules)) in
    let greatest = c.max-bound.ensures in
    let low = c.loop-found.invariant.low in
    bound_to c.args.row.now c.loop-found.next c.in-Some.found c.loop-found.bound _
    c.loop-found.invariant next (omega arith) (omega arith)
    (omega arith)

pub returns-clause-bound : goal.returns-clause-bound
returns-clause-bound c =
    bound_end c.args.row.now c.loop-found.next c.loop-found.bound c.loop-found.invariant
    (λ k high. c.requires.support.zero k (c.in_default.ensures k high))

pub returns-clause-small : goal.returns-clause-small
returns-clause-small c = c.loop-found.invariant.low
