use Rattle.std.proofs.Common.{rules, ℤ, pos, get_or, subst, unsigned_abs, arith}
use Rattle.std.specs.Int.{IsGcd}
use Rattle.std.proofs.lemmas.Int.{to_z-of_z}
use mir.Syntax.{w64}
use Rattle.gj_elim.proofs.SmallDivisors.{divisor_start, divisor_more, divisor_one, divisor_end}
use Rattle.gj_sparse_elim.proofs.ColumnSets.{next_column}
use Rattle.gj_sparse_elim.proofs.SparseSteps.{divisor_to, zero_within}
use Rattle.gj_sparse_elim.proofs.tighten.divisor_from.Goals as goal

pub loop-found-init : goal.loop-found-init
loop-found-init c = divisor_start c.args.row.now c.args.column _ c.requires.zero

pub returns-then-divisor-eq1-clause-value : goal.returns-then-divisor-eq1-clause-value
returns-then-divisor-eq1-clause-value c =
    divisor_one c.args.row.now c.loop-found.next c.loop-found.divisor c.loop-found.invariant
    c.if-divisor-eq1.true

pub loop-found-smaller : goal.loop-found-smaller
loop-found-smaller c =
    let next = next_column c.args.touched.now c.args.row.now c.loop-found.next c.in-Some.found
    c.requires.support c.in-Some.ensures in
    let behind = next.behind in
    let inside = next.inside in
    omega arith

pub loop-found-preserved : goal.loop-found-preserved
loop-found-preserved c =
    let next = next_column c.args.touched.now c.args.row.now c.loop-found.next c.in-Some.found
    c.requires.support c.in-Some.ensures in
    divisor_more c.args.row.now c.in-Some.found c.loop-found.divisor c.divisor_with-divisor.result
    (divisor_to c.args.row.now c.loop-found.next c.in-Some.found c.loop-found.divisor
    c.loop-found.invariant next) next.inside
    (subst (λ (x : ℤ). IsGcd c.loop-found.divisor (unsigned_abs x) c.divisor_with-divisor.result)
    (to_z-of_z w64 (get_or c.args.row.now c.in-Some.found (pos 0)) (search rules))
    c.divisor_with-divisor.ensures.value)
    c.divisor_with-divisor.ensures.small

pub returns-clause-value : goal.returns-clause-value
returns-clause-value c =
    divisor_end c.args.row.now c.args.column c.loop-found.next c.loop-found.next
    c.loop-found.divisor c.loop-found.invariant
    (zero_within c.args.row.now c.args.column c.loop-found.next _ c.requires.zero
    (λ k high. c.requires.support.zero k (c.in_default.ensures k high))) (omega arith)

pub returns-clause-small : goal.returns-clause-small
returns-clause-small c = c.loop-found.invariant.low
