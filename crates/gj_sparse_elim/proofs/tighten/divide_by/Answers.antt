use Rattle.std.proofs.Common.{rules, pos, get_or, arith}
use Rattle.gj_elim.proofs.SmallDivisors.{division_start, division_more, division_end, read_quotient_small}
use Rattle.gj_sparse_elim.proofs.ColumnSets.{next_column}
use Rattle.gj_sparse_elim.proofs.SparseSteps.{divided_to, zero_within}
use Rattle.gj_sparse_elim.proofs.tighten.divide_by.Goals as goal

pub loop-found-init : goal.loop-found-init
loop-found-init c = division_start c.args.row.now c.args.column _ c.requires.zero

pub loop-found-smaller : goal.loop-found-smaller
loop-found-smaller c =
    let next = next_column c.args.touched.now c.args.row.now c.loop-found.next c.in-Some.found
    c.requires.support c.in-Some.ensures in
    let behind = next.behind in
    let inside = next.inside in
    omega arith

pub loop-found-preserved : goal.loop-found-preserved
loop-found-preserved c =
    let next = next_column c.args.touched.now c.args.row.now c.loop-found.next c.in-Some.found
    c.requires.support c.in-Some.ensures in
    let inside = next.inside in
    division_more c.args.row.now c.loop-found.row c.in-Some.found c.args.divisor _
    (divided_to c.args.row.now c.loop-found.row c.loop-found.next c.in-Some.found
    c.loop-found.invariant next) (omega arith)
    c.loop-found.auto.row c.requires.divisor c.requires.some
    (read_quotient_small (get_or c.loop-found.row c.in-Some.found (pos 0)) c.args.divisor
    (search rules) c.requires.some c.requires.small)

pub returns : goal.returns
returns c =
    division_end c.args.row.now c.loop-found.row c.args.column c.loop-found.next c.loop-found.next
    c.loop-found.invariant
    (zero_within c.args.row.now c.args.column c.loop-found.next _ c.requires.zero
    (λ k high. c.requires.support.zero k (c.in_default.ensures k high))) (omega arith)
    c.loop-found.auto.row
