use Rattle.std.proofs.Common.{◌≡◌, subst, arith}
use Rattle.gj_loops.specs.IndexSets.{has}
use Rattle.gj_jumps.specs.LimitCover.{IsTightAt}
use Rattle.gj_limit_cover.proofs.Complexes.{complex_of}
use Rattle.gj_limit_cover.proofs.RowCovers.{AreDirectBefore, direct_none, direct_more, direct_all}
use Rattle.gj_limit_cover.proofs.table.direct_intervals.Goals as goal

pub loop-a-init : goal.loop-a-init
loop-a-init c =
    let f = c.args.shape.now in
    direct_none f.order (IsTightAt f) (has c.empty-direct.result) c.empty-direct.ensures

pub loop-a-preserved : goal.loop-a-preserved
loop-a-preserved c =
    let f = c.args.shape.now in
    direct_more f.order (IsTightAt f) c.loop-a.a (has c.loop-a.direct) (has c.direct_in_row.result)
    (has c.or-direct.result) c.loop-a.invariant c.direct_in_row.ensures c.or-direct.ensures

pub returns : goal.returns
returns c =
    let f = c.args.shape.now in
    let limits = c.order-a-end.ensures.limits in
    let all : c.loop-a.a ≡ f.order = omega (arith, c.order-a-end.ensures.value) in
    direct_all f.order (IsTightAt f) (has c.loop-a.direct) (complex_of f limits)
    (omega (arith, limits.order_low))
    (subst (λ n. AreDirectBefore f.order (IsTightAt f) n (has c.loop-a.direct)) all
    c.loop-a.invariant)
