use Rattle.std.proofs.Common.{◌≡◌, ◌<◌, subst, arith}
use Rattle.gj_jumps.specs.LimitCover.{IsTightAt}
use Rattle.gj_limit_cover.proofs.Complexes.{complex_of}
use Rattle.gj_limit_cover.proofs.RowCovers.{NoneInRows, row_found, not_direct}
use Rattle.gj_limit_cover.proofs.faces.covering_face.Goals as goal

pub returns-in-Some-clause-found : goal.returns-in-Some-clause-found
returns-in-Some-clause-found c =
    let f = c.args.shape.now in
    let low : c.loop-a.a < f.order = omega (arith, c.loop-a-test.true, c.order-a-end.ensures.value)
    in
    row_found f.order (IsTightAt f) c.args.i c.loop-a.a c.in-Some.face low c.loop-a.invariant
    c.in-Some.ensures

pub returns-clause-none : goal.returns-clause-none
returns-clause-none c =
    let f = c.args.shape.now in
    let limits = c.order-a-end.ensures.limits in
    let all : c.loop-a.a ≡ f.order = omega (arith, c.order-a-end.ensures.value) in
    not_direct f.order (IsTightAt f) c.args.i (complex_of f limits)
    (omega (arith, limits.order_low))
    (subst (NoneInRows f.order (IsTightAt f) c.args.i) all c.loop-a.invariant)
