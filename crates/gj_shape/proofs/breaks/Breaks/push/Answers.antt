use Rattle.std.proofs.Common.{sym, subst, refl, arith}
use Rattle.std.proofs.lemmas.Bool.{false≢true}
use Rattle.std.proofs.lemmas.Int.{ints}
use Rattle.std.proofs.lemmas.Result.{err_from_is_err_and}
use Rattle.gj_shape.specs.Breaks.{IsNextBreak}
use Rattle.gj_shape.specs.KeptBreaks.{breaks_of}
use Rattle.gj_shape.proofs.BreakLists.{next_from_behind, behind_from_next, below_from_next, order_some, follows, breaks_more, least_more, break_refused}
use Rattle.gj_shape.proofs.breaks.Breaks.push.Goals as goal

pub order_with-requires : goal.order_with-requires
order_with-requires c = order_some _ c.self.invariant.breaks

pub returns-then-not-is_next-clause-fault : goal.returns-then-not-is_next-clause-fault
returns-then-not-is_next-clause-fault c =
    rw (← c.self.view_is)
    (λ next.
    false≢true
    (c.if-not-is_next.ensures.1
    (behind_from_next _ _ _ c.ratio.ensures
    (subst (λ bs. IsNextBreak bs c.args.point.x) (sym c.as_slice.ensures.value) next))))

pub returns-then-num-den-clause-fault : goal.returns-then-num-den-clause-fault
returns-then-num-den-clause-fault c =
    rw (← c.self.view_is)
    (λ next.
    let below = below_from_next _ _ next in
    omega (arith, ints, c.num.ensures, c.den.ensures, c.if-num-den.true))

pub returns-in_default-clause-fault : goal.returns-in_default-clause-fault
returns-in_default-clause-fault c =
    let next = subst (λ bs. IsNextBreak bs c.args.point.x) c.as_slice.ensures.value
    (next_from_behind _ _ _ c.ratio.ensures (c.if-not-is_next.ensures.0 refl)
    (omega (arith, ints, c.num.ensures, c.den.ensures, c.if-num-den.false))) in
    rw (← c.self.view_is) (next, λ order. c.in_default.ensures.none order.0 order.1 order.2)

pub returns-in_err-scale-clause-fault : goal.returns-in_err-scale-clause-fault
returns-in_err-scale-clause-fault c =
    let p = err_from_is_err_and c.from_residual.result c.from_residual.ensures.1 in
    let next = subst (λ bs. IsNextBreak bs c.args.point.x) c.as_slice.ensures.value
    (next_from_behind _ _ _ c.ratio.ensures (c.if-not-is_next.ensures.0 refl)
    (omega (arith, ints, c.num.ensures, c.den.ensures, c.if-num-den.false))) in
    rw (p.1, p.2, ← c.self.view_is)
    (break_refused (breaks_of c.self.inside) c.args.point _ c.in_err-scale.field-0.0 next
    (c.in-Some.order, c.in-Some.ensures.few, c.in-Some.ensures.least) c.self.invariant.least
    c.in_err-scale.ensures.fault)

pub invariant_of-self-2 : goal.invariant_of-self-2
invariant_of-self-2 c =
    let next = subst (λ bs. IsNextBreak bs c.args.point.x) c.as_slice.ensures.value
    (next_from_behind _ _ _ c.ratio.ensures (c.if-not-is_next.ensures.0 refl)
    (omega (arith, ints, c.num.ensures, c.den.ensures, c.if-num-den.false))) in
    let follows = follows _ c.args.point c.in-Some.order _ _ next c.in-Some.ensures.few
    c.in-Some.ensures.least
    c.self.invariant.least c.in_ok-scale.ensures.least in
    record {
      breaks = rw (c.push_reserved.ensures.items, c.reserve.ensures.items)
          (breaks_more _ c.args.point c.in-Some.order c.self.invariant.breaks follows);
      least = rw (c.push_reserved.ensures.items, c.reserve.ensures.items)
          (least_more _ c.args.point _ _ c.self.invariant.least c.in_ok-scale.ensures.least);
    }

pub returns-clause-ok : goal.returns-clause-ok
returns-clause-ok c =
    let next = subst (λ bs. IsNextBreak bs c.args.point.x) c.as_slice.ensures.value
    (next_from_behind _ _ _ c.ratio.ensures (c.if-not-is_next.ensures.0 refl)
    (omega (arith, ints, c.num.ensures, c.den.ensures, c.if-num-den.false))) in
    rw (c.push_reserved.ensures.items, c.reserve.ensures.items, ← c.self.view_is)
    (follows _ c.args.point c.in-Some.order _ _ next c.in-Some.ensures.few c.in-Some.ensures.least
    c.self.invariant.least
    c.in_ok-scale.ensures.least)
