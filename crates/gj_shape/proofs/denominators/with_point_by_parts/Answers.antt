use Rattle.std.proofs.lemmas.Result.{err_from_is_err_and, IfOk-weaker, IfErr-weaker}
use Rattle.gj_shape.proofs.LeastDenominator.{extended_some, least_with_three, refused_left, refused_value, refused_right}
use Rattle.gj_shape.proofs.denominators.with_point_by_parts.Goals as goal

pub extended-requires-2 : goal.extended-requires-2
extended-requires-2 c =
    record { low = extended_some _ _ _ c.in_ok-with_left.ensures.least c.requires }

pub extended-requires-3 : goal.extended-requires-3
extended-requires-3 c = record {
  low = extended_some _ _ _ c.in_ok-with_value.ensures.least
      (extended_some _ _ _ c.in_ok-with_left.ensures.least c.requires);
}

pub returns-in_err-with_left-clause-fault : goal.returns-in_err-with_left-clause-fault
returns-in_err-with_left-clause-fault c =
    let p = err_from_is_err_and c.from_residual.result c.from_residual.ensures.1 in
    rw (p.1, p.2) (refused_left _ _ _ _ _ c.in_err-with_left.ensures.fault)

pub returns-in_err-with_value-clause-fault : goal.returns-in_err-with_value-clause-fault
returns-in_err-with_value-clause-fault c =
    let p = err_from_is_err_and c.from_residual-in_err-with_value.result
    c.from_residual-in_err-with_value.ensures.1 in
    rw (p.1, p.2) (refused_value _ _ _ _ _ _ c.in_ok-with_left.ensures.least
    c.in_err-with_value.ensures.fault)

pub returns-clause-least : goal.returns-clause-least
returns-clause-least c =
    IfOk-weaker c.extended-3.result _ _
    (λ m h. least_with_three _ _ _ m _ _ _ c.in_ok-with_left.ensures.least
    c.in_ok-with_value.ensures.least h)
    c.extended-3.ensures.least

pub returns-clause-fault : goal.returns-clause-fault
returns-clause-fault c =
    IfErr-weaker c.extended-3.result _ _
    (λ e h. refused_right _ _ _ _ _ _ e c.in_ok-with_left.ensures.least
    c.in_ok-with_value.ensures.least h)
    c.extended-3.ensures.fault
