use Rattle.std.proofs.lemmas.Result.{err_from_is_err_and, IfOk-weaker, IfErr-weaker}
use Rattle.serde_json.specs.View.{view}
use Rattle.gj_json.specs.JsonFunction.{HasFractions}
use Rattle.gj_json.proofs.Refusals.{names_weaker, number_refused, fractions_read, left_long, right_long, function_said, fractions_refused}
use Rattle.gj_json.proofs.read.shape_of.Goals.{After-as_slice-3}
use Rattle.gj_json.proofs.read.shape_of.Goals as goal

-- the fractions that were read
these : (c : After-as_slice-3) →
    HasFractions (view c.args.value.now) c.in_ok-given.given.place c.as_slice.result.now
    c.as_slice-2.result.now c.as_slice-3.result.now
these c =
    fractions_read _ _ _ _ _ _ _ _ _ _ _ _ c.in-Some.ensures.found c.in_ok-given.ensures.found
    c.as_slice.ensures.value
    c.as_slice-2.ensures.value c.as_slice-3.ensures.value

pub returns-in_err-given-clause-refused : goal.returns-in_err-given-clause-refused
returns-in_err-given-clause-refused c =
    let p = err_from_is_err_and c.from_residual.result c.from_residual.ensures.1 in
    rw (p.1, p.2) (names_weaker _ _ _ (number_refused _ _ _ _ _ c.in-Some.ensures.found)
    c.in_err-given.ensures.refused)

pub shape_given-requires-clause-left_length : goal.shape_given-requires-clause-left_length
shape_given-requires-clause-left_length c = left_long _ _ _ _ _ (these c)

pub shape_given-requires-clause-right_length : goal.shape_given-requires-clause-right_length
shape_given-requires-clause-right_length c = right_long _ _ _ _ _ (these c)

pub returns-clause-found : goal.returns-clause-found
returns-clause-found c =
    IfOk-weaker c.shape_given.result _ _
    (λ f h. function_said _ _ _ _ _ (these (goal.at.returns-clause-found c).After-as_slice-3) _ h)
    c.shape_given.ensures.found

pub returns-clause-refused : goal.returns-clause-refused
returns-clause-refused c =
    IfErr-weaker c.shape_given.result _ _
    (λ e h. names_weaker _ _ e
    (fractions_refused _ _ _ _ _ (these (goal.at.returns-clause-refused c).After-as_slice-3)) h)
    c.shape_given.ensures.refused
