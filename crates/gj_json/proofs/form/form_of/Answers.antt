use Rattle.serde_json.specs.View.{view}
use Rattle.gj_json.proofs.Refusals.{no_limits}
use Rattle.gj_json.proofs.form.form_of.Goals as goal

pub returns-in_err-left-clause-none : goal.returns-in_err-left-clause-none
returns-in_err-left-clause-none c =
    rw c.from_residual-in_err-left.ensures
    (no_limits (view c.args.value.now) _ c.in_ok-values.ensures c.in_err-left.ensures.none)
