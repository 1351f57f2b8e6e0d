use Rattle.std.proofs.Common.{map, refl}
use Rattle.serde_json.specs.View.{view}
use Rattle.std.proofs.lemmas.Result.{err_from_is_err_and}
use Rattle.gj_json.proofs.Refusals.{names_weaker, place_none, left_none, value_none, right_none}
use Rattle.gj_json.proofs.read.fractions_of.Goals as goal

pub returns-in_default-clause-refused : goal.returns-in_default-clause-refused
returns-in_default-clause-refused c = (
  refl,
  place_none _ (map view c.args.form.left.now) (map view c.args.form.value.now)
      (map view c.args.form.right.now) c.in_default.ensures.none,
)

pub returns-in_err-left-clause-refused : goal.returns-in_err-left-clause-refused
returns-in_err-left-clause-refused c =
    let p = err_from_is_err_and c.from_residual.result c.from_residual.ensures.1 in
    rw (p.1, p.2) (names_weaker _ _ _ (left_none _ _ _ _) c.in_err-left.ensures.refused)

pub returns-in_err-value-clause-refused : goal.returns-in_err-value-clause-refused
returns-in_err-value-clause-refused c =
    let p = err_from_is_err_and c.from_residual-in_err-value.result
    c.from_residual-in_err-value.ensures.1 in
    rw (p.1, p.2) (names_weaker _ _ _ (value_none _ _ _ _) c.in_err-value.ensures.refused)

pub returns-in_err-right-clause-refused : goal.returns-in_err-right-clause-refused
returns-in_err-right-clause-refused c =
    let p = err_from_is_err_and c.from_residual-in_err-right.result
    c.from_residual-in_err-right.ensures.1 in
    rw (p.1, p.2) (names_weaker _ _ _ (right_none _ _ _ _) c.in_err-right.ensures.refused)
