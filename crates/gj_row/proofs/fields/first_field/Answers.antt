use Rattle.std.proofs.Common.{sym, ◌∙◌, ◌+◌, refl}
use Rattle.std.proofs.lemmas.List.{take_rest}
use Rattle.gj_row.proofs.FirstPlaces.{only_field, field_before}
use Rattle.gj_row.proofs.fields.first_field.Goals as goal

pub returns-in-Some : goal.returns-in-Some
returns-in-Some c =
    let line = c.args.line.now in
    field_before line _ _ c.in-Some.end (sym c.first_comma.ensures ∙ c.in-Some.is) refl
    (take_rest line (c.in-Some.end + 1))

pub returns-in-None : goal.returns-in-None
returns-in-None c = only_field c.args.line.now (sym c.first_comma.ensures ∙ c.in-None.is)
