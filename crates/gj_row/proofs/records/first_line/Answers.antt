use Rattle.std.proofs.Common.{◌-◌, not, sym, ap, ◌∙◌, refl, Option, drop, length, take, unwrap_or, arith}
use Rattle.std.specs.Option.{IfNone}
use Rattle.std.proofs.lemmas.List.{take_rest}
use Rattle.gj_lex.proofs.CanonicalTexts.{position_unwrapped}
use Rattle.gj_row.specs.Reading.{is_line_end}
use Rattle.gj_lex.proofs.FirstPlaces.{no_place}
use Rattle.gj_row.proofs.FirstPlaces.{all_ends, first_line_at}
use Rattle.gj_row.proofs.records.first_line.Goals as goal

if_none : {A : Type 0} {P : Type 0} (o : Option A) → P → IfNone o P
if_none o h = grind (arith, h)

pub returns-in_err-start-clause-none : goal.returns-in_err-start-clause-none
returns-in_err-start-clause-none c =
    let text = c.args.text.now in
    if_none c.from_residual.result
    (all_ends text (no_place (λ b. not (is_line_end b)) text
    (sym c.line_start.ensures ∙ c.in_err-start.was)))

pub returns-clause-some : goal.returns-clause-some
returns-clause-some c =
    let text = c.args.text.now in
    let start = c.in_ok-start.start in
    let left = take (length text - start) (drop start text) in
    let end = c.unwrap_or-end.result in
    first_line_at text left (take end left) (take (length left - end) (drop end left)) start end
    (sym c.line_start.ensures ∙ c.in_ok-start.was) (take_rest text start)
    (c.unwrap_or-end.ensures ∙ ap (λ o. unwrap_or o (length left)) c.line_end.ensures
    ∙ position_unwrapped is_line_end left)
    refl (take_rest left end)
