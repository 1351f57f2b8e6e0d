use Rattle.std.proofs.Common.{◌∷◌, ℕ, List, IfErr, map, subst, sym, ap, ◌∙◌}
use Rattle.gj_row.specs.TableauText.{word_of}
use Rattle.gj_row.specs.FirstFault.{HasHeaderFault}
use Rattle.gj_row.specs.Reading.{NamesReason, fields_of_either}
use Rattle.gj_row.proofs.header.header_of.Goals as goal

pub returns-in_ok-record-in-Some-clause-refused : goal.returns-in_ok-record-in-Some-clause-refused
returns-in_ok-record-in-Some-clause-refused c =
    let read = c.args.fields.now.read in
    let same = ap (λ l. map word_of (fields_of_either read l)) c.in-Some.is
    ∙ ap (map word_of) (sym c.in_ok-record-in-Some.ensures) in
    subst (λ ws. IfErr c.header_in.result
    (NamesReason (λ e. (rows : List (List (List ℕ))) → HasHeaderFault (ws ∷ rows) e)))
    (sym same)
    c.header_in.ensures.refused

pub returns-in-None-clause-refused : goal.returns-in-None-clause-refused
returns-in-None-clause-refused c =
    let read = c.args.fields.now.read in
    let same = ap (λ l. map word_of (fields_of_either read l)) c.in-None.is in
    subst (λ ws. IfErr c.header_in-in-None.result
    (NamesReason (λ e. (rows : List (List (List ℕ))) → HasHeaderFault (ws ∷ rows) e)))
    (sym same)
    c.header_in-in-None.ensures.refused
