use Rattle.std.proofs.Common.{sym, ap, ◌∙◌, ◌≡◌, Some, option_map}
use Rattle.csv.specs.Records.{fields_of, field_at}
use Rattle.csv.proofs.RecordFacts.{field-there}
use Rattle.gj_row.proofs.Lists.{field_in}
use Rattle.gj_row.specs.TableauText.{word_of}
use Rattle.gj_row.proofs.fields.word_at.Goals as goal

pub unreachable-requires : goal.unreachable-requires
unreachable-requires c =
    field-there (fields_of c.args.fields.now) c.args.place c.requires
    (sym c.get.ensures.value ∙ ap (option_map (λ s. s.now)) c.in-None.is)

pub returns : goal.returns
returns c =
    let at : field_at (fields_of c.args.fields.now) c.args.place ≡ Some c.in-Some.field.now =
    sym c.get.ensures.value ∙ ap (option_map (λ s. s.now)) c.in-Some.is in
    field_in word_of (fields_of c.args.fields.now) c.args.place c.in-Some.field.now at
    ∙ ap Some (sym c.word_of.ensures)
