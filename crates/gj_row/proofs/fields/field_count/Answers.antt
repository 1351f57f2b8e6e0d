use Rattle.std.proofs.Common.{◌+◌, ap, sym, ◌∙◌, length}
use Rattle.std.proofs.lemmas.List.Splits.{length-slice_split}
use Rattle.gj_row.specs.Reading.{fields_of_either, is_comma}
use Rattle.gj_row.proofs.fields.field_count.Goals as goal

pub returns-in-Some : goal.returns-in-Some
returns-in-Some c =
    let fields = c.args.fields.now in
    ap (λ n. n + 1) c.commas.ensures.count ∙ sym (length-slice_split is_comma c.in-Some.line.now)
    ∙ sym (ap (λ l. length (fields_of_either fields.read l)) c.in-Some.is)
