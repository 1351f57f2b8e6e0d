use Rattle.std.proofs.Common.{List, length, ap, ◌∙◌, subst}
use Rattle.gj_loops.specs.declared.index_set.IndexSet.{IndexSet}
use Rattle.gj_cover.specs.SetRows.{AreColumns, AreFirsts}
use Rattle.gj_cover.proofs.Turned.{seconds_are}
use Rattle.gj_cover.proofs.table.Table.of.Goals as goal

pub invariant_of-result : goal.invariant_of-result
invariant_of-result c =
    let q = c.args.order in
    let rows = c.args.rows.items in
    let columns = c.in_ok-columns.columns.items in
    let firsts = c.in_ok-firsts.firsts.items in
    let seconds = c.in_ok-seconds.seconds.items in
    let columns_length = c.in_ok-columns.ensures.length
    ∙ ap (λ (l : List IndexSet). length l) c.as_slice.ensures.value ∙ c.requires.length in
    let columns_are : AreColumns q rows columns =
    subst (λ m. AreColumns m rows columns) c.requires.length
    (subst (λ l. AreColumns (length l) l columns) c.as_slice.ensures.value
    c.in_ok-columns.ensures.columns) in
    let firsts_are : AreFirsts q rows firsts =
    subst (λ m. AreFirsts m rows firsts) c.requires.length
    (subst (λ l. AreFirsts (length l) l firsts) c.as_slice-2.ensures.value
    c.in_ok-firsts.ensures.firsts) in
    let turned : AreFirsts q columns seconds =
    subst (λ m. AreFirsts m columns seconds) columns_length
    (subst (λ l. AreFirsts (length l) l seconds) c.as_slice-3.ensures.value
    c.in_ok-seconds.ensures.firsts) in
    record {
      few = c.requires.few;
      rows_length = c.requires.length;
      sides_are = record {
        columns_length = columns_length;
        firsts_length = c.in_ok-firsts.ensures.length
            ∙ ap (λ (l : List IndexSet). length l) c.as_slice-2.ensures.value ∙ c.requires.length;
        seconds_length = c.in_ok-seconds.ensures.length
            ∙ ap (λ (l : List IndexSet). length l) c.as_slice-3.ensures.value ∙ columns_length;
        columns_are = columns_are;
        firsts_are = firsts_are;
        seconds_are = seconds_are q rows columns seconds columns_are turned;
      };
      within_is = c.below.ensures;
    }
