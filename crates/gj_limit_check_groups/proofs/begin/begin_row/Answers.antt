use Rattle.std.proofs.Common.{length, sym, ap, ◌∙◌}
use Rattle.std.proofs.lemmas.List.{with_items_is}
use Rattle.gj_shape.specs.SlopeRows.{component_in}
use Rattle.gj_proof.specs.PresentRows.{arithmetic_of}
use Rattle.gj_limit_system.specs.Unknowns.{columns_for}
use Rattle.gj_limit_check_groups.specs.Changes.{read_entries}
use Rattle.gj_limit_proof.proofs.NamedEntries.{dense_named}
use Rattle.gj_limit_check_groups.proofs.NamedEntries.{is_read}
use Rattle.gj_limit_check_groups.proofs.begin.begin_row.Goals as goal

pub returns-clause-row : goal.returns-clause-row
returns-clause-row c =
    let r = c.args.system.now in
    let n = columns_for (length r.component) r.count in
    let row = c.write_row.new.entries in
    let written = with_items_is row c.read.new.row
    (c.read.auto.row ∙ ap length c.as_mut_slice.ensures.value ∙ sym row.ok.0) in
    (is_read c.args.numbers n row.items _ c.in_ok-write_row.ensures.sparse
    c.in_ok-write_row.ensures.small
    (written ∙ c.read.ensures
    ∙ ap (read_entries c.args.numbers) c.as_mut_slice.ensures.value)).sparse

pub returns-clause-begun : goal.returns-clause-begun
returns-clause-begun c f order place =
    let r = c.args.system.now in
    let n = columns_for (length r.component) r.count in
    let row = c.write_row.new.entries in
    let written = with_items_is row c.read.new.row
    (c.read.auto.row ∙ ap length c.as_mut_slice.ensures.value ∙ sym row.ok.0) in
    (is_read c.args.numbers n row.items _ c.in_ok-write_row.ensures.sparse
    c.in_ok-write_row.ensures.small
    (written ∙ c.read.ensures
    ∙ ap (read_entries c.args.numbers) c.as_mut_slice.ensures.value)).value
    ∙ ap (arithmetic_of c.args.numbers).read
    (dense_named f (component_in r.component) n r.place (length r.component) c.args.name row.items
    c.in_ok-write_row.ensures.sparse place order c.in_ok-write_row.ensures.row)
