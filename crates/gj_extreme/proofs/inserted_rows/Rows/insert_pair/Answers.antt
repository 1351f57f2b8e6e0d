use Rattle.std.proofs.Common.{◌<◌, length, set, refl, sym, ap, subst, ◌∙◌}
use Rattle.std.proofs.lemmas.List.Elements.{All-get_or}
use Rattle.gj_shape.specs.SlopeRows.{row_of, component_in}
use Rattle.gj_shape.specs.declared.extremality.RowName.TheVariants.{Pair}
use Rattle.gj_elim.proofs.Keeping.{same_error}
use Rattle.gj_extreme.specs.SeenPairs.{IsSeenRow}
use Rattle.gj_extreme.proofs.TakenRows.{row_is_seen}
use Rattle.gj_extreme.proofs.SeenRows.{pair_is_set, pair_is_below}
use Rattle.gj_extreme.proofs.inserted_rows.Rows.insert_pair.Goals as goal

pub returns-then-have_same_row-clause-to_come : goal.returns-then-have_same_row-clause-to_come
returns-then-have_same_row-clause-to_come c = λ rest h.
    let f = c.args.shape.now in
    let comp = component_in c.args.system.now.component in
    let n = c.args.system.now.columns in
    let p = c.index-seen.result.now in
    let low : c.place-place.result < length c.args.self.now.seen.pairs.items =
    c.place-place.ensures in
    let seen = subst (IsSeenRow f comp n h.handed_over.before) (sym c.index-seen.ensures)
    (All-get_or (IsSeenRow f comp n h.handed_over.before) c.args.self.now.seen.pairs.items
    c.place-place.result p low h.handed_over.seen) in
    let same = (c.have_same_row.ensures f.place).0 c.if-have_same_row.true in
    row_is_seen f comp n c.args.self.now c.args.a c.args.b rest p h seen
    (ap (λ q. row_of comp n q f.place (Pair p.a p.b)) (sym c.requires.order) ∙ same
    ∙ ap (λ q. row_of comp n q f.place (Pair c.args.a c.args.b)) c.requires.order)

pub returns-in_err-insert-clause-wide : goal.returns-in_err-insert-clause-wide
returns-in_err-insert-clause-wide c = λ e rest h.
    c.in_err-insert.ensures.wide
    (same_error c.from_residual.result c.in_err-insert.field-0.0 _ c.from_residual.ensures.0
    c.from_residual.ensures.1 e) rest h

pub returns-clause-to_come : goal.returns-clause-to_come
returns-clause-to_come c = λ rest h.
    pair_is_set c.args.shape.now (component_in c.args.system.now.component)
    c.args.system.now.columns c.insert.new.self _
    c.place-place.result (record { a = c.args.a; b = c.args.b }) rest refl
    (c.in_ok-insert.ensures.to_come rest h)

pub returns-clause-seen : goal.returns-clause-seen
returns-clause-seen c =
    pair_is_below c.args.shape.now.order c.args.self.now.seen _ c.place-place.result
    (record { a = c.args.a; b = c.args.b }) c.requires.name
    (ap (λ s. s.codes) c.insert.ensures.seen)
    (ap (λ s. set s.pairs.items c.place-place.result (record { a = c.args.a; b = c.args.b }))
    c.insert.ensures.seen)
    c.requires.seen
