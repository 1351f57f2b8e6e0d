use Rattle.std.proofs.Common.{◌↔◌, sym, subst, ◌∙◌}
use Rattle.gj_check_minimal.specs.Tables.{HaveTwoPeriods, IsSubadditiveList, HasSubadditiveTotals}
use Rattle.gj_check_minimal.proofs.TestsInTurn.{in_other_words}
use Rattle.gj_check_minimal.proofs.TableTests.{have_periods}
use Rattle.gj_check_minimal.proofs.GridTests.{grid_totals, pairs_are_vertices}
use Rattle.gj_check_minimal.proofs.minimality.is_subadditive_in.Goals as goal

pub is_subadditive_by-requires-clause-periods : goal.is_subadditive_by-requires-clause-periods
is_subadditive_by-requires-clause-periods g c =
    subst (HaveTwoPeriods g.E.Entry.number c.write_two_periods.new.entries)
    (c.order.ensures.limits.value_length ∙ sym c.order.ensures.value)
    (have_periods g.E.Entry.number _ _ c.write_two_periods.ensures)

pub returns : goal.returns
returns g c =
    let f = c.args.shape.now in
    let l = c.order.ensures.limits in
    let totals = subst (λ p. HasSubadditiveTotals f.value p ↔ IsSubadditiveList f.value)
    (sym c.place.ensures.value)
    (grid_totals f l c.requires.symmetric) in
    let all = c.is_subadditive_by.ensures f.value (l.value_length ∙ sym c.order.ensures.value)
    c.write_two_periods.ensures totals in
    in_other_words _ _ _ all (pairs_are_vertices f l)
