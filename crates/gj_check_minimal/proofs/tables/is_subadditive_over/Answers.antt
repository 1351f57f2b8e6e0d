use Rattle.std.proofs.Common.{refl, sym, subst}
use Rattle.gj_check_minimal.specs.Tables.{AreTwoPeriods}
use Rattle.gj_check_minimal.proofs.TableTests.{have_periods, totals_decide}
use Rattle.gj_check_minimal.proofs.tables.is_subadditive_over.Goals as goal

pub two_periods-requires : goal.two_periods-requires
two_periods-requires g c = (c.args.place, c.args.scale, c.requires.table, c.requires.fits)

pub is_subadditive_by-requires-clause-periods : goal.is_subadditive_by-requires-clause-periods
is_subadditive_by-requires-clause-periods g c =
    have_periods g.E.Entry.number _ c.args.values.now
    (subst (λ xs. AreTwoPeriods g.E.Entry.number xs c.args.values.now)
    (sym c.as_slice.ensures.value) c.in_ok-periods.ensures)

pub returns : goal.returns
returns g c =
    let values = c.args.values.now in
    let periods = subst (λ xs. AreTwoPeriods g.E.Entry.number xs values)
    (sym c.as_slice.ensures.value) c.in_ok-periods.ensures in
    c.is_subadditive_by.ensures values refl periods
    (totals_decide values c.args.place c.args.scale c.requires.table c.requires.symmetric)
