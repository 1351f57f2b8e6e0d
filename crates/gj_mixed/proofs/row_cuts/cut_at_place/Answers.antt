use Rattle.std.proofs.Common.{All, List, sym, subst, subst₂}
use Rattle.gj_shape.specs.Limits.{IsRowNumber}
use Rattle.gj_rule.specs.Kind.{IsKindValue}
use Rattle.gj_row.specs.declared.tableau.Entry.{Entry}
use Rattle.gj_cut.specs.declared.cut.Term.{Term}
use Rattle.gj_cut.proofs.RowTerms.{entries_in_range, values_of}
use Rattle.gj_cut.specs.RowCuts.{IsTermOf}
use Rattle.gj_mixed.specs.MixedCuts.{IsWeightTermOf, MixedHoldsFor, whole_entries, continuous_entries}
use Rattle.gj_mixed.specs.Slopes.{IsWeight}
use Rattle.gj_mixed.specs.declared.cut.MixedCut.TheVariants.{Cut}
use Rattle.gj_mixed.proofs.MixedTerms.{mixed_kind_holds}
use Rattle.gj_mixed.proofs.row_cuts.cut_at_place.Goals as goal

pub terms_of-requires-clause-range : goal.terms_of-requires-clause-range
terms_of-requires-clause-range g c =
    subst (λ (entries : List Entry). All (λ e. IsRowNumber e.value) entries)
    (sym c.as_slice.ensures)
    (entries_in_range c.args.row.now c.requires.limits)

pub returns-clause-holds : goal.returns-clause-holds
returns-clause-holds g c minimal =
    let rule = c.args.rule.now in
    let slopes = c.args.slopes.now in
    let continuous = c.args.continuous.now in
    let row = c.args.row.now in
    let answers = g.E.Evaluator.answers in
    let weighs = g.G.Evaluator.answers in
    let terms = c.in_ok-terms.field-0.terms.items in
    let weights = c.in_ok-terms.field-0.weights.items in
    let made = c.in_ok-terms.ensures in
    subst₂ (λ (ts ws : List Term). MixedHoldsFor row (Cut ts ws)) (sym c.of.ensures)
    (sym c.of-2.ensures)
    (mixed_kind_holds rule.kind slopes.up slopes.down row terms weights c.requires.bounds minimal
    c.requires.side.1 c.requires.slopes
    (values_of (IsTermOf answers rule) (IsKindValue rule.kind)
    (whole_entries continuous c.as_slice.result.now) terms
    (λ e t p. (p.of_kind.entry_is, p.of_kind.value_is)) made.terms)
    (values_of (IsWeightTermOf weighs slopes) (IsWeight slopes.up slopes.down)
    (continuous_entries continuous c.as_slice.result.now) weights
    (λ e t p. (p.of_slopes.entry_is, p.of_slopes.weight_is)) made.weights))
