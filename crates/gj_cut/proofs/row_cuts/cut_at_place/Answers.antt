use Rattle.std.proofs.Common.{All, List, sym, subst}
use Rattle.gj_shape.specs.Limits.{IsRowNumber}
use Rattle.gj_rule.specs.Kind.{IsKindValue}
use Rattle.gj_row.specs.declared.tableau.Entry.{Entry}
use Rattle.gj_cut.specs.RowCuts.{IsTermOf, HoldsFor}
use Rattle.gj_cut.specs.declared.cut.Term.{Term}
use Rattle.gj_cut.specs.declared.cut.RowCut.TheVariants.{Cut}
use Rattle.gj_cut.proofs.RowTerms.{entries_in_range, kind_holds, values_of}
use Rattle.gj_cut.proofs.row_cuts.cut_at_place.Goals as goal

pub terms-requires : goal.terms-requires
terms-requires g c =
    subst (λ (entries : List Entry). All (λ e. IsRowNumber e.value) entries)
    (sym c.as_slice.ensures)
    (entries_in_range c.args.row.now c.requires.limits)

pub returns-clause-holds : goal.returns-clause-holds
returns-clause-holds g c minimal =
    let rule = c.args.rule.now in
    let row = c.args.row.now in
    let answers = g.E.Evaluator.answers in
    let items = c.in_ok-terms.terms.items in
    subst (λ (terms : List Term). HoldsFor row (Cut terms)) (sym c.of.ensures)
    (kind_holds rule.kind row items c.requires.bounds minimal c.requires.side.1
    (values_of (IsTermOf answers rule) (IsKindValue rule.kind) c.as_slice.result.now items
    (λ e t p. (p.of_kind.entry_is, p.of_kind.value_is)) c.in_ok-terms.ensures))
