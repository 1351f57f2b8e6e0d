use Rattle.std.proofs.Common.{rules, ◌↔◌, pos, get_or, length, IsTrue, refl, sym, subst}
use Rattle.std.proofs.lemmas.Int.{to_z-of_z}
use mir.Syntax.{w128}
use Rattle.gj_shape.specs.Elimination.{at_column}
use Rattle.gj_proof.specs.declared.numbers.Numbers.{Numbers}
use Rattle.gj_proof.specs.Rules.{MeetsPivotBy}
use Rattle.gj_check_groups.proofs.ResidueRows.{some_inverse}
use Rattle.gj_check_groups.proofs.group.meets_pivot_by.Goals as goal

pub bounds-row-column : goal.bounds-row-column
bounds-row-column c = c.if-not-meets_pivot.ensures.within refl

pub returns-in-Residues : goal.returns-in-Residues
returns-in-Residues c kept rows =
    let row = c.args.row.now in
    let met = (c.if-not-meets_pivot.ensures.outcome kept rows).0 refl in
    let x = to_z-of_z w128 (get_or row c.args.column (pos 0)) (search rules) in
    let some = some_inverse c.is_some.result c.inverse_modulo.result (at_column row c.args.column)
    (simp x at c.inverse_modulo.ensures)
    c.is_some.ensures in
    subst (λ (m : Numbers). IsTrue c.is_some.result
    ↔ MeetsPivotBy m (length row) kept row c.args.column) (sym c.in-Residues.is)
    (λ t. (met, some.0 t), λ h. some.1 h.1)
