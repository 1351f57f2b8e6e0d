use Rattle.std.proofs.Common.{length, sym, subst}
use Rattle.gj_proof.specs.declared.numbers.Numbers.{Numbers}
use Rattle.gj_proof.specs.Rules.{MeetsPivotBy}
use Rattle.gj_check_groups.specs.KeptTable.{IsKeptAt}
use Rattle.gj_check_groups.proofs.KeptRows.{kept_whole, kept_residues}
use Rattle.gj_check_groups.proofs.keep.make_kept_by.Goals as goal

pub returns-in-Whole-clause-kept : goal.returns-in-Whole-clause-kept
returns-in-Whole-clause-kept c =
    let row = c.args.row.now in
    subst (λ (m : Numbers). IsKeptAt m (length row) c.args.column c.make_kept.new.row)
    (sym c.in-Whole.is)
    (kept_whole c.requires.pivot.0 row c.make_kept.new.row c.args.column
    (subst (λ (m : Numbers). MeetsPivotBy m (length row) c.requires.pivot.0 row c.args.column)
    c.in-Whole.is c.requires.pivot.1)
    c.make_kept.ensures.value c.make_kept.ensures.fits)

pub returns-in-Residues-clause-kept : goal.returns-in-Residues-clause-kept
returns-in-Residues-clause-kept c =
    let row = c.args.row.now in
    subst (λ (m : Numbers). IsKeptAt m (length row) c.args.column c.make_kept_modulo.new.row)
    (sym c.in-Residues.is)
    (kept_residues row c.make_kept_modulo.new.row c.args.column c.make_kept_modulo.ensures)
