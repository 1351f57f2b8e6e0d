use Rattle.std.proofs.Common.{ℤ, List, subst, ◌∙◌}
use Rattle.gj_shape.specs.Elimination.{elimination, Passes}
use Rattle.gj_elim.proofs.Keeping.{same_error}
use Rattle.gj_residue.specs.declared.settling.Settled.TheVariants.{Residues}
use Rattle.gj_residue.proofs.SettledRows.{settled_answers, settled_plain, by_residues, wide_plain, wide_residues, wide_fault, wide_here}
use Rattle.std.proofs.lemmas.Result.{err_from_is_err_and}
use Rattle.gj_residue.proofs.settling.settle.Goals as goal

pub returns-in_err-settled_by-in-Ok-clause-wide : goal.returns-in_err-settled_by-in-Ok-clause-wide
returns-in_err-settled_by-in-Ok-clause-wide g c = λ e.
    wide_plain c.args.columns c.in-Ok.basis.columns (g.R.RowSource.all c.args.rows.now)
    (g.R.RowSource.left c.restart.new.self) c.in-Ok.basis.kept
    c.in-Ok.ensures.columns c.restart.ensures.left c.in-Ok.ensures.kept c.in-Ok.ensures.narrow
    (c.in_err-settled_by-in-Ok.ensures.wide
    (wide_fault c.from_residual.result c.in_err-settled_by-in-Ok.field-0.0 c.from_residual.ensures.0
    c.from_residual.ensures.1 e))

pub returns-in_ok-settled_by-in-Ok-clause-settled :
    goal.returns-in_ok-settled_by-in-Ok-clause-settled
returns-in_ok-settled_by-in-Ok-clause-settled g c =
    settled_plain c.args.columns c.in-Ok.basis.columns (g.R.RowSource.all c.args.rows.now)
    (g.R.RowSource.left c.restart.new.self) c.in-Ok.basis.kept
    c.in_ok-settled_by-in-Ok.field-0 c.in-Ok.ensures.columns c.restart.ensures.left
    c.requires.lengths c.in-Ok.ensures.kept c.in-Ok.ensures.narrow
    c.in_ok-settled_by-in-Ok.ensures.settled

pub returns-in_ok-settled_by-in-Ok-clause-answers :
    goal.returns-in_ok-settled_by-in-Ok-clause-answers
returns-in_ok-settled_by-in-Ok-clause-answers g c =
    settled_answers c.args.columns
    (g.R.RowSource.all c.args.rows.now) c.in_ok-settled_by-in-Ok.field-0 c.requires.lengths
    (settled_plain c.args.columns c.in-Ok.basis.columns (g.R.RowSource.all c.args.rows.now)
    (g.R.RowSource.left c.restart.new.self) c.in-Ok.basis.kept
    c.in_ok-settled_by-in-Ok.field-0 c.in-Ok.ensures.columns c.restart.ensures.left
    c.requires.lengths c.in-Ok.ensures.kept c.in-Ok.ensures.narrow
    c.in_ok-settled_by-in-Ok.ensures.settled)

pub returns-in_ok-log_by_residues-in-Err-Wide-clause-settled :
    goal.returns-in_ok-log_by_residues-in-Err-Wide-clause-settled
returns-in_ok-log_by_residues-in-Err-Wide-clause-settled g c =
    by_residues c.args.columns (g.R.RowSource.all c.args.rows.now)
    (g.R.RowSource.left c.restart-in-Err-Wide.new.self) c.of.result
    c.in_ok-log_by_residues-in-Err-Wide.field-0.items (c.restart-in-Err-Wide.ensures.left
    ∙ c.in-Err-Wide.ensures.rows ∙ c.restart.ensures.same)
    c.of.ensures
    (subst (λ (rs : List (List ℤ)). Passes (elimination c.args.columns rs).marked)
    c.restart.ensures.left
    (c.in-Err-Wide.ensures.wide (wide_here c.in-Err-Wide.field-0 c.in-Err-Wide.field-0-is)))
    c.in_ok-log_by_residues-in-Err-Wide.ensures.log

pub returns-in_ok-log_by_residues-in-Err-Wide-clause-answers :
    goal.returns-in_ok-log_by_residues-in-Err-Wide-clause-answers
returns-in_ok-log_by_residues-in-Err-Wide-clause-answers g c =
    settled_answers c.args.columns (g.R.RowSource.all c.args.rows.now)
    (Residues c.of.result) c.requires.lengths
    (returns-in_ok-log_by_residues-in-Err-Wide-clause-settled g c)

pub returns-in_err-log_by_residues-in-Err-Wide-clause-wide :
    goal.returns-in_err-log_by_residues-in-Err-Wide-clause-wide
returns-in_err-log_by_residues-in-Err-Wide-clause-wide g c = λ e.
    wide_residues c.args.columns (g.R.RowSource.all c.args.rows.now)
    (g.R.RowSource.left c.restart-in-Err-Wide.new.self)
    (c.restart-in-Err-Wide.ensures.left ∙ c.in-Err-Wide.ensures.rows ∙ c.restart.ensures.same)
    (subst (λ (rs : List (List ℤ)). Passes (elimination c.args.columns rs).marked)
    c.restart.ensures.left
    (c.in-Err-Wide.ensures.wide (wide_here c.in-Err-Wide.field-0 c.in-Err-Wide.field-0-is)))
    (c.in_err-log_by_residues-in-Err-Wide.ensures.wide
    (same_error c.from_residual-in_err-log_by_residues-in-Err-Wide.result
    c.in_err-log_by_residues-in-Err-Wide.field-0.0 _
    c.from_residual-in_err-log_by_residues-in-Err-Wide.ensures.0
    c.from_residual-in_err-log_by_residues-in-Err-Wide.ensures.1 e))

pub returns-in_err-settled_by-in-Ok-clause-settled :
    goal.returns-in_err-settled_by-in-Ok-clause-settled
returns-in_err-settled_by-in-Ok-clause-settled g c =
    rw (err_from_is_err_and c.from_residual.result c.from_residual.ensures.1).1 tt

pub returns-in_err-settled_by-in-Ok-clause-answers :
    goal.returns-in_err-settled_by-in-Ok-clause-answers
returns-in_err-settled_by-in-Ok-clause-answers g c =
    rw (err_from_is_err_and c.from_residual.result c.from_residual.ensures.1).1 tt
