use Rattle.std.proofs.Common.{rules, pos, get_or, refl, ap, ◌∙◌, arith}
use Rattle.std.proofs.lemmas.List.Elements.{All-get_or}
use Rattle.gj_frac.specs.Fraction.{Fits}
use Rattle.gj_theory.proofs.WideNumbers.{some_from_bits, zero_from_bits, read_fitting}
use Rattle.gj_sparse_elim.proofs.SparseRows.{gathered_zero, gathered_more, gathered_end}
use Rattle.gj_sparse_elim.proofs.entry.entries_of.Goals as goal
use Rattle.gj_sparse_elim.proofs.entry.entries_of.Goals.{then-row-column-ne0+in_ok-push, else-row-column-ne0}

pub loop-column-preserved : goal.loop-column-preserved
loop-column-preserved c =
    elim c.if-row-column-ne0.branch [
      | then-row-column-ne0+in_ok-push w ↦
          let fits : Fits (get_or c.args.row.now c.loop-column.column (pos 0)) =
          All-get_or Fits c.args.row.now c.loop-column.column (pos 0) (omega arith)
          c.requires.fits in
          gathered_more c.args.row.now c.loop-column.entries.items _ c.loop-column.column _
          c.loop-column.invariant refl
          (read_fitting _ fits) (some_from_bits (get_or c.args.row.now c.loop-column.column (pos 0))
          w.if-row-column-ne0.true) fits
          (ap (λ v. v.items) w.entries-is ∙ w.in_ok-push.ensures.items)
      | else-row-column-ne0 w ↦
          let none = zero_from_bits (get_or c.args.row.now c.loop-column.column (pos 0))
          (search rules) w.if-row-column-ne0.false in
          let on = gathered_zero c.args.row.now c.loop-column.entries.items c.loop-column.column
          c.loop-column.invariant none in
          rw (ap (λ v. v.items) w.entries-is) on
    ]

pub returns-clause-sparse : goal.returns-clause-sparse
returns-clause-sparse c =
    (gathered_end c.args.row.now c.loop-column.entries.items c.loop-column.column
    c.loop-column.invariant (omega arith)).0

pub returns-clause-value : goal.returns-clause-value
returns-clause-value c =
    (gathered_end c.args.row.now c.loop-column.entries.items c.loop-column.column
    c.loop-column.invariant (omega arith)).1
