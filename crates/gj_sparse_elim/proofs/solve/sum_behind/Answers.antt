use Rattle.std.proofs.Common.{rules, ◌≢◌, ℤ, pos, ◌<ℤ◌, ◌*ℤ◌, get_or, sym, ap, subst, ◌∙◌, arith}
use Rattle.std.proofs.lemmas.Int.{ints, to_z-of_z}
use mir.Syntax.{w128}
use Rattle.gj_frac.proofs.Refusals.{on_err}
use Rattle.gj_frac.specs.Fraction.{Fits}
use Rattle.gj_shape.specs.Elimination.{at_column}
use Rattle.gj_elim.proofs.Solving.{summed_wide_product, summed_wide_sum}
use Rattle.gj_sparse_elim.proofs.SparseRows.{no_entry, first_entry, length-dense}
use Rattle.gj_sparse_elim.proofs.Summing.{summed_start, summed_at, summed_next, summed_end}
use Rattle.gj_sparse_elim.proofs.solve.sum_behind.Goals as goal

not_zero : (x : ℤ) → pos 0 <ℤ x → x ≢ pos 0
not_zero x positive e = let low : pos 0 <ℤ pos 0 = subst (λ (z : ℤ). pos 0 <ℤ z) e
    positive in absurd (omega (arith, ints))

pub loop-i-init : goal.loop-i-init
loop-i-init c =
    summed_start c.args.row.now c.args.numbers.now c.args.column
    (first_entry _ c.args.column c.args.row.now c.requires.sparse c.requires.within c.requires.zero
    (not_zero _ c.requires.positive)) c.requires.within

pub bounds-numbers-row : goal.bounds-numbers-row
bounds-numbers-row c =
    (summed_at c.args.row.now c.args.numbers.now c.args.column c.loop-i.i _ c.loop-i.invariant
    (omega arith)).below

pub returns-in_err-product-clause-wide : goal.returns-in_err-product-clause-wide
returns-in_err-product-clause-wide c =
    let at = summed_at c.args.row.now c.args.numbers.now c.args.column c.loop-i.i _
    c.loop-i.invariant (omega arith) in
    let e = to_z-of_z w128 (get_or c.args.row.now c.loop-i.i no_entry).factor (search rules) in
    let x = to_z-of_z w128 (get_or c.args.numbers.now
    (get_or c.args.row.now c.loop-i.i no_entry).column (pos 0)) (search rules) in
    on_err _ _
    (summed_wide_product _ c.args.numbers.now c.args.column _ _ at.summed at.inside
    (length-dense _ c.args.row.now)
    (λ fits. (simp (e, x) at c.in_err-product.ensures)
    (subst (λ (y : ℤ). Fits (y *ℤ at_column c.args.numbers.now
    (get_or c.args.row.now c.loop-i.i no_entry).column)) at.factor fits)))

pub returns-in_err-total-clause-wide : goal.returns-in_err-total-clause-wide
returns-in_err-total-clause-wide c =
    let at = summed_at c.args.row.now c.args.numbers.now c.args.column c.loop-i.i _
    c.loop-i.invariant (omega arith) in
    let e = to_z-of_z w128 (get_or c.args.row.now c.loop-i.i no_entry).factor (search rules) in
    let x = to_z-of_z w128 (get_or c.args.numbers.now
    (get_or c.args.row.now c.loop-i.i no_entry).column (pos 0)) (search rules) in
    let p = to_z-of_z w128 c.in_ok-product.field-0 (search rules) in
    let product = simp (e, x) at c.in_ok-product.ensures in
    on_err _ _
    (summed_wide_sum _ c.args.numbers.now c.args.column _ _ c.in_ok-product.field-0 at.summed
    at.inside (length-dense _ c.args.row.now)
    (product.1 ∙ ap (λ y. y *ℤ at_column c.args.numbers.now
    (get_or c.args.row.now c.loop-i.i no_entry).column) (sym at.factor))
    (simp p at c.in_err-total.ensures))

pub loop-i-preserved : goal.loop-i-preserved
loop-i-preserved c =
    let at = summed_at c.args.row.now c.args.numbers.now c.args.column c.loop-i.i _
    c.loop-i.invariant (omega arith) in
    let e = to_z-of_z w128 (get_or c.args.row.now c.loop-i.i no_entry).factor (search rules) in
    let x = to_z-of_z w128 (get_or c.args.numbers.now
    (get_or c.args.row.now c.loop-i.i no_entry).column (pos 0)) (search rules) in
    let p = to_z-of_z w128 c.in_ok-product.field-0 (search rules) in
    let product = simp (e, x) at c.in_ok-product.ensures in
    let sum = simp p at c.in_ok-total.ensures in
    let read = to_z-of_z w128 c.in_ok-total.total (search rules) ∙ sum.1 in
    summed_next c.args.row.now c.args.numbers.now c.args.column c.loop-i.i _ _
    c.in_ok-product.field-0 _ at
    product.1 (subst Fits (sym product.1) product.0) read (subst Fits (sym read) sum.0)

pub returns-clause-value : goal.returns-clause-value
returns-clause-value c =
    (summed_end c.args.row.now c.args.numbers.now c.args.column c.loop-i.i _ c.loop-i.invariant
    (omega arith)).value

pub returns-clause-fits : goal.returns-clause-fits
returns-clause-fits c =
    (summed_end c.args.row.now c.args.numbers.now c.args.column c.loop-i.i _ c.loop-i.invariant
    (omega arith)).fits

pub returns-clause-narrow : goal.returns-clause-narrow
returns-clause-narrow c =
    (summed_end c.args.row.now c.args.numbers.now c.args.column c.loop-i.i _ c.loop-i.invariant
    (omega arith)).narrow
