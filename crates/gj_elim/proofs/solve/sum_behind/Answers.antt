use Rattle.std.proofs.Common.{rules, pos, get_or, sym, subst, ◌∙◌, arith}
use Rattle.std.proofs.lemmas.Int.{to_z-of_z}
use mir.Syntax.{w128}
use Rattle.gj_frac.proofs.Refusals.{on_err}
use Rattle.gj_frac.specs.Fraction.{Fits}
use Rattle.std.proofs.lemmas.Result.{err_from_is_err_and}
use Rattle.gj_elim.proofs.Solving.{summed_more, summed_wide_product, summed_wide_sum}
use Rattle.gj_elim.proofs.solve.sum_behind.Goals as goal

pub loop-i-preserved : goal.loop-i-preserved
loop-i-preserved c =
    let x = to_z-of_z w128 (get_or c.args.row.now c.loop-i.i (pos 0)) (search rules) in
    let e = to_z-of_z w128 (get_or c.args.numbers.now c.loop-i.i (pos 0)) (search rules) in
    let p = to_z-of_z w128 c.in_ok-product.field-0 (search rules) in
    let product = simp (x, e) at c.in_ok-product.ensures in
    let sum = simp p at c.in_ok-total.ensures in
    let read = to_z-of_z w128 c.in_ok-total.total (search rules) ∙ sum.1 in
    summed_more c.args.row.now c.args.numbers.now c.args.column c.loop-i.i _ c.in_ok-product.field-0
    _ c.loop-i.invariant (omega arith)
    c.requires.columns product.1 (subst Fits (sym product.1) product.0) read
    (subst Fits (sym read) sum.0)

pub returns-in_err-product-clause-wide : goal.returns-in_err-product-clause-wide
returns-in_err-product-clause-wide c =
    let x = to_z-of_z w128 (get_or c.args.row.now c.loop-i.i (pos 0)) (search rules) in
    let e = to_z-of_z w128 (get_or c.args.numbers.now c.loop-i.i (pos 0)) (search rules) in
    on_err _ _
    (summed_wide_product c.args.row.now c.args.numbers.now c.args.column c.loop-i.i _
    c.loop-i.invariant (omega arith)
    c.requires.columns (simp (x, e) at c.in_err-product.ensures))

pub returns-in_err-total-clause-wide : goal.returns-in_err-total-clause-wide
returns-in_err-total-clause-wide c =
    let x = to_z-of_z w128 (get_or c.args.row.now c.loop-i.i (pos 0)) (search rules) in
    let e = to_z-of_z w128 (get_or c.args.numbers.now c.loop-i.i (pos 0)) (search rules) in
    let p = to_z-of_z w128 c.in_ok-product.field-0 (search rules) in
    let product = simp (x, e) at c.in_ok-product.ensures in
    on_err _ _
    (summed_wide_sum c.args.row.now c.args.numbers.now c.args.column c.loop-i.i _
    c.in_ok-product.field-0 c.loop-i.invariant (omega arith)
    c.requires.columns product.1 (simp p at c.in_err-total.ensures))

pub returns-in_err-product-clause-value : goal.returns-in_err-product-clause-value
returns-in_err-product-clause-value c =
    rw (err_from_is_err_and c.from_residual.result c.from_residual.ensures.1).1 tt

pub returns-in_err-product-clause-fits : goal.returns-in_err-product-clause-fits
returns-in_err-product-clause-fits c =
    rw (err_from_is_err_and c.from_residual.result c.from_residual.ensures.1).1 tt

pub returns-in_err-product-clause-narrow : goal.returns-in_err-product-clause-narrow
returns-in_err-product-clause-narrow c =
    rw (err_from_is_err_and c.from_residual.result c.from_residual.ensures.1).1 tt

pub returns-in_err-total-clause-value : goal.returns-in_err-total-clause-value
returns-in_err-total-clause-value c =
    rw (err_from_is_err_and c.from_residual-in_err-total.result
    c.from_residual-in_err-total.ensures.1).1 tt

pub returns-in_err-total-clause-fits : goal.returns-in_err-total-clause-fits
returns-in_err-total-clause-fits c =
    rw (err_from_is_err_and c.from_residual-in_err-total.result
    c.from_residual-in_err-total.ensures.1).1 tt

pub returns-in_err-total-clause-narrow : goal.returns-in_err-total-clause-narrow
returns-in_err-total-clause-narrow c =
    rw (err_from_is_err_and c.from_residual-in_err-total.result
    c.from_residual-in_err-total.ensures.1).1 tt
