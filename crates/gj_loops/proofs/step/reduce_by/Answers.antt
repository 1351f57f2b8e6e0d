use Rattle.std.proofs.Common.{rules, pos, get_or}
use Rattle.std.proofs.lemmas.Int.{to_z-of_z}
use mir.Syntax.{w128}
use Rattle.gj_frac.proofs.Refusals.{on_err}
use Rattle.gj_theory.proofs.ReducedRows.{code_factors, reduced_value, reduced_wide, reduced_narrow, combined_fits}
use Rattle.gj_loops.proofs.step.reduce_by.Goals as goal

pub returns-in_err-combine-clause-wide : goal.returns-in_err-combine-clause-wide
returns-in_err-combine-clause-wide c =
    let x = to_z-of_z w128 (get_or c.args.row.now c.args.column (pos 0)) (search rules) in
    let e = to_z-of_z w128 (get_or c.args.kept.now c.args.column (pos 0)) (search rules) in
    let d = simp (x, e) at c.common_divisor-divisor.ensures.value in
    let f = code_factors c.args.kept.now c.args.row.now c.args.column
    c.common_divisor-divisor.result
    (search rules) (search rules) (search rules) c.common_divisor-divisor.ensures.positive d in
    on_err _ _ (reduced_wide c.args.kept.now c.args.row.now c.args.column _ _ f
    c.in_err-combine.ensures.wide)

pub divide-requires : goal.divide-requires
divide-requires c = combined_fits _ _ _ _ c.combine.new.row c.in_ok-combine.ensures.value
    c.in_ok-combine.ensures.fits

pub returns-clause-value : goal.returns-clause-value
returns-clause-value c =
    let x = to_z-of_z w128 (get_or c.args.row.now c.args.column (pos 0)) (search rules) in
    let e = to_z-of_z w128 (get_or c.args.kept.now c.args.column (pos 0)) (search rules) in
    let d = simp (x, e) at c.common_divisor-divisor.ensures.value in
    let f = code_factors c.args.kept.now c.args.row.now c.args.column
    c.common_divisor-divisor.result
    (search rules) (search rules) (search rules) c.common_divisor-divisor.ensures.positive d in
    reduced_value c.args.kept.now c.args.row.now c.combine.new.row c.divide.new.row c.args.column _
    _ f
    c.in_ok-combine.ensures.value c.divide.ensures.value

pub returns-clause-narrow : goal.returns-clause-narrow
returns-clause-narrow c =
    let x = to_z-of_z w128 (get_or c.args.row.now c.args.column (pos 0)) (search rules) in
    let e = to_z-of_z w128 (get_or c.args.kept.now c.args.column (pos 0)) (search rules) in
    let d = simp (x, e) at c.common_divisor-divisor.ensures.value in
    let f = code_factors c.args.kept.now c.args.row.now c.args.column
    c.common_divisor-divisor.result
    (search rules) (search rules) (search rules) c.common_divisor-divisor.ensures.positive d in
    reduced_narrow c.args.kept.now c.args.row.now c.args.column _ _ f c.in_ok-combine.ensures.fits
