use Rattle.std.proofs.Common.{rules, pos, get_or, ◌*ℤ◌, ℤ, ◌<◌, ◌^◌, unsigned_abs, sym, subst, arith}
use Rattle.gj_elim.proofs.LazyRows.{code_difference, code_factor, code_product, combined_end, combined_from}
use Rattle.gj_theory.proofs.CombinedRows.{combined_more}
use Rattle.gj_elim.proofs.lazy.scale_and_subtract.Goals as goal

pub overflow_sub-row : goal.overflow_sub-row
overflow_sub-row c =
    (code_difference c.args.factors.row (get_or c.loop-i.row c.loop-i.i (pos 0)) c.args.factors.kept
    (get_or c.args.kept.now c.loop-i.i (pos 0))
    (search rules) (search rules) (search rules) (search rules)
    (subst (λ (x : ℤ). unsigned_abs (c.args.factors.row *ℤ x) < 2 ^ 62)
    (sym (c.loop-i.invariant.later c.loop-i.i (omega arith))) (c.requires.row c.loop-i.i))
    (c.requires.kept c.loop-i.i) (c.requires.entries c.loop-i.i)).fits

pub loop-i-preserved : goal.loop-i-preserved
loop-i-preserved c =
    let here = code_difference c.args.factors.row (get_or c.loop-i.row c.loop-i.i (pos 0))
    c.args.factors.kept (get_or c.args.kept.now c.loop-i.i (pos 0))
    (search rules) (search rules) (search rules) (search rules)
    (subst (λ (x : ℤ). unsigned_abs (c.args.factors.row *ℤ x) < 2 ^ 62)
    (sym (c.loop-i.invariant.later c.loop-i.i (omega arith))) (c.requires.row c.loop-i.i))
    (c.requires.kept c.loop-i.i) (c.requires.entries c.loop-i.i) in
    combined_more _ _ _ _ c.loop-i.row c.loop-i.i _ c.loop-i.invariant
    (omega arith) here.value here.narrow

pub returns : goal.returns
returns c =
    combined_end c.args.factors.row c.args.factors.kept c.args.row.now c.args.kept.now c.loop-i.row
    c.args.from c.args.to c.loop-i.i c.loop-i.invariant
    c.requires.row_zero c.requires.kept_zero (omega arith) c.requires.columns c.loop-i.auto.row

pub loop-i-init : goal.loop-i-init
loop-i-init c =
    combined_from c.args.factors.row c.args.factors.kept c.args.row.now c.args.kept.now c.args.from
    c.args.to c.requires.row_zero
    c.requires.kept_zero

pub overflow_mul-row : goal.overflow_mul-row
overflow_mul-row c =
    code_factor c.args.factors.row (get_or c.loop-i.row c.loop-i.i (pos 0)) (search rules)
    (search rules)
    (subst (λ (x : ℤ). unsigned_abs (c.args.factors.row *ℤ x) < 2 ^ 62)
    (sym (c.loop-i.invariant.later c.loop-i.i (omega arith))) (c.requires.row c.loop-i.i))

pub overflow_cast-row : goal.overflow_cast-row
overflow_cast-row c =
    (code_product c.args.factors.kept (get_or c.args.kept.now c.loop-i.i (pos 0)) (search rules)
    (search rules) (c.requires.kept c.loop-i.i)
    (c.requires.entries c.loop-i.i)).entry

pub overflow_mul-row-in-loop-i : goal.overflow_mul-row-in-loop-i
overflow_mul-row-in-loop-i c =
    (code_product c.args.factors.kept (get_or c.args.kept.now c.loop-i.i (pos 0)) (search rules)
    (search rules) (c.requires.kept c.loop-i.i)
    (c.requires.entries c.loop-i.i)).product
