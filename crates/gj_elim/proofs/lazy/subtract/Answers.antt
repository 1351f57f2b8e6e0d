use Rattle.std.proofs.Common.{rules, pos, get_or, ℤ, ◌<◌, ◌^◌, unsigned_abs, sym, subst, arith}
use Rattle.std.proofs.lemmas.Int.{to_z-of_z}
use mir.Syntax.{w64}
use Rattle.gj_elim.proofs.LazyRows.{code_product, code_subtraction, combined_end, combined_from, read_factor}
use Rattle.gj_theory.proofs.CombinedRows.{combined_more}
use Rattle.gj_elim.proofs.lazy.subtract.Goals as goal

pub overflow_sub-row : goal.overflow_sub-row
overflow_sub-row c =
    (code_subtraction (get_or c.loop-i.row c.loop-i.i (pos 0)) c.args.factor
    (get_or c.args.kept.now c.loop-i.i (pos 0))
    (search rules) c.ranges.factor (search rules)
    (subst (λ (x : ℤ). unsigned_abs x < 2 ^ 62)
    (sym (c.loop-i.invariant.later c.loop-i.i (omega arith))) (c.requires.row c.loop-i.i))
    (c.requires.kept c.loop-i.i) (c.requires.entries c.loop-i.i)).fits

pub loop-i-preserved : goal.loop-i-preserved
loop-i-preserved c =
    let w = to_z-of_z w64 c.args.factor c.ranges.factor in
    let here = code_subtraction (get_or c.loop-i.row c.loop-i.i (pos 0)) c.args.factor
    (get_or c.args.kept.now c.loop-i.i (pos 0))
    (search rules) c.ranges.factor (search rules)
    (subst (λ (x : ℤ). unsigned_abs x < 2 ^ 62)
    (sym (c.loop-i.invariant.later c.loop-i.i (omega arith))) (c.requires.row c.loop-i.i))
    (c.requires.kept c.loop-i.i) (c.requires.entries c.loop-i.i) in
    read_factor _ _ _ _ _ _ _ w
    (combined_more (pos 1) c.args.factor _ _ c.loop-i.row c.loop-i.i _
    (simp w at c.loop-i.invariant) (omega arith) here.value here.narrow)

pub returns : goal.returns
returns c =
    let w = to_z-of_z w64 c.args.factor c.ranges.factor in
    combined_end (pos 1) c.args.factor c.args.row.now c.args.kept.now c.loop-i.row c.args.from
    c.args.to c.loop-i.i (simp w at c.loop-i.invariant)
    c.requires.row_zero c.requires.kept_zero (omega arith) c.requires.columns c.loop-i.auto.row

pub loop-i-init : goal.loop-i-init
loop-i-init c =
    read_factor _ _ _ _ _ _ _ (to_z-of_z w64 c.args.factor c.ranges.factor)
    (combined_from (pos 1) c.args.factor c.args.row.now c.args.kept.now c.args.from c.args.to
    c.requires.row_zero c.requires.kept_zero)

pub overflow_cast-row : goal.overflow_cast-row
overflow_cast-row c =
    (code_product c.args.factor (get_or c.args.kept.now c.loop-i.i (pos 0)) c.ranges.factor
    (search rules) (c.requires.kept c.loop-i.i) (c.requires.entries c.loop-i.i)).entry

pub overflow_mul-row : goal.overflow_mul-row
overflow_mul-row c =
    (code_product c.args.factor (get_or c.args.kept.now c.loop-i.i (pos 0)) c.ranges.factor
    (search rules) (c.requires.kept c.loop-i.i) (c.requires.entries c.loop-i.i)).product
