use Rattle.std.proofs.Common.{rules, ◌≡◌, pos, get_or, neg_ℤ, map, sym, subst, ap, ◌∙◌, arith}
use Rattle.std.specs.Prelude.{All}
use Rattle.std.proofs.lemmas.Int.{to_z-of_z}
use mir.Syntax.{w128}
use Rattle.gj_frac.specs.Fraction.{Fits}
use Rattle.gj_theory.proofs.DividedRows.{over_more, over_all, over_open, read_negated, all_negated, kept_negative, kept_positive}
use Rattle.gj_loops.proofs.step.make_kept.Goals as goal

pub loop-x-preserved : goal.loop-x-preserved
loop-x-preserved c =
    over_more neg_ℤ c.divide.new.row c.loop-x.row c.loop-x.x-index _
    (omega arith) c.loop-x.auto.row c.loop-x.invariant
    (read_negated (get_or c.loop-x.row c.loop-x.x-index (pos 0))
    (over_open neg_ℤ Fits c.divide.new.row c.loop-x.row c.loop-x.x-index c.loop-x-test.true
    c.loop-x.auto.row c.loop-x.invariant
    c.divide.ensures.fits))

pub returns-after-loop-x-clause-value : goal.returns-after-loop-x-clause-value
returns-after-loop-x-clause-value c =
    let x = to_z-of_z w128 (get_or c.args.row.now c.args.column (pos 0)) (search rules) in
    kept_negative c.args.row.now c.loop-x.row c.args.column (simp x at c.if-is_negative.true)
    (over_all neg_ℤ c.divide.new.row c.loop-x.row c.loop-x.x-index
    (omega arith) c.loop-x.auto.row c.loop-x.invariant
    ∙ ap (map neg_ℤ) c.divide.ensures.value)

pub returns-after-loop-x-clause-fits : goal.returns-after-loop-x-clause-fits
returns-after-loop-x-clause-fits c =
    let turned : c.loop-x.row ≡ map neg_ℤ c.divide.new.row =
    over_all neg_ℤ c.divide.new.row c.loop-x.row c.loop-x.x-index
    (omega arith) c.loop-x.auto.row c.loop-x.invariant in
    subst (All Fits) (sym turned) (all_negated c.divide.new.row c.divide.ensures.fits)

pub returns-else-is_negative-clause-value : goal.returns-else-is_negative-clause-value
returns-else-is_negative-clause-value c =
    let x = to_z-of_z w128 (get_or c.args.row.now c.args.column (pos 0)) (search rules) in
    kept_positive c.args.row.now c.divide.new.row c.args.column
    (simp x at c.if-is_negative.false) c.divide.ensures.value
