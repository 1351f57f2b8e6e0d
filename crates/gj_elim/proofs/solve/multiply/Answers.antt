use Rattle.std.proofs.Common.{rules, ◌*ℤ◌, pos, get_or, subst, below_more, ◌∙◌, to_z, of_z, arith}
use Rattle.std.proofs.lemmas.Int.{to_z-of_z}
use mir.Syntax.{w128}
use Rattle.gj_frac.proofs.Refusals.{on_err}
use Rattle.gj_frac.specs.Fraction.{Fits}
use Rattle.gj_theory.proofs.DividedRows.{over_more, over_same}
use Rattle.gj_elim.proofs.Solving.{scaled_wide, scaled_narrow}
use Rattle.gj_elim.proofs.solve.multiply.Goals as goal

pub loop-x-preserved : goal.loop-x-preserved
loop-x-preserved c =
    let x = to_z-of_z w128 (get_or c.loop-x.numbers c.loop-x.x-index (pos 0)) (search rules) in
    let p = simp x at c.in_ok-x.ensures in
    let same = over_same (λ y. to_z w128 (of_z w128 c.args.factor) *ℤ y) c.args.numbers.now
    c.loop-x.numbers c.loop-x.x-index (omega arith)
    c.loop-x.auto.numbers c.loop-x.invariant.done in record {
      done = over_more (λ y. to_z w128 (of_z w128 c.args.factor) *ℤ y) c.args.numbers.now
          c.loop-x.numbers c.loop-x.x-index _ (omega arith)
          c.loop-x.auto.numbers c.loop-x.invariant.done
          (to_z-of_z w128 c.in_ok-x.field-0 (search rules) ∙ p.1);
      fit = below_more _ c.loop-x.x-index c.loop-x.invariant.fit
          (subst (λ y. Fits (to_z w128 (of_z w128 c.args.factor) *ℤ y)) same p.0);
    }

pub returns-in_err-x-clause-wide : goal.returns-in_err-x-clause-wide
returns-in_err-x-clause-wide c =
    let u = to_z-of_z w128 c.args.factor c.ranges.factor in
    let x = to_z-of_z w128 (get_or c.loop-x.numbers c.loop-x.x-index (pos 0)) (search rules) in
    let same = over_same (λ y. to_z w128 (of_z w128 c.args.factor) *ℤ y) c.args.numbers.now
    c.loop-x.numbers c.loop-x.x-index (omega arith)
    c.loop-x.auto.numbers c.loop-x.invariant.done in
    on_err _ _
    (scaled_wide c.args.factor c.args.numbers.now c.loop-x.x-index (omega arith)
    (simp same at (simp (u, x) at c.in_err-x.ensures)))

pub returns-clause-narrow : goal.returns-clause-narrow
returns-clause-narrow c =
    let u = to_z-of_z w128 c.args.factor c.ranges.factor in
    scaled_narrow c.args.factor c.args.numbers.now c.loop-x.x-index (omega arith)
    (simp u at c.loop-x.invariant.fit)
