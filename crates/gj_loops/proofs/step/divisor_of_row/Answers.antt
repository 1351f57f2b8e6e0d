use Rattle.std.proofs.Common.{rules, ℤ, refl, subst, sym, ap, ◌∙◌, drop, get_or, pos, unsigned_abs}
use Rattle.std.specs.Int.{IsGcd}
use Rattle.std.proofs.lemmas.Int.{to_z-of_z}
use mir.Syntax.{w128}
use Rattle.gj_lemmas.specs.Divisors.{gcd_of}
use Rattle.gj_shape.specs.Elimination.{gcd_of_row}
use Rattle.gj_theory.proofs.RowGcds.{gcd_zero_of, gcd_one_of, gcd_next, gcd_last}
use Rattle.gj_loops.proofs.step.divisor_of_row.Goals as goal

pub loop-x-init : goal.loop-x-init
loop-x-init c = sym (gcd_zero_of (gcd_of_row c.args.row.now))

pub returns-then-divisor-eq1 : goal.returns-then-divisor-eq1
returns-then-divisor-eq1 c =
    sym (c.loop-x.invariant
    ∙ ap (λ d. gcd_of d (gcd_of_row (drop c.loop-x.x-index c.args.row.now)))
    c.if-divisor-eq1.true
    ∙ gcd_one_of (gcd_of_row (drop c.loop-x.x-index c.args.row.now)))

pub loop-x-preserved : goal.loop-x-preserved
loop-x-preserved c =
    gcd_next c.args.row.now c.loop-x.x-index c.loop-x.divisor
    (unsigned_abs (get_or c.args.row.now c.loop-x.x-index (pos 0)))
    c.divisor_with-divisor.result c.loop-x-test.true refl c.loop-x.invariant
    (subst (λ (x : ℤ). IsGcd c.loop-x.divisor (unsigned_abs x) c.divisor_with-divisor.result)
    (to_z-of_z w128 (get_or c.args.row.now c.loop-x.x-index (pos 0)) (search rules))
    c.divisor_with-divisor.ensures)

pub returns : goal.returns
returns c = gcd_last c.args.row.now c.loop-x.x-index c.loop-x.divisor c.loop-x-test.false
    c.loop-x.invariant
