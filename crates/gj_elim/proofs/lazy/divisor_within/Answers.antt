use Rattle.std.proofs.Common.{rules, ℤ, pos, get_or, subst, unsigned_abs, arith}
use Rattle.std.specs.Int.{IsGcd}
use Rattle.std.proofs.lemmas.Int.{to_z-of_z}
use mir.Syntax.{w64}
use Rattle.gj_elim.proofs.SmallDivisors.{divisor_start, divisor_more, divisor_one, divisor_end}
use Rattle.gj_elim.proofs.lazy.divisor_within.Goals as goal

pub loop-i-init : goal.loop-i-init
loop-i-init c = divisor_start c.args.row.now c.args.from c.args.to c.requires.zero

pub returns-then-divisor-eq1-clause-value : goal.returns-then-divisor-eq1-clause-value
returns-then-divisor-eq1-clause-value c =
    divisor_one c.args.row.now c.loop-i.i c.loop-i.divisor c.loop-i.invariant c.if-divisor-eq1.true

pub loop-i-preserved : goal.loop-i-preserved
loop-i-preserved c =
    divisor_more c.args.row.now c.loop-i.i c.loop-i.divisor c.divisor_with-divisor.result
    c.loop-i.invariant (omega arith)
    (subst (λ (x : ℤ). IsGcd c.loop-i.divisor (unsigned_abs x) c.divisor_with-divisor.result)
    (to_z-of_z w64 (get_or c.args.row.now c.loop-i.i (pos 0)) (search rules))
    c.divisor_with-divisor.ensures.value)
    c.divisor_with-divisor.ensures.small

pub returns-clause-value : goal.returns-clause-value
returns-clause-value c =
    divisor_end c.args.row.now c.args.from c.args.to c.loop-i.i c.loop-i.divisor c.loop-i.invariant
    c.requires.zero (omega arith)
