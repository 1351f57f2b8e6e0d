use Rattle.std.proofs.Common.{rules, List, ℤ, ℕ, ◌<◌, ◌≡◌, ◌^◌, pos, get_or, int_div, to_z, of_z, ap, sym, subst, ◌∙◌, arith}
use mir.Syntax.{w128}
use Rattle.std.proofs.lemmas.Int.{ints}
use Rattle.std.specs.Prelude.{All}
use Rattle.gj_shape.specs.Elimination.{gcd_of_row}
use Rattle.gj_frac.specs.Fraction.{Fits}
use Rattle.gj_theory.proofs.RowGcds.{gcd_of_row_small}
use Rattle.gj_theory.proofs.WideNumbers.{fits_natural, read_natural}
use Rattle.gj_theory.proofs.DividedRows.{over_more, over_all, read_quotient, divided_fits, divided_small, divided_large}
use Rattle.gj_loops.proofs.step.divide.Goals as goal

small : (row : List ℤ) (d : ℕ) → All Fits row → d ≡ gcd_of_row row → d < 2 ^ 127
small row d fits is = subst (λ (n : ℕ). n < 2 ^ 127) (sym is) (gcd_of_row_small row fits)

pub overflow_cast-divisor : goal.overflow_cast-divisor
overflow_cast-divisor c =
    fits_natural c.divisor_of_row-divisor.result
    (small c.args.row.now c.divisor_of_row-divisor.result c.requires
    c.divisor_of_row-divisor.ensures)

pub quotient-requires : goal.quotient-requires
quotient-requires c =
    let is = read_natural c.divisor_of_row-divisor.result
    (small c.args.row.now c.divisor_of_row-divisor.result c.requires
    c.divisor_of_row-divisor.ensures) in
    omega (arith, ints)

pub loop-x-preserved : goal.loop-x-preserved
loop-x-preserved c =
    over_more (λ x. int_div x (pos c.divisor_of_row-divisor.result)) c.args.row.now c.loop-x.row
    c.loop-x.x-index _
    (omega arith) c.loop-x.auto.row c.loop-x.invariant
    (ap (λ z. to_z w128 (of_z w128 z)) c.quotient.ensures
    ∙ read_quotient (get_or c.loop-x.row c.loop-x.x-index (pos 0)) c.divisor_of_row-divisor.result
    (search rules) (omega arith)
    (small c.args.row.now c.divisor_of_row-divisor.result c.requires
    c.divisor_of_row-divisor.ensures))

pub returns-after-loop-x-clause-value : goal.returns-after-loop-x-clause-value
returns-after-loop-x-clause-value c =
    divided_large c.args.row.now c.loop-x.row c.divisor_of_row-divisor.result
    c.divisor_of_row-divisor.ensures (omega arith)
    (over_all (λ x. int_div x (pos c.divisor_of_row-divisor.result)) c.args.row.now c.loop-x.row
    c.loop-x.x-index (omega arith)
    c.loop-x.auto.row c.loop-x.invariant)

pub returns-after-loop-x-clause-fits : goal.returns-after-loop-x-clause-fits
returns-after-loop-x-clause-fits c =
    subst (All Fits) (sym (returns-after-loop-x-clause-value c))
    (divided_fits c.args.row.now c.requires)

pub returns-else-divisor-gt1-clause-value : goal.returns-else-divisor-gt1-clause-value
returns-else-divisor-gt1-clause-value c =
    divided_small c.args.row.now c.divisor_of_row-divisor.result c.divisor_of_row-divisor.ensures
    (omega arith)
