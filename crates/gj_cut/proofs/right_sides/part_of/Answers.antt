use Rattle.std.proofs.Common.{of_z, sym, ap, ◌∙◌}
use Rattle.gj_frac.specs.Fraction.{IsWhole}
use Rattle.gj_cut.proofs.RightSides.{part_inside, part_fine}
use Rattle.gj_cut.proofs.right_sides.part_of.Goals as goal
use mir.Syntax.{w128}

pub returns-else-den-eq1-clause-inside : goal.returns-else-den-eq1-clause-inside
returns-else-den-eq1-clause-inside c =
    let not_whole : IsWhole c.args.right →
    ⊥ = λ whole. c.if-den-eq1.false (ap (of_z w128) (c.den.ensures ∙ whole)) in
    part_inside c.args.right c.fract.result (λ w floor. sym (c.fract.ensures.value w floor))
    not_whole

pub returns-else-den-eq1-clause-kind : goal.returns-else-den-eq1-clause-kind
returns-else-den-eq1-clause-kind c fine = (
  returns-else-den-eq1-clause-inside c,
  part_fine c.args.right c.fract.result (λ w floor. sym (c.fract.ensures.value w floor)) fine,
)
