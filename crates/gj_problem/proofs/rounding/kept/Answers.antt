use Rattle.std.proofs.Common.{◌≡◌, ℤ, pos, to_z, of_z, refl, sym, ap, ◌∙◌}
use Rattle.gj_frac.proofs.Reduced.{read_part}
use Rattle.gj_problem.proofs.AddedSums.{whole_ratio}
use Rattle.gj_problem.proofs.GridParts.{on_grid_if_whole, whole_if_on_grid}
use Rattle.gj_problem.proofs.rounding.kept.Goals as goal
use mir.Syntax.{w128}

pub returns-then-den-eq1-clause-value : goal.returns-then-den-eq1-clause-value
returns-then-den-eq1-clause-value c =
    let s = c.in_ok-scaled.field-0 in
    let whole : s.den ≡ pos 1 =
    sym (read_part s.den s.lowest.den_fits)
    ∙ ap (λ (z : ℤ). to_z w128 (of_z w128 z)) (sym c.den.ensures)
    ∙ ap (to_z w128) c.if-den-eq1.true in (
      on_grid_if_whole c.args.grid c.args.x s c.in_ok-scaled.ensures.value whole,
      refl,
      whole_ratio
          c.ratio.result (pos 0) c.ratio.ensures,
    )

pub returns-else-den-eq1-clause-value : goal.returns-else-den-eq1-clause-value
returns-else-den-eq1-clause-value c = λ on.
    c.if-den-eq1.false
    (ap (of_z w128) (c.den.ensures
    ∙ whole_if_on_grid c.args.grid c.args.x c.in_ok-scaled.field-0 c.in_ok-scaled.ensures.value
    on))
