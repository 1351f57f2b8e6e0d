use Rattle.std.proofs.Common.{◌+◌, ◌*◌, ℕ, pos, inl, inr, refl, subst₂}
use Rattle.gj_frac.specs.Fraction.{IsRatio}
use Rattle.gj_minimal.proofs.shown.point_between.Goals as goal

pub returns-then-midpoints_agree-clause-shows : goal.returns-then-midpoints_agree-clause-shows
returns-then-midpoints_agree-clause-shows c =
    let x = c.grid_point.result in (
      x,
      refl,
      inr (
        c.if-midpoints_agree.ensures.0 refl,
        subst₂ (λ (n q : ℕ). IsRatio x (pos (4 * n + 1)) (pos (q * 4))) c.from-index.ensures
            c.order.ensures.value
            c.grid_point.ensures,
      ),
    )

pub returns-else-midpoints_agree-clause-shows : goal.returns-else-midpoints_agree-clause-shows
returns-else-midpoints_agree-clause-shows c =
    let x = c.grid_point-else-midpoints_agree.result in (
      x,
      refl,
      inl (
        λ agree. let e = c.if-midpoints_agree.ensures.1 agree in cc,
        subst₂ (λ (n q : ℕ). IsRatio x (pos (2 * n + 1)) (pos (q * 2))) c.from-index.ensures
            c.order-else-midpoints_agree.ensures.value c.grid_point-else-midpoints_agree.ensures,
      ),
    )
