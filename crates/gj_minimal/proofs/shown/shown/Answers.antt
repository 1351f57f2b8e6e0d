use Rattle.std.proofs.Common.{◌*◌, ℕ, pos, get_or, lit<, refl, sym, subst, subst₂, arith}
use Rattle.gj_frac.specs.Fraction.{IsRatio}
use Rattle.std.proofs.lemmas.Int.{by_lt_z}
use Rattle.gj_shape.specs.Faces.{limits_of}
use Rattle.gj_shape.specs.FirstViolation.{Passes, Shows}
use Rattle.gj_theory.specs.EarlierTests.{PassesBefore}
use Rattle.gj_minimal.proofs.EntryBounds.{symmetry_before}
use Rattle.gj_shape.specs.declared.violations.Violation.TheVariants as violation
use Rattle.gj_minimal.specs.Failures.{test_of}
use Rattle.gj_minimal.proofs.shown.shown.Goals as goal

pub returns-in-Zero-clause-points : goal.returns-in-Zero-clause-points
returns-in-Zero-clause-points c =
    let high = c.order-order.ensures.limits.order_high in (1, lit< tt, omega arith, tt)

pub returns-in-Value-clause-shows : goal.returns-in-Value-clause-shows
returns-in-Value-clause-shows c =
    let f = c.args.shape.now in
    let x = c.grid_point.result in
    subst (λ failure. Shows f (test_of failure) (violation.Negative x)) (sym c.in-Value.is) (
      x,
      subst₂ (λ (n q : ℕ). IsRatio x (pos n) (pos (q * 1))) c.from.ensures
          c.order-order.ensures.value c.grid_point.ensures,
      refl,
    )

pub returns-in-Mirror-clause-shows : goal.returns-in-Mirror-clause-shows
returns-in-Mirror-clause-shows c =
    let f = c.args.shape.now in
    let x = c.grid_point-in-Mirror.result in
    subst (λ failure. Shows f (test_of failure) (violation.Asymmetric x)) (sym c.in-Mirror.is) (
      x,
      subst₂ (λ (n q : ℕ). IsRatio x (pos n) (pos (q * 1))) c.from-in-Mirror.ensures
          c.order-order.ensures.value
          c.grid_point-in-Mirror.ensures,
      refl,
    )

pub pair_near-requires-clause-symmetry : goal.pair_near-requires-clause-symmetry
pair_near-requires-clause-symmetry c =
    let f = c.args.shape.now in
    let face = c.in-Corner.face in
    symmetry_before f face.kind face.a face.b c.in-Corner.corner
    (subst (λ failure. PassesBefore f (test_of failure)) c.in-Corner.is c.requires.before)

pub pair_near-requires-clause-negative : goal.pair_near-requires-clause-negative
pair_near-requires-clause-negative c =
    let f = c.args.shape.now in
    let face = c.in-Corner.face in
    let limit = get_or (limits_of f face.kind face.a face.b) c.in-Corner.corner (pos 0) in
    let fails = subst (λ failure. Passes f (test_of failure) → ⊥) c.in-Corner.is c.requires.fails in
    by_lt_z limit (pos 0) (λ less. less) (λ passes. absurd (fails passes))
