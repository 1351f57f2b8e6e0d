-- The restriction of a minimal function is minimal.
use Rattle.std.proofs.Common.{◌≡◌, ℕ, ◌*◌, ◌%◌, sym, ap, ◌∙◌, arith}
use Rattle.gj_shape.specs.FunctionData.{FunctionData, IsWithinBounds}
use Rattle.gj_shape.specs.Table.{table, IsMinimal}
use Rattle.gj_theory.proofs.Continuous.{minimal_from_own_grid}
use Rattle.gj_theory.proofs.SameVerdicts.{minimal_over}
use Rattle.gj_transform.specs.Transforms.{IsRestrictionOf}
use Rattle.gj_transform.proofs.Multiples.{minimal_at_multiples}

pub restriction_minimal : (f g : FunctionData) (d : ℕ) → IsWithinBounds f → IsWithinBounds g →
    IsRestrictionOf f d g →
    IsMinimal f → IsMinimal g
restriction_minimal f g d l h r minimal =
    let low = l.scale_low in
    let period : g.order * 1 * r.step ≡ 1 * (f.order * 1) =
    let e : g.order * r.step ≡ f.order = ap (λ q. q * r.step) r.order ∙ sym r.divides in
    omega arith in
    let place : g.place * 1 * r.step ≡ f.place * 1 = let e = r.place in omega arith in
    minimal_from_own_grid g h r.continuous
    (minimal_over (λ i. table f 1 (i * r.step)) (table g 1) (g.order * 1) (g.place * 1)
    (f.scale * 1) (g.scale * 1) (omega arith)
    (λ i. r.same_values i)
    (minimal_at_multiples (table f 1) (f.order * 1) (f.place * 1) (f.scale * 1) r.step 1
    (g.order * 1) (g.place * 1) period
    (ap (λ x. x % (f.order * 1)) place) (minimal 1 (omega arith))))
