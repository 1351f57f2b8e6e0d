-- Of a minimal continuous function with two slopes, the rows of the period and of f leave only the
-- slopes 0.
use Rattle.std.proofs.Common.{◌≡◌, ℕ, inl, inr, ◌-◌, ◌<◌, ◌≤◌, ℤ, pos, List, length, All, sym, ap, ◌∙◌, arith}
use Rattle.std.proofs.lemmas.Int.{ints}
use Rattle.std.proofs.lemmas.List.Elements.{All-from_get_or}
use Rattle.gj_shape.specs.Additive.{IsTight}
use Rattle.gj_shape.specs.Cover.{AreCoverLines, HasComponent, components_in}
use Rattle.gj_shape.specs.Elimination.{at_column}
use Rattle.gj_shape.specs.FunctionData.{FunctionData, IsWithinBounds, at}
use Rattle.gj_shape.specs.SlopeRows.{row_of, sum_of_products}
use Rattle.gj_shape.specs.Table.{IsMinimal}
use Rattle.gj_shape.specs.TwoSlopes.{rise, HasTwoSlopes}
use Rattle.gj_shape.specs.declared.extremality.CoverLine.{CoverLine}
use Rattle.gj_shape.specs.declared.extremality.RowName.{RowName}
use Rattle.gj_shape.specs.declared.extremality.RowName.TheVariants.{Period, F}
use Rattle.gj_theory.specs.RisesAndFalls.{RisesOrFalls}
use Rattle.gj_theory.proofs.ComponentIntervals.{interval_of_component}
use Rattle.gj_theory.proofs.Continuous.{HasMinimalValues}
use Rattle.gj_theory.proofs.CoverLines.{lines_meet_rules}
use Rattle.gj_theory.proofs.CoverSteps.{number_below}
use Rattle.gj_theory.proofs.LineComponents.{one_component}
use Rattle.gj_theory.proofs.OpeningLines.{one_number}
use Rattle.gj_theory.proofs.SlopePerturbations.{listed}
use Rattle.gj_theory.proofs.SlopeSums.{period_row, place_row}
use Rattle.gj_theory.proofs.TwoSlopes.{minimal_values, value_at_place, value_at_order, rises_and_falls}
use Rattle.gj_theory.proofs.TwoSlopeCovers.{leads_alike}
use Rattle.gj_theory.proofs.TwoSlopesAreExtreme.{both_zero}

pub two_rows : (f : FunctionData) (lines : List CoverLine) (component : ℕ → ℕ) (n : ℕ)
    (slopes : List ℤ) →
    IsWithinBounds f → IsMinimal f → HasTwoSlopes f → AreCoverLines f.order (IsTight f) lines →
    ((i : ℕ) → i < f.order → HasComponent lines (component i) i) → n ≡ components_in lines →
    length slopes ≡ n →
    sum_of_products (row_of component n f.order f.place Period) slopes ≡ pos 0 →
    sum_of_products (row_of component n f.order f.place F) slopes ≡ pos 0 →
    All (λ x. x ≡ pos 0) slopes
two_rows f lines component n slopes l minimal two cover has counted long period place =
    All-from_get_or (λ x. x ≡ pos 0) slopes (pos 0)
    (λ k low.
    let found = interval_of_component q (IsTight f) lines k cover (omega arith) in
    let number : component found.0 ≡ k =
    one_component q (IsTight f) lines found.0 (component found.0) k
    (lines_meet_rules q (IsTight f) lines cover) (has found.0 found.1)
    found.2 in
    ap (at_column slopes) (sym number) ∙ zero_at found.0 found.1)
  where
    q : ℕ
    q = f.order

    last : ℕ
    last = f.order - 1

    some : 0 < f.order
    some = omega (arith, l.order_low)

    h : HasMinimalValues f
    h = minimal_values f minimal

    goes : RisesOrFalls f
    goes = rises_and_falls f l minimal two

    slope : ℕ → ℤ
    slope a = at_column slopes (component a)

    -- intervals with one slope of the function have one slope
    alike : (a b : ℕ) → a < f.order → b < f.order → rise f a ≡ rise f b → slope a ≡ slope b
    alike a b a_low b_low same =
        ap (at_column slopes)
        (one_number q (IsTight f) lines (component a) (component b) a b cover (has a a_low)
        (has b b_low)
        (leads_alike f a b some h goes same))

    below : (a : ℕ) → a < f.order → component a < n
    below a low = let b = number_below lines (component a) a (has a low) in omega arith

    both : (slope 0 ≡ pos 0) × (slope last ≡ pos 0)
    both =
        let s = at_column slopes in
        let same = λ (name : RowName). ap
        (sum_of_products (row_of component n f.order f.place name)) (listed slopes n long) in
        let k_low : f.place ≤ f.order = omega (arith, l.place_high) in
        let one_value = value_at_place f h in
        let zero_value = h.zero_at_zero in
        let first_rises = goes.first_rises in
        let last_falls = goes.last_falls in
        both_zero (at f.value) slope (rise f 0) (rise f last) (slope 0) (slope last) f.order f.place
        (λ a low. elim (goes.each a) [
          | inl e ↦ inl (e, alike a 0 low some e)
          | inr e ↦ inr (e, alike a last low (omega arith) e)
        ])
        some k_low (omega (arith, ints)) (value_at_order f h ∙ sym h.zero_at_zero)
        (omega (arith, ints, l.scale_low))
        (sym (period_row component s n f.order f.place below) ∙ sym (same Period) ∙ period)
        (sym (place_row component s n f.order f.place below k_low) ∙ sym (same F) ∙ place)

    zero_at : (a : ℕ) → a < f.order → slope a ≡ pos 0
    zero_at a low = elim (goes.each a) [
      | inl e ↦ alike a 0 low some e ∙ both.0
      | inr e ↦ alike a last low (omega arith) e ∙ both.1
    ]
