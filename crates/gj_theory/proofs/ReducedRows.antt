-- A step by a kept row.
use Rattle.std.proofs.Common.{◌≡◌, ℕ, ℤ, pos, ◌<ℤ◌, int_div, FitsSigned, to_z, of_z, List, ◌++◌, unsigned_abs, sym, ap, ap₂, subst, ◌∙◌}
use Rattle.std.specs.Prelude.{All}
use Rattle.gj_lemmas.specs.Divisors.{gcd_of}
use Rattle.gj_shape.specs.Elimination.{at_column, scaled, differences, divided, eliminated, reduced, marked_in_step, row_factor, kept_factor, Passes}
use Rattle.gj_frac.specs.Fraction.{Fits}
use mir.Syntax.{w128}
use Rattle.gj_theory.proofs.DividedRows.{read_signed_quotient}
use Rattle.gj_theory.proofs.Passing.{back_passes, all_fit}
use Rattle.gj_theory.proofs.CombinedRows.{marked_numbers}

-- the factors of the step
pub record AreFactors (kept row : List ℤ) (c : ℕ) (u w : ℤ) : Type 0 where
  pub first : u ≡ row_factor kept row c
  pub second : w ≡ kept_factor kept row c

pub factors_of : (kept row : List ℤ) (c : ℕ) (u w d : ℤ) →
    d ≡ pos (gcd_of (unsigned_abs (at_column row c)) (unsigned_abs (at_column kept c))) →
    u ≡ int_div (at_column kept c) d → w ≡ int_div (at_column row c) d → AreFactors kept row c u w
factors_of kept row c u w d is u_is w_is = record {
  first = u_is ∙ ap (int_div (at_column kept c)) is;
  second = w_is ∙ ap (int_div (at_column row c)) is;
}

-- as the code has them
pub code_factors : (kept row : List ℤ) (c : ℕ) (d : ℤ) → FitsSigned w128 (at_column kept c) →
    FitsSigned w128 (at_column row c) →
    FitsSigned w128 d → pos 0 <ℤ d →
    d ≡ pos (gcd_of (unsigned_abs (at_column row c)) (unsigned_abs (at_column kept c))) →
    AreFactors kept row c
    (to_z w128 (of_z w128
    (int_div (to_z w128 (of_z w128 (at_column kept c))) (to_z w128 (of_z w128 d)))))
    (to_z w128 (of_z w128
    (int_div (to_z w128 (of_z w128 (at_column row c))) (to_z w128 (of_z w128 d)))))
code_factors kept row c d kept_fits row_fits d_fits some is =
    factors_of kept row c _ _ d is (read_signed_quotient (at_column kept c) d kept_fits d_fits some)
    (read_signed_quotient (at_column row c) d row_fits d_fits some)

pub reduced_value : (kept row combined done : List ℤ) (c : ℕ) (u w : ℤ) →
    AreFactors kept row c u w →
    combined ≡ differences (scaled u row) (scaled w kept) → done ≡ divided combined →
    done ≡ reduced kept row c
unfolding reduced eliminated
reduced_value kept row combined done c u w h is done_is =
    done_is ∙ ap divided
    (is ∙ ap₂ (λ a b. differences (scaled a row) (scaled b kept)) h.first h.second)

pub marked_value : (kept row : List ℤ) (c : ℕ) (u w : ℤ) → AreFactors kept row c u w →
    marked_numbers u w row kept ≡ marked_in_step kept row c
unfolding marked_in_step eliminated
marked_value kept row c u w h = ap₂ (λ a b. marked_numbers a b row kept) h.first h.second

pub reduced_wide : (kept row : List ℤ) (c : ℕ) (u w : ℤ) → AreFactors kept row c u w →
    Passes (marked_numbers u w row kept) →
    Passes (marked_in_step kept row c)
reduced_wide kept row c u w h p = subst Passes (marked_value kept row c u w h) p

pub reduced_narrow : (kept row : List ℤ) (c : ℕ) (u w : ℤ) → AreFactors kept row c u w →
    (Passes (marked_numbers u w row kept) → ⊥) → Passes (marked_in_step kept row c) → ⊥
reduced_narrow kept row c u w h none p = none (subst Passes (sym (marked_value kept row c u w h)) p)

-- if none passes, all entries fit
pub combined_fits : (u w : ℤ) (row kept combined : List ℤ) →
    combined ≡ differences (scaled u row) (scaled w kept) →
    (Passes (marked_numbers u w row kept) → ⊥) → All Fits combined
combined_fits u w row kept combined is none =
    subst (All Fits) (sym is)
    (all_fit (differences (scaled u row) (scaled w kept))
    (λ p. none (back_passes (scaled u row ++ scaled w kept)
    (differences (scaled u row) (scaled w kept)) p)))
