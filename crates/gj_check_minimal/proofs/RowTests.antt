-- The tests of the limits of the slack in rows of squares, over lanes.
use Rattle.std.proofs.Common.{◌≡◌, ◌↔◌, ℕ, ◌+◌, ◌*◌, ◌<◌, ◌≤◌, ℤ, pos, get_or, max, lit<, sym, ◌∙◌, ⊎_elim, below_more, arith}
use Rattle.std.proofs.lemmas.Bool.{cases_lt}
use Rattle.gj_shape.specs.FunctionData.{FunctionData, IsWithinBounds, IsContinuous}
use Rattle.gj_shape.specs.declared.faces.FaceKind.TheVariants.{Vertex}
use Rattle.gj_theory.proofs.Lanes.{max_zero, HasLanes, fit_from_sums, fit_at_sums, vertex_of_lanes, square_passes, square_fits, continuous_square}
use Rattle.gj_check_minimal.specs.declared.squares.Lanes.{Lanes}
use Rattle.gj_check_minimal.specs.Lanes.{AreLanesOf, HasNoExcess, part_at}
use Rattle.gj_check_minimal.specs.Tests.{IsSubadditiveAt, IsSubadditive, IsSubadditiveOnGrid}

-- ---- one more square in a row

pub row_more : (P : ℕ → Type 0) (a i e x m : ℕ) → a ≤ i → m ≡ max e x →
    (e ≡ 0) ↔ ((b : ℕ) → b < i → a ≤ b → P b) → (x ≡ 0) ↔ P i →
    (m ≡ 0) ↔ ((b : ℕ) → b < i + 1 → a ≤ b → P b)
row_more P a i e x m from m_is h here =
    let both = max_zero e x m m_is in (
      λ none. below_more (λ b. a ≤ b → P b) i (h.0 (both.0 none).0) (λ low. here.0 (both.0 none).1),
      λ all. both.1 (h.1 (λ b below. all b (omega arith)), here.1 (all i (omega arith) from)),
    )

-- lanes from 0 on are naturals
module _ {L : Type 0} (number : L → ℤ) (natural : L → ℕ) (least : ℤ) (bound : ℕ) (f : FunctionData)
    (l : Lanes L)
    (natural_of : (x : L) → number x ≡ pos (natural x)) (limits : IsWithinBounds f)
    (h : AreLanesOf number least bound f l) where
  -- those of a function, each with e for those that are not there
  has_lanes : (e : L) →
      HasLanes f (λ i. natural (get_or l.left.now (i + 1) e))
      (λ i. natural (get_or l.value.now i e)) (λ i. natural (get_or l.right.now i e))
      (2 * f.order)
  has_lanes e =
      let left_length = limits.left_length in
      let value_length = limits.value_length in
      let right_length = limits.right_length in
      record {
        lefts = λ i below. sym (natural_of _) ∙ h.lefts.same (i + 1) e (omega arith);
        values = λ i below. sym (natural_of _) ∙ h.values.same i e (omega arith);
        rights = λ i below. sym (natural_of _) ∙ h.rights.same i e (omega arith);
      }

  -- the limits in a square, by four pieces
  pub square_read : (a b : ℕ) (e : L) → a < f.order → b < f.order →
      HasNoExcess natural (part_at l a e) (part_at l b e) (part_at l (a + b) e)
      (part_at l (a + b + 1) e) ↔ IsSubadditiveAt f a b
  square_read a b e a_below b_below =
      let left = λ (i : ℕ). natural (get_or l.left.now (i + 1) e) in
      let value = λ (i : ℕ). natural (get_or l.value.now i e) in
      let right = λ (i : ℕ). natural (get_or l.right.now i e) in
      let below : a + b + 1 < 2 * f.order = omega arith in
      let lanes = has_lanes e in
      let vertex = vertex_of_lanes f value (2 * f.order) a b lanes.values (omega arith) in (
        λ none.
            square_passes f left value right (2 * f.order) a b lanes below (vertex.0 none.at_vertex)
            (fit_from_sums left value right a b (record {
              at_sum = none.at_sum;
              before_next = none.before_next;
              at_next = none.at_next;
              before_last = none.before_last;
            })),
        λ all.
            let fit = fit_at_sums left value right a b
            (square_fits f left value right (2 * f.order) a b lanes below all) in
            record {
              at_vertex = vertex.1 (all Vertex 0 (lit< tt));
              at_sum = fit.at_sum;
              before_next = fit.before_next;
              at_next = fit.at_next;
              before_last = fit.before_last;
            },
      )

-- ---- all rows

-- what holds from the diagonal on holds everywhere, if it does not change with the order of the
-- indices
pub from_diagonals : (P : ℕ → ℕ → Type 0) (n : ℕ) → ((a b : ℕ) → P a b → P b a) →
    ((a : ℕ) → a < n → (b : ℕ) → a ≤ b → b < n → P a b) → (a b : ℕ) → a < n → b < n → P a b
from_diagonals P n mirror h a b a_below b_below =
    ⊎_elim (λ before. mirror b a (h b b_below a (omega arith) a_below))
    (λ after. h a a_below b after b_below)
    (cases_lt b a)

-- a continuous function
pub continuous_read : (f : FunctionData) → IsWithinBounds f → IsContinuous f →
    IsSubadditiveOnGrid f ↔ IsSubadditive f
continuous_read f l continuous = (
  λ h a b a_below b_below. continuous_square f l continuous h a b,
  λ h a b a_below b_below. h a b a_below b_below Vertex 0 (lit< tt),
)
