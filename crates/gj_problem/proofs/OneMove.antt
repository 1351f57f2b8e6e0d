-- A coefficient is moved by one shift, and to one coefficient on the grid.
use Rattle.std.proofs.Common.{◌≡◌, ⊎_elim, ℕ, Option, Some, None, [], ◌∷◌, pos, refl, sym, ap, ◌∙◌}
use Rattle.gj_frac.specs.declared.Frac.{Frac}
use Rattle.gj_fields.specs.Rational.{Rational, whole, rational, ◌*ℚ◌, neg_ℚ, ◌-ℚ◌}
use Rattle.gj_problem.specs.Moves.{IsUnmoved, IsMovedUp, IsMovedDown, IsMovedBy, IsBelowOnGrid, IsGridCoefficient}
use Rattle.gj_fields.proofs.RationalOrder.{at_most_both}
use Rattle.gj_fields.proofs.RationalRing.{by_ring_q, ring_q}

-- ---- one shift

no_change : (x b : Rational) → (x -ℚ x) *ℚ b ≡ whole (pos 0)
no_change x b = by_ring_q (x ∷ b ∷ []) (search ring_q depth 40) refl

no_change_to : (x y b : Rational) → y ≡ x → (y -ℚ x) *ℚ b ≡ whole (pos 0)
no_change_to x y b same = ap (λ w. (w -ℚ x) *ℚ b) same ∙ no_change x b

module _ (IsLower IsUpper : Frac → Type 0) where
  pub no_shift : (x y shift : Rational) → IsMovedBy IsLower IsUpper x y shift → y ≡ x →
      shift ≡ whole (pos 0)
  no_shift x y shift h same =
      ⊎_elim (λ (k : IsUnmoved x y shift). k.shift_is)
      (⊎_elim (λ (k : IsMovedUp IsLower x y shift). k.shift_is
      ∙ no_change_to x y (rational k.bound) same)
      (λ (k : IsMovedDown IsUpper x y shift). k.shift_is
      ∙ no_change_to x y (rational k.bound) same))
      h

  both_none : (x y s t : Rational) → IsMovedBy IsLower IsUpper x y s →
      IsMovedBy IsLower IsUpper x y t → y ≡ x → s ≡ t
  both_none x y s t h k same = no_shift x y s h same ∙ sym (no_shift x y t k same)

  pub one_shift : ((b d : Frac) → IsLower b → IsLower d → rational b ≡ rational d) →
      ((b d : Frac) → IsUpper b → IsUpper d → rational b ≡ rational d) →
      (x y s t : Rational) → IsMovedBy IsLower IsUpper x y s → IsMovedBy IsLower IsUpper x y t →
      s ≡ t
  one_shift lowers uppers x y s t h k =
      ⊎_elim (λ (a : IsUnmoved x y s). both_none x y s t h k a.same)
      (⊎_elim
      (λ (a : IsMovedUp IsLower x y s).
      ⊎_elim (λ (b : IsUnmoved x y t). both_none x y s t h k b.same)
      (⊎_elim
      (λ (b : IsMovedUp IsLower x y t).
      a.shift_is ∙ ap (λ w. (y -ℚ x) *ℚ w) (lowers a.bound b.bound a.bound_is b.bound_is)
      ∙ sym b.shift_is)
      (λ (b : IsMovedDown IsUpper x y t). both_none x y s t h k
      (at_most_both y x b.lesser a.greater))) k)
      (λ (a : IsMovedDown IsUpper x y s).
      ⊎_elim (λ (b : IsUnmoved x y t). both_none x y s t h k b.same)
      (⊎_elim
      (λ (b : IsMovedUp IsLower x y t). both_none x y s t h k (at_most_both y x a.lesser b.greater))
      (λ (b : IsMovedDown IsUpper x y t).
      a.shift_is ∙ ap (λ w. (y -ℚ x) *ℚ w) (uppers a.bound b.bound a.bound_is b.bound_is)
      ∙ sym b.shift_is)) k))
      h

-- ---- one coefficient on the grid

pub one_below : (n : ℕ) (x y z : Rational) → IsBelowOnGrid n x y → IsBelowOnGrid n x z → y ≡ z
one_below n x y z h k = at_most_both y z (k.greatest y h.on_grid h.at_most)
    (h.greatest z k.on_grid k.at_most)

turned_back : (x y : Rational) → neg_ℚ x ≡ neg_ℚ y → x ≡ y
turned_back x y e = twice x ∙ ap neg_ℚ e ∙ sym (twice y)
  where
    twice : (x : Rational) → x ≡ neg_ℚ (neg_ℚ x)
    twice x = by_ring_q (x ∷ []) (search ring_q depth 40) refl

pub one_above : (n : ℕ) (x y z : Rational) → IsBelowOnGrid n (neg_ℚ x) (neg_ℚ y) →
    IsBelowOnGrid n (neg_ℚ x) (neg_ℚ z) → y ≡ z
one_above n x y z h k = turned_back y z (one_below n (neg_ℚ x) (neg_ℚ y) (neg_ℚ z) h k)

pub one_on_grid : (n : ℕ) (lower upper : Option Frac) (x y z : Rational) →
    IsGridCoefficient n lower upper x y →
    IsGridCoefficient n lower upper x z → y ≡ z
one_on_grid n (Some l) upper x y z h k = one_above n x y z h k
one_on_grid n None (Some u) x y z h k = one_below n x y z h k
one_on_grid n None None x y z h k = h.1 ∙ sym k.1
