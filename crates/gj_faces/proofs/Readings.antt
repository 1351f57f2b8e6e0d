-- What the lanes of a function say of its tight pairs.
use Rattle.std.proofs.Common.{◌≡◌, ◌↔◌, inl, inr, ℕ, ◌+◌, ◌-◌, ◌*◌, ◌%◌, ◌^◌, ◌<◌, ◌≤◌, ℤ, pos, ◌+ℤ◌, ◌-ℤ◌, unsigned_abs, List, length, get_or, drop, take, ap, subst, sym, ◌∙◌, w64, to_z, of_z, arith}
use Rattle.std.proofs.lemmas.Bool.{cases_lt}
use Rattle.std.proofs.lemmas.Int.{ints, to_z-of_z, fits_signed_from_abs}
use Rattle.std.proofs.lemmas.List.{get_or_past, get_or-drop, get_or-take}
use Rattle.gj_loops.specs.Lanes.{IsInRange, AreInRange, AreLanesInRange, ArePeriods}
use Rattle.gj_shape.specs.Additive.{IsTight}
use Rattle.gj_shape.specs.FunctionData.{FunctionData, IsWithinBounds, at}
use Rattle.gj_shape.proofs.AtLemmas.{at_below}

-- a number is in the range of both signs if it is below its bound in absolute value
in_range : (bound : ℕ) (x : ℤ) → unsigned_abs x < bound → IsInRange (pos 1 -ℤ pos bound) bound x
in_range bound x small = (omega (arith, ints), omega (arith, ints))

-- and only then: the code reads one that is not, by its absolute value
pub not_in_range : (bound : ℕ) (xs : List ℤ) (i large : ℕ) → i < length xs →
    large ≡ unsigned_abs (to_z w64 (of_z w64 (get_or xs i (pos 0)))) →
    large ≤ 2 ^ 63 → bound ≤ large → AreInRange (pos 1 -ℤ pos bound) bound xs → ⊥
not_in_range bound xs i large below is most above h =
    of_entry (get_or xs i (pos 0)) is
    (subst (IsInRange (pos 1 -ℤ pos bound) bound) (at_below xs i below) (h i))
  where
    of_entry : (x : ℤ) → large ≡ unsigned_abs (to_z w64 (of_z w64 x)) →
        IsInRange (pos 1 -ℤ pos bound) bound x → ⊥
    of_entry x is here =
        let low = here.0 in
        let high = here.1 in
        let small : unsigned_abs x < bound = omega (arith, ints) in
        let read = ap unsigned_abs (to_z-of_z w64 x (fits_signed_from_abs w64 x (omega arith))) in
        omega arith

-- numbers that are up to their end are in it
pub all_in_range : (bound : ℕ) (xs : List ℤ) → 0 < bound →
    ((i : ℕ) → i < length xs → unsigned_abs (get_or xs i (pos 0)) < bound) →
    AreInRange (pos 1 -ℤ pos bound) bound xs
unfolding at
all_in_range bound xs some h i =
    in_range bound _ (elim (cases_lt (i % length xs) (length xs)) [
      | inl below ↦ h (i % length xs) below
      | inr past ↦ subst (λ x. unsigned_abs x < bound)
          (sym (get_or_past xs (i % length xs) (pos 0) past)) some
    ])

-- the pairs of a row, as they are read off lanes
module _ {L : Type 0} (number : L → ℤ) (least : ℤ) (bound : ℕ) (f : FunctionData) (a : ℕ)
    (lanes : List L) (values : List ℤ) (first : L)
    (limits : IsWithinBounds f) (e : values ≡ f.value)
    (h : ArePeriods number least bound lanes values) (below : a < length values)
    (first_is : first ≡ get_or lanes a first) where
  count : length values ≡ f.order
  count = ap length e ∙ limits.value_length

  value_at : (i : ℕ) (z : L) → i ≤ 2 * length values → number (get_or lanes i z) ≡ at f.value i
  value_at i z most = h.same i z most ∙ ap (λ xs. at xs i) e

  first_value : number first ≡ at f.value a
  first_value = ap number first_is ∙ value_at a first (omega arith)

  sum_at : (b : ℕ) (z : L) → b < length values →
      number (get_or (take (length lanes - a) (drop a lanes)) b z) ≡ at f.value (a + b)
  sum_at b z inside =
      let room = h.room in
      ap number (get_or-take (length lanes - a) (drop a lanes) b z (omega arith)
      ∙ get_or-drop a lanes b z)
      ∙ value_at (a + b) z (omega arith)

  -- they are in the range
  in_row : (i : ℕ) (x : ℤ) → x ≡ at f.value i → IsInRange least bound x
  in_row i x is = subst (IsInRange least bound) (ap (λ xs. at xs i) e ∙ sym is) (h.range i)

  pub values_in_row : AreLanesInRange number least bound lanes (length values)
  values_in_row b z inside = in_row b _ (value_at b z (omega arith))

  pub first_in_row : IsInRange least bound (number first)
  first_in_row = in_row a _ first_value

  pub sums_in_row : AreLanesInRange number least bound (take (length lanes - a) (drop a lanes))
      (length values)
  sums_in_row b z inside = in_row (a + b) _ (sum_at b z inside)

  pub row_of_lanes : (b : ℕ) (P : Type 0) →
      P ↔ ((b < length values)
      × (number (get_or lanes b first) +ℤ number first
      ≡ number (get_or (take (length lanes - a) (drop a lanes)) b first))) →
      P ↔ ((b < f.order) × IsTight f a b)
  row_of_lanes b P both = (
    λ p. let there = both.0 p in
        let len = count in
        let inside : b < f.order = omega (arith, there.0) in
        (inside, (tight inside).0 there.1),
    λ pair. let len = count in let inside = pair.0 in both.1 (omega arith, (tight inside).1 pair.1),
  )
    where
      tight : b < f.order →
          (number (get_or lanes b first) +ℤ number first
          ≡ number (get_or (take (length lanes - a) (drop a lanes)) b first)) ↔ IsTight f a b
      tight inside =
          let len = count in
          let at_a = first_value in
          let at_b = value_at b first (omega arith) in
          let sum = sum_at b first (omega arith) in (
            λ tie. omega (arith, ints),
            λ tie. omega (arith, ints),
          )
