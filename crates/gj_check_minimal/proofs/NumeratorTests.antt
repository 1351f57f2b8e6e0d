-- The tests of signs and of symmetry, by the lists of a function.
use Rattle.std.proofs.lemmas.Bool.{cases_lt}
use Rattle.std.proofs.Common.{◌≤◌, inl, inr, ◌≡◌, ◌↔◌, ℕ, ◌+◌, ◌-◌, ◌%◌, ◌<◌, ℤ, pos, ◌+ℤ◌, ◌≤ℤ◌, List, length, get_or, Bool, IsTrue, to_z, of_z, w64, refl, ap, sym, subst, ◌∙◌, arith}
use Rattle.std.proofs.lemmas.Int.{ints}
use Rattle.std.proofs.Math.Nat.{add-mod_right, mod-lt}
use Rattle.gj_shape.specs.FunctionData.{FunctionData, IsWithinBounds, at}
use Rattle.gj_shape.specs.Limits.{IsNumerator}
use Rattle.gj_shape.proofs.AtLemmas.{at_below, at_wrapped, at_plus_length}
use Rattle.gj_shape.proofs.NumeratorReadings.{small_read, left_below, value_below, right_below}
use Rattle.gj_theory.proofs.Everywhere.{at_same, everywhere, opposite_index}
use Rattle.gj_theory.proofs.Lanes.{each_below}
use Rattle.gj_check_minimal.specs.Tests.{HasNonnegativeValues, IsSymmetric}
use Rattle.gj_check_minimal.specs.Numerators.{HasNoNegative, AreSmall, AreOpposite, AreOppositeBetween}

-- ---- signs

-- no value and no limit is negative if no entry of the lists is
pub signs_of_lists : (f : FunctionData) → IsWithinBounds f →
    (HasNoNegative f.value × HasNoNegative f.right × HasNoNegative f.left) ↔ HasNonnegativeValues f
signs_of_lists f l =
    let low = l.order_low in
    let value_length = l.value_length in
    let right_length = l.right_length in
    let left_length = l.left_length in (
      λ h i below.
          let lefts = everywhere (λ z. pos 0 ≤ℤ z) f.left f.order left_length (omega arith)
          (λ j j_below. h.2 j (omega arith)) in
          (h.0 i (omega arith), h.1 i (omega arith), lefts (i + 1)),
      λ all. (
        λ i below. (all i (omega arith)).0,
        λ i below. (all i (omega arith)).1,
        λ i below. each_below (λ z. pos 0 ≤ℤ z) f.left f.order left_length
            (λ j j_below. (all j j_below).2) i (omega arith),
      ),
    )

-- ---- symmetry

-- the sums at opposite indices below the length give those at all indices that add up to the place
opposite_everywhere : (xs ys : List ℤ) (n k : ℕ) (total : ℤ) → length xs ≡ n → length ys ≡ n →
    0 < n →
    ((i : ℕ) → i < n → at xs i +ℤ at ys (k + (n - i)) ≡ total) →
    (i j : ℕ) → (i + j) % n ≡ k % n → at xs i +ℤ at ys j ≡ total
opposite_everywhere xs ys n k total xs_len ys_len some h i j e =
    let first : at xs i ≡ at xs (i % n) = sym (at_wrapped xs i (i % n) n xs_len refl) in
    let second : at ys j ≡ at ys (k + (n - i % n)) =
    at_same ys j (k + (n - i % n)) n ys_len (opposite_index i j k n some e) in
    rw (first, second) (h (i % n) (mod-lt i some))

-- the values at x and f - x add up to 1 if those and the limits of the lists do
pub symmetry_of_lists : (f : FunctionData) → IsWithinBounds f →
    (AreOpposite f.value f.value f.place (pos f.scale)
    × AreOpposite f.right f.left f.place (pos f.scale)) ↔ IsSymmetric f
symmetry_of_lists f l =
    let n = f.order in
    let low = l.order_low in
    let Across = λ (xs ys : List ℤ) (m : ℕ). (i : ℕ) → i < m →
    at xs i +ℤ at ys (f.place + (m - i)) ≡ pos f.scale in (
      λ h i below.
          let values = subst (Across f.value f.value) l.value_length h.0 in
          let limits = subst (Across f.right f.left) l.right_length h.1 in
          let j = f.place + (n - (i + 1)) in
          let whole : j + (i + 1) ≡ f.place + n = omega arith in
          let turned = opposite_everywhere f.right f.left n f.place
          (pos f.scale) l.right_length l.left_length (omega arith) limits
          j (i + 1) (ap (λ x. x % n) whole ∙ add-mod_right f.place n) in (
            values i below,
            (
              limits i below,
              add_turned (at f.right j) (at f.left (i + 1))
                  (pos f.scale) turned,
            ),
          ),
      λ all. (
        subst (Across f.value f.value) (sym l.value_length) (λ i below. (all i below).0),
        subst (Across f.right f.left) (sym l.right_length) (λ i below. (all i below).1.0),
      ),
    )
  where
    add_turned : (x y s : ℤ) → x +ℤ y ≡ s → y +ℤ x ≡ s
    add_turned x y s e = omega (arith, ints)

-- up to the place and behind it
pub opposite_in_parts : (xs ys : List ℤ) (place : ℕ) (total : ℤ) → length ys ≡ length xs →
    place < length xs →
    (AreOppositeBetween xs ys 0 (place + 1) place total
    × AreOppositeBetween xs ys (place + 1) (length xs) (place + length xs) total)
    ↔ AreOpposite xs ys place total
opposite_in_parts xs ys place total len place_below = (
  λ h i below. elim (cases_lt place i) [
    | inl behind ↦ subst (λ k. at xs i +ℤ at ys k ≡ total) (behind_place i below)
        (h.1 i below (omega arith))
    | inr upto ↦ subst (λ z. at xs i +ℤ z ≡ total) (upto_place i below upto)
        (h.0 i (omega arith) (omega arith))
  ],
  λ all. (
    λ i below from. subst (λ z. at xs i +ℤ z ≡ total)
        (sym (upto_place i (omega arith) (omega arith))) (all i (omega arith)),
    λ i below from. subst (λ k. at xs i +ℤ at ys k ≡ total) (sym (behind_place i below))
        (all i below),
  ),
)
  where
    behind_place : (i : ℕ) → i < length xs → place + length xs - i ≡ place + (length xs - i)
    behind_place i below = omega arith

    upto_place : (i : ℕ) → i < length xs → i ≤ place →
        at ys (place - i) ≡ at ys (place + (length xs - i))
    upto_place i below upto =
        let whole : place - i + length ys ≡ place + (length xs - i) = omega arith in
        sym (at_plus_length ys (place - i)) ∙ ap (at ys) whole

-- ---- what the code reads

-- the numerators have 51 bits
pub values_small : (f : FunctionData) (xs : List ℤ) → IsWithinBounds f → xs ≡ f.value → AreSmall xs
values_small f xs l e = subst AreSmall (sym e) (λ i. value_below f i l)

pub rights_small : (f : FunctionData) (xs : List ℤ) → IsWithinBounds f → xs ≡ f.right → AreSmall xs
rights_small f xs l e = subst AreSmall (sym e) (λ i. right_below f i l)

pub lefts_small : (f : FunctionData) (xs : List ℤ) → IsWithinBounds f → xs ≡ f.left → AreSmall xs
lefts_small f xs l e = subst AreSmall (sym e) (λ i. left_below f i l)

-- a number of 51 bits is read
abbrev IsRead : List ℤ → ℕ → ℕ → Type 0
IsRead xs k i =
    (to_z w64 (of_z w64 (get_or xs k (pos 0))) ≡ at xs i)
    × IsNumerator (to_z w64 (of_z w64 (get_or xs k (pos 0))))

is_read : (xs : List ℤ) (k i : ℕ) → get_or xs k (pos 0) ≡ at xs i → AreSmall xs → IsRead xs k i
is_read xs k i here small =
    let value : to_z w64 (of_z w64 (get_or xs k (pos 0))) ≡ at xs i =
    ap (λ z. to_z w64 (of_z w64 z)) here ∙ small_read (at xs i) (small i) in
    (value, subst IsNumerator (sym value) (small i))

-- at an index below the length
pub number_below : (xs : List ℤ) (i : ℕ) → i < length xs → AreSmall xs → IsRead xs i i
number_below xs i below = is_read xs i i (sym (at_below xs i below))

-- the same sum of equal numbers
pub same_sum : (x y t x' y' t' : ℤ) → x ≡ x' → y ≡ y' → t ≡ t' → (x +ℤ y ≡ t) ↔ (x' +ℤ y' ≡ t')
same_sum x y t x' y' t' x_is y_is t_is =
    (λ h. rw (x_is, y_is, t_is) at h, λ h. rw (x_is, y_is, t_is) h)

-- the same test of the same lists
pub opposite_read : (b : Bool) (xs ys : List ℤ) (p : ℕ) (t : ℤ) (xs' ys' : List ℤ) (p' : ℕ)
    (t' : ℤ) → xs ≡ xs' → ys ≡ ys' → p ≡ p' → t ≡ t' →
    IsTrue b ↔ AreOpposite xs ys p t → IsTrue b ↔ AreOpposite xs' ys' p' t'
opposite_read b xs ys p t xs' ys' p' t' xs_is ys_is p_is t_is h =
    subst (λ z. IsTrue b ↔ AreOpposite xs' ys' p' z) t_is
    (subst (λ n. IsTrue b ↔ AreOpposite xs' ys' n t) p_is
    (subst (λ l. IsTrue b ↔ AreOpposite xs' l p t) ys_is
    (subst (λ l. IsTrue b ↔ AreOpposite l ys p t) xs_is h)))
