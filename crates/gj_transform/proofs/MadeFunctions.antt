-- Functions whose lists have the entries of another's at the multiples of a number.
use Rattle.std.proofs.Common.{◌≡◌, ℕ, zero, suc, ◌+◌, ◌-◌, ◌*◌, ◌/◌, ◌%◌, ◌<◌, ℤ, pos, ◌+ℤ◌, ◌*ℤ◌, List, ◌++◌, length, All, unsigned_abs, sym, ap, ap₂, subst, ◌∙◌, arith}
use Rattle.std.proofs.Math.Nat.{div-add-mod'}
use Rattle.std.proofs.lemmas.List.{get_or_default}
use Rattle.std.proofs.lemmas.List.Elements.{All-append}
use Rattle.std.specs.Int.{◌∣◌}
use Rattle.gj_lemmas.proofs.Lists.{All-front, All-back}
use Rattle.gj_lemmas.proofs.Quotients.{same_remainder}
use Rattle.gj_shape.specs.Entries.{HasEntries}
use Rattle.gj_shape.specs.FunctionData.{FunctionData, IsWithinBounds, IsSmallOver, at, function_over}
use Rattle.gj_shape.specs.Given.{IsOrder, IsPlace}
use Rattle.gj_shape.specs.Table.{table, entry}
use Rattle.gj_shape.proofs.AtLemmas.{at_below, at_same_remainder, all_at}
use Rattle.gj_shape.proofs.ListEntries.{entries_everywhere}

-- ---- one list

-- what holds of all entries of the list holds of all that are taken
all_taken : (P : ℤ → Type 0) (xs ys : List ℤ) (n c : ℕ) → 0 < length xs →
    HasEntries (λ i. at xs (i * c)) n ys → All P xs → All P ys
all_taken P xs ys n c some h all k e l =
    let count = h.length_is in
    let is : at xs (k * c) ≡ _ = sym (h.entry_is k (omega arith)) ∙ at_below ys k l
    ∙ get_or_default ys k (pos 0) e l in
    subst P is (all_at P xs (k * c) some all)

-- and back, if each place of the list is taken
all_of_taken : (P : ℤ → Type 0) (xs ys : List ℤ) (q n c : ℕ) → length xs ≡ q →
    HasEntries (λ i. at xs (i * c)) n ys →
    ((a : ℕ) → (i : ℕ) × (i < n) × ((i * c) % q ≡ a % q)) → All P ys → All P xs
all_of_taken P xs ys q n c long h onto all k e l =
    let count = h.length_is in
    let (i, below, same) = onto k in
    let inside : i < length ys = omega arith in
    let is : at ys i ≡ _ =
    h.entry_is i below ∙ at_same_remainder xs (i * c) k
    (subst (λ (p : ℕ). (i * c) % p ≡ k % p) (sym long) same)
    ∙ at_below xs k l ∙ get_or_default xs k (pos 0) e l in
    subst P (sym (at_below ys i inside) ∙ is) (all i (pos 0) inside)

-- an index may be the remainder
place_of_rest : (i n c q w : ℕ) → n * c ≡ w * q → ((i % n) * c) % q ≡ (i * c) % q
place_of_rest i n c q w e =
    let split : i / n * n + i % n ≡ i = div-add-mod' i n in
    let scaled : (i / n * n + i % n) * c ≡ i * c = ap (λ x. x * c) split in
    let periods : i / n * (n * c) ≡ i / n * (w * q) = ap (λ x. i / n * x) e in
    same_remainder ((i % n) * c) (i * c) (i / n * w) 0 q (omega arith)

pub taken_everywhere : (xs ys : List ℤ) (q n c w : ℕ) → length xs ≡ q → 0 < n → n * c ≡ w * q →
    HasEntries (λ i. at xs (i * c)) n ys →
    (i : ℕ) → at ys i ≡ at xs (i * c)
taken_everywhere xs ys q n c w long some e h =
    entries_everywhere (λ i. at xs (i * c)) n ys h some
    (λ i. at_same_remainder xs ((i % n) * c) (i * c)
    (subst (λ (p : ℕ). ((i % n) * c) % p ≡ (i * c) % p) (sym long) (place_of_rest i n c q w e)))

-- ---- three lists

pub record AreTaken (f : FunctionData) (n c : ℕ) (left value right : List ℤ) : Type 0 where
  pub left_is : HasEntries (λ i. at f.left (i * c)) n left
  pub value_is : HasEntries (λ i. at f.value (i * c)) n value
  pub right_is : HasEntries (λ i. at f.right (i * c)) n right

-- they are within the bounds, and no smaller scale serves, if each place is taken
pub taken_within : (f : FunctionData) (n k c : ℕ) (l v r : List ℤ) → IsWithinBounds f → IsOrder n →
    IsPlace n k → AreTaken f n c l v r →
    ((a : ℕ) → (i : ℕ) × (i < n) × ((i * c) % f.order ≡ a % f.order)) →
    IsWithinBounds (function_over n k f.scale l v r)
taken_within f n k c l v r h order place are onto =
    let low = h.order_low in
    let left_length = h.left_length in
    let value_length = h.value_length in
    let right_length = h.right_length in
    record {
      order_low = order.0;
      order_high = order.1;
      place_low = place.0;
      place_high = place.1;
      scale_low = h.scale_low;
      scale_high = h.scale_high;
      left_length = are.left_is.length_is;
      value_length = are.value_is.length_is;
      right_length = are.right_is.length_is;
      left_small = all_taken (IsSmallOver f.scale) f.left l n c
          (omega arith) are.left_is h.left_small;
      value_small = all_taken (IsSmallOver f.scale) f.value v n c
          (omega arith) are.value_is h.value_small;
      right_small = all_taken (IsSmallOver f.scale) f.right r n c
          (omega arith) are.right_is h.right_small;
      lowest = λ d divides all.
          let P : ℤ → Type 0 = λ x. d ∣ unsigned_abs x in
          let limits = All-front P (l ++ v) r all in
          h.lowest d divides
          (All-append P (f.left ++ f.value) f.right
          (All-append P f.left f.value
          (all_of_taken P f.left l f.order n c left_length are.left_is onto
          (All-front P l v limits))
          (all_of_taken P f.value v f.order n c value_length are.value_is onto
          (All-back P l v limits)))
          (all_of_taken P f.right r f.order n c right_length are.right_is onto
          (All-back P (l ++ v) r all)));
    }

-- the function under other names for its parts
pub function_as : {q q' k k' s s' : ℕ} {l l' v v' r r' : List ℤ} → q ≡ q' → k ≡ k' → s ≡ s' →
    l ≡ l' → v ≡ v' → r ≡ r' →
    function_over q k s l v r ≡ function_over q' k' s' l' v' r'
function_as order place scale left value right =
    λ i. function_over (order i) (place i) (scale i) (left i) (value i) (right i)

-- the entries under other names for the list and the count
pub taken_as : (xs xs' : List ℤ) (n n' c : ℕ) (ys : List ℤ) → xs ≡ xs' → n ≡ n' →
    HasEntries (λ i. at xs (i * c)) n ys →
    HasEntries (λ i. at xs' (i * c)) n' ys
taken_as xs xs' n n' c ys list count h =
    subst (λ zs. HasEntries (λ i. at zs (i * c)) n' ys) list
    (subst (λ m. HasEntries (λ i. at xs (i * c)) m ys) count h)

-- ---- equal tables

pub same_table : (f g : FunctionData) (m i : ℕ) → ((a : ℕ) → at g.left a ≡ at f.left a) →
    ((a : ℕ) → at g.value a ≡ at f.value a) →
    ((a : ℕ) → at g.right a ≡ at f.right a) → table g m i ≡ table f m i
unfolding table
same_table f g m i l v r = by_parts (i / m) (i % m)
  where
    by_parts : (a b : ℕ) → entry g m a b ≡ entry f m a b
    by_parts a zero = ap (λ z. pos m *ℤ z) (v a)
    by_parts a (suc b) = ap₂ (λ x y. pos (m - suc b) *ℤ x +ℤ pos (suc b) *ℤ y) (r a) (l (a + 1))
