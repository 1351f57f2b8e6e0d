-- The function of n x from lists of entries.
use Rattle.std.proofs.Common.{◌≡◌, ℕ, ◌+◌, ◌*◌, ◌%◌, ◌<◌, ◌≤◌, ℤ, pos, ◌*ℤ◌, List, [], ◌∷◌, refl, sym, ap, ap₂, ◌∙◌, arith}
use Rattle.std.proofs.Math.Nat.{mul_comm, mul-pos, mul-le-mul_right, mul-le-mul_left, mod-lt, mod-mod}
use Rattle.gj_lemmas.proofs.Ring.{by_ring, ring}
use Rattle.gj_shape.specs.FunctionData.{FunctionData, IsWithinBounds, at, function_over}
use Rattle.gj_shape.specs.Table.{table}
use Rattle.gj_shape.proofs.TableLemmas.{table_finer}
use Rattle.gj_transform.specs.Transforms.{IsTimesOf}
use Rattle.gj_transform.proofs.MadeFunctions.{AreTaken, taken_everywhere, taken_within, same_table}

times_z : (t : ℤ) (s n m : ℕ) → t *ℤ pos (s * (n * m)) ≡ (pos n *ℤ t) *ℤ pos (s * m)
times_z t s n m = by_ring (t ∷ pos s ∷ pos n ∷ pos m ∷ []) (search ring depth 20) refl

pub times_made : (f : FunctionData) (n j : ℕ) (l v r : List ℤ) → IsWithinBounds f → 0 < n →
    AreTaken f (f.order * n) 1 l v r →
    IsTimesOf f n j (function_over (f.order * n) (f.place + j * f.order) f.scale l v r)
times_made f n j l v r h some are =
    let low = h.order_low in
    let N = f.order * n in
    let g = function_over N (f.place + j * f.order) f.scale l v r in
    let N_some : 0 < N = mul-pos (omega arith) some in
    let period : N * 1 ≡ n * f.order = omega arith in
    let one : (a : ℕ) → a * 1 ≡ a = λ a. omega arith in
    let left = λ (a : ℕ). taken_everywhere f.left l f.order N 1 n h.left_length N_some period
    are.left_is a ∙ ap (at f.left) (one a) in
    let value = λ (a : ℕ). taken_everywhere f.value v f.order N 1 n h.value_length N_some period
    are.value_is a ∙ ap (at f.value) (one a) in
    let right = λ (a : ℕ). taken_everywhere f.right r f.order N 1 n h.right_length N_some period
    are.right_is a ∙ ap (at f.right) (one a) in
    record {
      order = refl;
      place = refl;
      same_values = λ m i m_some.
          let finer : table f (n * m) (n * i) ≡ pos n *ℤ table f m i =
          ap₂ (table f) (mul_comm n m) (mul_comm n i) ∙ table_finer f m n i m_some some in
          ap (λ z. z *ℤ pos (f.scale * (n * m))) (same_table f g m i left value right)
          ∙ times_z (table f m i) f.scale n m
          ∙ ap (λ z. z *ℤ pos (f.scale * m)) (sym finer);
    }

-- the new place is below the new order
places_fit : (q k n j : ℕ) → 1 ≤ k → k < q → j < n → (1 ≤ k + j * q) × (k + j * q < q * n)
places_fit q k n j low high below =
    let scaled : (j + 1) * q ≤ n * q = mul-le-mul_right q below' in (omega arith, omega arith)
  where
    below' : j + 1 ≤ n
    below' = omega arith

pub times_within : (f : FunctionData) (n j : ℕ) (l v r : List ℤ) → IsWithinBounds f → j < n →
    f.order * n ≤ 1000 →
    AreTaken f (f.order * n) 1 l v r →
    IsWithinBounds (function_over (f.order * n) (f.place + j * f.order) f.scale l v r)
times_within f n j l v r h below few are =
    let low = h.order_low in
    let some : 1 ≤ n = omega arith in
    let q_some : 0 < f.order = omega arith in
    let long : f.order * 1 ≤ f.order * n = mul-le-mul_left f.order some in
    taken_within f (f.order * n) (f.place + j * f.order) 1 l v r h (omega arith, few)
    (places_fit f.order f.place n j h.place_low h.place_high below) are
    (λ a. let small = mod-lt a q_some in
    let one : (a % f.order) * 1 ≡ a % f.order = omega arith in
    (a % f.order, omega arith, ap (λ x. x % f.order) one ∙ mod-mod a f.order))
