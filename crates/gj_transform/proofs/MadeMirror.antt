-- The function of -x from lists of entries.
use Rattle.std.proofs.Common.{◌≡◌, ℕ, ◌+◌, ◌-◌, ◌*◌, ◌/◌, ◌%◌, ◌<◌, ◌≤◌, ⊎_elim, ℤ, pos, ◌+ℤ◌, ◌*ℤ◌, List, ◌++◌, refl, sym, ap, ap₂, subst, ◌∙◌, arith}
use Rattle.std.proofs.Math.Nat.{mul-mod_left, mod-lt, div-add-mod'}
use Rattle.std.proofs.lemmas.Bool.{cases_eq}
use Rattle.std.proofs.lemmas.List.Elements.{All-append}
use Rattle.std.specs.Int.{◌∣◌}
use Rattle.std.specs.Prelude.{unsigned_abs}
use Rattle.gj_lemmas.proofs.Integers.{add_comm_z}
use Rattle.gj_lemmas.proofs.Lists.{All-front, All-back}
use Rattle.gj_lemmas.proofs.Quotients.{same_remainder, same_at_remainder}
use Rattle.gj_shape.specs.FunctionData.{FunctionData, IsWithinBounds, at, function_over}
use Rattle.gj_shape.specs.Table.{table}
use Rattle.gj_shape.proofs.TableLemmas.{table_at, table_between, table_period, at_plus_order}
use Rattle.gj_transform.specs.Transforms.{IsMirrorOf}
use Rattle.gj_transform.proofs.MadeFunctions.{AreTaken, taken_everywhere, taken_within}

-- ---- the function with left and right limits exchanged

abbrev pub exchanged : FunctionData → FunctionData
exchanged f = function_over f.order f.place f.scale f.right f.value f.left

exchanged_within : (f : FunctionData) → IsWithinBounds f → IsWithinBounds (exchanged f)
exchanged_within f h = record {
  order_low = h.order_low;
  order_high = h.order_high;
  place_low = h.place_low;
  place_high = h.place_high;
  scale_low = h.scale_low;
  scale_high = h.scale_high;
  left_length = h.right_length;
  value_length = h.value_length;
  right_length = h.left_length;
  left_small = h.right_small;
  value_small = h.value_small;
  right_small = h.left_small;
  lowest = λ d divides all.
      let P : ℤ → Type 0 = λ x. d ∣ unsigned_abs x in
      let front = All-front P (f.right ++ f.value) f.left all in
      h.lowest d divides
      (All-append P (f.left ++ f.value) f.right
      (All-append P f.left f.value (All-back P (f.right ++ f.value) f.left all)
      (All-back P f.right f.value front))
      (All-front P f.right f.value front));
}

-- ---- opposite places

-- two places that are opposite to a third have one rest
same_opposites : (i j l n : ℕ) → (i + j) % n ≡ 0 → (i + l) % n ≡ 0 → j % n ≡ l % n
same_opposites i j l n e g =
    let first = div-add-mod' (i + j) n in
    let second = div-add-mod' (i + l) n in
    same_remainder j l ((i + l) / n) ((i + j) / n) n (omega arith)

-- r steps of m behind a/order
opposite_between : (q c m a r : ℕ) → c + 1 ≡ q → r ≤ m →
    (a * m + r + ((a + 1) * c * m + (m - r))) % (q * m) ≡ 0
opposite_between q c m a r e below =
    let scaled : (a + 1) * (c + 1) * m ≡ (a + 1) * q * m = ap (λ x. (a + 1) * x * m) e in
    let whole : a * m + r + ((a + 1) * c * m + (m - r)) ≡ (a + 1) * (q * m) = omega arith in
    ap (λ x. x % (q * m)) whole ∙ mul-mod_left (a + 1) (q * m)

opposite_at : (q c m a : ℕ) → c + 1 ≡ q → (a * m + a * c * m) % (q * m) ≡ 0
opposite_at q c m a e =
    let scaled : a * (c + 1) * m ≡ a * q * m = ap (λ x. a * x * m) e in
    let whole : a * m + a * c * m ≡ a * (q * m) = omega arith in
    ap (λ x. x % (q * m)) whole ∙ mul-mod_left a (q * m)

-- ---- the tables

-- each list of g is one of f, backwards
record AreBackwards (f g : FunctionData) (c : ℕ) : Type 0 where
  left_is : (i : ℕ) → at g.left i ≡ at f.right (i * c)
  value_is : (i : ℕ) → at g.value i ≡ at f.value (i * c)
  right_is : (i : ℕ) → at g.right i ≡ at f.left (i * c)

backwards_at : (f g : FunctionData) (c m a j : ℕ) → IsWithinBounds f → c + 1 ≡ f.order → 0 < m →
    AreBackwards f g c →
    (a * m + j) % (f.order * m) ≡ 0 → table g m (a * m) ≡ table f m j
backwards_at f g c m a j h e some are opposite =
    table_at g m a some ∙ ap (λ z. pos m *ℤ z) (are.value_is a) ∙ sym (table_at f m (a * c) some)
    ∙ same_at_remainder (table f m) (f.order * m) (λ i. table_period f m i some h) (a * c * m) j
    (same_opposites (a * m) (a * c * m) j (f.order * m) (opposite_at f.order c m a e) opposite)

backwards_between : (f g : FunctionData) (c m a r j : ℕ) → IsWithinBounds f → c + 1 ≡ f.order →
    0 < m → 0 < r → r < m →
    AreBackwards f g c → (a * m + r + j) % (f.order * m) ≡ 0 → table g m (a * m + r) ≡ table f m j
backwards_between f g c m a r j h e m_some r_some below are opposite =
    let b = (a + 1) * c in
    let next : b + 1 ≡ a * c + f.order = omega arith in
    let rest : m - (m - r) ≡ r = omega arith in
    table_between g m a r r_some below
    ∙ ap₂ (λ x y. pos (m - r) *ℤ x +ℤ pos r *ℤ y) (are.right_is a) (are.left_is (a + 1))
    ∙ add_comm_z (pos (m - r) *ℤ at f.left (a * c)) (pos r *ℤ at f.right b)
    ∙ ap₂ (λ n x. pos n *ℤ at f.right b +ℤ pos (m - r) *ℤ x) (sym rest)
    (sym (ap (at f.left) next ∙ at_plus_order f.left (a * c) f.order h.left_length))
    ∙ sym (table_between f m b (m - r) (omega arith) (omega arith))
    ∙ same_at_remainder (table f m) (f.order * m) (λ i. table_period f m i m_some h)
    (b * m + (m - r)) j
    (same_opposites (a * m + r) (b * m + (m - r)) j (f.order * m)
    (opposite_between f.order c m a r e (omega arith)) opposite)

backwards_table : (f g : FunctionData) (c m i j : ℕ) → IsWithinBounds f → c + 1 ≡ f.order → 0 < m →
    AreBackwards f g c →
    (i + j) % (f.order * m) ≡ 0 → table g m i ≡ table f m j
backwards_table f g c m i j h e some are opposite =
    let P : ℕ → Type 0 = λ x. (x + j) % (f.order * m) ≡ 0 → table g m x ≡ table f m j in
    let split = div-add-mod' i m in
    ⊎_elim
    (λ none. subst P (let whole : i / m * m ≡ i = omega arith in whole)
    (backwards_at f g c m (i / m) j h e some are) opposite)
    (λ more. subst P split
    (backwards_between f g c m (i / m) (i % m) j h e some (omega arith) (mod-lt i some) are)
    opposite)
    (cases_eq (i % m) 0)

-- ---- the mirror

pub mirror_made : (f : FunctionData) (c : ℕ) (l v r : List ℤ) → IsWithinBounds f → c + 1 ≡ f.order →
    AreTaken (exchanged f) f.order c l v r →
    IsMirrorOf f (function_over f.order (f.order - f.place) f.scale l v r)
mirror_made f c l v r h e are =
    let low = h.order_low in
    let high = h.place_high in
    let q = f.order in
    let some : 0 < q = omega arith in
    let period : q * c ≡ c * q = omega arith in
    let g = function_over q (q - f.place) f.scale l v r in
    let backwards : AreBackwards f g c = record {
      left_is = taken_everywhere f.right l q q c c h.right_length some period are.left_is;
      value_is = taken_everywhere f.value v q q c c h.value_length some period are.value_is;
      right_is = taken_everywhere f.left r q q c c h.left_length some period are.right_is;
    } in
    record {
      order = refl;
      place = omega arith;
      same_values = λ m i j m_some opposite. ap (λ z. z *ℤ pos (f.scale * m))
          (backwards_table f g c m i j h e m_some backwards opposite);
    }

pub mirror_within : (f : FunctionData) (c : ℕ) (l v r : List ℤ) → IsWithinBounds f →
    c + 1 ≡ f.order →
    AreTaken (exchanged f) f.order c l v r →
    IsWithinBounds (function_over f.order (f.order - f.place) f.scale l v r)
mirror_within f c l v r h e are =
    let low = h.place_low in
    let high = h.place_high in
    let q = f.order in
    let some : 0 < q = omega arith in
    taken_within (exchanged f) q (q - f.place) c l v r (exchanged_within f h)
    (h.order_low, h.order_high) (omega arith, omega arith) are
    (λ a. ((a * c) % q, mod-lt (a * c) some, twice q c a e))
  where
    -- a place turned twice is itself
    twice : (q c a : ℕ) → c + 1 ≡ q → ((a * c) % q * c) % q ≡ a % q
    twice q c a e =
        let split : a * c / q * q + (a * c) % q ≡ a * c = div-add-mod' (a * c) q in
        let scaled : (a * c / q * q + (a * c) % q) * c ≡ a * c * c = ap (λ x. x * c) split in
        let first : a * c * (c + 1) ≡ a * c * q = ap (λ x. a * c * x) e in
        let second : a * (c + 1) ≡ a * q = ap (λ x. a * x) e in
        same_remainder ((a * c) % q * c) a (a * c / q * c + a) (a * c) q (omega arith)
