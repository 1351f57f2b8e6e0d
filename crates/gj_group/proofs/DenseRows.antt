-- Rows that are written entry by entry.
use Rattle.std.proofs.Common.{◌≡◌, ◌≢◌, ℕ, ◌⊎◌, inl, inr, ◌+◌, ◌-◌, ◌%◌, ◌<◌, ◌≤◌, ℤ, pos, negsuc, ◌+ℤ◌, ◌-ℤ◌, List, length, map, get_or, sym, ap, ap₂, ◌∙◌, arith}
use Rattle.std.specs.List.{range_with_len}
use Rattle.std.proofs.Math.ListN.{set}
use Rattle.std.proofs.Math.ListN.{replicate}
use Rattle.std.proofs.Math.Nat.{mod-lt, mod-eq_of_lt, mod-eq-sub-mod}
use Rattle.std.proofs.lemmas.Bool.{cases_eq, cases_lt}
use Rattle.std.proofs.lemmas.List.{get_or_default, same_lists, get_or-set_other, length-set, length-replicate, get_or-replicate}
use Rattle.std.proofs.lemmas.Grind.{get_or-set_at}
use Rattle.std.proofs.lemmas.List.FromFn.{length-map-range_with_len, get_or-map-range_with_len}
use Rattle.gj_group.specs.GroupRows.{one_at, entry_row, sum_row}
use Rattle.gj_group.proofs.RowSums.{one_here, one_apart}

-- a list of n entries
made : (g : ℕ → ℤ) (n : ℕ) (xs : List ℤ) → length xs ≡ n →
    ((i : ℕ) → i < n → get_or xs i (pos 0) ≡ g i) →
    xs ≡ map g (range_with_len 0 n)
made g n xs len same =
    same_lists xs (map g (range_with_len 0 n)) (len ∙ sym (length-map-range_with_len g 0 n))
    (λ k d below.
    let low : k < n = omega arith in
    get_or_default xs k d (pos 0) below ∙ same k low
    ∙ sym (get_or-map-range_with_len g 0 n k k d low (omega arith)))

-- n zeros
pub record AreZeros (n : ℕ) (zeros : List ℤ) : Type 0 where
  pub length_is : length zeros ≡ n
  pub zero : (i : ℕ) → i < n → get_or zeros i (pos 0) ≡ pos 0

pub entry_written : (n c : ℕ) (zeros : List ℤ) → AreZeros n zeros → c < n →
    set zeros c (pos 1) ≡ entry_row n c
entry_written n c zeros h below =
    let len = h.length_is in
    made (one_at c) n (set zeros c (pos 1)) (length-set zeros c (pos 1) ∙ len) each
  where
    each : (i : ℕ) → i < n → get_or (set zeros c (pos 1)) i (pos 0) ≡ one_at c i
    each i low =
        let len = h.length_is in
        let in_zeros : c < length zeros = omega arith in
        elim (cases_eq i c) [
          | inl e ↦ get_or-set_at zeros c i (pos 1) (pos 0) e in_zeros ∙ sym (one_here c)
              ∙ ap (one_at c) (sym e)
          | inr apart ↦ get_or-set_other zeros c i (pos 1) (pos 0) apart ∙ h.zero i low
              ∙ sym (one_apart c i apart)
        ]

pub sum_written : (n a b c : ℕ) (v : ℤ) (zeros : List ℤ) → AreZeros n zeros → a < n → b < n →
    c < n → c ≡ (a + b) % n → a ≢ c → b ≢ c →
    (a ≡ b → v ≡ pos 2) → (a ≢ b → v ≡ pos 1) → set (set (set zeros a (pos 1)) b v) c (negsuc 0)
    ≡ sum_row n a b
sum_written n a b c v zeros h a_low b_low c_low sum a_apart b_apart double once =
    made (λ i. one_at a i +ℤ one_at b i -ℤ one_at ((a + b) % n) i) n
    (set (set (set zeros a (pos 1)) b v) c (negsuc 0)) whole
    (λ i low. each i low ∙ ap (λ (k : ℕ). one_at a i +ℤ one_at b i -ℤ one_at k i) sum)
  where
    len_first : length (set zeros a (pos 1)) ≡ n
    len_first = length-set zeros a (pos 1) ∙ h.length_is

    len_second : length (set (set zeros a (pos 1)) b v) ≡ n
    len_second = length-set (set zeros a (pos 1)) b v ∙ len_first

    whole : length (set (set (set zeros a (pos 1)) b v) c (negsuc 0)) ≡ n
    whole = length-set (set (set zeros a (pos 1)) b v) c (negsuc 0) ∙ len_second

    value : (i : ℕ) (x y z : ℤ) → one_at a i ≡ x → one_at b i ≡ y → one_at c i ≡ z →
        x +ℤ y -ℤ z ≡ one_at a i +ℤ one_at b i -ℤ one_at c i
    value i x y z e f g = sym (ap₂ (λ p r. p -ℤ r) (ap₂ (λ p r. p +ℤ r) e f) g)

    each : (i : ℕ) → i < n → get_or (set (set (set zeros a (pos 1)) b v) c (negsuc 0)) i (pos 0)
        ≡ one_at a i +ℤ one_at b i -ℤ one_at c i
    each i low = elim (cases_eq i c) [
      | inl e ↦
          let in_second : c < length (set (set zeros a (pos 1)) b v) = omega (arith, len_second) in
          get_or-set_at (set (set zeros a (pos 1)) b v) c i (negsuc 0) (pos 0) e in_second
          ∙ value i (pos 0) (pos 0) (pos 1) (one_apart a i (λ same. a_apart (sym same ∙ e)))
          (one_apart b i (λ same. b_apart (sym same ∙ e)))
          (ap (one_at c) e ∙ one_here c)
      | inr off ↦
          get_or-set_other (set (set zeros a (pos 1)) b v) c i (negsuc 0) (pos 0) off
          ∙ at_b i low (one_apart c i off)
    ]
      where
        at_b : (i : ℕ) → i < n → one_at c i ≡ pos 0 →
            get_or (set (set zeros a (pos 1)) b v) i (pos 0)
            ≡ one_at a i +ℤ one_at b i -ℤ one_at c i
        at_b i low none = elim (cases_eq i b) [
          | inl e ↦
              let in_first : b < length (set zeros a (pos 1)) = omega (arith, len_first) in
              get_or-set_at (set zeros a (pos 1)) b i v (pos 0) e in_first ∙ at_both i e none
          | inr off ↦ get_or-set_other (set zeros a (pos 1)) b i v (pos 0) off
              ∙ at_a i low none (one_apart b i off)
        ]
          where
            at_both : (i : ℕ) → i ≡ b → one_at c i ≡ pos 0 →
                v ≡ one_at a i +ℤ one_at b i -ℤ one_at c i
            at_both i e none = elim (cases_eq i a) [
              | inl is ↦ double (sym is ∙ e)
                  ∙ value i (pos 1) (pos 1) (pos 0) (ap (one_at a) is ∙ one_here a)
                  (ap (one_at b) e ∙ one_here b) none
              | inr off ↦ once (λ same. off (e ∙ sym same))
                  ∙ value i (pos 0) (pos 1) (pos 0) (one_apart a i off)
                  (ap (one_at b) e ∙ one_here b) none
            ]

            at_a : (i : ℕ) → i < n → one_at c i ≡ pos 0 → one_at b i ≡ pos 0 →
                get_or (set zeros a (pos 1)) i (pos 0) ≡ one_at a i +ℤ one_at b i -ℤ one_at c i
            at_a i low none other = elim (cases_eq i a) [
              | inl e ↦
                  let len = h.length_is in
                  let in_zeros : a < length zeros = omega arith in
                  get_or-set_at zeros a i (pos 1) (pos 0) e in_zeros
                  ∙ value i (pos 1) (pos 0) (pos 0) (ap (one_at a) e ∙ one_here a) other none
              | inr off ↦
                  get_or-set_other zeros a i (pos 1) (pos 0) off ∙ h.zero i low
                  ∙ value i (pos 0) (pos 0) (pos 0) (one_apart a i off) other none
            ]

pub zeros_made : (n : ℕ) (zeros : List ℤ) → zeros ≡ replicate n (pos 0) → AreZeros n zeros
zeros_made n zeros is = record {
  length_is = ap length is ∙ length-replicate n (pos 0);
  zero = λ i below. ap (λ (xs : List ℤ). get_or xs i (pos 0)) is
      ∙ get_or-replicate n i (pos 0) (pos 0) below;
}

-- the sum of two places is neither of them
apart : (n a b : ℕ) → 1 ≤ a → a ≤ b → b < n → (a ≢ (a + b) % n) × (b ≢ (a + b) % n)
apart n a b low up high = by_size (cases_lt (a + b) n)
  where
    by_size : (a + b < n) ⊎ (n ≤ a + b) → (a ≢ (a + b) % n) × (b ≢ (a + b) % n)
    by_size (inl small) =
        let is : (a + b) % n ≡ a + b = mod-eq_of_lt small in
        (λ same. absurd (omega arith), λ same. absurd (omega arith))
    by_size (inr large) =
        let below : a + b - n < n = omega arith in
        let is : (a + b) % n ≡ a + b - n = mod-eq-sub-mod large ∙ mod-eq_of_lt below in
        (λ same. absurd (omega arith), λ same. absurd (omega arith))

-- the row of a pair, as the code writes it
pub pair_written : (n a b c : ℕ) (v : ℤ) (zeros : List ℤ) → zeros ≡ replicate n (pos 0) → 1 ≤ a →
    a ≤ b → b < n → c ≡ (a + b) % n →
    ((a ≡ b) × (v ≡ pos 2)) ⊎ ((a ≢ b) × (v ≡ pos 1)) →
    set (set (set zeros a (pos 1)) b v) c (negsuc 0) ≡ sum_row n a b
pair_written n a b c v zeros is low up high sum either =
    let both = apart n a b low up high in
    let some : 0 < n = omega arith in
    let within : (a + b) % n < n = mod-lt (a + b) some in
    let c_low : c < n = omega arith in
    sum_written n a b c v zeros (zeros_made n zeros is) (omega arith) high c_low sum
    (λ e. both.0 (e ∙ sum)) (λ e. both.1 (e ∙ sum))
    (λ e. double either e) (λ other. once either other)
  where
    double : ((a ≡ b) × (v ≡ pos 2)) ⊎ ((a ≢ b) × (v ≡ pos 1)) → a ≡ b → v ≡ pos 2
    double (inl h) e = h.1
    double (inr h) e = absurd (h.0 e)

    once : ((a ≡ b) × (v ≡ pos 2)) ⊎ ((a ≢ b) × (v ≡ pos 1)) → a ≢ b → v ≡ pos 1
    once (inl h) other = absurd (other h.0)
    once (inr h) other = h.1
