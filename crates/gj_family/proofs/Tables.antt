-- The table of the mixed-integer cut: its two sides, its period and its size.
use Rattle.std.proofs.Common.{◌≡◌, ℕ, ◌-◌, ◌*◌, ◌%◌, ◌<◌, ◌≤◌, ⊎_elim, leb, if◌then◌else◌, sym, ap, ◌∙◌, arith}
use Rattle.std.proofs.Math.Nat.{eq-or-lt_of_le, mod-eq_of_lt, mod-mod, mod_self, mul_comm, mul-le-mul_left}
use Rattle.std.proofs.lemmas.Bool.{le-leb, lt-leb, cases_lt}
use Rattle.gj_shape.specs.Gmic.{gmic_table, gmic_scale}

-- it goes by the remainder of the index
pub table_remainder : (n k i : ℕ) → gmic_table n k (i % n) ≡ gmic_table n k i
unfolding gmic_table
table_remainder n k i =
    ap (λ r. (if leb r k then (n - k) * r else k * (n - r))) (mod-mod i n)

-- up to the place it rises
pub table_rising : (n k i : ℕ) → i < n → i ≤ k → gmic_table n k i ≡ (n - k) * i
unfolding gmic_table
table_rising n k i below low =
    ap (λ r. (if leb r k then (n - k) * r else k * (n - r))) (mod-eq_of_lt below)
    ∙ ap (λ b. (if b then (n - k) * i else k * (n - i))) (le-leb i k low)

table_above : (n k i : ℕ) → i < n → k < i → gmic_table n k i ≡ k * (n - i)
unfolding gmic_table
table_above n k i below high =
    ap (λ r. (if leb r k then (n - k) * r else k * (n - r))) (mod-eq_of_lt below)
    ∙ ap (λ b. (if b then (n - k) * i else k * (n - i))) (lt-leb i k high)

-- at the place both sides meet
table_at_place : (n k i : ℕ) → i < n → i ≡ k → gmic_table n k i ≡ k * (n - i)
table_at_place n k i below e =
    table_rising n k i below (omega arith) ∙ ap (λ r. (n - k) * r) e ∙ mul_comm (n - k) k
    ∙ ap (λ r. k * (n - r)) (sym e)

none_left : (c k : ℕ) → c * 0 ≡ k * 0
none_left c k = omega arith

table_at_end : (n k i : ℕ) → 0 < n → i ≡ n → gmic_table n k i ≡ k * (n - i)
table_at_end n k i some e =
    let none : n - i ≡ 0 = omega arith in
    ap (gmic_table n k) e ∙ sym (table_remainder n k n) ∙ ap (gmic_table n k) (mod_self n)
    ∙ table_rising n k 0 some (omega arith) ∙ none_left (n - k) k ∙ sym (ap (λ r. k * r) none)

-- from the place to the end it falls
pub table_falling : (n k i : ℕ) → k < n → k ≤ i → i ≤ n → gmic_table n k i ≡ k * (n - i)
table_falling n k i place low high =
    ⊎_elim (table_at_end n k i (omega arith))
    (λ below. ⊎_elim (λ e. table_at_place n k i below (sym e)) (table_above n k i below)
    (eq-or-lt_of_le low)) (eq-or-lt_of_le high)

-- each entry is at most the scale
pub table_high : (n k i : ℕ) → k < n → i < n → gmic_table n k i ≤ gmic_scale n k
table_high n k i place below =
    ⊎_elim
    (λ (l : i < k).
    let low : i ≤ k = omega arith in
    let e = table_rising n k i below low in
    let h = mul-le-mul_left (n - k) low in
    let s = mul_comm (n - k) k in
    omega arith)
    (λ (high : k ≤ i).
    let e = table_falling n k i place high (omega arith) in
    let less : n - i ≤ n - k = omega arith in
    let h = mul-le-mul_left k less in
    omega arith)
    (cases_lt i k)
