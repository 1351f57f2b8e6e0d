-- The rows of a table have its length and small entries, and they are few.
use Rattle.std.proofs.Common.{◌≡◌, ℕ, ◌+◌, ◌-◌, ◌*◌, ◌%◌, ◌<◌, ◌≤◌, ◌^◌, ◌==◌, Bool, true, false, if◌then◌else◌, ℤ, pos, ◌+ℤ◌, ◌-ℤ◌, List, [], ◌∷◌, length, flat_map, length-append, mul-le-mul, arith}
use Rattle.std.specs.Prelude.{All}
use Rattle.std.specs.List.{range_with_len}
use Rattle.std.proofs.lemmas.List.{length-map}
use Rattle.std.proofs.lemmas.List.Elements.{All-cons}
use Rattle.std.proofs.lemmas.List.FromFn.{length-range_with_len, length-map-range_with_len}
use Rattle.std.proofs.lemmas.List.Sums.{length-filter, count_by-le-length}
use Rattle.gj_frac.specs.Fraction.{Fits}
use Rattle.gj_lemmas.proofs.Lists.{All-made}
use Rattle.gj_theory.proofs.OrderedPairs.{made_of_pairs, all_pairs}
use Rattle.gj_group.specs.GroupRows.{one_at, entry_row, sum_row, is_tight_pair, sum_rows_with, group_rows}

-- ---- of each row

all_rows : (P : List ℤ → Type 0) (t : ℕ → ℤ) (n k : ℕ) → P (entry_row n 0) → P (entry_row n k) →
    ((a b : ℕ) → P (sum_row n a b)) →
    All P (group_rows t n k)
all_rows P t n k start place pair =
    let pairs = made_of_pairs (sum_row n) (is_tight_pair t) n in
    All-cons P (entry_row n 0) (entry_row n k ∷ pairs) start
    (All-cons P (entry_row n k) pairs place
    (all_pairs P (sum_row n) (is_tight_pair t) n (λ a b low high tight. pair a b)))

pub rows_length : (t : ℕ → ℤ) (n k : ℕ) → All (λ row. length row ≡ n) (group_rows t n k)
rows_length t n k =
    all_rows (λ row. length row ≡ n) t n k (length-map-range_with_len (one_at 0) 0 n)
    (length-map-range_with_len (one_at k) 0 n)
    (λ a b. length-map-range_with_len (λ i. one_at a i +ℤ one_at b i -ℤ one_at ((a + b) % n) i) 0 n)

one_fits : (b : Bool) → Fits (if b then pos 1 else pos 0)
one_fits true = omega arith
one_fits false = omega arith

sum_fits : (a b c : Bool) →
    Fits ((if a then pos 1 else pos 0) +ℤ (if b then pos 1 else pos 0)
    -ℤ (if c then pos 1 else pos 0))
sum_fits true true true = omega arith
sum_fits true true false = omega arith
sum_fits true false true = omega arith
sum_fits true false false = omega arith
sum_fits false true true = omega arith
sum_fits false true false = omega arith
sum_fits false false true = omega arith
sum_fits false false false = omega arith

entry_fits : (n c : ℕ) → All Fits (entry_row n c)
entry_fits n c = All-made Fits (one_at c) 0 n (λ i below. one_fits (i == c))

pub rows_fit : (t : ℕ → ℤ) (n k : ℕ) → All (All Fits) (group_rows t n k)
rows_fit t n k =
    all_rows (All Fits) t n k (entry_fits n 0) (entry_fits n k)
    (λ a b. All-made Fits (λ i. one_at a i +ℤ one_at b i -ℤ one_at ((a + b) % n) i) 0 n
    (λ i below. sum_fits (i == a) (i == b) (i == (a + b) % n)))

-- ---- how many there are

with_short : (t : ℕ → ℤ) (n a : ℕ) → length (sum_rows_with t n a) ≤ n
with_short t n a =
    let range = range_with_len a (n - a) in
    let kept = length-filter (is_tight_pair t a) range in
    let most = count_by-le-length (is_tight_pair t a) range in
    let len = length-range_with_len a (n - a) in
    simp length-map (omega arith)

joined_short : (g : ℕ → List (List ℤ)) (m : ℕ) (xs : List ℕ) → ((x : ℕ) → length (g x) ≤ m) →
    length (flat_map g xs) ≤ length xs * m
joined_short g m [] h = omega arith
joined_short g m (x ∷ xs) h =
    let here = h x in
    let later = joined_short g m xs h in
    let all = length-append (g x) (flat_map g xs) in
    omega arith

pub rows_few : (t : ℕ → ℤ) (n k : ℕ) → n ≤ 1000 → length (group_rows t n k) < 2 ^ 63
rows_few t n k high =
    let range = range_with_len 1 (n - 1) in
    let most = joined_short (sum_rows_with t n) n range (with_short t n) in
    let len = length-range_with_len 1 (n - 1) in
    let product : length (range_with_len 1 (n - 1)) * n ≤ 1000 * 1000 =
    mul-le-mul {n₁ = length (range_with_len 1 (n - 1))} {m₁ = n} {n₂ = 1000} {m₂ = 1000}
    (omega arith) high in
    omega arith
