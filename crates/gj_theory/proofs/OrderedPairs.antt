-- Lists made of the pairs (a, b) with 1 ≤ a ≤ b < n that pass a test, a ascending, inside it b.
use Rattle.std.proofs.Common.{◌≡◌, ℕ, zero, suc, inl, inr, ◌+◌, ◌-◌, ◌<◌, ◌≤◌, Bool, true, false, cond, List, ◌∷◌, map, get_or, filter, flat_map, All, sym, ap, subst, ◌∙◌, arith}
use Rattle.std.specs.List.{range_with_len}
use Rattle.std.proofs.lemmas.Bool.{cases_eq}
use Rattle.std.proofs.lemmas.List.Elements.{All-head, All-tail, All-map, All-filter, filter_passes}
use Rattle.gj_lemmas.proofs.Lists.{All-front, All-back, All-range, All-joined}

-- those with a
abbrev pub made_with : {X : Type 0} → (ℕ → ℕ → X) → (ℕ → ℕ → Bool) → ℕ → ℕ → List X
made_with g test n a = map (g a) (filter (test a) (range_with_len a (n - a)))

-- all
abbrev pub made_of_pairs : {X : Type 0} → (ℕ → ℕ → X) → (ℕ → ℕ → Bool) → ℕ → List X
made_of_pairs g test n = flat_map (made_with g test n) (range_with_len 1 (n - 1))

-- ---- one of all

-- what holds of the elements of all lists made from a range holds of those of each
joined_each : {X : Type 0} (P : X → Type 0) (g : ℕ → List X) (a n i : ℕ) → a ≤ i → i < a + n →
    All P (flat_map g (range_with_len a n)) → All P (g i)
joined_each P g a zero i low high all = absurd (omega arith)
joined_each P g a (suc n) i low high all = elim (cases_eq i a) [
  | inl e ↦ subst (λ (k : ℕ). All P (g k)) (sym e)
      (All-front P (g a) (flat_map g (range_with_len (a + 1) n)) all)
  | inr other ↦
      joined_each P g (a + 1) n i (omega arith) (omega arith)
      (All-back P (g a) (flat_map g (range_with_len (a + 1) n)) all)
]

-- what holds of all elements made from the numbers of a range that pass a test holds of each
filtered_each : {X : Type 0} (P : X → Type 0) (h : ℕ → X) (test : ℕ → Bool) (a n i : ℕ) → a ≤ i →
    i < a + n →
    test i ≡ true → All P (map h (filter test (range_with_len a n))) → P (h i)
filtered_each P h test a zero i low high passes all = absurd (omega arith)
filtered_each P h test a (suc n) i low high passes all = elim (cases_eq i a) [
  | inl e ↦ subst (λ (k : ℕ). P (h k)) (sym e) (first (test a) (ap test (sym e) ∙ passes) all)
  | inr other ↦
      filtered_each P h test (a + 1) n i (omega arith) (omega arith) passes (later (test a) all)
]
  where
    rest : List ℕ
    rest = filter test (range_with_len (a + 1) n)

    first : (b : Bool) → b ≡ true → All P (map h (cond b (a ∷ rest) rest)) → P (h a)
    first true e here = All-head P (h a) (map h rest) here
    first false e here = absurd (cc)

    later : (b : Bool) → All P (map h (cond b (a ∷ rest) rest)) → All P (map h rest)
    later true here = All-tail P (h a) (map h rest) here
    later false here = here

-- what holds of all holds of the one of a pair
pub pair_of_all : {X : Type 0} (P : X → Type 0) (g : ℕ → ℕ → X) (test : ℕ → ℕ → Bool) (n : ℕ) →
    All P (made_of_pairs g test n) →
    (a b : ℕ) → 1 ≤ a → a ≤ b → b < n → test a b ≡ true → P (g a b)
pair_of_all P g test n all a b low up high passes =
    filtered_each P (g a) (test a) a (n - a) b up (omega arith) passes
    (joined_each P (made_with g test n) 1 (n - 1) a low (omega arith) all)

-- ---- all

made_with_all : {X : Type 0} (P : X → Type 0) (g : ℕ → ℕ → X) (test : ℕ → ℕ → Bool) (n a : ℕ) →
    a < 1 + (n - 1) →
    ((b : ℕ) → a < n → b < n → test a b ≡ true → P (g a b)) → All P (made_with g test n a)
made_with_all P g test n a low each =
    let numbers = range_with_len a (n - a) in
    let range : All (λ b. b < n) numbers =
    All-range (λ b. b < n) a (n - a) (λ b below. omega arith) in
    let within = All-filter (test a) (λ b. b < n) numbers range in
    let passes = filter_passes (test a) numbers in
    All-map P (g a) (filter (test a) numbers)
    (λ i d inside.
    let below : get_or (filter (test a) numbers) i d < n = within i d inside in
    each (get_or (filter (test a) numbers) i d) (omega arith) below (passes i d inside))

-- what holds of the one of each pair below n holds of all
pub all_pairs : {X : Type 0} (P : X → Type 0) (g : ℕ → ℕ → X) (test : ℕ → ℕ → Bool) (n : ℕ) →
    ((a b : ℕ) → a < n → b < n → test a b ≡ true → P (g a b)) → All P (made_of_pairs g test n)
all_pairs P g test n each =
    All-joined P (made_with g test n) 1 (n - 1)
    (λ a below. made_with_all P g test n a below (λ b. each a b))
