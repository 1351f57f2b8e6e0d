-- The names of the rows in their order, one after another.
use Rattle.std.proofs.Common.{◌≡◌, ℕ, zero, suc, ◌+◌, ◌-◌, ◌*◌, ◌<◌, ◌≤◌, ◌^◌, ◌⊎◌, inl, inr, cond, ◌+ℤ◌, true, false, List, [], ◌∷◌, ◌++◌, length, map, ap, ◌∙◌, arith}
use Rattle.std.specs.List.{range_with_len, filter, flat_map, Contains}
use Rattle.std.proofs.Math.Nat.{mul-le-mul}
use Rattle.std.proofs.lemmas.List.{length-append, length-map}
use Rattle.std.proofs.lemmas.List.Elements.{Contains-append_cases, Contains-push_cases}
use Rattle.std.proofs.lemmas.List.FromFn.{length-range_with_len}
use Rattle.std.proofs.lemmas.List.Sums.{length-filter, count_by-le-length}
use Rattle.std.proofs.lemmas.Bool.Decides.{Decides-int_eq}
use Rattle.gj_lemmas.proofs.Choices.{never_true}
use Rattle.gj_lemmas.proofs.Lists.{range_step, range_end}
use Rattle.gj_shape.specs.Additive.{IsTight}
use Rattle.gj_shape.specs.FunctionData.{FunctionData, IsWithinBounds, at}
use Rattle.gj_shape.specs.SlopeRows.{is_tight, row_names}
use Rattle.gj_shape.specs.declared.extremality.RowName.{RowName}
use Rattle.gj_shape.specs.declared.extremality.RowName.TheVariants.{Pair}
use Rattle.gj_extreme.specs.RowsToCome.{pairs_from, row_names_from}

-- ---- lists

pub cons_cases : {X : Type 0} (y : X) (ys : List X) (x : X) → Contains (y ∷ ys) x →
    (y ≡ x) ⊎ Contains ys x
cons_cases y ys x has = elim (Contains-append_cases (y ∷ []) ys x has) [
  | inl first ↦ elim (Contains-push_cases [] y x first) [
    | inl none ↦ let below = none.1 in absurd (omega arith)
    | inr same ↦ inl same
  ]
  | inr later ↦ inr later
]

-- ---- pairs

pairs_split : (f : FunctionData) (a b : ℕ) → b < f.order →
    pairs_from f a b
    ≡ map (Pair a) (cond (is_tight f a b)
    (b ∷ filter (is_tight f a) (range_with_len (b + 1) (f.order - (b + 1))))
    (filter (is_tight f a) (range_with_len (b + 1) (f.order - (b + 1)))))
pairs_split f a b below =
    ap (λ l. map (Pair a) (filter (is_tight f a) l)) (range_step b f.order below)

-- a tight pair comes first, and one that is not does not come
pub tight_pair : (f : FunctionData) (a b : ℕ) → b < f.order → is_tight f a b ≡ true →
    pairs_from f a b ≡ Pair a b ∷ pairs_from f a (b + 1)
tight_pair f a b below e =
    let later = filter (is_tight f a) (range_with_len (b + 1) (f.order - (b + 1))) in
    pairs_split f a b below ∙ ap (λ t. map (Pair a) (cond t (b ∷ later) later)) e

pub loose_pair : (f : FunctionData) (a b : ℕ) → b < f.order → is_tight f a b ≡ false →
    pairs_from f a b ≡ pairs_from f a (b + 1)
loose_pair f a b below e =
    let later = filter (is_tight f a) (range_with_len (b + 1) (f.order - (b + 1))) in
    pairs_split f a b below ∙ ap (λ t. map (Pair a) (cond t (b ∷ later) later)) e

pub no_pairs : (f : FunctionData) (a b : ℕ) → f.order ≤ b → pairs_from f a b ≡ []
no_pairs f a b above = ap (λ l. map (Pair a) (filter (is_tight f a) l)) (range_end b f.order above)

-- ---- rows

pub next_rows : (f : FunctionData) (a : ℕ) → a < f.order →
    row_names_from f a ≡ pairs_from f a a ++ row_names_from f (a + 1)
next_rows f a below = ap (flat_map (λ c. pairs_from f c c)) (range_step a f.order below)

pub no_rows : (f : FunctionData) (a : ℕ) → f.order ≤ a → row_names_from f a ≡ []
no_rows f a above = ap (flat_map (λ c. pairs_from f c c)) (range_end a f.order above)

-- ---- how many there are

pairs_short : (f : FunctionData) (a b : ℕ) → length (pairs_from f a b) ≤ f.order
pairs_short f a b =
    let range = range_with_len b (f.order - b) in
    let kept = length-filter (is_tight f a) range in
    let most = count_by-le-length (is_tight f a) range in
    let len = length-range_with_len b (f.order - b) in
    simp length-map (omega arith)

joined_short : (g : ℕ → List RowName) (m : ℕ) (xs : List ℕ) → ((x : ℕ) → length (g x) ≤ m) →
    length (flat_map g xs) ≤ length xs * m
joined_short g m [] h = omega arith
joined_short g m (x ∷ xs) h =
    let here = h x in
    let later = joined_short g m xs h in
    let all = length-append (g x) (flat_map g xs) in
    omega arith

pub rows_short : (f : FunctionData) → IsWithinBounds f → length (row_names f) < 2 ^ 32
rows_short f l =
    let range = range_with_len 1 (f.order - 1) in
    let most = joined_short (λ c. pairs_from f c c) f.order range (λ c. pairs_short f c c) in
    let len = length-range_with_len 1 (f.order - 1) in
    let high : f.order ≤ 1000 = l.order_high in
    let product : length (range_with_len 1 (f.order - 1)) * f.order ≤ 1000 * 1000 =
    mul-le-mul {n₁ = length (range_with_len 1 (f.order - 1))} {m₁ = f.order} {n₂ = 1000} {m₂ = 1000}
    (omega arith) high in
    omega arith

-- ---- as the code finds them

-- the first row to come is that of the tight pair
pub next_pair : (f : FunctionData) (a b : ℕ) (behind : List RowName) → b < f.order → IsTight f a b →
    pairs_from f a b ++ behind ≡ Pair a b ∷ (pairs_from f a (b + 1) ++ behind)
next_pair f a b behind below tight =
    ap (λ l. l ++ behind)
    (tight_pair f a b below
    ((Decides-int_eq (at f.value a +ℤ at f.value b) (at f.value (a + b))).1 tight))

-- pairs that are not tight have no row
skipped_pair : (f : FunctionData) (a b : ℕ) → b < f.order → (IsTight f a b → ⊥) →
    pairs_from f a b ≡ pairs_from f a (b + 1)
skipped_pair f a b below loose =
    loose_pair f a b below
    (never_true (is_tight f a b)
    (λ e. loose ((Decides-int_eq (at f.value a +ℤ at f.value b) (at f.value (a + b))).0 e)))

skipped_some : (f : FunctionData) (a from n : ℕ) → from + n ≤ f.order →
    ((k : ℕ) → from ≤ k → k < from + n → IsTight f a k → ⊥) →
    pairs_from f a from ≡ pairs_from f a (from + n)
skipped_some f a from zero below loose = let same : from ≡ from + 0 = omega arith in
    ap (pairs_from f a) same
skipped_some f a from (suc n) below loose =
    let next : from + n + 1 ≡ from + suc n = omega arith in
    skipped_some f a from n (omega arith) (λ k low high. loose k low (omega arith))
    ∙ skipped_pair f a (from + n) (omega arith) (loose (from + n) (omega arith) (omega arith))
    ∙ ap (pairs_from f a) next

pub skipped_pairs : (f : FunctionData) (a from b : ℕ) (behind : List RowName) → from ≤ b →
    b ≤ f.order →
    ((k : ℕ) → from ≤ k → k < b → IsTight f a k → ⊥) →
    pairs_from f a from ++ behind ≡ pairs_from f a b ++ behind
skipped_pairs f a from b behind low high loose =
    let is : from + (b - from) ≡ b = omega arith in
    ap (λ l. l ++ behind)
    (skipped_some f a from (b - from) (omega arith)
    (λ k from_k below. loose k from_k (omega arith))
    ∙ ap (pairs_from f a) is)
