-- Triangular rows: their pivots, and what only 0 solves.
use Rattle.std.proofs.Common.{◌≡◌, ℕ, ◌<◌, ◌≤◌, inl, inr, Bool, true, false, ◌||◌, cond, Option, None, Some, ℤ, pos, List, [], ◌∷◌, ◌++◌, length, map, eqb, refl, sym, ap₂, subst, ◌∙◌, arith}
use Rattle.std.specs.Prelude.{All, get_or}
use Rattle.std.specs.List.{find, list_any, AllByRecursion, IsDistinct}
use Rattle.std.proofs.lemmas.Bool.{cases_lt}
use Rattle.std.proofs.lemmas.Bool.Decides.{Decides-eqb, not_from_Decides}
use Rattle.std.proofs.lemmas.Int.{ints}
use Rattle.std.proofs.lemmas.List.{length-map, length_push, get_or-map, get_or_past}
use Rattle.std.proofs.lemmas.List.Elements.{All-nil, All-cons, All-head, All-tail, All-push, All-get_or}
use Rattle.std.proofs.lemmas.Map.Keys.{IsDistinct-head, IsDistinct-tail, IsDistinct-cons, apart_from_distinct}
use Rattle.std.proofs.lemmas.Map.Steps.{length-le_from_distinct_below}
use Rattle.gj_shape.specs.Elimination.{KeptRow, at_column, row_with_pivot}
use Rattle.gj_shape.specs.SlopeRows.{sum_of_products}
use Rattle.gj_theory.specs.PivotRows.{HavePivotsBy}
use Rattle.gj_theory.specs.TriangularRows.{Solves, SolvesKept, IsKeptRowBy, AreTriangularBy, AreTriangular}
use Rattle.gj_theory.proofs.PivotsLeaveZero.{CancelsZero, whole_cancels, no_products, only_zero}

-- ---- the kept row with its pivot at a column

-- what all elements have, the one found has
pub find_has : {X : Type 0} (P : X → Type 0) (p : X → Bool) (xs : List X) (x : X) → All P xs →
    find p xs ≡ Some x →
    P x × (p x ≡ true)
find_has P p [] x all e = absurd cc
find_has P p (y ∷ ys) x all e = by_test (p y) refl e (find_has P p ys x (All-tail P y ys all))
  where
    by_test : (b : Bool) → p y ≡ b → cond b (Some y) (find p ys) ≡ Some x →
        (find p ys ≡ Some x → P x × (p x ≡ true)) → P x × (p x ≡ true)
    by_test true t e later =
        let same : y ≡ x = cc in
        (subst P same (All-head P y ys all), subst (λ z. p z ≡ true) same t)
    by_test false t e later = later e

pub kept_row_at : {P : ℤ → Type 0} (n : ℕ) (kept : List KeptRow) (c : ℕ) (k : KeptRow) →
    AreTriangularBy P n kept →
    row_with_pivot kept c ≡ Some k → IsKeptRowBy P n k × (k.pivot ≡ c)
kept_row_at {P = P} n kept c k h e =
    let both = find_has (IsKeptRowBy P n) (λ r. eqb r.pivot c) kept k h.rows e in
    (both.0, (Decides-eqb k.pivot c).0 both.1)

-- ---- the pivots

pub no_rows_triangular : {P : ℤ → Type 0} (n : ℕ) → AreTriangularBy P n []
unfolding IsDistinct
no_rows_triangular {P = P} n = record { rows = All-nil (IsKeptRowBy P n); pivots = tt }

cond_none : {X : Type 0} (b : Bool) (x : X) (o : Option X) → cond b (Some x) o ≡ None →
    (b ≡ false) × (o ≡ None)
cond_none true x o e = absurd cc
cond_none false x o e = (refl, e)

all_push : (P : ℕ → Type 0) (xs : List ℕ) (y : ℕ) → AllByRecursion P xs → P y →
    AllByRecursion P (xs ++ y ∷ [])
all_push P [] y all last = (last, tt)
all_push P (x ∷ xs) y all last = (all.0, all_push P xs y all.1 last)

pub pivots_push : (kept : List KeptRow) (k : KeptRow) →
    IsDistinct (λ a b. eqb a b) (map (λ r. r.pivot) kept) →
    row_with_pivot kept k.pivot ≡ None →
    IsDistinct (λ a b. eqb a b) (map (λ r. r.pivot) kept ++ k.pivot ∷ [])
pivots_push [] k h free = IsDistinct-cons (λ a b. eqb a b) k.pivot [] tt h
pivots_push (x ∷ kept) k h free =
    let (apart, rest) = cond_none (eqb x.pivot k.pivot) x (row_with_pivot kept k.pivot) free in
    IsDistinct-cons (λ a b. eqb a b) x.pivot (map (λ r. r.pivot) kept ++ k.pivot ∷ [])
    (all_push (λ y. eqb x.pivot y ≡ false) (map (λ r. r.pivot) kept) k.pivot
    (IsDistinct-head (λ a b. eqb a b) x.pivot (map (λ r. r.pivot) kept) h) apart)
    (pivots_push kept k (IsDistinct-tail (λ a b. eqb a b) x.pivot (map (λ r. r.pivot) kept) h) rest)

pub below_from_any : (n : ℕ) (xs : List ℕ) (q : ℕ) → All (λ x. x < n) xs →
    list_any (eqb q) xs ≡ true → q < n
below_from_any n [] q all e = absurd cc
below_from_any n (x ∷ xs) q all e =
    by_test (eqb q x) refl e (below_from_any n xs q (All-tail (λ y. y < n) x xs all))
  where
    by_test : (b : Bool) → eqb q x ≡ b → (b || list_any (eqb q) xs) ≡ true →
        (list_any (eqb q) xs ≡ true → q < n) → q < n
    by_test true t e later =
        subst (λ (i : ℕ). i < n) (sym ((Decides-eqb q x).0 t)) (All-head (λ y. y < n) x xs all)
    by_test false t e later = later e

pivots_below : {P : ℤ → Type 0} (n : ℕ) (kept : List KeptRow) → All (IsKeptRowBy P n) kept →
    All (λ x. x < n) (map (λ k. k.pivot) kept)
pivots_below n [] h = All-nil (λ x. x < n)
pivots_below {P = P} n (k ∷ kept) h =
    All-cons (λ x. x < n) k.pivot (map (λ r. r.pivot) kept)
    (All-head (IsKeptRowBy P n) k kept h).below
    (pivots_below n kept (All-tail (IsKeptRowBy P n) k kept h))

pub rank_at_most : {P : ℤ → Type 0} (n : ℕ) (kept : List KeptRow) → AreTriangularBy P n kept →
    length kept ≤ n
rank_at_most n kept h =
    let count = length-le_from_distinct_below (map (λ k. k.pivot) kept) n h.pivots
    (λ q has. below_from_any n (map (λ k. k.pivot) kept) q (pivots_below n kept h.rows) has) in
    let len = length-map kept (λ k. k.pivot) in
    omega arith

-- a column without a pivot means fewer rows
pub fewer_rows : {P : ℤ → Type 0} (n : ℕ) (kept : List KeptRow) (c : ℕ) → AreTriangularBy P n kept →
    c < n → row_with_pivot kept c ≡ None →
    length kept < n
fewer_rows n kept c h below free =
    let k : KeptRow = record { number = 0; reduce = []; pivot = c; entries = [] } in
    let pivots : List ℕ = map (λ r. r.pivot) kept in
    let count = length-le_from_distinct_below (pivots ++ c ∷ []) n
    (pivots_push kept k h.pivots free)
    (λ q has. below_from_any n (pivots ++ c ∷ []) q
    (All-push (λ x. x < n) pivots c (pivots_below n kept h.rows) below) has) in
    let one_more = length_push pivots c in
    let len = length-map kept (λ r. r.pivot) in
    omega arith

-- ---- as many rows as columns

no_row : KeptRow
no_row = record { number = 0; reduce = []; pivot = 0; entries = [] }

-- they have their pivots in the sense of what counts as 0, if those of their kind are cancelled
triangular_pivots : {P Z C : ℤ → Type 0} (h : CancelsZero Z C) (n : ℕ) (kept : List KeptRow) →
    ((x : ℤ) → P x → C x) →
    AreTriangularBy P n kept → length kept ≡ n →
    HavePivotsBy Z C n (λ g. (get_or kept g no_row).entries) (λ g. (get_or kept g no_row).pivot)
triangular_pivots {P = P} {Z = Z} {C = C} h n kept cancelled all full =
    let row = λ (g : ℕ) (low : g < n). All-get_or (IsKeptRowBy P n) kept g no_row
    (omega arith) all.rows in record {
      within = λ g low. (row g low).below;
      different = λ g i before low.
          let pivots = map (λ k. k.pivot) kept in
          let len = length-map kept (λ k. k.pivot) in
          let apart : eqb (get_or pivots g 0) (get_or pivots i 0) ≡ false =
          apart_from_distinct eqb pivots g i 0 all.pivots before (omega arith) in
          let first : get_or pivots g 0 ≡ (get_or kept g no_row).pivot =
          get_or-map (λ k. k.pivot) kept g no_row 0 (omega arith) in
          let second : get_or pivots i 0 ≡ (get_or kept i no_row).pivot =
          get_or-map (λ k. k.pivot) kept i no_row 0 (omega arith) in
          not_from_Decides _ (Decides-eqb (get_or kept g no_row).pivot (get_or kept i no_row).pivot)
          (ap₂ eqb (sym first) (sym second) ∙ apart);
      zero_before = λ g c low before. subst Z (sym ((row g low).zero_before c before)) h.none;
      at_pivot = λ g low. cancelled
          (at_column (get_or kept g no_row).entries (get_or kept g no_row).pivot)
          (row g low).at_pivot;
    }

pub full_leaves_zero : {P Z C : ℤ → Type 0} (h : CancelsZero Z C) (n : ℕ) (kept : List KeptRow)
    (w : List ℤ) →
    ((x : ℤ) → P x → C x) → AreTriangularBy P n kept → length kept ≡ n → length w ≡ n →
    All (λ k. Z (sum_of_products k.entries w)) kept → All Z w
full_leaves_zero {Z = Z} h n kept w cancelled all full long solved =
    only_zero h n (λ g. (get_or kept g no_row).entries) (λ g. (get_or kept g no_row).pivot) w
    (triangular_pivots h n kept cancelled all full) long
    (λ g low. All-get_or (λ k. Z (sum_of_products k.entries w)) kept g no_row (omega arith) solved)

-- of whole numbers
pub zeros_of : (n : ℕ) (kept : List KeptRow) (w : List ℤ) → AreTriangular n kept → length kept ≡ n →
    length w ≡ n →
    SolvesKept w kept → All (λ x. x ≡ pos 0) w
zeros_of n kept w = full_leaves_zero whole_cancels n kept w
    (λ x some e. absurd (omega (arith, ints)))

-- so what solves them solves each row
pub all_pivots_solve : (n : ℕ) (kept : List KeptRow) (w : List ℤ) → AreTriangular n kept →
    length kept ≡ n → length w ≡ n →
    SolvesKept w kept → (row : List ℤ) → Solves w row
all_pivots_solve n kept w h full long solved row =
    no_products whole_cancels row w
    (λ d.
    elim (cases_lt d (length w)) [
      | inl low ↦ All-get_or (λ x. x ≡ pos 0) w d (pos 0) low (zeros_of n kept w h full long solved)
      | inr past ↦ get_or_past w d (pos 0) past
    ])
