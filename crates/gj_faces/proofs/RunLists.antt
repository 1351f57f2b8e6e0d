-- Runs in order, as a list with indices.
use Rattle.std.proofs.Common.{◌≡◌, ◌⊎◌, inl, inr, ℕ, zero, suc, ◌+◌, ◌-◌, ◌%◌, ◌<◌, ◌≤◌, List, ◌∷◌, ◌++◌, length, get_or, take, drop, All, refl, sym, ap, subst, ◌∙◌, length-append, arith}
use Rattle.std.proofs.lemmas.Bool.{cases_eq, cases_lt}
use Rattle.std.proofs.lemmas.List.{drop_more, take-append-drop, get_or_at, get_or_default, get_or-append-add}
use Rattle.gj_faces.specs.declared.run.Run.{Run}
use Rattle.gj_faces.specs.Runs.{RunHolds, IsRunOf, EndsBefore, AreInOrder}

-- a list is what comes before two neighbours, the two, and what comes behind
split : (xs : List Run) (k : ℕ) (d : Run) → k + 1 < length xs →
    xs ≡ take k xs ++ get_or xs k d ∷ get_or xs (k + 1) d ∷ drop (k + 1 + 1) xs
split xs k d h =
    sym (take-append-drop k xs)
    ∙ ap (λ ys. take k xs ++ ys) (drop_more xs k d (omega arith)
    ∙ ap (λ ys. get_or xs k d ∷ ys) (drop_more xs (k + 1) d h))

-- neighbours by their indices
abbrev pub AreAscending : List Run → Type 0
AreAscending runs = (k : ℕ) (d : Run) → k + 1 < length runs →
    EndsBefore (get_or runs k d) (get_or runs (k + 1) d)

pub ascending_by_index : (q : ℕ) (runs : List Run) → AreInOrder q runs → AreAscending runs
ascending_by_index q runs h k d below =
    h.ascending (take k runs) (get_or runs k d) (get_or runs (k + 1) d) (drop (k + 1 + 1) runs)
    (split runs k d below)

-- the first of three runs ends before the third begins
along : (q : ℕ) (r s t : Run) → IsRunOf q s → EndsBefore r s → EndsBefore s t → EndsBefore r t
along q r s t run (inl h) (inl k) = inl (omega arith)
along q r s t run (inl h) (inr k) = inl (omega arith)
along q r s t run (inr h) (inl k) = inl (omega arith)
along q r s t run (inr h) (inr k) = inr (h.0 ∙ k.0, omega (arith, run.some))

-- each run ends before each later one
later : (q : ℕ) (runs : List Run) → All (IsRunOf q) runs → AreAscending runs → (k m : ℕ) (d : Run) →
    k + m + 1 < length runs → EndsBefore (get_or runs k d) (get_or runs (k + m + 1) d)
later q runs each ascending k zero d below =
    let e : k + 1 ≡ k + zero + 1 = omega arith in
    subst (λ n. EndsBefore (get_or runs k d) (get_or runs n d)) e (ascending k d (omega arith))
later q runs each ascending k (suc m) d below =
    let e : k + m + 1 + 1 ≡ k + suc m + 1 = omega arith in
    subst (λ n. EndsBefore (get_or runs k d) (get_or runs n d)) e
    (along q (get_or runs k d) (get_or runs (k + m + 1) d) (get_or runs (k + m + 1 + 1) d)
    (each (k + m + 1) d (omega arith)) (later q runs each ascending k m d (omega arith))
    (ascending (k + m + 1) d (omega arith)))

pub each_later : (q : ℕ) (runs : List Run) → AreInOrder q runs → (k l : ℕ) (d : Run) → k < l →
    l < length runs →
    EndsBefore (get_or runs k d) (get_or runs l d)
each_later q runs h k l d order below =
    let e : k + (l - (k + 1)) + 1 ≡ l = omega arith in
    subst (λ n. EndsBefore (get_or runs k d) (get_or runs n d)) e
    (later q runs h.each (ascending_by_index q runs h) k (l - (k + 1)) d (omega arith))

-- ---- the search for a pair

-- no run below low or from high on holds the pair
abbrev pub IsBetween : ℕ → List Run → ℕ → ℕ → ℕ → ℕ → Type 0
IsBetween q runs i j low high =
    (k : ℕ) (d : Run) → k < length runs → RunHolds q i j (get_or runs k d) → (low ≤ k) × (k < high)

-- a run that ends before the pair does not hold it, nor does one before
ends_early : (q i j : ℕ) (r s : Run) → (s.a < i % q) ⊎ ((s.a ≡ i % q) × (s.to < j % q)) →
    IsRunOf q s →
    (EndsBefore r s) ⊎ (r ≡ s) → RunHolds q i j r → ⊥
ends_early q i j r s (inl early) run (inl (inl h)) holds = omega (arith, holds.row)
ends_early q i j r s (inl early) run (inl (inr h)) holds = omega (arith, holds.row)
ends_early q i j r s (inr early) run (inl (inl h)) holds = omega (arith, holds.row)
ends_early q i j r s (inr early) run (inl (inr h)) holds = omega (arith, holds.stop, run.some)
ends_early q i j r s (inl early) run (inr e) holds =
    omega (arith, holds.row, ap (λ (t : Run). t.a) e)
ends_early q i j r s (inr early) run (inr e) holds =
    omega (arith, holds.stop, ap (λ (t : Run). t.to) e)

-- nor does one that begins behind it, or one behind that
starts_late : (q i j : ℕ) (r s : Run) → (i % q < s.a) ⊎ ((s.a ≡ i % q) × (j % q < s.from)) →
    IsRunOf q s →
    (EndsBefore s r) ⊎ (r ≡ s) → RunHolds q i j r → ⊥
starts_late q i j r s (inl late) run (inl (inl h)) holds = omega (arith, holds.row)
starts_late q i j r s (inl late) run (inl (inr h)) holds = omega (arith, holds.row)
starts_late q i j r s (inr late) run (inl (inl h)) holds = omega (arith, holds.row)
starts_late q i j r s (inr late) run (inl (inr h)) holds = omega (arith, holds.start, run.some)
starts_late q i j r s (inl late) run (inr e) holds =
    omega (arith, holds.row, ap (λ (t : Run). t.a) e)
starts_late q i j r s (inr late) run (inr e) holds =
    omega (arith, holds.start, ap (λ (t : Run). t.from) e)

-- the place of a run among those up to another, or from another on
up_to : (q : ℕ) (runs : List Run) → AreInOrder q runs → (k m : ℕ) (d : Run) → k ≤ m →
    m < length runs →
    (EndsBefore (get_or runs k d) (get_or runs m d)) ⊎ (get_or runs k d ≡ get_or runs m d)
up_to q runs h k m d order below =
    elim (cases_eq k m) [
      | inl e ↦ inr (ap (λ n. get_or runs n d) e)
      | inr differ ↦ inl (each_later q runs h k m d (omega arith) below)
    ]

behind : (q : ℕ) (runs : List Run) → AreInOrder q runs → (k m : ℕ) (d : Run) → m ≤ k →
    k < length runs →
    (EndsBefore (get_or runs m d) (get_or runs k d)) ⊎ (get_or runs k d ≡ get_or runs m d)
behind q runs h k m d order below =
    elim (cases_eq k m) [
      | inl e ↦ inr (ap (λ n. get_or runs n d) e)
      | inr differ ↦ inl (each_later q runs h m k d (omega arith) below)
    ]

-- if the run at m ends before the pair, the search goes on behind it
pub narrowed_up : (q : ℕ) (runs : List Run) (i j low high m : ℕ) (e : Run) → AreInOrder q runs →
    m < length runs →
    ((get_or runs m e).a < i % q)
    ⊎ (((get_or runs m e).a ≡ i % q) × ((get_or runs m e).to < j % q)) →
    IsBetween q runs i j low high → IsBetween q runs i j (m + 1) high
narrowed_up q runs i j low high m e h below early between k d within holds =
    let here = h.each m e below in
    let found = subst (RunHolds q i j) (get_or_default runs k d e within) holds in
    let upper = (between k d within holds).1 in
    elim (cases_lt m k) [
      | inl beyond ↦ (omega arith, upper)
      | inr order ↦ absurd
          (ends_early q i j (get_or runs k e) (get_or runs m e) early here
          (up_to q runs h k m e order below)
          found)
    ]

-- if it begins behind the pair, the search goes on before it
pub narrowed_down : (q : ℕ) (runs : List Run) (i j low high m : ℕ) (e : Run) → AreInOrder q runs →
    m < length runs →
    (i % q < (get_or runs m e).a)
    ⊎ (((get_or runs m e).a ≡ i % q) × (j % q < (get_or runs m e).from)) →
    IsBetween q runs i j low high → IsBetween q runs i j low m
narrowed_down q runs i j low high m e h below late between k d within holds =
    let here = h.each m e below in
    let found = subst (RunHolds q i j) (get_or_default runs k d e within) holds in
    let lower = (between k d within holds).0 in
    elim (cases_lt k m) [
      | inl before ↦ (lower, before)
      | inr order ↦ absurd
          (starts_late q i j (get_or runs k e) (get_or runs m e) late here
          (behind q runs h k m e order within)
          found)
    ]

-- ---- in order

pub in_order_by_index : (q : ℕ) (runs : List Run) → All (IsRunOf q) runs → AreAscending runs →
    AreInOrder q runs
in_order_by_index q runs each ascending = record {
  each = each;
  ascending = λ before r s after e.
      let lengths = ap length e ∙ length-append before (r ∷ s ∷ after) in
      let first : get_or runs (length before) r ≡ r = ap (λ xs. get_or xs (length before) r) e
      ∙ get_or_at before r (s ∷ after) r (length before) refl in
      let second : get_or runs (length before + 1) r ≡ s =
      ap (λ xs. get_or xs (length before + 1) r) e
      ∙ get_or-append-add before (r ∷ s ∷ after) 1 r in
      let neighbours = ascending (length before) r (omega arith) in
      subst (λ x. EndsBefore x s) first
      (subst (EndsBefore (get_or runs (length before) r)) second neighbours);
}
