-- Pairs in rows of sets.
use Rattle.std.proofs.Common.{◌≡◌, ◌≢◌, ℕ, ◌+◌, ◌<◌, ◌≤◌, List, [], ◌∷◌, ◌++◌, length, get_or, false, sym, ap, ◌∙◌, inl, inr, arith}
use Rattle.std.specs.Prelude.{map}
use Rattle.std.proofs.Math.ListN.{set, length-set}
use Rattle.std.proofs.lemmas.Bool.{cases_order, cases_lt}
use Rattle.std.proofs.lemmas.List.{get_or-map, get_or-set_other, get_or-set_same, get_or_append_left, get_or_push, get_or_past, length-append, length-map}
use Rattle.gj_loops.specs.IndexSets.{has}
use Rattle.gj_loops.specs.declared.index_set.IndexSet.{IndexSet}
use Rattle.gj_cover.specs.SetRows.{in_row}

-- a set that was read
pub row_has : (rows : List IndexSet) (a b : ℕ) (row : IndexSet) → a < length rows →
    row ≡ get_or rows a row →
    in_row rows a b ≡ has row b
unfolding in_row
row_has rows a b row within is =
    get_or-map (λ r. has r b) rows a row false within ∙ ap (λ r. has r b) (sym is)

-- a set that was written
pub row_written : (rows : List IndexSet) (a b : ℕ) (row : IndexSet) → a < length rows →
    in_row (set rows a row) a b ≡ has row b
row_written rows a b row within =
    let len = length-set rows a row in
    row_has (set rows a row) a b row (let in' : a < length (set rows a row) = omega arith in in')
    (sym (get_or-set_same rows a row row within))

-- the others stay
pub row_stays : (rows : List IndexSet) (a c b : ℕ) (row : IndexSet) → c < length rows → c ≢ a →
    in_row (set rows a row) c b ≡ in_row rows c b
unfolding in_row
row_stays rows a c b row within other =
    let len = length-set rows a row in
    get_or-map (λ r. has r b) (set rows a row) c row false (let in' : c < length (set rows a row) =
    omega arith in in')
    ∙ ap (λ r. has r b) (get_or-set_other rows a c row row other)
    ∙ sym (get_or-map (λ r. has r b) rows c row false within)

-- a set more
pub row_before : (rows : List IndexSet) (a b : ℕ) (row : IndexSet) → a < length rows →
    in_row (rows ++ row ∷ []) a b ≡ in_row rows a b
unfolding in_row
row_before rows a b row within =
    let len = length-append rows (row ∷ []) in
    get_or-map (λ r. has r b) (rows ++ row ∷ []) a row false
    (let in' : a < length (rows ++ row ∷ []) = omega arith in in')
    ∙ ap (λ r. has r b) (get_or_append_left rows (row ∷ []) row a within)
    ∙ sym (get_or-map (λ r. has r b) rows a row false within)

pub row_pushed : (rows : List IndexSet) (a b : ℕ) (row : IndexSet) → length rows ≡ a →
    in_row (rows ++ row ∷ []) a b ≡ has row b
row_pushed rows a b row len =
    let longer = length-append rows (row ∷ []) in
    row_has (rows ++ row ∷ []) a b row (let in' : a < length (rows ++ row ∷ []) = omega arith in
    in')
    (sym (get_or_push rows row row a len))

-- no set
pub row_past : (rows : List IndexSet) (a b : ℕ) → length rows ≤ a → in_row rows a b ≡ false
unfolding in_row
row_past rows a b past =
    get_or_past (map (λ r. has r b) rows) a false (simp length-map past)

-- an empty set more
pub no_more : (rows : List IndexSet) (row : IndexSet) → ((a b : ℕ) → in_row rows a b ≡ false) →
    ((b : ℕ) → has row b ≡ false) →
    (a b : ℕ) → in_row (rows ++ row ∷ []) a b ≡ false
no_more rows row none empty a b = elim (cases_order a (length rows)) [
  | inl same ↦ row_pushed rows a b row (sym same) ∙ empty b
  | inr d ↦ elim d [
    | inl below ↦ row_before rows a b row below ∙ none a b
    | inr past ↦
        let len = length-append rows (row ∷ []) in
        row_past (rows ++ row ∷ []) a b (let le : length (rows ++ row ∷ []) ≤ a = omega arith in le)
  ]
]

-- a set more, in which q stands for 0
pub round_more : (q n : ℕ) (rows : List IndexSet) (row : IndexSet) → length rows ≡ n →
    has row q ≡ has row 0 →
    ((a : ℕ) → a < n → in_row rows a q ≡ in_row rows a 0) →
    (a : ℕ) → a < n + 1 → in_row (rows ++ row ∷ []) a q ≡ in_row (rows ++ row ∷ []) a 0
round_more q n rows row len round before a below = elim (cases_lt a n) [
  | inl low ↦
      let in' : a < length rows = omega arith in
      row_before rows a q row in' ∙ before a low ∙ sym (row_before rows a 0 row in')
  | inr high ↦
      let it : length rows ≡ a = omega arith in
      row_pushed rows a q row it ∙ round ∙ sym (row_pushed rows a 0 row it)
]

-- a set more, with nothing behind q
pub within_more : (q n : ℕ) (rows : List IndexSet) (row : IndexSet) → length rows ≡ n →
    ((b : ℕ) → q < b → has row b ≡ false) →
    ((a b : ℕ) → a < n → q < b → in_row rows a b ≡ false) →
    (a b : ℕ) → a < n + 1 → q < b → in_row (rows ++ row ∷ []) a b ≡ false
within_more q n rows row len last before a b below past = elim (cases_lt a n) [
  | inl low ↦ row_before rows a b row (let in' : a < length rows = omega arith in in')
      ∙ before a b low past
  | inr high ↦ row_pushed rows a b row (let it : length rows ≡ a = omega arith in it) ∙ last b past
]
