-- Counts of the intervals in each component between two grid points.
use Rattle.std.proofs.Common.{◌≡◌, ℕ, ◌+◌, ◌<◌, ◌≤◌, ◌⊎◌, inl, inr, ℤ, pos, ◌+ℤ◌, ◌-ℤ◌, List, length, map, get_or, set, unsigned_abs, sym, subst, ◌∙◌, arith}
use Rattle.std.specs.Prelude.{All}
use Rattle.std.specs.List.{range_with_len}
use Rattle.std.proofs.lemmas.Bool.{cases_eq}
use Rattle.std.proofs.lemmas.Int.{ints}
use Rattle.std.proofs.lemmas.List.{get_or-set_same, get_or-set_other}
use Rattle.std.proofs.lemmas.List.Elements.{All-get_or, All-from_get_or}
use Rattle.std.proofs.lemmas.List.FromFn.{fill_by_all}
use Rattle.gj_shape.specs.SlopeRows.{rises}
use Rattle.gj_theory.proofs.RiseCounts.{HasAdded, rises_here, rises_elsewhere, rises_at_most, row_of_one}

-- the row is the old one with the rises to j, less those to i
pub record HasMoved (f : ℕ → ℕ) (i j : ℕ) (old row : List ℤ) : Type 0 where
  pub at : (c : ℕ) → c < length old → get_or row c (pos 0) +ℤ pos (rises f i c)
      ≡ get_or old c (pos 0) +ℤ pos (rises f j c)

-- ---- one interval more

pub one_more_added : (f : ℕ → ℕ) (from i : ℕ) (old row : List ℤ) (z : ℤ) →
    HasMoved f from i old row → length row ≡ length old →
    f i < length old → z ≡ get_or row (f i) (pos 0) +ℤ pos 1 →
    HasMoved f from (i + 1) old (set row (f i) z)
one_more_added f from i old row z h len inside is =
    record { at = λ c below. by_column c below (cases_eq (f i) c) }
  where
    by_column : (c : ℕ) → c < length old → (f i ≡ c) ⊎ (f i ≡ c → ⊥) →
        get_or (set row (f i) z) c (pos 0) +ℤ pos (rises f from c)
        ≡ get_or old c (pos 0) +ℤ pos (rises f (i + 1) c)
    by_column c below (inl e) =
        let same = subst (λ (k : ℕ). get_or (set row (f i) z) k (pos 0) ≡ z) e
        (get_or-set_same row (f i) z (pos 0) (omega arith)) in
        let value = subst (λ (k : ℕ). z ≡ get_or row k (pos 0) +ℤ pos 1) e is in
        let before = h.at c below in
        let more = rises_here f i c e in
        omega (arith, ints)
    by_column c below (inr e) =
        let same = get_or-set_other row (f i) c z (pos 0) (λ k. e (sym k)) in
        let before = h.at c below in
        let more = rises_elsewhere f i c e in
        omega (arith, ints)

pub one_more_subtracted : (f : ℕ → ℕ) (from i : ℕ) (old row : List ℤ) (z : ℤ) →
    HasMoved f i from old row → length row ≡ length old →
    f i < length old → z ≡ get_or row (f i) (pos 0) -ℤ pos 1 →
    HasMoved f (i + 1) from old (set row (f i) z)
one_more_subtracted f from i old row z h len inside is =
    record { at = λ c below. by_column c below (cases_eq (f i) c) }
  where
    by_column : (c : ℕ) → c < length old → (f i ≡ c) ⊎ (f i ≡ c → ⊥) →
        get_or (set row (f i) z) c (pos 0) +ℤ pos (rises f (i + 1) c)
        ≡ get_or old c (pos 0) +ℤ pos (rises f from c)
    by_column c below (inl e) =
        let same = subst (λ (k : ℕ). get_or (set row (f i) z) k (pos 0) ≡ z) e
        (get_or-set_same row (f i) z (pos 0) (omega arith)) in
        let value = subst (λ (k : ℕ). z ≡ get_or row k (pos 0) -ℤ pos 1) e is in
        let before = h.at c below in
        let more = rises_here f i c e in
        omega (arith, ints)
    by_column c below (inr e) =
        let same = get_or-set_other row (f i) c z (pos 0) (λ k. e (sym k)) in
        let before = h.at c below in
        let more = rises_elsewhere f i c e in
        omega (arith, ints)

-- ---- the entries stay small

pub moved_small : (f : ℕ → ℕ) (i j c m most : ℕ) (old row : List ℤ) → HasMoved f i j old row →
    All (λ x. unsigned_abs x < m) old →
    c < length old → i ≤ most → j ≤ most → unsigned_abs (get_or row c (pos 0)) < m + most
moved_small f i j c m most old row h small below first second =
    let is = h.at c below in
    let before : unsigned_abs (get_or old c (pos 0)) < m =
    All-get_or (λ x. unsigned_abs x < m) old c (pos 0) below small in
    let less = rises_at_most f i c in
    let more = rises_at_most f j c in
    omega (arith, ints)

pub all_moved_small : (f : ℕ → ℕ) (i j m most n : ℕ) (old row : List ℤ) → HasMoved f i j old row →
    length row ≡ length old →
    All (λ x. unsigned_abs x < m) old → i ≤ most → j ≤ most → m + most ≤ n →
    All (λ x. unsigned_abs x < n) row
all_moved_small f i j m most n old row h len small first second within =
    All-from_get_or (λ x. unsigned_abs x < n) row (pos 0)
    (λ c below. let one = moved_small f i j c m most old row h small (omega arith) first second in
    omega arith)

-- ---- a row of zeros to which rises are added

added_to : (f : ℕ → ℕ) (i : ℕ) (old row : List ℤ) → HasMoved f 0 i old row → HasAdded f i old row
added_to f i old row h =
    record {
      at = λ c below. let is = h.at c below in let none = rises_at_most f 0 c in
          omega (arith, ints);
    }

pub row_of_rises : (f : ℕ → ℕ) (i : ℕ) (old row : List ℤ) → HasMoved f 0 i old row →
    length row ≡ length old →
    All (λ x. x ≡ pos 0) old → row ≡ map (λ c. pos (rises f i c)) (range_with_len 0 (length old))
row_of_rises f i old row h = row_of_one f i old row (added_to f i old row h)

pub row_of_pair : (f : ℕ → ℕ) (a b s : ℕ) (old one row : List ℤ) → HasMoved f 0 a old one →
    length one ≡ length old →
    HasMoved f s b one row → length row ≡ length one → All (λ x. x ≡ pos 0) old →
    row ≡ map (λ c. pos (rises f a c) +ℤ pos (rises f b c) -ℤ pos (rises f s c))
    (range_with_len 0 (length old))
row_of_pair f a b s old one row h1 len1 h2 len2 zeros =
    fill_by_all (λ c. pos (rises f a c) +ℤ pos (rises f b c) -ℤ pos (rises f s c)) row (length old)
    (pos 0) (len2 ∙ len1)
    (λ c below.
    let first = (added_to f a old one h1).at c below in
    let second = h2.at c (omega arith) in
    let zero : get_or old c (pos 0) ≡ pos 0 =
    All-get_or (λ x. x ≡ pos 0) old c (pos 0) below zeros in
    omega (arith, ints))
