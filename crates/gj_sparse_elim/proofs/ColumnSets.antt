-- Sets of columns in parts, and rows that are 0 outside of one.
use Rattle.std.proofs.Common.{◌≡◌, ℕ, ◌+◌, ◌*◌, ◌/◌, ◌%◌, ◌<◌, ◌≤◌, ◌⊎◌, inl, inr, ◌||◌, ◌==◌, Bool, true, false, ℤ, pos, List, [], ◌∷◌, ◌++◌, length, get_or, set, refl, sym, ap, ap₂, ◌∙◌, arith}
use Rattle.std.proofs.lemmas.Bool.{cases_lt, eq-eqb, eqb-true}
use Rattle.std.proofs.lemmas.List.{get_or_past, get_or_push, get_or_append_left, get_or-set_same, get_or-set_other, length-set}
use Rattle.gj_shape.specs.Elimination.{at_column}
use Rattle.gj_loops.specs.IndexSets.{has, no_set, IsFirst}
use Rattle.gj_loops.specs.declared.index_set.IndexSet.{IndexSet}
use Rattle.gj_loops.proofs.Bits.{none_in_no_set}
use Rattle.gj_sparse_elim.specs.Columns.{has_column, IsFirstColumn, IsSupport}

-- ---- columns by part and place

-- the column k stands in this part
column_in : (parts : List IndexSet) (k p : ℕ) → k / 1024 ≡ p →
    has_column parts k ≡ has (get_or parts p no_set) (k % 1024)
column_in parts k p e = ap (λ q. has (get_or parts q no_set) (k % 1024)) e

column_past : (parts : List IndexSet) (k : ℕ) → length parts ≤ k / 1024 → has_column parts k ≡ false
column_past parts k past =
    ap (λ s. has s (k % 1024)) (get_or_past parts (k / 1024) no_set past)
    ∙ none_in_no_set (k % 1024)

-- no part has a column
pub AreEmptyTo : List IndexSet → ℕ → Type 0
AreEmptyTo parts n = (p : ℕ) → p < n → (i : ℕ) → has (get_or parts p no_set) i ≡ false

pub none_in_parts : (parts : List IndexSet) (n : ℕ) → length parts ≤ n → AreEmptyTo parts n →
    (k : ℕ) → has_column parts k ≡ false
unfolding AreEmptyTo
none_in_parts parts n all empty k = by_part (cases_lt (k / 1024) n)
  where
    by_part : (k / 1024 < n) ⊎ (n ≤ k / 1024) → has_column parts k ≡ false
    by_part (inl below) = empty (k / 1024) below (k % 1024)
    by_part (inr past) = column_past parts k (omega arith)

pub empty_set : (parts : List IndexSet) (n : ℕ) (s : IndexSet) → AreEmptyTo parts n →
    n < length parts →
    ((i : ℕ) → has s i ≡ false) → AreEmptyTo (set parts n s) (n + 1)
unfolding AreEmptyTo
empty_set parts n s h inside none p below i = by_place (cases_lt p n)
  where
    by_place : (p < n) ⊎ (n ≤ p) → has (get_or (set parts n s) p no_set) i ≡ false
    by_place (inl before) =
        ap (λ x. has x i) (get_or-set_other parts n p s no_set (λ e. omega arith)) ∙ h p before i
    by_place (inr there) =
        let same : p ≡ n = omega arith in
        ap (λ q. has (get_or (set parts n s) q no_set) i) same
        ∙ ap (λ x. has x i) (get_or-set_same parts n s no_set inside) ∙ none i

pub empty_start : (parts : List IndexSet) → AreEmptyTo parts 0
unfolding AreEmptyTo
empty_start parts p below i = absurd (omega arith)

pub empty_push : (parts parts' : List IndexSet) (n : ℕ) (s : IndexSet) → AreEmptyTo parts n →
    length parts ≡ n →
    ((i : ℕ) → has s i ≡ false) → parts' ≡ parts ++ s ∷ [] → AreEmptyTo parts' (n + 1)
unfolding AreEmptyTo
empty_push parts parts' n s h len none is p below i =
    ap (λ xs. has (get_or xs p no_set) i) is ∙ by_place (cases_lt p n)
  where
    by_place : (p < n) ⊎ (n ≤ p) → has (get_or (parts ++ s ∷ []) p no_set) i ≡ false
    by_place (inl before) =
        ap (λ x. has x i) (get_or_append_left parts (s ∷ []) no_set p (omega arith)) ∙ h p before i
    by_place (inr there) = ap (λ x. has x i) (get_or_push parts s no_set p (omega arith)) ∙ none i

-- ---- the first column

-- no column from one on is in the set before this place of a part
pub record IsPassed (parts : List IndexSet) (from place start : ℕ) : Type 0 where
  pub behind : from ≤ 1024 * place + start
  pub none : (k : ℕ) → from ≤ k → k < 1024 * place + start → has_column parts k ≡ false

pub passed_start : (parts : List IndexSet) (from : ℕ) →
    IsPassed parts from (from / 1024) (from % 1024)
passed_start parts from = record
    { behind = omega arith; none = λ k there before. absurd (omega arith) }

-- before a place of the part
none_before : (parts : List IndexSet) (from place start : ℕ) (s : IndexSet) (end : ℕ) →
    IsPassed parts from place start →
    s ≡ get_or parts place no_set → end ≤ 1024 → ((i : ℕ) → start ≤ i → i < end → has s i ≡ false) →
    (k : ℕ) → from ≤ k → k < 1024 * place + end → has_column parts k ≡ false
none_before parts from place start s end h s_is within none k there before = by_place
    (cases_lt k (1024 * place + start))
  where
    by_place : (k < 1024 * place + start) ⊎ (1024 * place + start ≤ k) → has_column parts k ≡ false
    by_place (inl low) = h.none k there low
    by_place (inr high) =
        let part : k / 1024 ≡ place = omega arith in
        column_in parts k place part ∙ ap (λ x. has x (k % 1024)) (sym s_is)
        ∙ none (k % 1024) (omega arith) (omega arith)

pub passed_more : (parts : List IndexSet) (from place start : ℕ) (s : IndexSet) →
    IsPassed parts from place start →
    s ≡ get_or parts place no_set → start ≤ 1024 → ((i : ℕ) → start ≤ i → has s i ≡ false) →
    IsPassed parts from (place + 1) 0
passed_more parts from place start s h s_is low none = record {
  behind = let behind = h.behind in omega arith;
  none = λ k there before.
      none_before parts from place start s 1024 h s_is (omega arith) (λ i first last. none i first)
      k there (omega arith);
}

pub passed_found : (parts : List IndexSet) (from place start i : ℕ) (s : IndexSet) →
    IsPassed parts from place start →
    s ≡ get_or parts place no_set → IsFirst s start i → IsFirstColumn parts from (1024 * place + i)
passed_found parts from place start i s h s_is first =
    let within = first.within in
    let behind = h.behind in
    let later = first.behind in
    let part : (1024 * place + i) / 1024 ≡ place = omega arith in
    let index : (1024 * place + i) % 1024 ≡ i = omega arith in record {
      behind = omega arith;
      found = column_in parts (1024 * place + i) place part
          ∙ ap₂ (λ x j. has x j) (sym s_is) index ∙ first.found;
      before = λ k there before.
          none_before parts from place start s i h s_is (omega arith)
          (λ j low high. first.before j low high) k there before;
    }

pub passed_end : (parts : List IndexSet) (from place start : ℕ) → IsPassed parts from place start →
    length parts ≤ place →
    (k : ℕ) → from ≤ k → has_column parts k ≡ false
passed_end parts from place start h past k there = by_place (cases_lt k (1024 * place + start))
  where
    by_place : (k < 1024 * place + start) ⊎ (1024 * place + start ≤ k) → has_column parts k ≡ false
    by_place (inl low) = h.none k there low
    by_place (inr high) = column_past parts k (omega arith)

-- ---- rows that are 0 outside of a set

-- the first column of the set is one of the row, and before it the row is 0
pub record IsNextColumn (row : List ℤ) (from c : ℕ) : Type 0 where
  pub behind : from ≤ c
  pub inside : c < length row
  pub zero : (k : ℕ) → from ≤ k → k < c → at_column row k ≡ pos 0

pub next_column : (parts : List IndexSet) (row : List ℤ) (from c : ℕ) → IsSupport parts row →
    IsFirstColumn parts from c →
    IsNextColumn row from c
next_column parts row from c h first = record {
  behind = first.behind;
  inside = h.within c first.found;
  zero = λ k there before. h.zero k (first.before k there before);
}

-- a row of the same columns that is 0 there too
pub support_still : (parts : List IndexSet) (row next : List ℤ) → IsSupport parts row →
    length next ≡ length row →
    ((k : ℕ) → at_column row k ≡ pos 0 → at_column next k ≡ pos 0) → IsSupport parts next
support_still parts row next h len zeros = record {
  room = let room = h.room in omega arith;
  few = h.few;
  within = λ k found. let inside = h.within k found in omega arith;
  zero = λ k none. zeros k (h.zero k none);
}

either_false : (a b : Bool) → (a || b) ≡ false → (a ≡ false) × (b ≡ false)
either_false true b e = absurd cc
either_false false b e = (refl, e)

either_true : (a b : Bool) → (a || b) ≡ true → (a ≡ true) ⊎ (b ≡ true)
either_true true b e = inl refl
either_true false b e = inr e

-- one more column, at which the row is set
pub support_set : (parts parts' : List IndexSet) (row : List ℤ) (c : ℕ) (z : ℤ) →
    IsSupport parts row → c < length row →
    length parts' ≡ length parts →
    ((k : ℕ) → has_column parts' k ≡ (has_column parts k || k == c)) →
    IsSupport parts' (set row c z)
support_set parts parts' row c z h inside len has_is = record {
  room = let room = h.room in omega (arith, length-set row c z);
  few = let few = h.few in omega arith;
  within = λ k found. by_column k
      (either_true (has_column parts k) (k == c) (sym (has_is k) ∙ found));
  zero = λ k none.
      let (first, second) = either_false (has_column parts k) (k == c) (sym (has_is k) ∙ none) in
      get_or-set_other row c k z (pos 0) (λ e. apart k e second) ∙ h.zero k first;
}
  where
    by_column : (k : ℕ) → (has_column parts k ≡ true) ⊎ ((k == c) ≡ true) → k < length (set row c z)
    by_column k (inl found) = let below = h.within k found in omega (arith, length-set row c z)
    by_column k (inr same) = let e = eqb-true k c same in omega (arith, length-set row c z)

    apart : (k : ℕ) → k ≡ c → (k == c) ≡ false → ⊥
    apart k e none = let yes = eq-eqb k c e in cc

-- no column is in the set, and the row is 0
pub support_empty : (parts parts' : List IndexSet) (row row' : List ℤ) → IsSupport parts row →
    length parts' ≡ length parts →
    length row' ≡ length row → ((k : ℕ) → has_column parts' k ≡ false) →
    ((k : ℕ) → at_column row' k ≡ pos 0) →
    IsSupport parts' row'
support_empty parts parts' row row' h parts_are row_is none zeros = record {
  room = let room = h.room in omega arith;
  few = let few = h.few in omega arith;
  within = λ k found. let clash = none k in absurd cc;
  zero = λ k e. zeros k;
}
