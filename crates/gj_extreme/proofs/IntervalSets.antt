-- Sets of the intervals of components, and what they take from a row of pairs.
use Rattle.std.proofs.Common.{◌≡◌, ℕ, ◌+◌, ◌-◌, ◌<◌, ◌&&◌, ◌||◌, inl, inr, Bool, true, false, not, eqb, List, length, get_or, replicate, refl, sym, ap, ◌∙◌, arith}
use Rattle.std.proofs.Math.ListN.{set, length-set}
use Rattle.std.proofs.lemmas.Bool.{and_parts, cases_lt, or_cases}
use Rattle.std.proofs.lemmas.Bool.Decides.{eqb_tells}
use Rattle.std.proofs.lemmas.List.{get_or_default, get_or-set_same, get_or-set_other, get_or-replicate, length-replicate}
use Rattle.gj_lemmas.proofs.Choices.{not_false}
use Rattle.gj_loops.specs.IndexSets.{has, no_set}
use Rattle.gj_loops.specs.declared.index_set.IndexSet.{IndexSet}
use Rattle.gj_faces.specs.TightPairs.{IsTightIn}
use Rattle.gj_faces.specs.declared.tight_pairs.TightPairs.{TightPairs}
use Rattle.gj_extreme.specs.PairsLeft.{AreIntervalsOf, HasPairBefore, ArePairsLeft}
use Rattle.gj_extreme.proofs.FoundPairs.{IsRow}
use Rattle.gj_extreme.proofs.SeenRows.{same_row_as_beside, same_row_as_two_beside}

-- ---- the sets

pub no_intervals : (component : ℕ → ℕ) (q n : ℕ) (sets : List IndexSet) (none : IndexSet) →
    sets ≡ replicate n none →
    ((i : ℕ) → has none i ≡ false) → AreIntervalsOf component q sets
no_intervals component q n sets none are empty c i within below has_it =
    let len = ap length are ∙ length-replicate n none in
    let here : get_or sets c no_set ≡ none =
    ap (λ l. get_or l c no_set) are
    ∙ get_or-replicate n c none no_set (let lt : c < n = omega arith in lt) in
    let not = ap (λ s. has s i) here ∙ empty i in
    absurd (cc (not, has_it))

-- the interval is put into the set of its component
pub one_interval_more : (component : ℕ → ℕ) (q : ℕ) (sets : List IndexSet) (old new : IndexSet)
    (k i : ℕ) → k < length sets →
    old ≡ get_or sets k old → component i ≡ k → ((j : ℕ) → has new j ≡ (has old j || eqb j i)) →
    AreIntervalsOf component q sets → AreIntervalsOf component q (set sets k new)
one_interval_more component q sets old new k i within read number added given c j c_below below
    has_it =
    elim (eqb_tells c k) [
      | inl (_, same) ↦
          let here : get_or (set sets k new) c no_set ≡ new =
          ap (λ m. get_or (set sets k new) m no_set) same
          ∙ get_or-set_same sets k new no_set within in
          let there : old ≡ get_or sets k no_set = read ∙ get_or_default sets k old no_set within in
          elim (or_cases (has old j) (eqb j i) (sym (added j) ∙ sym (ap (λ s. has s j) here)
          ∙ has_it)) [
            | inl before ↦ given k j within below (sym (ap (λ s. has s j) there) ∙ before)
                ∙ sym same
            | inr now ↦ elim (eqb_tells j i) [
              | inl (_, is) ↦ ap component is ∙ number ∙ sym same
              | inr (test, _) ↦ absurd (cc (test, now))
            ]
          ]
      | inr (_, other) ↦
          let long = length-set sets k new in
          given c j (omega arith) below
          (sym (ap (λ s. has s j) (get_or-set_other sets k c new no_set other)) ∙ has_it)
    ]

-- ---- what is left of a row

-- nothing is taken from it
pub whole_row : (pairs : TightPairs) (component : ℕ → ℕ) (a : ℕ) (row : IndexSet) →
    IsRow pairs a row → ArePairsLeft pairs component a row
whole_row pairs component a row r = record {
  within = r.within;
  tight = λ b below has_it. (r.tells b below).0 has_it;
  others = λ b below tight not. let has_it = (r.tells b below).1 tight in absurd (cc (not, has_it));
}

neither : (x y : Bool) → x ≡ true → (x && not y) ≡ false → y ≡ true
neither true y e none = not_false y none
neither false y e none = absurd cc

-- places with a pair before are taken from it
pub part_of_row : (pairs : TightPairs) (component : ℕ → ℕ) (a : ℕ) (row taken left : IndexSet) →
    ArePairsLeft pairs component a row →
    ((b : ℕ) → has taken b ≡ true → HasPairBefore pairs component a b) →
    ((i : ℕ) → has left i ≡ (has row i && not (has taken i))) →
    ArePairsLeft pairs component a left
part_of_row pairs component a row taken left r before is = record {
  within = λ b past. is b ∙ ap (λ x. x && not (has taken b)) (r.within b past);
  tight = λ b below has_it. r.tight b below
      (and_parts (has row b) (not (has taken b)) (sym (is b) ∙ has_it)).0;
  others = λ b below tight none. by_row b below tight (sym (is b) ∙ none) (has row b) refl;
}
  where
    by_row : (b : ℕ) → b < pairs.order → IsTightIn pairs a b →
        (has row b && not (has taken b)) ≡ false → (t : Bool) → has row b ≡ t →
        HasPairBefore pairs component a b
    by_row b below tight none true e = before b (neither (has row b) (has taken b) e none)
    by_row b below tight none false e = r.others b below tight e

-- a place of a row is below the order
in_order : (pairs : TightPairs) (a i : ℕ) (row : IndexSet) → IsRow pairs a row → has row i ≡ true →
    i < pairs.order
in_order pairs a i row r there = elim (cases_lt i pairs.order) [
  | inl low ↦ low
  | inr past ↦ let none = r.within i past in absurd (cc (none, there))
]

-- a place of the set of a component
in_component : (component : ℕ → ℕ) (q : ℕ) (sets : List IndexSet) (same : IndexSet) (k i : ℕ) →
    k < length sets → same ≡ get_or sets k same →
    AreIntervalsOf component q sets → i < q → has same i ≡ true → component i ≡ k
in_component component q sets same k i within read given below there =
    given k i within below
    (sym (ap (λ s. has s i) (read ∙ get_or_default sets k same no_set within)) ∙ there)

-- the places that are one below those of the row before, and in the component of the interval between
pub pair_beside : (pairs : TightPairs) (component : ℕ → ℕ) (a : ℕ) (sets : List IndexSet)
    (before down same both : IndexSet) → 1 < a →
    component (a - 1) < length sets → same ≡ get_or sets (component (a - 1)) same →
    AreIntervalsOf component pairs.order sets →
    IsRow pairs (a - 1) before → ((i : ℕ) → has down i ≡ has before (i + 1)) →
    ((i : ℕ) → has both i ≡ (has down i && has same i)) →
    (b : ℕ) → has both b ≡ true → HasPairBefore pairs component a b
pair_beside pairs component a sets before down same both some within read given s is_down is_both b
    taken =
    let parts = and_parts (has down b) (has same b) (sym (is_both b) ∙ taken) in
    let there : has before (b + 1) ≡ true = sym (is_down b) ∙ parts.0 in
    let high = in_order pairs (a - 1) (b + 1) before s there in
    let equal = in_component component pairs.order sets same (component (a - 1)) b within read given
    (omega arith) parts.1 in
    record {
      first = a - 1;
      second = b + 1;
      some = omega arith;
      before = omega arith;
      behind = omega arith;
      within = high;
      tight = (s.tells (b + 1) high).0 there;
      same = λ n k. same_row_as_beside component n pairs.order k a b (omega arith) (sym equal);
    }

-- the places that are two below those of the second row before, where the two intervals between are
-- in these components
pub pair_two_beside : (pairs : TightPairs) (component : ℕ → ℕ) (a : ℕ) (sets : List IndexSet)
    (before down last one moved other both : IndexSet) →
    2 < a → component (a - 1) < length sets → last ≡ get_or sets (component (a - 1)) last →
    component (a - 2) < length sets →
    other ≡ get_or sets (component (a - 2)) other → AreIntervalsOf component pairs.order sets →
    IsRow pairs (a - 2) before →
    ((i : ℕ) → has down i ≡ has before (i + 1)) →
    ((i : ℕ) → has one i ≡ (has down i && has last i)) →
    ((i : ℕ) → has moved i ≡ has one (i + 1)) →
    ((i : ℕ) → has both i ≡ (has moved i && has other i)) →
    (b : ℕ) → has both b ≡ true → HasPairBefore pairs component a b
pair_two_beside pairs component a sets before down last one moved other both some last_in last_read
    other_in other_read given s is_down is_one
    is_moved is_both b taken =
    let parts = and_parts (has moved b) (has other b) (sym (is_both b) ∙ taken) in
    let pair = and_parts (has down (b + 1)) (has last (b + 1))
    (sym (is_one (b + 1)) ∙ sym (is_moved b) ∙ parts.0) in
    let there : has before (b + 1 + 1) ≡ true = sym (is_down (b + 1)) ∙ pair.0 in
    let high = in_order pairs (a - 2) (b + 1 + 1) before s there in
    let first = in_component component pairs.order sets other
    (component (a - 2)) b other_in other_read given (omega arith) parts.1 in
    let second = in_component component pairs.order sets last (component (a - 1))
    (b + 1) last_in last_read given (omega arith) pair.1 in
    record {
      first = a - 2;
      second = b + 1 + 1;
      some = omega arith;
      before = omega arith;
      behind = omega arith;
      within = high;
      tight = (s.tells (b + 1 + 1) high).0 there;
      same = λ n k. same_row_as_two_beside component n pairs.order k a b (omega arith) (sym first)
          (sym second);
    }
