-- A table is subadditive exactly if the pairs at its bends pass.
use Rattle.std.proofs.lemmas.Bool.{cases_lt}
use Rattle.std.proofs.Common.{◌≡◌, ◌↔◌, ◌⊎◌, inl, inr, ℕ, ◌+◌, ◌-◌, ◌*◌, ◌%◌, ◌<◌, ◌≤◌, ◌≢◌, ℤ, ◌+ℤ◌, ◌-ℤ◌, ◌≤ℤ◌, Bool, IsTrue, List, length, set, get_or, get_or-set_other, get_or-set_same, below_more, refl, sym, ap, subst, ◌∙◌, arith}
use Rattle.std.specs.Int.{int_max}
use Rattle.std.proofs.lemmas.Int.{ints, int_max_is}
use Rattle.std.proofs.lemmas.List.{length-set}
use Rattle.std.proofs.Math.Nat.{mod-mod, mod-lt, mod-eq_of_lt, mod_self, mod-add-mod, add-mod, add-mod_left, add-mod_right}
use Rattle.gj_shape.specs.FunctionData.{at}
use Rattle.gj_shape.proofs.AtLemmas.{at_same_remainder, at_remainder, at_plus_length}
use Rattle.gj_theory.proofs.Weights.{cancel_same}
use Rattle.gj_check_minimal.specs.Tables.{IsSubadditivePair, IsSubadditiveList}
use Rattle.gj_check_minimal.specs.Bends.{IsStraight, bend, AreIndices, IsBend, AreBends, PassesAtBends, PassAtBends}
use Rattle.gj_check_minimal.specs.declared.bends.Bends.{Bends}
use Rattle.gj_check_minimal.proofs.TableTests.{subadditive_everywhere}
use Rattle.gj_check_minimal.proofs.TestsInTurn.{in_other_words}
use Rattle.gj_check_minimal.proofs.BendRows.{BendsAt, all_pass}

-- the index is a bend modulo n
abbrev IsBendModulo : ℕ → Bends → ℕ → Type 0
IsBendModulo n b i = IsBend b (i % n)

same_bend : (b : Bends) (i j : ℕ) → i ≡ j → IsBend b i → IsBend b j
same_bend b i j = subst (IsBend b)

bends_at : (values : List ℤ) (b : Bends) → 0 < length values → AreBends values b →
    BendsAt (at values) (length values) (IsBendModulo (length values) b)
bends_at values b some h = record {
  repeats = at_plus_length values;
  lines = lines;
  start = same_bend b 0 (0 % length values) (sym (mod-eq_of_lt some)) h.start;
  again = λ i. same_bend b (i % length values) ((i + length values) % length values)
      (sym (add-mod_right i (length values)));
}
  where
    moved : (i k : ℕ) → (i % length values + k) % length values ≡ (i + k) % length values
    moved i k = mod-add-mod i (length values) k

    lines : (i : ℕ) → (at values i +ℤ at values (i + 2) ≡ at values (i + 1) +ℤ at values (i + 1))
        ⊎ IsBend b ((i + 1) % length values)
    lines i =
        let n = length values in
        let rest = i % n in
        let rest_below : rest < n = mod-lt i some in
        elim (cases_lt (rest + 1) n) [
          | inr last ↦
              let whole : rest + 1 ≡ n = omega arith in
              inr (same_bend b 0 ((i + 1) % n)
              (sym (sym (moved i 1) ∙ ap (λ k. k % n) whole ∙ mod_self n)) h.start)
          | inl within ↦ elim (h.rest rest within) [
            | inr bends ↦ inr (same_bend b (rest + 1) ((i + 1) % n)
                (sym (mod-eq_of_lt within) ∙ moved i 1) bends)
            | inl straight ↦
                let here : at values rest ≡ at values i = at_remainder values i in
                let one : at values (rest + 1) ≡ at values (i + 1) =
                at_same_remainder values (rest + 1) (i + 1) (moved i 1) in
                let two : at values (rest + 2) ≡ at values (i + 2) =
                at_same_remainder values (rest + 2) (i + 2) (moved i 2) in
                inl (omega (arith, ints))
          ]
        ]

-- a pair passes if that of indices with the same remainders does
same_pair : (values : List ℤ) (i j a c : ℕ) → a % length values ≡ i % length values →
    c % length values ≡ j % length values →
    IsSubadditivePair values a c → IsSubadditivePair values i j
same_pair values i j a c first second h =
    let n = length values in
    let one : at values a ≡ at values i = at_same_remainder values a i first in
    let two : at values c ≡ at values j = at_same_remainder values c j second in
    let sum : at values (a + c) ≡ at values (i + j) =
    at_same_remainder values (a + c) (i + j) (add-mod a c n ∙ ap (λ x. (x + c % n) % n) first
    ∙ ap (λ x. (i % n + x) % n) second ∙ sym (add-mod i j n)) in
    omega (arith, ints)

-- two indices that are bends modulo the length
both_bend : (values : List ℤ) (b : Bends) → PassAtBends values b → (i j : ℕ) →
    IsBend b (i % length values) → IsBend b (j % length values) →
    IsSubadditivePair values i j
both_bend values b h i j (p, p_below, first) (m, m_below, second) =
    let n = length values in
    same_pair values i j (bend b p) (bend b m) (ap (λ x. x % n) first ∙ mod-mod i n)
    (ap (λ x. x % n) second ∙ mod-mod j n)
    (h p p_below m m_below).0

-- one that is, and the sum
sum_bends : (values : List ℤ) (b : Bends) → 0 < length values → PassAtBends values b → (i j : ℕ) →
    IsBend b (i % length values) →
    IsBend b ((i + j) % length values) → IsSubadditivePair values i j
sum_bends values b some h i j (p, p_below, first) (m, m_below, sum) =
    let n = length values in
    let here : bend b p % n ≡ i % n = ap (λ x. x % n) first ∙ mod-mod i n in
    let first_below : i % n < n = mod-lt i some in
    let rest = n + bend b m - bend b p in
    let whole : bend b p + rest ≡ n + bend b m = omega arith in
    let same : (bend b p + rest) % n ≡ (bend b p + j) % n =
    ap (λ x. x % n) whole ∙ add-mod_left n (bend b m) ∙ ap (λ x. x % n) sum ∙ mod-mod (i + j) n
    ∙ add-mod i j n ∙ ap (λ x. (x + j % n) % n) (sym here) ∙ sym (add-mod (bend b p) j n) in
    same_pair values i j (bend b p) rest here (cancel_same (bend b p) rest j n same)
    (h p p_below m m_below).1

-- so the pairs at the bends decide
pub bends_decide : (values : List ℤ) (b : Bends) → 0 < length values → AreBends values b →
    PassAtBends values b ↔ IsSubadditiveList values
bends_decide values b some h = (
  λ all i j i_below j_below.
      all_pass (at values) (length values) (IsBendModulo (length values) b)
      (bends_at values b some h) (both_bend values b all)
      (sum_bends values b some all) i j (omega arith) (omega arith),
  λ all p p_below m m_below. (
    subadditive_everywhere values some all (bend b p) (bend b m),
    subadditive_everywhere values some all (bend b p) (length values + bend b m - bend b p),
  ),
)

-- ---- the bends are found

-- those among the first indices
abbrev pub AreBendsBefore : List ℤ → Bends → ℕ → Type 0
AreBendsBefore values b i = IsBend b 0 × ((k : ℕ) → k < i → IsStraight values k ⊎ IsBend b (k + 1))

-- one bend more is written
pub record IsPushed (b more : Bends) (i : ℕ) : Type 0 where
  pub room : b.count < length b.indices
  pub count : more.count ≡ b.count + 1
  pub indices : more.indices ≡ set b.indices b.count i

earlier_bend : (b more : Bends) (i p : ℕ) → IsPushed b more i → p < b.count → bend more p ≡ bend b p
earlier_bend b more i p h below =
    let other : p ≢ b.count = omega arith in
    ap (λ xs. get_or xs p 0) h.indices ∙ get_or-set_other b.indices b.count p i 0 other

last_bend : (b more : Bends) (i : ℕ) → IsPushed b more i → bend more b.count ≡ i
last_bend b more i h = ap (λ xs. get_or xs b.count 0) h.indices
    ∙ get_or-set_same b.indices b.count i 0 h.room

still_bends : (b more : Bends) (i k : ℕ) → IsPushed b more i → IsBend b k → IsBend more k
still_bends b more i k h (p, below, is) =
    let count = h.count in
    (p, omega arith, earlier_bend b more i p h below ∙ is)

pub bend_more : (values : List ℤ) (b more : Bends) (i : ℕ) → IsPushed b more (i + 1) →
    AreBendsBefore values b i →
    AreBendsBefore values more (i + 1)
bend_more values b more i h before =
    let count = h.count in (
      still_bends b more (i + 1) 0 h before.0,
      below_more (λ k. IsStraight values k ⊎ IsBend more (k + 1)) i
          (λ k below. elim (before.1 k below) [
            | inl straight ↦ inl straight
            | inr bends ↦ inr (still_bends b more (i + 1) (k + 1) h bends)
          ])
          (inr (b.count, omega arith, last_bend b more (i + 1) h)),
    )

pub index_more : (n : ℕ) (b more : Bends) (i : ℕ) → i < n → IsPushed b more i → AreIndices n b →
    AreIndices n more
index_more n b more i below h a =
    let count = h.count in
    let room = h.room in
    let long = ap length h.indices ∙ length-set b.indices b.count i in
    record {
      room = omega arith;
      below = λ p p_below. elim (cases_lt p b.count) [
        | inl before ↦ subst (λ (k : ℕ). k < n) (sym (earlier_bend b more i p h before))
            (a.below p before)
        | inr last ↦
            let here : p ≡ b.count = omega arith in
            subst (λ (k : ℕ). k < n) (sym (ap (bend more) here ∙ last_bend b more i h)) below
      ];
    }

-- ---- the pairs are tested

-- one pair, by three entries
pub pair_test : (values : List ℤ) (i j : ℕ) (first second sum rise : ℤ) (passes : Bool) →
    first ≡ at values i → second ≡ at values j →
    sum ≡ at values (i + j) → rise ≡ int_max first (sum -ℤ second) →
    IsTrue passes ↔ (rise ≤ℤ first) → IsTrue passes ↔ IsSubadditivePair values i j
pair_test values i j first second sum rise passes first_is second_is sum_is rise_is test =
    let greatest = int_max_is first (sum -ℤ second) in
    in_other_words passes (rise ≤ℤ first) _ test
    (λ h. omega (arith, ints), λ h. omega (arith, ints))

-- the sum is this bend and the length
pub sum_read : (values : List ℤ) (i c : ℕ) (x : ℤ) → i < length values → x ≡ at values c →
    x ≡ at values (i + (length values + c - i))
sum_read values i c x below is =
    let whole : i + (length values + c - i) ≡ c + length values = omega arith in
    is ∙ sym (ap (at values) whole ∙ at_plus_length values c)
