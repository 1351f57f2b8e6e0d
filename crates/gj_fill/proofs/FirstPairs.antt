-- The first two places at which the values add up to less than that at their sum.
use Rattle.std.proofs.Common.{◌≡◌, ℕ, ℤ, Bool, false, List, IsTrue, ◌⊎◌, inl, inr, ◌+◌, ◌%◌, ◌<◌, ◌≤◌, ◌+ℤ◌, ◌<ℤ◌, ap, sym, subst, rules, arith}
use Rattle.std.proofs.Math.Nat.{mod-lt, mod-mod, add-mod}
use Rattle.std.proofs.lemmas.Bool.{cases_lt}
use Rattle.std.proofs.lemmas.Int.{ints, by_lt_z}
use Rattle.gj_shape.specs.FirstViolation.{IsLeastFrom}
use Rattle.gj_shape.specs.FunctionData.{FunctionData, IsWithinBounds, at}
use Rattle.gj_theory.proofs.Everywhere.{at_same}
use Rattle.gj_fill.specs.FillIn.{IsSubadditiveTable}
use Rattle.gj_fill.specs.FirstPair.{IsSuperadditivePair, IsFirstPair}

-- no pair of the rows before a has the property
abbrev pub NonePairs : FunctionData → ℕ → Type 0
NonePairs f a = (i j : ℕ) → i < a → i ≤ j → j < f.order → IsSuperadditivePair f i j → ⊥

turned : (f : FunctionData) (i j : ℕ) → IsSuperadditivePair f i j → IsSuperadditivePair f j i
turned f i j h =
    let sum : at f.value (j + i) ≡ at f.value (i + j) = ap (at f.value) (omega arith) in
    omega (arith, ints)

-- nor has one with a lesser second place
none_before : (f : FunctionData) (a i j : ℕ) → NonePairs f a → i < a → a ≤ f.order → j < f.order →
    IsSuperadditivePair f i j → ⊥
none_before f a i j none i_low within j_low h = elim (cases_lt j i) [
  | inl less ↦ none j i (omega arith) (omega arith) (omega arith) (turned f i j h)
  | inr more ↦ none i j i_low more j_low h
]

pub first_pair_is : (f : FunctionData) (a b : ℕ) → a < f.order → b < f.order → NonePairs f a →
    IsLeastFrom a (IsSuperadditivePair f a) b → IsFirstPair f a b
first_pair_is f a b a_low b_low none least = record {
  first = record {
    from = omega arith;
    holds = (b, b_low, least.holds);
    least = λ i from less some. none_before f a i some.0 none less (omega arith) some.1 some.2;
  };
  second = record {
    from = omega arith;
    holds = least.holds;
    least = λ j from less h. elim (cases_lt j a) [
      | inl before ↦ none j a before (omega arith) a_low (turned f a j h)
      | inr behind ↦ least.least j behind less h
    ];
  };
  within = (a_low, b_low);
}

pub none_more : (f : FunctionData) (a : ℕ) → NonePairs f a →
    ((b : ℕ) → a ≤ b → b < f.order → IsSuperadditivePair f a b → ⊥) → NonePairs f (a + 1)
none_more f a none here i j i_low up j_low h = elim (cases_lt i a) [
  | inl before ↦ none i j before up j_low h
  | inr behind ↦
      let same : i ≡ a = omega arith in
      here j (omega arith) j_low (subst (λ (k : ℕ). IsSuperadditivePair f k j) same h)
]

pub subadditive_from_none : (f : FunctionData) (n : ℕ) → IsWithinBounds f → f.order ≤ n →
    n ≤ f.order → NonePairs f n →
    IsSubadditiveTable (at f.value)
subadditive_from_none f n l high low none i j =
    let q = f.order in
    let some : 0 < q = omega (arith, l.order_low) in
    let value = λ (x y : ℕ) (e : x % q ≡ y % q). at_same f.value x y q l.value_length e in
    let first = value i (i % q) (sym (mod-mod i q)) in
    let second = value j (j % q) (sym (mod-mod j q)) in
    let sum = value (i + j) (i % q + j % q) (add-mod i j q) in
    by_lt_z (at f.value (i % q) +ℤ at f.value (j % q)) (at f.value (i % q + j % q))
    (λ above. absurd (none_before f n (i % q) (j % q) none (let h = mod-lt i some in
    omega arith) low (mod-lt j some) above))
    (λ fine. omega (arith, ints))

-- ---- a row, read up to one place more

abbrev IsLess : List ℤ → ℕ → ℕ → Type 0
IsLess values a b = (at values a +ℤ at values b) <ℤ at values (a + b)

false_is_not_true : IsTrue false → ⊥
false_is_not_true h = search rules

pub one_more : (values : List ℤ) (a start b : ℕ) (before after : Bool) →
    (IsTrue before → (i : ℕ) → start ≤ i → i < b →
    (at values a +ℤ at values i) <ℤ at values (a + i) → ⊥) →
    (after ≡ false) ⊎ ((after ≡ before) × ((at values a +ℤ at values b) <ℤ at values (a + b) → ⊥)) →
    IsTrue after → (i : ℕ) → start ≤ i → i < b + 1 →
    (at values a +ℤ at values i) <ℤ at values (a + i) → ⊥
one_more values a start b before after passed (inl none) passes i low high less =
    false_is_not_true (subst IsTrue none passes)
one_more values a start b before after passed (inr step) passes i low high less =
    elim (cases_lt i b) [
      | inl earlier ↦ passed (subst IsTrue step.0 passes) i low earlier less
      | inr last ↦
          let same : i ≡ b = omega arith in
          step.1 (subst (IsLess values a) same less)
    ]
