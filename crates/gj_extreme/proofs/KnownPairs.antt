-- Tight pairs that stand before others in the order of the rows.
use Rattle.std.proofs.Common.{◌≡◌, ℕ, zero, suc, ◌+◌, ◌-◌, ◌<◌, ◌≤◌, ◌⊎◌, inl, inr, Bool, true, false, ◌+ℤ◌, List, [], ◌∷◌, ◌++◌, length, refl, sym, ap, subst, arith}
use Rattle.std.specs.Prelude.{Contains}
use Rattle.std.proofs.lemmas.Bool.{cases_lt}
use Rattle.std.proofs.lemmas.Bool.Decides.{Decides-int_eq}
use Rattle.std.proofs.lemmas.List.Elements.{Contains-append_left, Contains-append_right, Contains-append_cases, Contains-push}
use Rattle.gj_shape.specs.Additive.{IsTight}
use Rattle.gj_shape.specs.FunctionData.{FunctionData, at}
use Rattle.gj_shape.specs.SlopeRows.{is_tight, row_names}
use Rattle.gj_shape.specs.declared.extremality.RowName.{RowName}
use Rattle.gj_shape.specs.declared.extremality.RowName.TheVariants.{Period, F, Pair}
use Rattle.gj_extreme.specs.RowsToCome.{pairs_from, row_names_from}
use Rattle.gj_extreme.proofs.RowOrder.{cons_cases, tight_pair, loose_pair, no_pairs, next_rows, no_rows}

-- ---- a tight pair has a row

one_step_in : (f : FunctionData) (c from : ℕ) (name : RowName) (t : Bool) → from < f.order →
    is_tight f c from ≡ t →
    Contains (pairs_from f c (from + 1)) name → Contains (pairs_from f c from) name
one_step_in f c from name true below e later =
    subst (λ l. Contains l name) (sym (tight_pair f c from below e))
    (Contains-append_right (Pair c from ∷ []) (pairs_from f c (from + 1)) name later)
one_step_in f c from name false below e later =
    subst (λ l. Contains l name) (sym (loose_pair f c from below e)) later

in_pairs : (f : FunctionData) (c from k d : ℕ) → d ≡ from + k → d < f.order →
    is_tight f c d ≡ true →
    Contains (pairs_from f c from) (Pair c d)
in_pairs f c from zero d at below e =
    let same : d ≡ from = omega arith in
    subst (λ i. Contains (pairs_from f c i) (Pair c d)) same
    (subst (λ l. Contains l (Pair c d)) (sym (tight_pair f c d below e))
    (Contains-append_left (Pair c d ∷ []) (pairs_from f c (d + 1)) (Pair c d)
    (Contains-push [] (Pair c d))))
in_pairs f c from (suc k) d at below e =
    one_step_in f c from (Pair c d) (is_tight f c from) (omega arith) refl
    (in_pairs f c (from + 1) k d (omega arith) below e)

in_rows : (f : FunctionData) (i k c : ℕ) (name : RowName) → c ≡ i + k → c < f.order →
    Contains (pairs_from f c c) name →
    Contains (row_names_from f i) name
in_rows f i zero c name at below here =
    let same : c ≡ i = omega arith in
    subst (λ j. Contains (row_names_from f j) name) same
    (subst (λ l. Contains l name) (sym (next_rows f c below))
    (Contains-append_left (pairs_from f c c) (row_names_from f (c + 1)) name here))
in_rows f i (suc k) c name at below here =
    subst (λ l. Contains l name) (sym (next_rows f i (omega arith)))
    (Contains-append_right (pairs_from f i i) (row_names_from f (i + 1)) name
    (in_rows f (i + 1) k c name (omega arith) below here))

pub is_name : (f : FunctionData) (c d : ℕ) → 0 < c → c ≤ d → d < f.order → IsTight f c d →
    Contains (row_names f) (Pair c d)
is_name f c d some low below tight =
    Contains-append_right (Period ∷ F ∷ []) (row_names_from f 1) (Pair c d)
    (in_rows f 1 (c - 1) c (Pair c d) (omega arith) (omega arith)
    (in_pairs f c c (d - c) d (omega arith) below
    ((Decides-int_eq (at f.value c +ℤ at f.value d) (at f.value (c + d))).1 tight)))

-- ---- which pairs are still to come

first_of : RowName → ℕ
first_of (Pair a b) = a
first_of Period = 0
first_of F = 0

second_of : RowName → ℕ
second_of (Pair a b) = b
second_of Period = 0
second_of F = 0

none_in_nothing : (l : List RowName) (name : RowName) → l ≡ [] → Contains l name → ⊥
none_in_nothing l name none has =
    let below = has.1 in
    let empty : length l ≡ 0 = ap length none in
    omega arith

first_or_later : (f : FunctionData) (a from c d : ℕ) (t : Bool) → from < f.order →
    is_tight f a from ≡ t →
    (Contains (pairs_from f a (from + 1)) (Pair c d) → (a ≡ c) × (from + 1 ≤ d)) →
    Contains (pairs_from f a from) (Pair c d) →
    (a ≡ c) × (from ≤ d)
unfolding second_of first_of
first_or_later f a from c d true below e later has =
    elim (cons_cases (Pair a from) (pairs_from f a (from + 1)) (Pair c d)
    (subst (λ l. Contains l (Pair c d)) (tight_pair f a from below e) has)) [
      | inl same ↦ let second : from ≡ d = ap second_of same in (ap first_of same, omega arith)
      | inr here ↦ let (is, behind) = later here in (is, omega arith)
    ]
first_or_later f a from c d false below e later has =
    let (is, behind) = later
    (subst (λ l. Contains l (Pair c d)) (loose_pair f a from below e) has) in (is, omega arith)

from_pairs : (f : FunctionData) (a from k c d : ℕ) → f.order ≤ from + k →
    Contains (pairs_from f a from) (Pair c d) → (a ≡ c) × (from ≤ d)
from_pairs f a from zero c d past has =
    absurd (none_in_nothing (pairs_from f a from) (Pair c d) (no_pairs f a from (omega arith)) has)
from_pairs f a from (suc k) c d past has = elim (cases_lt from f.order) [
  | inl below ↦
      first_or_later f a from c d (is_tight f a from) below refl
      (from_pairs f a (from + 1) k c d (omega arith)) has
  | inr above ↦ absurd
      (none_in_nothing (pairs_from f a from) (Pair c d) (no_pairs f a from above) has)
]

from_rows : (f : FunctionData) (a k c d : ℕ) → f.order ≤ a + k →
    Contains (row_names_from f a) (Pair c d) → a ≤ c
from_rows f a zero c d past has =
    absurd (none_in_nothing (row_names_from f a) (Pair c d) (no_rows f a (omega arith)) has)
from_rows f a (suc k) c d past has = elim (cases_lt a f.order) [
  | inl below ↦
      elim (Contains-append_cases (pairs_from f a a) (row_names_from f (a + 1)) (Pair c d)
      (subst (λ l. Contains l (Pair c d)) (next_rows f a below) has)) [
        | inl here ↦ let same = (from_pairs f a a f.order c d (omega arith) here).0 in omega arith
        | inr later ↦ let more = from_rows f (a + 1) k c d (omega arith) later in omega arith
      ]
  | inr above ↦ absurd (none_in_nothing (row_names_from f a) (Pair c d) (no_rows f a above) has)
]

-- those that are to come stand behind
pub pair_to_come : (f : FunctionData) (a b c d : ℕ) →
    Contains (pairs_from f a b ++ row_names_from f (a + 1)) (Pair c d) →
    (a < c) ⊎ ((a ≡ c) × (b ≤ d))
pair_to_come f a b c d has =
    one_of (Contains-append_cases (pairs_from f a b) (row_names_from f (a + 1)) (Pair c d) has)
  where
    one_of : Contains (pairs_from f a b) (Pair c d)
        ⊎ Contains (row_names_from f (a + 1)) (Pair c d) → (a < c) ⊎ ((a ≡ c) × (b ≤ d))
    one_of (inl here) = inr (from_pairs f a b f.order c d (omega arith) here)
    one_of (inr later) = let more = from_rows f (a + 1) f.order c d (omega arith) later in
        inl (omega arith)
