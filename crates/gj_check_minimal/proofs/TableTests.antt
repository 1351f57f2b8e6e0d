-- A table is minimal exactly if the values of one period pass their tests.
use Rattle.std.proofs.lemmas.Bool.{cases_lt}
use Rattle.std.proofs.Common.{◌≡◌, ◌≢◌, ◌↔◌, ◌⊎◌, inl, inr, max, min, ◌/◌, ℕ, ◌+◌, ◌-◌, ◌*◌, ◌%◌, ◌<◌, ◌≤◌, ℤ, pos, ◌+ℤ◌, ◌-ℤ◌, ◌<ℤ◌, ◌≤ℤ◌, List, [], ◌∷◌, ◌++◌, length, get_or, set, get_or-set_other, get_or-set_same, subst, below_more, unsigned_abs, to_z, of_z, FitsSigned, refl, sym, ap, ap₂, ◌∙◌, arith}
use mir.Syntax.{w128}
use Rattle.std.proofs.Math.Nat.{add_comm, add-mod, add-mod_right, mod-lt}
use Rattle.std.proofs.Math.ListN.{get_or-append}
use Rattle.std.proofs.Math.Seq.{get_or-append_seam}
use Rattle.std.proofs.lemmas.List.{length-append}
use Rattle.std.specs.Int.{int_max}
use Rattle.std.proofs.lemmas.Int.{ints, int_max_is, to_z-of_z}
use Rattle.gj_shape.specs.FunctionData.{at}
use Rattle.gj_shape.specs.Table.{IsMinimalTable}
use Rattle.gj_shape.proofs.AtLemmas.{at_below, at_wrapped, at_plus_length}
use Rattle.gj_theory.proofs.Everywhere.{symmetric_everywhere}
use Rattle.gj_check_minimal.specs.Tables.{IsTableInRange, IsSymmetricList, IsSubadditivePair, IsSubadditiveUpTo, IsSubadditiveList, HasSubadditiveTotal, HasSubadditiveTotals, HaveTwoPeriods, AreTwoPeriods}

-- ---- one pair

-- the pair does not change with the order of the indices
mirrored_pair : (values : List ℤ) (i j : ℕ) → IsSubadditivePair values i j →
    IsSubadditivePair values j i
mirrored_pair values i j h =
    let turned = ap (at values) (add_comm j i) in
    omega (arith, ints)

-- ---- one row over the entries of two periods

-- the greatest of the value at i and of the rises over the pairs from `from` on and before j is
-- that value exactly if these pairs pass
abbrev pub BoundsRises : List ℤ → ℕ → ℕ → ℕ → ℤ → Type 0
BoundsRises values i from j rise = (rise ≤ℤ at values i)
    ↔ ((k : ℕ) → k < j → from ≤ k → IsSubadditivePair values i k)

-- an entry that was read
pub entry_read : {E : Type 0} (number : E → ℤ) (entries : List E) (values : List ℤ) (i : ℕ)
    (e : E) → AreTwoPeriods number entries values →
    i < 2 * length values → e ≡ get_or entries i e → number e ≡ at values i
entry_read number entries values i e p below is = ap number is ∙ p.same i e below

-- none of the entries of two periods is negative
pub have_periods : {E : Type 0} (number : E → ℤ) (entries : List E) (values : List ℤ) →
    AreTwoPeriods number entries values →
    HaveTwoPeriods number entries (length values)
have_periods number entries values p = record {
  room = p.room;
  low = λ i e below. subst (λ z. pos 0 ≤ℤ z) (sym (p.same i e below)) (p.low i);
}

-- before the first pair
pub no_rise : (values : List ℤ) (i from : ℕ) (rise : ℤ) → rise ≡ at values i →
    BoundsRises values i from from rise
no_rise values i from rise is =
    (λ low k below high. absurd (omega arith), λ all. omega (arith, ints))

-- one pair more
pub one_more_rise : (values : List ℤ) (i from j : ℕ) (rise more second sum : ℤ) → from ≤ j →
    second ≡ at values j → sum ≡ at values (i + j) →
    more ≡ int_max rise (sum -ℤ second) → BoundsRises values i from j rise →
    BoundsRises values i from (j + 1) more
one_more_rise values i from j rise more second sum low second_is sum_is greater h =
    let greatest = int_max_is rise (sum -ℤ second) in (
      λ all.
          below_more (λ k. from ≤ k → IsSubadditivePair values i k) j (h.0 (omega (arith, ints)))
          (λ _. omega (arith, ints)),
      λ all.
          let before = h.1 (λ k below. all k (omega arith)) in
          let here = all j (omega arith) low in
          omega (arith, ints),
    )

-- the pairs that the row tries with one total: their second index lies between two bounds
pub part_by : (values : List ℤ) (total i low high j : ℕ) (rise : ℤ) → i < length values →
    low ≡ max i (total + 1 - (i + length values)) →
    high ≡ min (length values) ((total + 2 - i) / 2) → high ≤ j → j ≤ max low high →
    BoundsRises values i low j rise →
    (rise ≤ℤ at values i) ↔ IsSubadditiveUpTo values total i
part_by values total i low high j rise below low_is high_is past most h = (
  λ all m k from next k_below whole. h.0 all m (omega arith) (omega arith),
  λ all. h.1 (λ m m_below from. all m (total - i - m) (omega arith) (omega arith) (omega arith)
      (omega arith)),
)

-- the least of three indices with one total lies between two bounds
pub total_by : (values : List ℤ) (total from end i : ℕ) → from ≡ total + 2 - 2 * length values →
    end ≡ min (length values) (total / 3 + 1) →
    end ≤ i → ((k : ℕ) → k < i → from ≤ k → IsSubadditiveUpTo values total k) →
    HasSubadditiveTotal values total
total_by values total from end i from_is end_is past h least below j k low next k_below whole =
    h least (omega arith) (omega arith) j k low next k_below whole

-- ---- of three indices the two least

-- the sum of three indices below n is the place modulo n
abbrev IsTotal : ℕ → ℕ → ℕ → Type 0
IsTotal place n x = (x ≡ place) ⊎ ((x ≡ place + n) ⊎ (x ≡ place + 2 * n))

third_index : (place n a b : ℕ) → place < n → a < n → b < n →
    (c : ℕ) × (c < n) × IsTotal place n (a + b + c)
third_index place n a b place_below a_below b_below = elim (cases_lt place (a + b)) [
  | inr low ↦ (place - (a + b), omega arith, inl (omega arith))
  | inl above ↦ elim (cases_lt (place + n) (a + b)) [
    | inr low ↦ (place + n - (a + b), omega arith, inr (inl (omega arith)))
    | inl high ↦ (place + 2 * n - (a + b), omega arith, inr (inr (omega arith)))
  ]
]

moved_total : (place n x y : ℕ) → x ≡ y → IsTotal place n x → IsTotal place n y
moved_total place n x y e = subst (IsTotal place n) e

two_least : (P : ℕ → ℕ → Type 0) (place n : ℕ) → place < n → ((a b : ℕ) → P a b → P b a) →
    ((a b c : ℕ) → IsTotal place n (a + b + c) → P a b → P a c) →
    ((a b c : ℕ) → a ≤ b → b ≤ c → c < n → IsTotal place n (a + b + c) → P a b) → (a b : ℕ) →
    a < n → b < n → P a b
two_least P place n place_below mirror turn h a b a_below b_below =
    of_third (third_index place n a b place_below a_below b_below)
  where
    of_third : (c : ℕ) × (c < n) × IsTotal place n (a + b + c) → P a b
    of_third (c, c_below, total) = elim (cases_lt b a) [
      | inr ab ↦ elim (cases_lt c b) [
        | inr bc ↦ h a b c ab bc c_below total
        | inl cb ↦
            let acb = moved_total place n (a + b + c) (a + c + b) (omega arith) total in
            elim (cases_lt c a) [
              | inr ac ↦ turn a c b acb (h a c b ac (omega arith) b_below acb)
              | inl ca ↦
                  let cab = moved_total place n (a + b + c) (c + a + b) (omega arith) total in
                  turn a c b acb (mirror c a (h c a b (omega arith) ab b_below cab))
            ]
      ]
      | inl ba ↦
          let bac = moved_total place n (a + b + c) (b + a + c) (omega arith) total in
          elim (cases_lt c a) [
            | inr ac ↦ mirror b a (h b a c (omega arith) ac c_below bac)
            | inl ca ↦
                let bca = moved_total place n (a + b + c) (b + c + a) (omega arith) total in
                elim (cases_lt c b) [
                  | inr bc ↦ mirror b a (turn b c a bca (h b c a bc (omega arith) a_below bca))
                  | inl cb ↦
                      let cba = moved_total place n (a + b + c) (c + b + a) (omega arith) total in
                      mirror b a (turn b c a bca
                      (mirror c b (h c b a (omega arith) (omega arith) a_below cba)))
                ]
          ]
    ]

-- ---- all pairs

-- values at indices that add up to the place modulo the length add up to the scale
symmetric_sums : (values : List ℤ) (place : ℕ) (scale : ℤ) → IsTableInRange values place scale →
    IsSymmetricList values place scale →
    (i j : ℕ) → IsTotal place (length values) (i + j) → at values i +ℤ at values j ≡ scale
symmetric_sums values place scale t symmetric i j total =
    let n = length values in
    let place_below = t.place_below in
    let low = t.low 0 in
    let high = t.high 0 in
    let is : pos (unsigned_abs scale) ≡ scale = omega (arith, ints) in
    symmetric_everywhere values n place (unsigned_abs scale) refl (omega arith)
    (λ k below. symmetric k below ∙ sym is) i j
    (elim total [
      | inl e ↦ ap (λ x. x % n) e
      | inr other ↦ elim other [
        | inl e ↦ ap (λ x. x % n) e ∙ add-mod_right place n
        | inr e ↦ ap (λ x. x % n)
            (e ∙ (let twice : place + 2 * n ≡ place + n + n = omega arith in twice))
            ∙ add-mod_right (place + n) n ∙ add-mod_right place n
      ]
    ])
    ∙ is

-- two of three indices that add up to the place
turned_pair : (values : List ℤ) (place : ℕ) (scale : ℤ) → IsTableInRange values place scale →
    IsSymmetricList values place scale →
    (a b c : ℕ) → IsTotal place (length values) (a + b + c) → IsSubadditivePair values a b →
    IsSubadditivePair values a c
turned_pair values place scale t symmetric a b c total h =
    let n = length values in
    let first = symmetric_sums values place scale t symmetric (a + b) c total in
    let second = symmetric_sums values place scale t symmetric (a + c) b
    (moved_total place n (a + b + c) (a + c + b) (omega arith) total) in
    omega (arith, ints)

all_pairs : (values : List ℤ) (place : ℕ) (scale : ℤ) → IsTableInRange values place scale →
    IsSymmetricList values place scale →
    HasSubadditiveTotals values place → IsSubadditiveList values
all_pairs values place scale t symmetric h =
    two_least (IsSubadditivePair values) place (length values) t.place_below (mirrored_pair values)
    (turned_pair values place scale t symmetric)
    (λ a b c ab bc below total.
    elim total [
      | inl e ↦ h.0 a (omega arith) b c ab bc below e
      | inr other ↦ elim other [
        | inl e ↦ h.1 a (omega arith) b c ab bc below e
        | inr e ↦ h.2 a (omega arith) b c ab bc below e
      ]
    ])

-- so the totals decide
pub totals_decide : (values : List ℤ) (place : ℕ) (scale : ℤ) → IsTableInRange values place scale →
    IsSymmetricList values place scale →
    HasSubadditiveTotals values place ↔ IsSubadditiveList values
totals_decide values place scale t symmetric = (
  all_pairs values place scale t symmetric,
  λ all. (
    λ i i_below j k from next below total. all i j i_below (omega arith),
    λ i i_below j k from next below total. all i j i_below (omega arith),
    λ i i_below j k from next below total. all i j i_below (omega arith),
  ),
)

-- the pairs of indices below the length give all pairs
pub subadditive_everywhere : (values : List ℤ) → 0 < length values → IsSubadditiveList values →
    (i j : ℕ) → IsSubadditivePair values i j
subadditive_everywhere values some h i j =
    let n = length values in
    let first : at values (i % n) ≡ at values i = at_wrapped values i (i % n) n refl refl in
    let second : at values (j % n) ≡ at values j = at_wrapped values j (j % n) n refl refl in
    let sum : at values (i % n + j % n) ≡ at values (i + j) =
    sym (at_wrapped values (i % n + j % n) ((i + j) % n) n refl (add-mod i j n))
    ∙ at_wrapped values (i + j) ((i + j) % n) n refl refl in
    let within = h (i % n) (j % n) (mod-lt i some) (mod-lt j some) in
    omega (arith, ints)

symmetric_at_each : (values : List ℤ) (place : ℕ) (scale : ℤ) → pos (unsigned_abs scale) ≡ scale →
    ((i j : ℕ) → (i + j) % length values ≡ place % length values →
    at values i +ℤ at values j ≡ pos (unsigned_abs scale)) →
    IsSymmetricList values place scale
symmetric_at_each values place scale is h i below =
    let whole : i + (place + (length values - i)) ≡ place + length values = omega arith in
    h i (place + (length values - i)) (ap (λ k. k % length values) whole
    ∙ add-mod_right place (length values)) ∙ is

-- the tests of a table, in the order in which they are tried
abbrev pub PassesListTests : List ℤ → ℕ → ℤ → Type 0
PassesListTests values place scale = ((at values 0 ≡ pos 0) × IsSymmetricList values place scale)
    × IsSubadditiveList values

pub minimal_list : (values : List ℤ) (place : ℕ) (scale : ℤ) → IsTableInRange values place scale →
    PassesListTests values place scale ↔ IsMinimalTable (at values) (length values) place
    (unsigned_abs scale)
minimal_list values place scale t =
    let place_below = t.place_below in
    let some : 0 < length values = omega arith in
    let low = t.low 0 in
    let high = t.high 0 in
    let is : pos (unsigned_abs scale) ≡ scale = omega (arith, ints) in (
      λ h. record {
        has_period = at_plus_length values;
        zero_at_zero = h.0.0;
        nonnegative = t.low;
        subadditive = subadditive_everywhere values some h.1;
        symmetric = symmetric_everywhere values (length values) place (unsigned_abs scale) refl some
            (λ i below. h.0.1 i below ∙ sym is);
      },
      λ m. (
        (m.zero_at_zero, symmetric_at_each values place scale is m.symmetric),
        λ i j i_below j_below. m.subadditive i j,
      ),
    )

-- ---- what the code reads

-- a value at an index below the length
pub value_read : (values : List ℤ) (place : ℕ) (scale : ℤ) (i : ℕ) →
    IsTableInRange values place scale → i < length values →
    to_z w128 (of_z w128 (get_or values i (pos 0))) ≡ at values i
value_read values place scale i t below =
    let is = at_below values i below in
    let low = t.low i in
    let high = t.high i in
    let most = t.scale_high in
    omega (arith, ints)

-- a value at an index that was reduced
pub rest_value : (values : List ℤ) (place : ℕ) (scale : ℤ) (i k : ℕ) →
    IsTableInRange values place scale → k ≡ i % length values →
    to_z w128 (of_z w128 (get_or values k (pos 0))) ≡ at values i
rest_value values place scale i k t is =
    let place_below = t.place_below in
    let rest : i % length values < length values = mod-lt i (omega arith) in
    value_read values place scale k t (omega arith) ∙ at_wrapped values i k (length values) refl is

-- the sum of two values fits
pub values_fit : (values : List ℤ) (place : ℕ) (scale : ℤ) (i j : ℕ) (x y : ℤ) →
    IsTableInRange values place scale →
    x ≡ at values i → y ≡ at values j → FitsSigned w128 (x +ℤ y)
values_fit values place scale i j x y t x_is y_is =
    let x_low = t.low i in
    let x_high = t.high i in
    let y_low = t.low j in
    let y_high = t.high j in
    let most = t.scale_high in
    omega (arith, ints)

-- and is read as such
pub sum_of_values : (values : List ℤ) (place : ℕ) (scale : ℤ) (i j : ℕ) (x y : ℤ) →
    IsTableInRange values place scale →
    x ≡ at values i → y ≡ at values j → to_z w128 (of_z w128 (x +ℤ y)) ≡ at values i +ℤ at values j
sum_of_values values place scale i j x y t x_is y_is =
    to_z-of_z w128 (x +ℤ y) (values_fit values place scale i j x y t x_is y_is)
    ∙ ap₂ (λ a b. a +ℤ b) x_is y_is

-- ---- the entries of two periods are made

-- a value that was read can be an entry
pub value_fits : (values : List ℤ) (place : ℕ) (scale : ℤ) (bound i : ℕ) (x : ℤ) →
    IsTableInRange values place scale →
    scale <ℤ pos bound → x ≡ at values i → (pos 0 ≤ℤ x) × (x <ℤ pos bound)
value_fits values place scale bound i x t fits is =
    let low = t.low i in
    let high = t.high i in (
      omega (arith, ints),
      omega (arith, ints),
    )

-- the entries at the indices below n are the values there
abbrev pub AgreeBelow : {E : Type 0} → (E → ℤ) → List E → List ℤ → ℕ → Type 0
AgreeBelow {E} number entries values n = (i : ℕ) → i < n → (e : E) →
    number (get_or entries i e) ≡ at values i

-- and there are no others
abbrev pub AreEntriesBelow : {E : Type 0} → (E → ℤ) → List E → List ℤ → ℕ → Type 0
AreEntriesBelow number entries values n = (length entries ≡ n) × AgreeBelow number entries values n

-- one entry more is written
pub one_more_written : {E : Type 0} (number : E → ℤ) (entries : List E) (values : List ℤ) (n : ℕ)
    (entry : E) → n < length entries →
    number entry ≡ at values n → AgreeBelow number entries values n →
    AgreeBelow number (set entries n entry) values (n + 1)
one_more_written {E} number entries values n entry within is h =
    below_more (λ i. (e : E) → number (get_or (set entries n entry) i e) ≡ at values i) n
    (λ i below e. let other : i ≢ n = omega arith in
    ap number (get_or-set_other entries n i entry e other) ∙ h i below e)
    (λ e. ap number (get_or-set_same entries n entry e within) ∙ is)

-- one entry more
pub one_more_entry : {E : Type 0} (number : E → ℤ) (entries more : List E) (values : List ℤ) (n : ℕ)
    (entry : E) →
    number entry ≡ at values n → more ≡ entries ++ entry ∷ [] →
    AreEntriesBelow number entries values n → AreEntriesBelow number more values (n + 1)
one_more_entry {E} number entries more values n entry is pushed h =
    let long = ap length pushed ∙ length-append entries (entry ∷ []) in
    let count = h.0 in
    let before = λ (i : ℕ) (below : i < n) (e : E).
    ap (λ xs. number (get_or xs i e)) pushed
    ∙ ap number (get_or-append entries (entry ∷ []) e i (let low = below in omega arith))
    ∙ h.1 i below e in
    let last = λ (e : E). ap (λ xs. number (get_or xs n e)) pushed
    ∙ ap number (last_of entries entry n e count) ∙ is in (
      omega arith,
      below_more (λ i. (e : E) → number (get_or more i e) ≡ at values i) n before last,
    )
  where
    last_of : {E : Type 0} (xs : List E) (y : E) (n : ℕ) (e : E) → length xs ≡ n →
        get_or (xs ++ y ∷ []) n e ≡ y
    last_of xs y n e count = subst (λ (k : ℕ). get_or (xs ++ y ∷ []) k e ≡ y) count
        (get_or-append_seam xs y [] e)

-- ---- the tests in turn

-- if those before pass, the pairs decide
pub list_decides : (values : List ℤ) (place : ℕ) (scale : ℤ) → IsTableInRange values place scale →
    at values 0 ≡ pos 0 →
    IsSymmetricList values place scale →
    IsSubadditiveList values ↔ IsMinimalTable (at values) (length values) place (unsigned_abs scale)
list_decides values place scale t zero symmetric =
    let all = minimal_list values place scale t in
    (λ h. all.0 ((zero, symmetric), h), λ m. (all.1 m).1)
