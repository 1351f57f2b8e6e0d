-- Counts of the intervals in each component.
use Rattle.std.proofs.Common.{◌≡◌, ◌≢◌, ℕ, ◌+◌, ◌<◌, ◌≤◌, ◌^◌, ◌⊎◌, inl, inr, cond, ℤ, pos, ◌+ℤ◌, ◌-ℤ◌, List, [], ◌∷◌, ◌++◌, length, map, get_or, set, eqb, unsigned_abs, FitsSigned, to_z, of_z, refl, sym, ap, subst, ◌∙◌, zero-add, arith}
use Rattle.std.specs.Prelude.{count_by, All}
use Rattle.std.specs.List.{range_with_len}
use Rattle.std.proofs.lemmas.Bool.{cases_eq, eq-eqb, ne_eqb}
use Rattle.std.proofs.lemmas.Int.{ints, to_z-of_z, fits_signed_from_abs}
use mir.Syntax.{w128}
use Rattle.std.proofs.lemmas.List.{get_or-set_same, get_or-set_other}
use Rattle.std.proofs.lemmas.List.Elements.{All-get_or, All-from_get_or}
use Rattle.std.proofs.lemmas.List.Sums.{sum_by_push, count_by-le-length}
use Rattle.std.proofs.lemmas.List.FromFn.{length-range_with_len, fill_by_all}
use Rattle.gj_lemmas.proofs.Lists.{range_split}
use Rattle.gj_shape.specs.SlopeRows.{rises}

-- ---- one more interval

pub rises_more : (f : ℕ → ℕ) (i c : ℕ) → rises f (i + 1) c ≡ rises f i c + cond (eqb (f i) c) 1 0
rises_more f i c =
    ap (count_by (λ a. eqb (f a) c))
    (range_split 0 i 1 ∙ ap (λ k. range_with_len 0 i ++ k ∷ []) (zero-add i))
    ∙ sum_by_push (λ a. cond (eqb (f a) c) 1 0) (range_with_len 0 i) i

pub rises_here : (f : ℕ → ℕ) (i c : ℕ) → f i ≡ c → rises f (i + 1) c ≡ rises f i c + 1
rises_here f i c e = rises_more f i c ∙ ap (λ b. rises f i c + cond b 1 0) (eq-eqb (f i) c e)

pub rises_elsewhere : (f : ℕ → ℕ) (i c : ℕ) → f i ≢ c → rises f (i + 1) c ≡ rises f i c
rises_elsewhere f i c e =
    rises_more f i c ∙ ap (λ b. rises f i c + cond b 1 0) (ne_eqb (f i) c e)
    ∙ plus_zero (rises f i c)
  where
    plus_zero : (n : ℕ) → n + 0 ≡ n
    plus_zero n = omega arith

pub rises_at_most : (f : ℕ → ℕ) (i c : ℕ) → rises f i c ≤ i
rises_at_most f i c =
    let count = count_by-le-length (λ a. eqb (f a) c) (range_with_len 0 i) in
    let len = length-range_with_len 0 i in
    omega arith

-- ---- rises added to a row

pub record HasAdded (f : ℕ → ℕ) (i : ℕ) (old row : List ℤ) : Type 0 where
  pub at : (c : ℕ) → c < length old →
      get_or row c (pos 0) ≡ get_or old c (pos 0) +ℤ pos (rises f i c)

pub added_more : (f : ℕ → ℕ) (i : ℕ) (old row : List ℤ) (z : ℤ) → HasAdded f i old row →
    length row ≡ length old →
    f i < length old → z ≡ get_or row (f i) (pos 0) +ℤ pos 1 →
    HasAdded f (i + 1) old (set row (f i) z)
added_more f i old row z h len inside is =
    record { at = λ c below. by_column c below (cases_eq (f i) c) }
  where
    by_column : (c : ℕ) → c < length old → (f i ≡ c) ⊎ (f i ≡ c → ⊥) →
        get_or (set row (f i) z) c (pos 0) ≡ get_or old c (pos 0) +ℤ pos (rises f (i + 1) c)
    by_column c below (inl e) =
        let here : get_or (set row (f i) z) (f i) (pos 0) ≡ z =
        get_or-set_same row (f i) z (pos 0) (omega arith) in
        let before = h.at (f i) inside in
        let more = rises_here f i (f i) refl in
        let all : get_or (set row (f i) z) (f i) (pos 0) ≡ get_or old (f i) (pos 0) +ℤ pos
        (rises f (i + 1) (f i)) =
        omega (arith, ints) in
        subst (λ (k : ℕ). get_or (set row (f i) z) k (pos 0)
        ≡ get_or old k (pos 0) +ℤ pos (rises f (i + 1) k)) e all
    by_column c below (inr e) =
        get_or-set_other row (f i) c z (pos 0) (λ same. e (sym same)) ∙ h.at c below
        ∙ ap (λ n. get_or old c (pos 0) +ℤ pos n) (sym (rises_elsewhere f i c e))

pub added_small : (f : ℕ → ℕ) (i c m : ℕ) (old row : List ℤ) → HasAdded f i old row →
    All (λ x. unsigned_abs x < m) old →
    c < length old → unsigned_abs (get_or row c (pos 0)) < m + i
added_small f i c m old row h small below =
    let is = h.at c below in
    let before : unsigned_abs (get_or old c (pos 0)) < m =
    All-get_or (λ x. unsigned_abs x < m) old c (pos 0) below small in
    let most = rises_at_most f i c in
    omega (arith, ints)

-- ---- rises subtracted from a row

pub record HasSubtracted (f : ℕ → ℕ) (i : ℕ) (old row : List ℤ) : Type 0 where
  pub at : (c : ℕ) → c < length old →
      get_or row c (pos 0) ≡ get_or old c (pos 0) -ℤ pos (rises f i c)

pub subtracted_more : (f : ℕ → ℕ) (i : ℕ) (old row : List ℤ) (z : ℤ) → HasSubtracted f i old row →
    length row ≡ length old →
    f i < length old → z ≡ get_or row (f i) (pos 0) -ℤ pos 1 →
    HasSubtracted f (i + 1) old (set row (f i) z)
subtracted_more f i old row z h len inside is =
    record { at = λ c below. by_column c below (cases_eq (f i) c) }
  where
    by_column : (c : ℕ) → c < length old → (f i ≡ c) ⊎ (f i ≡ c → ⊥) →
        get_or (set row (f i) z) c (pos 0) ≡ get_or old c (pos 0) -ℤ pos (rises f (i + 1) c)
    by_column c below (inl e) =
        let here : get_or (set row (f i) z) (f i) (pos 0) ≡ z =
        get_or-set_same row (f i) z (pos 0) (omega arith) in
        let before = h.at (f i) inside in
        let more = rises_here f i (f i) refl in
        let all : get_or (set row (f i) z) (f i) (pos 0) ≡ get_or old (f i) (pos 0) -ℤ pos
        (rises f (i + 1) (f i)) =
        omega (arith, ints) in
        subst (λ (k : ℕ). get_or (set row (f i) z) k (pos 0)
        ≡ get_or old k (pos 0) -ℤ pos (rises f (i + 1) k)) e all
    by_column c below (inr e) =
        get_or-set_other row (f i) c z (pos 0) (λ same. e (sym same)) ∙ h.at c below
        ∙ ap (λ n. get_or old c (pos 0) -ℤ pos n) (sym (rises_elsewhere f i c e))

pub subtracted_small : (f : ℕ → ℕ) (i c m : ℕ) (old row : List ℤ) → HasSubtracted f i old row →
    All (λ x. unsigned_abs x < m) old → c < length old → unsigned_abs (get_or row c (pos 0)) < m + i
subtracted_small f i c m old row h small below =
    let is = h.at c below in
    let before : unsigned_abs (get_or old c (pos 0)) < m =
    All-get_or (λ x. unsigned_abs x < m) old c (pos 0) below small in
    let most = rises_at_most f i c in
    omega (arith, ints)

-- ---- all entries

pub zeros_small : (old : List ℤ) (m : ℕ) → All (λ x. x ≡ pos 0) old → 0 < m →
    All (λ x. unsigned_abs x < m) old
zeros_small old m zeros some =
    All-from_get_or (λ x. unsigned_abs x < m) old (pos 0)
    (λ c below.
    let is : get_or old c (pos 0) ≡ pos 0 = All-get_or (λ x. x ≡ pos 0) old c (pos 0) below zeros in
    subst (λ (x : ℤ). unsigned_abs x < m) (sym is) some)

pub all_added_small : (f : ℕ → ℕ) (i m n : ℕ) (old row : List ℤ) → HasAdded f i old row →
    length row ≡ length old →
    All (λ x. unsigned_abs x < m) old → m + i ≤ n → All (λ x. unsigned_abs x < n) row
all_added_small f i m n old row h len small most =
    All-from_get_or (λ x. unsigned_abs x < n) row (pos 0)
    (λ c below. let one = added_small f i c m old row h small (omega arith) in omega arith)

-- a row of zeros to which rises are added
pub row_of_one : (f : ℕ → ℕ) (i : ℕ) (old row : List ℤ) → HasAdded f i old row →
    length row ≡ length old →
    All (λ x. x ≡ pos 0) old → row ≡ map (λ c. pos (rises f i c)) (range_with_len 0 (length old))
row_of_one f i old row h len zeros =
    fill_by_all (λ c. pos (rises f i c)) row (length old) (pos 0) len
    (λ c below.
    let is = h.at c below in
    let zero : get_or old c (pos 0) ≡ pos 0 =
    All-get_or (λ x. x ≡ pos 0) old c (pos 0) below zeros in
    omega (arith, ints))

-- and to which three are
pub row_of_three : (f : ℕ → ℕ) (a b s : ℕ) (old one two row : List ℤ) → HasAdded f a old one →
    length one ≡ length old →
    HasAdded f b one two → length two ≡ length one → HasSubtracted f s two row →
    length row ≡ length two →
    All (λ x. x ≡ pos 0) old →
    row ≡ map (λ c. pos (rises f a c) +ℤ pos (rises f b c) -ℤ pos (rises f s c))
    (range_with_len 0 (length old))
row_of_three f a b s old one two row h1 len1 h2 len2 h3 len3 zeros =
    fill_by_all (λ c. pos (rises f a c) +ℤ pos (rises f b c) -ℤ pos (rises f s c)) row (length old)
    (pos 0) (len3 ∙ len2 ∙ len1)
    (λ c below.
    let first = h1.at c below in
    let second = h2.at c (omega arith) in
    let third = h3.at c (omega arith) in
    let zero : get_or old c (pos 0) ≡ pos 0 =
    All-get_or (λ x. x ≡ pos 0) old c (pos 0) below zeros in
    omega (arith, ints))

-- ---- as the code reads them

pub component_below : (component : List ℕ) (row : List ℤ) (i : ℕ) →
    All (λ c. c < length row) component → i < length component →
    get_or component i 0 < length row
component_below component row i all below = All-get_or (λ c. c < length row) component i 0 below all

within : (x : ℤ) (i : ℕ) → unsigned_abs x < 2 ^ 100 + i → i < 2 ^ 64 → (unsigned_abs x < 2 ^ 127)
within x i h below = omega arith

read_small : (x : ℤ) (i : ℕ) → unsigned_abs x < 2 ^ 100 + i → i < 2 ^ 64 →
    to_z w128 (of_z w128 x) ≡ x
read_small x i h below = to_z-of_z w128 x (fits_signed_from_abs w128 x (within x i h below))

more_fits : (x : ℤ) (i : ℕ) → unsigned_abs x < 2 ^ 100 + i → i < 2 ^ 64 →
    FitsSigned w128 (x +ℤ pos 1)
more_fits x i h below =
    let small : unsigned_abs (x +ℤ pos 1) < 2 ^ 127 = omega (arith, ints) in
    fits_signed_from_abs w128 (x +ℤ pos 1) small

less_fits : (x : ℤ) (i : ℕ) → unsigned_abs x < 2 ^ 100 + i → i < 2 ^ 64 →
    FitsSigned w128 (x -ℤ pos 1)
less_fits x i h below =
    let small : unsigned_abs (x -ℤ pos 1) < 2 ^ 127 = omega (arith, ints) in
    fits_signed_from_abs w128 (x -ℤ pos 1) small

pub one_more_fits : (x : ℤ) (i : ℕ) → unsigned_abs x < 2 ^ 100 + i → i < 2 ^ 64 →
    FitsSigned w128 (to_z w128 (of_z w128 x) +ℤ pos 1)
one_more_fits x i h below =
    subst (λ (z : ℤ). FitsSigned w128 (z +ℤ pos 1)) (sym (read_small x i h below))
    (more_fits x i h below)

pub one_less_fits : (x : ℤ) (i : ℕ) → unsigned_abs x < 2 ^ 100 + i → i < 2 ^ 64 →
    FitsSigned w128 (to_z w128 (of_z w128 x) -ℤ pos 1)
one_less_fits x i h below =
    subst (λ (z : ℤ). FitsSigned w128 (z -ℤ pos 1)) (sym (read_small x i h below))
    (less_fits x i h below)

pub read_one_more : (x : ℤ) (i : ℕ) → unsigned_abs x < 2 ^ 100 + i → i < 2 ^ 64 →
    to_z w128 (of_z w128 (to_z w128 (of_z w128 x) +ℤ pos 1)) ≡ x +ℤ pos 1
read_one_more x i h below =
    ap (λ z. to_z w128 (of_z w128 (z +ℤ pos 1))) (read_small x i h below)
    ∙ to_z-of_z w128 (x +ℤ pos 1) (more_fits x i h below)

pub read_one_less : (x : ℤ) (i : ℕ) → unsigned_abs x < 2 ^ 100 + i → i < 2 ^ 64 →
    to_z w128 (of_z w128 (to_z w128 (of_z w128 x) -ℤ pos 1)) ≡ x -ℤ pos 1
read_one_less x i h below =
    ap (λ z. to_z w128 (of_z w128 (z -ℤ pos 1))) (read_small x i h below)
    ∙ to_z-of_z w128 (x -ℤ pos 1) (less_fits x i h below)
