-- Lists made by ranges: what holds of each element, and where an element stands.
use Rattle.std.proofs.Common.{◌≡◌, ℕ, zero, suc, ◌+◌, ◌-◌, ◌<◌, ◌≤◌, List, [], ◌∷◌, ◌++◌, length, map, refl, ap, ◌∙◌, subst, zero-add, arith}
use Rattle.std.specs.List.{range_with_len, flat_map, All}
use Rattle.std.proofs.lemmas.List.{take_at, drop_at}
use Rattle.std.proofs.lemmas.List.Elements.{All-nil, All-cons, All-head, All-tail, All-append, All-map, All-take, All-drop}
use Rattle.std.proofs.lemmas.List.Concat.{flat_map-append}
use Rattle.std.proofs.lemmas.List.{map-append}

-- ---- both parts of a joined list

pub All-front : {X : Type 0} (P : X → Type 0) (xs ys : List X) → All P (xs ++ ys) → All P xs
All-front P xs ys h =
    subst (All P) (take_at xs ys (length xs) refl) (All-take P (length xs) (xs ++ ys) h)

pub All-back : {X : Type 0} (P : X → Type 0) (xs ys : List X) → All P (xs ++ ys) → All P ys
All-back P xs ys h =
    subst (All P) (drop_at xs ys (length xs) refl) (All-drop P (length xs) (xs ++ ys) h)

-- ---- each element of a short list

pub All-one : {X : Type 0} (P : X → Type 0) (x : X) → P x → All P (x ∷ [])
All-one P x h = All-cons P x [] h (All-nil P)

pub All-two : {X : Type 0} (P : X → Type 0) (x y : X) → P x → P y → All P (x ∷ y ∷ [])
All-two P x y h k = All-cons P x (y ∷ []) h (All-one P y k)

pub All-three : {X : Type 0} (P : X → Type 0) (x y z : X) → P x → P y → P z → All P (x ∷ y ∷ z ∷ [])
All-three P x y z h k l = All-cons P x (y ∷ z ∷ []) h (All-two P y z k l)

-- ---- each element of a list made by a range

-- what holds of each index below a + n, holds of each number of the range of n numbers from a on
pub All-range : (P : ℕ → Type 0) (a n : ℕ) → ((i : ℕ) → i < a + n → P i) →
    All P (range_with_len a n)
All-range P a zero h = All-nil P
All-range P a (suc n) h =
    All-cons P a (range_with_len (a + 1) n) (h a (omega arith))
    (All-range P (a + 1) n (λ i below. h i (omega arith)))

-- the same of each element made from the numbers
pub All-made : {X : Type 0} (P : X → Type 0) (g : ℕ → X) (a n : ℕ) →
    ((i : ℕ) → i < a + n → P (g i)) →
    All P (map g (range_with_len a n))
All-made P g a n h = All-map P g (range_with_len a n) (All-range (λ i. P (g i)) a n h)

-- the lists of all elements joined
pub All-flat_map : {X Y : Type 0} (P : X → Type 0) (g : Y → List X) (ys : List Y) →
    All (λ y. All P (g y)) ys →
    All P (flat_map g ys)
All-flat_map P g [] h = All-nil P
All-flat_map P g (y ∷ ys) h =
    All-append P (g y) (flat_map g ys) (All-head (λ z. All P (g z)) y ys h)
    (All-flat_map P g ys (All-tail (λ z. All P (g z)) y ys h))

-- if each number makes a list
pub All-joined : {X : Type 0} (P : X → Type 0) (g : ℕ → List X) (a n : ℕ) →
    ((i : ℕ) → i < a + n → All P (g i)) →
    All P (flat_map g (range_with_len a n))
All-joined P g a n h = All-flat_map P g (range_with_len a n) (All-range (λ i. All P (g i)) a n h)

-- ---- a range up to an end

pub range_step : (a n : ℕ) → a < n →
    range_with_len a (n - a) ≡ a ∷ range_with_len (a + 1) (n - (a + 1))
range_step a n below = let more : n - a ≡ suc (n - (a + 1)) = omega arith in
    ap (range_with_len a) more

pub range_end : (a n : ℕ) → n ≤ a → range_with_len a (n - a) ≡ []
range_end a n above = let none : n - a ≡ 0 = omega arith in ap (range_with_len a) none

-- ---- where an index stands

-- a range of m + n numbers is one of m numbers and then one of n
pub range_split : (a m n : ℕ) →
    range_with_len a (m + n) ≡ range_with_len a m ++ range_with_len (a + m) n
range_split a zero n =
    let len : zero + n ≡ n = omega arith in
    let from : a + zero ≡ a = omega arith in
    rw (len, from) refl
range_split a (suc m) n =
    let len : suc m + n ≡ suc (m + n) = omega arith in
    let from : a + suc m ≡ a + 1 + m = omega arith in
    rw (len, from, range_split (a + 1) m n) refl

-- an index below n splits the range of n numbers
pub range_at : (i n : ℕ) → i < n →
    range_with_len 0 n ≡ range_with_len 0 i ++ i ∷ range_with_len (i + 1) (n - suc i)
range_at i n h =
    let len : n ≡ i + suc (n - suc i) = omega arith in
    ap (range_with_len 0) len ∙ range_split 0 i (suc (n - suc i))
    ∙ ap (λ k. range_with_len 0 i ++ range_with_len k (suc (n - suc i))) (zero-add i)

-- the list made by a range, split at an index
pub made_at : {X : Type 0} (g : ℕ → X) (i n : ℕ) → i < n →
    map g (range_with_len 0 n) ≡ map g (range_with_len 0 i) ++ g i ∷ map g
    (range_with_len (i + 1) (n - suc i))
made_at g i n h =
    ap (map g) (range_at i n h)
    ∙ map-append g (range_with_len 0 i) (i ∷ range_with_len (i + 1) (n - suc i))

-- the same if each index makes a list
pub joined_at : {X : Type 0} (g : ℕ → List X) (i n : ℕ) → i < n →
    flat_map g (range_with_len 0 n)
    ≡ flat_map g (range_with_len 0 i) ++ (g i ++ flat_map g (range_with_len (i + 1) (n - suc i)))
joined_at g i n h =
    ap (flat_map g) (range_at i n h)
    ∙ flat_map-append g (range_with_len 0 i) (i ∷ range_with_len (i + 1) (n - suc i))

-- ---- from all elements back to each

-- an element made at an index below n has what all have
pub made_has : {X : Type 0} (P : X → Type 0) (g : ℕ → X) (i n : ℕ) → i < n →
    All P (map g (range_with_len 0 n)) → P (g i)
made_has P g i n h all =
    let rest = map g (range_with_len (i + 1) (n - suc i)) in
    let split = subst (All P) (made_at g i n h) all in
    All-head P (g i) rest (All-back P (map g (range_with_len 0 i)) (g i ∷ rest) split)

-- all elements of the list made at an index below n have what all have
pub joined_has : {X : Type 0} (P : X → Type 0) (g : ℕ → List X) (i n : ℕ) → i < n →
    All P (flat_map g (range_with_len 0 n)) → All P (g i)
joined_has P g i n h all =
    let rest = flat_map g (range_with_len (i + 1) (n - suc i)) in
    let split = subst (All P) (joined_at g i n h) all in
    All-front P (g i) rest (All-back P (flat_map g (range_with_len 0 i)) (g i ++ rest) split)
