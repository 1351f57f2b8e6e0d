-- The first element of a list that fails: it is one, and where it comes in lists made of lists.
use Rattle.std.proofs.Common.{◌≡◌, ℕ, ◌+◌, ◌-◌, ◌<◌, suc, List, [], ◌∷◌, ◌++◌, map, refl, sym, ap, ◌∙◌, subst, append_assoc, arith}
use Rattle.std.specs.List.{range_with_len, flat_map, All}
use Rattle.std.proofs.lemmas.List.Elements.{All-head, All-append, All-map, All-push}
use Rattle.std.proofs.lemmas.List.{map-append}
use Rattle.std.proofs.lemmas.List.Concat.{flat_map-append}
use Rattle.gj_lemmas.specs.FirstThatFails.{IsFirstFailing}
use Rattle.gj_lemmas.proofs.Lists.{All-front, All-back, All-range, All-flat_map, range_at}

-- ---- it is one

-- what is good stays so without the elements behind it
abbrev pub IsPrefixClosed : {A : Type 0} → (List A → Type 0) → Type 0
IsPrefixClosed {A} Good = (xs ys : List A) → Good (xs ++ ys) → Good xs

-- the whole list is not good
pub first_failing_denies : {A : Type 0} (Good : List A → Type 0) → IsPrefixClosed Good →
    (xs before : List A) (x : A) →
    IsFirstFailing Good xs before x → Good xs → ⊥
first_failing_denies Good closed xs before x h all =
    let split = h.place ∙ sym (append_assoc before (x ∷ []) h.after) in
    h.bad (closed (before ++ x ∷ []) h.after (subst Good split all))

one_place : {A : Type 0} (Good : List A → Type 0) → IsPrefixClosed Good →
    (b c : List A) (x y : A) (xs ys : List A) →
    b ++ x ∷ xs ≡ c ++ y ∷ ys → Good b → Good c → (Good (b ++ x ∷ []) → ⊥) →
    (Good (c ++ y ∷ []) → ⊥) →
    (b ≡ c) × (x ≡ y)
one_place Good closed [] [] x y xs ys e b_good c_good x_bad y_bad = (refl, cc)
one_place Good closed [] (z ∷ c) x y xs ys e b_good c_good x_bad y_bad =
    let same : z ≡ x = cc in
    absurd (x_bad (subst (λ w. Good (w ∷ [])) same (closed (z ∷ []) c c_good)))
one_place Good closed (z ∷ b) [] x y xs ys e b_good c_good x_bad y_bad =
    let same : z ≡ y = cc in
    absurd (y_bad (subst (λ w. Good (w ∷ [])) same (closed (z ∷ []) b b_good)))
one_place Good closed (z ∷ b) (w ∷ c) x y xs ys e b_good c_good x_bad y_bad =
    let heads : w ≡ z = cc in
    let tails : b ++ x ∷ xs ≡ c ++ y ∷ ys = cc in
    let rest = one_place (λ l. Good (z ∷ l)) (λ us vs. closed (z ∷ us) vs) b c x y xs ys tails
    b_good
    (subst (λ u. Good (u ∷ c)) heads c_good) x_bad
    (λ g. y_bad (subst (λ u. Good (u ∷ c ++ y ∷ [])) (sym heads) g)) in
    let same : b ≡ c = rest.0 in
    let whole : z ∷ b ≡ w ∷ c = cc in
    (whole, rest.1)

-- a list has one first element that fails, behind the same elements
pub one_first_failing : {A : Type 0} (Good : List A → Type 0) → IsPrefixClosed Good →
    (xs b c : List A) (x y : A) →
    IsFirstFailing Good xs b x → IsFirstFailing Good xs c y → (b ≡ c) × (x ≡ y)
one_first_failing Good closed xs b c x y h k =
    one_place Good closed b c x y h.after k.after (sym h.place ∙ k.place) h.good k.good h.bad k.bad

-- more elements after it
pub first_failing_in_front : {A : Type 0} (Good : List A → Type 0) (xs ys before : List A) (x : A) →
    IsFirstFailing Good xs before x → IsFirstFailing Good (xs ++ ys) before x
first_failing_in_front Good xs ys before x h = record {
  after = h.after ++ ys;
  place = ap (λ l. l ++ ys) h.place ∙ append_assoc before (x ∷ h.after) ys;
  good = h.good;
  bad = h.bad;
}

-- ---- if each element is tested alone

-- the first element that fails a test, behind elements that pass
pub first_failing : {A : Type 0} (P : A → Type 0) (xs before after : List A) (x : A) →
    xs ≡ before ++ x ∷ after →
    All P before → (P x → ⊥) → IsFirstFailing (All P) xs before x
first_failing P xs before after x place passed fails = record {
  after = after;
  place = place;
  good = passed;
  bad = λ all. fails (All-head P x [] (All-back P before (x ∷ []) all));
}

-- it fails the test
pub first_failing_fails : {A : Type 0} (P : A → Type 0) (xs before : List A) (x : A) →
    IsFirstFailing (All P) xs before x → P x → ⊥
first_failing_fails P xs before x h passes = h.bad (All-push P before x h.good passes)

-- not all elements pass
pub first_failing_denies_all : {A : Type 0} (P : A → Type 0) (xs before : List A) (x : A) →
    IsFirstFailing (All P) xs before x → All P xs → ⊥
first_failing_denies_all P = first_failing_denies (All P) (All-front P)

-- more elements before it, which pass
pub first_failing_in_back : {A : Type 0} (P : A → Type 0) (xs ys before : List A) (x : A) →
    All P xs →
    IsFirstFailing (All P) ys before x → IsFirstFailing (All P) (xs ++ ys) (xs ++ before) x
first_failing_in_back P xs ys before x all h =
    first_failing P (xs ++ ys) (xs ++ before) h.after x
    (ap (λ l. xs ++ l) h.place ∙ sym (append_assoc xs before (x ∷ h.after)))
    (All-append P xs before all h.good) (first_failing_fails P ys before x h)

-- if f y is tested for y
pub first_failing_in_map : {A B : Type 0} (P : B → Type 0) (f : A → B) (ys before : List A)
    (y : A) →
    IsFirstFailing (All (λ z. P (f z))) ys before y →
    IsFirstFailing (All P) (map f ys) (map f before) (f y)
first_failing_in_map P f ys before y h =
    first_failing P (map f ys) (map f before) (map f h.after) (f y)
    (ap (map f) h.place ∙ map-append f before (y ∷ h.after))
    (All-map P f before h.good) (first_failing_fails (λ z. P (f z)) ys before y h)

-- in the lists of all elements, if those of the elements before y pass
pub first_failing_in_joined : {A B : Type 0} (P : B → Type 0) (f : A → List B) (ys earlier : List A)
    (y : A)
    (before : List B) (x : B) → IsFirstFailing (All (λ z. All P (f z))) ys earlier y →
    IsFirstFailing (All P) (f y) before x →
    IsFirstFailing (All P) (flat_map f ys) (flat_map f earlier ++ before) x
first_failing_in_joined P f ys earlier y before x h k =
    let later = flat_map f h.after in
    let split = ap (flat_map f) h.place ∙ flat_map-append f earlier (y ∷ h.after) in
    subst (λ l. IsFirstFailing (All P) l (flat_map f earlier ++ before) x) (sym split)
    (first_failing_in_back P (flat_map f earlier) (f y ++ later) before x
    (All-flat_map P f earlier h.good)
    (first_failing_in_front (All P) (f y) later before x k))

-- ---- at an index

-- a number below n, if those below it pass
pub first_failing_in_range : (P : ℕ → Type 0) (i n : ℕ) → i < n → ((j : ℕ) → j < i → P j) →
    (P i → ⊥) →
    IsFirstFailing (All P) (range_with_len 0 n) (range_with_len 0 i) i
first_failing_in_range P i n below passed fails =
    first_failing P (range_with_len 0 n) (range_with_len 0 i) (range_with_len (i + 1) (n - suc i)) i
    (range_at i n below) (All-range P 0 i (λ j j_below. passed j (omega arith))) fails
