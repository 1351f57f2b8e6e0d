-- Lists of fractions of which those that are 0 are passed over.
use Rattle.std.proofs.Common.{◌≡◌, ℕ, zero, suc, ◌+◌, ◌<◌, ◌≤◌, pos, List, [], ◌∷◌, ◌++◌, length, get_or, drop, replicate, length-append, append_assoc, add-one, refl, sym, ap, subst, ◌∙◌, arith}
use Rattle.std.proofs.lemmas.Grind.{replicate_next}
use Rattle.std.proofs.lemmas.List.{length-replicate, append-nil, drop_all}
use Rattle.gj_frac.specs.declared.Frac.{Frac}
use Rattle.gj_problem.specs.declared.sparse.Run.{Run}
use Rattle.gj_problem.specs.Sparse.{no_fraction, spread}
use Rattle.gj_problem.proofs.OneRow.{rational_injective}
use Rattle.gj_problem.proofs.AddedSums.{zero_frac}

-- ---- one more

pub zero_is : (x : Frac) → x.num ≡ pos 0 → x ≡ no_fraction
zero_is x none = rational_injective x no_fraction (zero_frac x none ∙ sym (zero_frac no_fraction refl))

pub spread_push : (rs : List Run) (r : Run) →
    spread (rs ++ r ∷ []) 0 ≡ spread rs r.zeros ++ r.value ∷ []
spread_push [] r = refl
spread_push (q ∷ rs) r =
    ap (λ (xs : List Frac). replicate q.zeros no_fraction ++ q.value ∷ xs) (spread_push rs r)
    ∙ sym (append_assoc (replicate q.zeros no_fraction) (q.value ∷ spread rs r.zeros) (r.value ∷ []))

pub spread_zero : (rs : List Run) (behind : ℕ) →
    spread rs (behind + 1) ≡ spread rs behind ++ no_fraction ∷ []
spread_zero [] behind = replicate_next behind no_fraction
spread_zero (q ∷ rs) behind =
    ap (λ (xs : List Frac). replicate q.zeros no_fraction ++ q.value ∷ xs) (spread_zero rs behind)
    ∙ sym (append_assoc (replicate q.zeros no_fraction) (q.value ∷ spread rs behind)
    (no_fraction ∷ []))

-- ---- from a place on

drop_at : (rs : List Run) (i : ℕ) (r : Run) → i < length rs → r ≡ get_or rs i r →
    drop i rs ≡ r ∷ drop (suc i) rs
drop_at [] i r below here = absurd (omega arith)
drop_at (q ∷ rs) zero r below here = ap (λ (p : Run). p ∷ rs) (sym here)
drop_at (q ∷ rs) (suc i) r below here = drop_at rs i r (omega arith) here

next_drop : (rs : List Run) (i : ℕ) (r : Run) → i < length rs → r ≡ get_or rs i r →
    drop i rs ≡ r ∷ drop (i + 1) rs
next_drop rs i r below here =
    drop_at rs i r below here ∙ ap (λ (n : ℕ). r ∷ drop n rs) (sym (add-one i))

-- a fraction that is kept and the zeros before it
pub counted_next : (rs : List Run) (behind i : ℕ) (r : Run) → i < length rs → r ≡ get_or rs i r →
    length (spread (drop i rs) behind)
    ≡ r.zeros + suc (length (spread (drop (i + 1) rs) behind))
counted_next rs behind i r below here =
    let zeros = replicate r.zeros no_fraction in
    let rest = spread (drop (i + 1) rs) behind in
    ap (λ (qs : List Run). length (spread qs behind)) (next_drop rs i r below here)
    ∙ length-append zeros (r.value ∷ rest)
    ∙ ap (λ (n : ℕ). n + suc (length rest)) (length-replicate r.zeros no_fraction)

-- the fractions before a place have been gone over, up to a fraction that is kept, and P holds of
-- them
pub record IsReached (P : List Frac → Type 0) (xs : List Frac) (rs : List Run) (i place : ℕ) :
    Type 0 where
  pub front : List Frac
  pub behind : ℕ
  pub place_is : place ≡ length front
  pub parts : xs ≡ front ++ spread (drop i rs) behind
  pub holds : P front

-- they are those before this kept one
pub record IsBefore (P : List Frac → Type 0) (xs : List Frac) (rs : List Run) (i index : ℕ)
    (value : Frac) : Type 0 where
  pub front : List Frac
  pub behind : ℕ
  pub index_is : index ≡ length front
  pub below : index < length xs
  pub parts : xs ≡ front ++ value ∷ spread (drop (i + 1) rs) behind
  pub holds : P front

pub reached_first : (P : List Frac → Type 0) (xs : List Frac) (rs : List Run) (behind : ℕ) →
    xs ≡ spread rs behind → P [] → IsReached P xs rs 0 0
reached_first P xs rs behind is begun =
    record { front = []; behind = behind; place_is = refl; parts = is; holds = begun }

-- P stays where a 0 follows
abbrev pub PassesZero : (List Frac → Type 0) → ℕ → Type 0
PassesZero P most =
    (front : List Frac) → length front < most → P front → P (front ++ no_fraction ∷ [])

over_zeros : (P : List Frac → Type 0) (most : ℕ) → PassesZero P most → (n : ℕ) (front : List Frac) →
    length front + n ≤ most → P front → P (front ++ replicate n no_fraction)
over_zeros P most pass zero front few h = subst P (sym (append-nil front)) h
over_zeros P most pass (suc n) front few h =
    let longer = length-append front (no_fraction ∷ []) in
    subst P (append_assoc front (no_fraction ∷ []) (replicate n no_fraction))
    (over_zeros P most pass n (front ++ no_fraction ∷ []) (omega (arith, longer))
    (pass front (omega arith) h))

some_behind : (front xs : List Frac) (x : Frac) → length front < length (front ++ x ∷ xs)
some_behind front xs x = let all = length-append front (x ∷ xs) in omega (arith, all)

pub before_kept : (P : List Frac → Type 0) (most : ℕ) (xs : List Frac) (rs : List Run)
    (i place : ℕ) (r : Run) → PassesZero P most → length xs ≤ most → i < length rs →
    r ≡ get_or rs i r → IsReached P xs rs i place → IsBefore P xs rs i (place + r.zeros) r.value
before_kept P most xs rs i place r pass few below here h =
    let zeros = replicate r.zeros no_fraction in
    let rest = spread (drop (i + 1) rs) h.behind in
    let parts : xs ≡ (h.front ++ zeros) ++ r.value ∷ rest =
    h.parts
    ∙ ap (λ (qs : List Run). h.front ++ spread qs h.behind) (next_drop rs i r below here)
    ∙ sym (append_assoc h.front zeros (r.value ∷ rest)) in
    let count : length (h.front ++ zeros) ≡ length h.front + r.zeros =
    length-append h.front zeros
    ∙ ap (λ (n : ℕ). length h.front + n) (length-replicate r.zeros no_fraction) in
    let some = some_behind (h.front ++ zeros) rest r.value in
    let all = ap (λ (ys : List Frac). length ys) parts in
    record {
      front = h.front ++ zeros;
      behind = h.behind;
      index_is = ap (λ (n : ℕ). n + r.zeros) h.place_is ∙ sym count;
      below = omega (arith, some, all, count, h.place_is);
      parts = parts;
      holds = over_zeros P most pass r.zeros h.front (omega (arith, some, all, count)) h.holds;
    }

pub after_kept : (P Q : List Frac → Type 0) (xs : List Frac) (rs : List Run) (i index : ℕ)
    (value : Frac) (h : IsBefore P xs rs i index value) → Q (h.front ++ value ∷ []) →
    IsReached Q xs rs (i + 1) (index + 1)
after_kept P Q xs rs i index value h next = record {
  front = h.front ++ value ∷ [];
  behind = h.behind;
  place_is = ap (λ (n : ℕ). n + 1) h.index_is ∙ sym (length-append h.front (value ∷ []));
  parts = h.parts ∙ sym (append_assoc h.front (value ∷ []) (spread (drop (i + 1) rs) h.behind));
  holds = next;
}

pub at_end : (P : List Frac → Type 0) (most : ℕ) (xs : List Frac) (rs : List Run) (i place : ℕ) →
    PassesZero P most → length xs ≤ most → length rs ≤ i → IsReached P xs rs i place → P xs
at_end P most xs rs i place pass few end h =
    let zeros = replicate h.behind no_fraction in
    let parts : xs ≡ h.front ++ zeros =
    h.parts ∙ ap (λ (qs : List Run). h.front ++ spread qs h.behind) (drop_all i rs end) in
    let count : length xs ≡ length h.front + h.behind =
    ap (λ (ys : List Frac). length ys) parts ∙ length-append h.front zeros
    ∙ ap (λ (n : ℕ). length h.front + n) (length-replicate h.behind no_fraction) in
    subst P (sym parts)
    (over_zeros P most pass h.behind h.front (omega (arith, count)) h.holds)
