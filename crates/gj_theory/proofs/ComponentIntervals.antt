-- Each component has an interval.
use Rattle.std.proofs.Common.{◌≡◌, ℕ, zero, suc, inl, inr, ◌+◌, ◌<◌, ◌==◌, Bool, true, false, cond, List, [], ◌∷◌, ◌++◌, count_by, refl, ap, ◌∙◌, arith}
use Rattle.std.proofs.lemmas.Bool.{eqb-true}
use Rattle.std.proofs.lemmas.List.Sums.{sum_by-append}
use Rattle.gj_shape.specs.Cover.{AreCoverLines, HasComponent, IsNextLine}
use Rattle.gj_shape.specs.Cover.HasComponent.{opened}
use Rattle.gj_shape.specs.declared.extremality.CoverLine.{CoverLine}

-- an element that passes the test, behind c others that pass
pub record HasPassing {X : Type 0} (test : X → Bool) (xs : List X) (c : ℕ) : Type 0 where
  pub before : List X
  pub x : X
  pub after : List X
  pub place : xs ≡ before ++ x ∷ after
  pub passes : test x ≡ true
  pub number : c ≡ count_by test before

pub count_first : {X : Type 0} (test : X → Bool) (x : X) (xs : List X) →
    count_by test (x ∷ xs) ≡ cond (test x) 1 0 + count_by test xs
count_first test x xs =
    let one : 0 + cond (test x) 1 0 ≡ cond (test x) 1 0 = omega arith in
    sum_by-append (λ y. cond (test y) 1 0) (x ∷ []) xs ∙ ap (λ n. n + count_by test xs) one

passing_behind : {X : Type 0} (test : X → Bool) (x : X) (xs : List X) (c d : ℕ) →
    cond (test x) 1 0 + d ≡ c →
    HasPassing test xs d → HasPassing test (x ∷ xs) c
passing_behind test x xs c d sum h = record {
  before = x ∷ h.before;
  x = h.x;
  after = h.after;
  place = ap (λ ys. x ∷ ys) h.place;
  passes = h.passes;
  number = let number = h.number in let first = count_first test x h.before in omega arith;
}

one_where : (b : Bool) → b ≡ true → cond {A = ℕ} b 1 0 ≡ 1
one_where b e = ap (λ c. cond {A = ℕ} c 1 0) e

none_where : (b : Bool) → b ≡ false → cond {A = ℕ} b 1 0 ≡ 0
none_where b e = ap (λ c. cond {A = ℕ} c 1 0) e

-- by whether the first element passes
passing_step : {X : Type 0} (test : X → Bool) (x : X) (xs : List X) →
    ((d : ℕ) → d < count_by test xs → HasPassing test xs d) → (b : Bool) → test x ≡ b → (c : ℕ) →
    c < cond (test x) 1 0 + count_by test xs → HasPassing test (x ∷ xs) c
passing_step test x xs later true e zero low =
    record { before = []; x = x; after = xs; place = refl; passes = e; number = refl }
passing_step test x xs later true e (suc c) low =
    let one = one_where (test x) e in
    passing_behind test x xs (suc c) c (omega arith) (later c (omega arith))
passing_step test x xs later false e c low =
    let none = none_where (test x) e in
    passing_behind test x xs c c (omega arith) (later c (omega arith))

passing_at : {X : Type 0} (test : X → Bool) (xs : List X) (c : ℕ) → c < count_by test xs →
    HasPassing test xs c
passing_at test [] c below = absurd (omega arith)
passing_at test (x ∷ xs) c below =
    let first = count_first test x xs in
    passing_step test x xs (passing_at test xs) (test x) refl c (omega arith)

-- the interval of a next line is below the order
pub next_within : (q : ℕ) (Tight : ℕ → ℕ → Type 0) (lines : List CoverLine) (l : CoverLine) →
    IsNextLine q Tight lines l → l.interval < q
next_within q Tight lines l (inl joining) = joining.interval.holds.1.first_within
next_within q Tight lines l (inr opening) = opening.interval.holds.within

pub interval_of_component : (q : ℕ) (Tight : ℕ → ℕ → Type 0) (lines : List CoverLine) (number : ℕ) →
    AreCoverLines q Tight lines → number < count_by (λ l. l.from == l.interval) lines →
    (i : ℕ) × (i < q) × HasComponent lines number i
interval_of_component q Tight lines number h below =
    let found = passing_at (λ l. l.from == l.interval) lines number below in (
      found.x.interval,
      next_within q Tight found.before found.x
          (h.in_turn found.before found.x found.after found.place),
      opened found.before found.x found.after found.place
          (eqb-true found.x.from found.x.interval found.passes) found.number,
    )
