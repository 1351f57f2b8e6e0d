-- Lists of cover lines, one more line, and the intervals that have one.
use Rattle.std.proofs.Common.{◌≡◌, ◌≢◌, ℕ, ◌⊎◌, ◌<◌, ◌≤◌, List, [], ◌∷◌, ◌++◌, length, Option, Some, None, refl, sym, ap, ◌∙◌, inl, inr, append_assoc, arith}
use Rattle.std.proofs.Math.ListN.{set}
use Rattle.std.proofs.Common.{get_or-set_same, get_or-set_other}
use Rattle.std.proofs.lemmas.Bool.Decides.{eqb_tells}
use Rattle.std.proofs.lemmas.Bool.{cases_lt}
use Rattle.std.proofs.lemmas.List.{get_or_past}
use Rattle.gj_shape.specs.Cover.{HasCoverLine, HasComponent, opened, joined, components_in}
use Rattle.gj_shape.specs.declared.extremality.CoverLine.{CoverLine}
use Rattle.gj_theory.proofs.LineComponents.{line_of_component}
use Rattle.gj_cover.specs.CoverOf.{number_at}
use Rattle.gj_cover.specs.Progress.{AreNumbered}
use Rattle.gj_cover.proofs.Parts.{any_none, any_cases, any_here, any_there}

-- ---- where a line stands

pub no_end : {X : Type 0} (before : List X) (l : X) (after : List X) → [] ≡ before ++ l ∷ after → ⊥
no_end [] l after e = cc
no_end (b ∷ before) l after e = cc

-- a line of a list with one more is that one, or one of the list
pub split_end : {X : Type 0} (xs : List X) (x : X) (before : List X) (l : X) (after : List X) →
    xs ++ x ∷ [] ≡ before ++ l ∷ after →
    ((before ≡ xs) × (l ≡ x)) ⊎ ((rest : List X) × (xs ≡ before ++ l ∷ rest))
split_end [] x [] l after e = let same : l ≡ x = cc in inl (refl, same)
split_end [] x (b ∷ before) l after e =
    let none : [] ≡ before ++ l ∷ after = cc in absurd (no_end before l after none)
split_end (y ∷ xs) x [] l after e = let same : y ∷ xs ≡ l ∷ xs = cc in inr (xs, same)
split_end (y ∷ xs) x (b ∷ before) l after e =
    let heads : y ≡ b = cc in
    let tails : xs ++ x ∷ [] ≡ before ++ l ∷ after = cc in
    elim (split_end xs x before l after tails) [
      | inl (same, is) ↦ let whole : b ∷ before ≡ y ∷ xs = cc in inl (whole, is)
      | inr (rest, is) ↦ let whole : y ∷ xs ≡ b ∷ (before ++ l ∷ rest) = cc in inr (rest, whole)
    ]

-- the list behind some lines, with one more
pub one_more : {X : Type 0} (xs before : List X) (l : X) (after : List X) (x : X) →
    xs ≡ before ++ l ∷ after →
    xs ++ x ∷ [] ≡ before ++ l ∷ (after ++ x ∷ [])
one_more xs before l after x e = ap (λ ys. ys ++ x ∷ []) e
    ∙ append_assoc before (l ∷ after) (x ∷ [])

-- ---- intervals with a line

pub line_here : (before : List CoverLine) (l : CoverLine) (after : List CoverLine) →
    HasCoverLine (before ++ l ∷ after) l.interval
line_here [] l after = any_here (λ m. m.interval ≡ l.interval) l after refl
line_here (b ∷ before) l after =
    any_there (λ m. m.interval ≡ l.interval) b (before ++ l ∷ after) (line_here before l after)

pub line_place : (lines : List CoverLine) (i : ℕ) → HasCoverLine lines i →
    (before : List CoverLine) × (l : CoverLine) × (after : List CoverLine)
    × (lines ≡ before ++ l ∷ after)
    × (l.interval ≡ i)
line_place [] i h = absurd (any_none (λ m. m.interval ≡ i) h)
line_place (l ∷ lines) i h = elim (any_cases (λ m. m.interval ≡ i) l lines h) [
  | inl e ↦ ([], l, lines, refl, e)
  | inr k ↦
      let rest = line_place lines i k in
      (l ∷ rest.0, rest.1, rest.2, ap (λ ys. l ∷ ys) rest.3, rest.4)
]

-- ---- numbers of components

pub component_stays : (lines : List CoverLine) (l : CoverLine) (n i : ℕ) → HasComponent lines n i →
    HasComponent (lines ++ l ∷ []) n i
component_stays lines l n i (opened before m after e f g) =
    opened before m (after ++ l ∷ []) (one_more lines before m after l e) f g
component_stays lines l n i (joined before m after e f h) =
    joined before m (after ++ l ∷ []) (one_more lines before m after l e) f
    (component_stays lines l n m.from h)

-- a number or none
pub number_cases : (o : Option ℕ) → (o ≡ None) ⊎ ((n : ℕ) × (o ≡ Some n))
number_cases None = inl refl
number_cases (Some n) = inr (n, refl)

pub line_number : (lines : List CoverLine) (component : List (Option ℕ)) (i : ℕ) →
    AreNumbered lines component →
    HasCoverLine lines i → (n : ℕ) × (number_at component i ≡ Some n)
line_number lines component i h line =
    let at = line_place lines i line in
    let same = ap (number_at component) (sym at.4) in
    elim (eqb_tells at.1.from at.1.interval) [
      | inl (t, e) ↦ (components_in at.0, same ∙ h.opened at.0 at.1 at.2 at.3 e)
      | inr (t, e) ↦ let from = h.joined at.0 at.1 at.2 at.3 e in (from.0, same ∙ from.1)
    ]

pub number_line : (lines : List CoverLine) (component : List (Option ℕ)) (i n : ℕ) →
    AreNumbered lines component →
    number_at component i ≡ Some n → HasCoverLine lines i
number_line lines component i n h e = line_of_component lines n i (h.shown i n e)

pub no_number : (lines : List CoverLine) (component : List (Option ℕ)) (i : ℕ) →
    AreNumbered lines component →
    (HasCoverLine lines i → ⊥) → number_at component i ≡ None
no_number lines component i h none = elim (number_cases (number_at component i)) [
  | inl e ↦ e
  | inr (n, e) ↦ absurd (none (number_line lines component i n h e))
]

pub no_line : (lines : List CoverLine) (component : List (Option ℕ)) (i : ℕ) →
    AreNumbered lines component →
    number_at component i ≡ None → HasCoverLine lines i → ⊥
no_line lines component i h e line = let at = line_number lines component i h line in
    let is = at.1 in cc (e, is)

-- the component of the lines is the number
pub component_number : (lines : List CoverLine) (component : List (Option ℕ)) (n i : ℕ) →
    AreNumbered lines component →
    HasComponent lines n i → number_at component i ≡ Some n
component_number lines component n i h (opened before m after e f g) =
    h.opened before m after e f ∙ ap Some (sym g)
component_number lines component n i h (joined before m after e f k) =
    let both = h.joined before m after e f in
    let from = component_number lines component n m.from h k in
    both.1 ∙ sym both.2 ∙ from

-- ---- one more number

pub number_same : (c : List (Option ℕ)) (x m : ℕ) → x < length c →
    number_at (set c x (Some m)) x ≡ Some m
number_same c x m within = get_or-set_same c x (Some m) None within

pub number_other : (c : List (Option ℕ)) (x m i : ℕ) → i ≢ x →
    number_at (set c x (Some m)) i ≡ number_at c i
number_other c x m i other = get_or-set_other c x i (Some m) None other

-- a number of the list with one more is that one, or one of the list
pub number_from : (c : List (Option ℕ)) (x m i n : ℕ) → x < length c →
    number_at (set c x (Some m)) i ≡ Some n →
    ((i ≡ x) × (n ≡ m)) ⊎ (number_at c i ≡ Some n)
number_from c x m i n within e = elim (eqb_tells i x) [
  | inl (t, same) ↦
      let at = number_same c x m within in
      let here : Some n ≡ Some m = sym e ∙ ap (number_at (set c x (Some m))) same ∙ at in
      let is : n ≡ m = cc in
      inl (same, is)
  | inr (t, other) ↦ inr (sym (number_other c x m i other) ∙ e)
]

pub none_from : (c : List (Option ℕ)) (x m i : ℕ) → x < length c →
    number_at (set c x (Some m)) i ≡ None →
    (i ≢ x) × (number_at c i ≡ None)
none_from c x m i within e = elim (eqb_tells i x) [
  | inl (t, same) ↦
      let at = number_same c x m within in
      let here : Some m ≡ None = sym at ∙ ap (number_at (set c x (Some m))) (sym same) ∙ e in
      absurd (cc)
  | inr (t, other) ↦ (other, sym (number_other c x m i other) ∙ e)
]

-- a number stays if another gets one
pub number_stays : (c : List (Option ℕ)) (x m i n : ℕ) → number_at c x ≡ None →
    number_at c i ≡ Some n →
    number_at (set c x (Some m)) i ≡ Some n
number_stays c x m i n free e =
    let other : i ≢ x = λ same. let here : Some n ≡ None = sym e ∙ ap (number_at c) same ∙ free in
    absurd (cc) in
    number_other c x m i other ∙ e

-- an interval with a number is one of the complex
pub number_within : (q : ℕ) (c : List (Option ℕ)) (i n : ℕ) → length c ≡ q →
    number_at c i ≡ Some n → i < q
number_within q c i n len e = elim (cases_lt i q) [
  | inl below ↦ below
  | inr past ↦ let none = get_or_past c i None (let le : length c ≤ i = omega arith in le) in
      absurd (cc (e, none))
]
