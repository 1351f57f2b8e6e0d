-- The terms that are found for a claim.
use Rattle.std.proofs.Common.{◌≡◌, ◌⊎◌, ⊎_elim, inl, inr, ℕ, zero, suc, ◌+◌, ◌<◌, Option, Some, None, List, [], ◌∷◌, ◌++◌, length, get_or, take, pos, refl, sym, ap, subst, subst₂, ◌∙◌, arith}
use Rattle.std.proofs.lemmas.List.{get_or-take, length-take-le, length_push}
use Rattle.gj_frac.specs.declared.Frac.{Frac}
use Rattle.gj_fields.specs.Rational.{Rational, whole, rational, neg_ℚ, ◌≤ℚ◌}
use Rattle.gj_fields.proofs.RationalLaws.{mul_zero_q}
use Rattle.gj_fields.proofs.RationalOrder.{at_most_both, at_most_turned}
use Rattle.gj_fields.proofs.RationalRing.{by_ring_q, ring_q}
use Rattle.gj_problem.proofs.Prefixes.{default_unused}
use Rattle.gj_problem.specs.declared.problem.Column.{Column}
use Rattle.gj_problem.specs.Rows.{dot}
use Rattle.gj_problem.specs.Moves.{IsGridValue, IsBelowOnGrid, IsGridCoefficient}
use Rattle.gj_derivation.specs.Derivations.{unit}
use Rattle.gj_derivation.specs.Checks.{claimed_at, IsUnmovable, IsFirstUnmovable}
use Rattle.gj_derivation.specs.Drafts.{IsFoundFor, AreFoundFor, IsFirstNotFound}
use Rattle.gj_derivation.proofs.CheckedMoves.{at_most_itself}
use Rattle.gj_derivation.proofs.OneBase.{first_is, later_is}
use Rattle.gj_problem.proofs.OnePieces.{same_most}

-- ---- on the grid

-- what is on the grid stays
stays : (n : ℕ) (x : Rational) → IsGridValue n x → IsBelowOnGrid n x x
stays n x on = record { on_grid = on; at_most = at_most_itself x; greatest = λ z z_on below. below }

zero_on_grid : (n : ℕ) → IsGridValue n (whole (pos 0))
zero_on_grid n = (pos 0, mul_zero_q (whole (pos n)))

negative_zero : whole (pos 0) ≡ neg_ℚ (whole (pos 0))
negative_zero = by_ring_q [] (search ring_q depth 40) refl

grid_of_zero : (n : ℕ) (lower upper : Option Frac) → IsGridCoefficient n lower upper (whole (pos 0))
    (whole (pos 0))
grid_of_zero n (Some l) upper =
    subst (λ (z : Rational). IsBelowOnGrid n z z) negative_zero
    (stays n (whole (pos 0)) (zero_on_grid n))
grid_of_zero n None (Some u) = stays n (whole (pos 0)) (zero_on_grid n)
grid_of_zero n None None = (zero_on_grid n, refl)

-- for 0 is found 0
pub found_zero : (grid : Option ℕ) (c : Column) (x y : Rational) → x ≡ whole (pos 0) →
    y ≡ whole (pos 0) → IsFoundFor grid c x y
found_zero None c x y x_is y_is = y_is ∙ sym x_is
found_zero (Some n) c x y x_is y_is =
    subst₂ (λ (a b : Rational). IsGridCoefficient n c.lower c.upper a b) (sym x_is) (sym y_is)
    (grid_of_zero n c.lower c.upper)

double_negative : (x : Rational) → x ≡ neg_ℚ (neg_ℚ x)
double_negative x = by_ring_q (x ∷ []) (search ring_q depth 40) refl

pub found_above : (n : ℕ) (c : Column) (l x m z y : Frac) → c.lower ≡ Some l →
    rational m ≡ neg_ℚ (rational x) →
    IsBelowOnGrid n (rational m) (rational z) → rational y ≡ neg_ℚ (rational z) →
    IsFoundFor (Some n) c (rational x) (rational y)
found_above n c l x m z y is m_is below y_is =
    subst (λ (o : Option Frac). IsGridCoefficient n o c.upper (rational x) (rational y)) (sym is)
    (subst₂ (IsBelowOnGrid n) m_is (double_negative (rational z) ∙ ap neg_ℚ (sym y_is)) below)

pub found_below : (n : ℕ) (c : Column) (u x y : Frac) → c.lower ≡ None → c.upper ≡ Some u →
    IsBelowOnGrid n (rational x) (rational y) →
    IsFoundFor (Some n) c (rational x) (rational y)
found_below n c u x y no_lower is below =
    subst₂ (λ (o v : Option Frac). IsGridCoefficient n o v (rational x) (rational y)) (sym no_lower)
    (sym is) below

pub found_there : (n : ℕ) (c : Column) (x y : Frac) → c.lower ≡ None → c.upper ≡ None →
    IsBelowOnGrid n (rational x) (rational y) → y ≡ x →
    IsFoundFor (Some n) c (rational x) (rational x)
found_there n c x y no_lower no_upper below same =
    subst₂ (λ (o v : Option Frac). IsGridCoefficient n o v (rational x) (rational x)) (sym no_lower)
    (sym no_upper)
    (subst (λ (z : Frac). IsGridValue n (rational z)) same below.on_grid, refl)

pub not_found : (n : ℕ) (c : Column) (x y : Frac) → c.lower ≡ None → c.upper ≡ None →
    IsBelowOnGrid n (rational x) (rational y) →
    (rational y ≡ rational x → ⊥) → (z : Rational) → IsFoundFor (Some n) c (rational x) z → ⊥
not_found n c x y no_lower no_upper below other z h =
    let at : IsGridCoefficient n None None (rational x) z =
    subst₂ (λ (o v : Option Frac). IsGridCoefficient n o v (rational x) z) no_lower no_upper h in
    other (at_most_both (rational y) (rational x) below.at_most
    (below.greatest (rational x) at.0 (at_most_itself (rational x))))

-- ---- one more column

dot_before : (cs : List Frac) (y : Frac) (i : ℕ) → i < length cs →
    dot (cs ++ y ∷ []) (unit i) ≡ dot cs (unit i)
dot_before [] y i below = absurd (omega arith)
dot_before (c ∷ cs) y zero below = first_is c (cs ++ y ∷ []) ∙ sym (first_is c cs)
dot_before (c ∷ cs) y (suc i) below = later_is c (cs ++ y ∷ []) i ∙ dot_before cs y i (omega arith)
    ∙ sym (later_is c cs i)

dot_last : (cs : List Frac) (y : Frac) (i : ℕ) → i ≡ length cs →
    dot (cs ++ y ∷ []) (unit i) ≡ rational y
dot_last [] y zero is = first_is y []
dot_last [] y (suc i) is = absurd (omega arith)
dot_last (c ∷ cs) y zero is = absurd (omega arith)
dot_last (c ∷ cs) y (suc i) is = later_is c (cs ++ y ∷ []) i ∙ dot_last cs y i (omega arith)

-- the terms of the first columns
pub record AreFoundUpTo (grid : Option ℕ) (columns : List Column) (xs : ℕ → Rational) (i : ℕ)
    (ys : List Frac) : Type 0 where
  pub count : length ys ≡ i
  pub found : (j : ℕ) (c : Column) → j < i → c ≡ get_or columns j c →
      IsFoundFor grid c (xs j) (claimed_at ys j)

pub none_found : (grid : Option ℕ) (columns : List Column) (xs : ℕ → Rational) (ys : List Frac) →
    ys ≡ [] → AreFoundUpTo grid columns xs 0 ys
none_found grid columns xs ys none = record {
  count = ap (λ zs. length zs) none;
  found = λ j c below here. absurd (omega arith);
}

pub last_or_before : (i j : ℕ) → j < i + 1 → (j < i) ⊎ (j ≡ i)
last_or_before zero zero below = inr refl
last_or_before zero (suc j) below = absurd (omega arith)
last_or_before (suc i) zero below = inl (omega arith)
last_or_before (suc i) (suc j) below =
    ⊎_elim (λ (h : j < i). inl (omega arith)) (λ (h : j ≡ i). inr (ap suc h))
    (last_or_before i j (omega arith))

pub one_found : (grid : Option ℕ) (columns : List Column) (xs : ℕ → Rational) (i : ℕ)
    (ys new : List Frac) (c : Column) (y : Frac) →
    i < length columns → c ≡ get_or columns i c → new ≡ ys ++ y ∷ [] →
    IsFoundFor grid c (xs i) (rational y) → AreFoundUpTo grid columns xs i ys →
    AreFoundUpTo grid columns xs (i + 1) new
one_found grid columns xs i ys new c y below here new_is is h =
    let count = h.count in
    subst (AreFoundUpTo grid columns xs (i + 1)) (sym new_is) (record {
      count = length_push ys y ∙ ap (λ (n : ℕ). n + 1) h.count;
      found = λ j d j_below d_here.
          ⊎_elim
          (λ (before : j < i).
          subst (IsFoundFor grid d (xs j)) (sym (dot_before ys y j (omega arith)))
          (h.found j d before d_here))
          (λ (last : j ≡ i).
          let same : c ≡ d = here ∙ default_unused columns i c d below
          ∙ sym (d_here ∙ ap (λ (k : ℕ). get_or columns k d) last) in
          subst (IsFoundFor grid d (xs j)) (sym (dot_last ys y j (last ∙ sym count)))
          (subst₂ (λ (k : ℕ) (e : Column). IsFoundFor grid e (xs k) (rational y)) (sym last) same
          is))
          (last_or_before i j j_below);
    })

pub found_in_front : (grid : Option ℕ) (columns : List Column) (xs : ℕ → Rational) (i : ℕ)
    (ys : List Frac) → i < length columns → AreFoundUpTo grid columns xs i ys →
    AreFoundFor grid (take i columns) xs (claimed_at ys)
found_in_front grid columns xs i ys below h j d j_below d_here =
    let fewer : length (take i columns) ≡ i = length-take-le i columns (omega arith) in
    let before : j < i = omega arith in
    h.found j d before (d_here ∙ get_or-take i columns j d before)

pub first_not_found : (grid : Option ℕ) (columns : List Column) (xs : ℕ → Rational) (i : ℕ)
    (ys : List Frac) (c : Column) → i < length columns →
    c ≡ get_or columns i c → ((y : Rational) → IsFoundFor grid c (xs i) y → ⊥) →
    AreFoundUpTo grid columns xs i ys →
    IsFirstNotFound grid columns xs i
first_not_found grid columns xs i ys c below here none h = record {
  below = below;
  column = c;
  is = here;
  ys = claimed_at ys;
  found_before = found_in_front grid columns xs i ys below h;
  none = none;
}

-- ---- they can be moved to

not_stuck_by : (n : ℕ) (lower upper : Option Frac) (x y : Rational) →
    IsGridCoefficient n lower upper x y →
    ((y ≤ℚ x → ⊥) × (lower ≡ None)) ⊎ ((x ≤ℚ y → ⊥) × (upper ≡ None)) → ⊥
not_stuck_by n (Some l) upper x y h stuck =
    ⊎_elim (λ (k : (y ≤ℚ x → ⊥) × (Some l ≡ None)). let e = k.1 in absurd (cc))
    (λ (k : (x ≤ℚ y → ⊥) × (upper ≡ None)). k.0 (at_most_turned x y h.at_most)) stuck
not_stuck_by n None (Some u) x y h stuck =
    ⊎_elim (λ (k : (y ≤ℚ x → ⊥) × (None ≡ None)). k.0 h.at_most)
    (λ (k : (x ≤ℚ y → ⊥) × (Some u ≡ None)). let e = k.1 in absurd (cc)) stuck
not_stuck_by n None None x y h stuck =
    ⊎_elim (λ (k : (y ≤ℚ x → ⊥) × (None ≡ None)). k.0 (same_most y x h.1))
    (λ (k : (x ≤ℚ y → ⊥) × (None ≡ None)). k.0 (same_most x y (sym h.1))) stuck

not_stuck : (grid : Option ℕ) (c : Column) (x y : Rational) → IsFoundFor grid c x y →
    IsUnmovable c x y → ⊥
not_stuck None c x y h stuck =
    ⊎_elim (λ (k : (y ≤ℚ x → ⊥) × (c.lower ≡ None)). k.0 (same_most y x h))
    (λ (k : (x ≤ℚ y → ⊥) × (c.upper ≡ None)). k.0 (same_most x y (sym h))) stuck
not_stuck (Some n) c x y h stuck = not_stuck_by n c.lower c.upper x y h stuck

pub found_moves : (grid : Option ℕ) (columns : List Column) (xs ys : ℕ → Rational) (j : ℕ) →
    AreFoundFor grid columns xs ys →
    IsFirstUnmovable columns xs ys j → ⊥
found_moves grid columns xs ys j found stuck =
    not_stuck grid stuck.column (xs j) (ys j) (found j stuck.column stuck.below stuck.is)
    stuck.unmovable
