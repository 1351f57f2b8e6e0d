-- Inequalities that hold at all feasible points: multiples of constraints, bounds, and what is
-- rounded.
use Rattle.std.proofs.Common.{◌≡◌, ℕ, zero, suc, ◌<◌, ⊎_elim, List, [], ◌∷◌, length, get_or, map, All, Some, None, Option, IfSome, ℤ, pos, negsuc, neg_ℤ, ◌+ℤ◌, ◌*ℤ◌, refl, sym, ap, ap₂, subst, ◌∙◌, arith}
use Rattle.std.specs.List.{AllZip}
use Rattle.std.proofs.lemmas.Int.{ints}
use Rattle.std.proofs.lemmas.List.Elements.{All-head, All-tail, All-get_or}
use Rattle.gj_frac.specs.declared.Frac.{Frac}
use Rattle.gj_frac.specs.Fraction.{IsWhole}
use Rattle.gj_fields.specs.Rational.{Rational, whole, rational, ◌+ℚ◌, ◌*ℚ◌, neg_ℚ, ◌-ℚ◌, ◌≤ℚ◌, IsWholeNumber}
use Rattle.gj_fields.proofs.RationalLaws.{equal_q, whole_add, whole_mul, whole_neg}
use Rattle.gj_fields.proofs.RationalOrder.{IsNonnegativeQ, nonnegative_whole, nonnegative_add, nonnegative_mul, difference_nonnegative, at_most_from_difference}
use Rattle.gj_fields.proofs.RationalRing.{by_ring_q, ring_q}
use Rattle.gj_problem.specs.declared.problem.Column.{Column}
use Rattle.gj_problem.specs.declared.problem.Constraint.{Constraint}
use Rattle.gj_problem.specs.declared.problem.Entry.{Entry}
use Rattle.gj_problem.specs.declared.problem.Inequality.{Inequality}
use Rattle.gj_problem.specs.declared.problem.Problem.{Problem}
use Rattle.gj_problem.specs.declared.problem.Sense.{Sense}
use Rattle.gj_problem.specs.declared.problem.Sense.TheVariants.{AtMost, AtLeast, Equal}
use Rattle.gj_problem.specs.declared.pieces.Piece.{Piece}
use Rattle.gj_problem.specs.Aggregates.{combined_at, IsCutOver, IsTurnedBack}
use Rattle.gj_problem.specs.Problems.{value_at, sum_at, surplus_at, Meets, MeetsColumn, MeetsConstraint, IsFeasible, Holds, IsColumn, IsWholeColumn, IsConstraint}
use Rattle.gj_problem.specs.Rows.{HasWholeSurplus, IsSignFor, IsConstraintTimes, IsWholeInequality}
use Rattle.gj_problem.specs.Moves.{IsUnmoved, IsMovedUp, IsMovedDown, IsMovedBy, IsGiven}
use Rattle.gj_problem.specs.RoundedCuts.{lower_of, upper_of, AreMovedAs, IsChanged, total_of, IsRounded}

-- ---- surplus

-- what has a surplus that is at least 0 holds
pub from_surplus : (p : Problem) (q : Inequality) →
    ((point : List Rational) → IsFeasible p point → IsNonnegativeQ (surplus_at point q)) →
    Holds p q
from_surplus p q h point feasible =
    at_most_from_difference (rational q.right) (sum_at point q.entries) (h point feasible)

-- ---- constraints

pub multiple_low : (sense : Sense) (m : ℤ) (s r : Rational) → IsSignFor sense m → Meets sense s r →
    IsNonnegativeQ (whole m *ℚ (s -ℚ r))
multiple_low AtLeast m s r sign meets =
    nonnegative_mul (whole m) (s -ℚ r) (nonnegative_whole m sign) (difference_nonnegative r s meets)
multiple_low AtMost m s r sign meets =
    subst IsNonnegativeQ (ap (λ w. w *ℚ (r -ℚ s)) (whole_neg m) ∙ turned (whole m) s r)
    (nonnegative_mul (whole (neg_ℤ m)) (r -ℚ s) (nonnegative_whole (neg_ℤ m) (omega (arith, ints)))
    (difference_nonnegative s r meets))
  where
    turned : (m s r : Rational) → neg_ℚ m *ℚ (r -ℚ s) ≡ m *ℚ (s -ℚ r)
    turned m s r = by_ring_q (m ∷ s ∷ r ∷ []) (search ring_q depth 40) refl
multiple_low Equal m s r sign meets =
    subst IsNonnegativeQ (sym (none (whole m) r) ∙ ap (λ w. whole m *ℚ (w -ℚ r)) (sym meets))
    (nonnegative_whole (pos 0) (omega (arith, ints)))
  where
    none : (m r : Rational) → m *ℚ (r -ℚ r) ≡ whole (pos 0)
    none m r = by_ring_q (m ∷ r ∷ []) (search ring_q depth 40) refl

pub constraint_at : (p : Problem) (point : List Rational) (i : ℕ) (c : Constraint) →
    IsConstraint p i c → IsFeasible p point →
    MeetsConstraint point c
constraint_at p point i c is feasible =
    subst (MeetsConstraint point) is.is
    (All-get_or (MeetsConstraint point) p.constraints i c is.below feasible.constraints)

pub multiple_holds : (p : Problem) (i : ℕ) (c : Constraint) (m : ℤ) (q : Inequality) →
    IsConstraint p i c → IsSignFor c.sense m →
    IsConstraintTimes c m q → Holds p q
multiple_holds p i c m q is sign multiple =
    from_surplus p q
    (λ (point : List Rational) (feasible : IsFeasible p point).
    subst IsNonnegativeQ (sym (multiple point))
    (multiple_low c.sense m (sum_at point c.entries) (rational c.right) sign
    (constraint_at p point i c is feasible)))

-- ---- columns

meets_at : (columns : List Column) (point : List Rational) (j : ℕ) (d : Column) →
    AllZip MeetsColumn columns point → j < length columns →
    MeetsColumn (get_or columns j d) (get_or point j (whole (pos 0)))
meets_at [] point j d h below = absurd (omega arith)
meets_at (c ∷ columns) [] j d h below = absurd h
meets_at (c ∷ columns) (x ∷ point) zero d h below = h.0
meets_at (c ∷ columns) (x ∷ point) (suc j) d h below = meets_at columns point j d h.1 (omega arith)

pub column_at : (p : Problem) (point : List Rational) (j : ℕ) (c : Column) → IsColumn p j c →
    IsFeasible p point →
    MeetsColumn c (value_at point j)
column_at p point j c is feasible =
    subst (λ (d : Column). MeetsColumn d (value_at point j)) is.is
    (meets_at p.columns point j c feasible.columns is.below)

pub if_some : {A : Type 0} (P : A → Type 0) (o : Option A) (x : A) → o ≡ Some x → IfSome o P → P x
if_some P o x e h = subst (λ o. IfSome o P) e h

pub lower_at : (p : Problem) (point : List Rational) (j : ℕ) (c : Column) (l : Frac) →
    IsColumn p j c → c.lower ≡ Some l → IsFeasible p point →
    IsNonnegativeQ (value_at point j -ℚ rational l)
lower_at p point j c l is e feasible =
    difference_nonnegative (rational l) (value_at point j)
    (if_some (λ l. rational l ≤ℚ value_at point j) c.lower l e
    (column_at p point j c is feasible).lower)

pub upper_at : (p : Problem) (point : List Rational) (j : ℕ) (c : Column) (u : Frac) →
    IsColumn p j c → c.upper ≡ Some u → IsFeasible p point →
    IsNonnegativeQ (rational u -ℚ value_at point j)
upper_at p point j c u is e feasible =
    difference_nonnegative (value_at point j) (rational u)
    (if_some (λ u. value_at point j ≤ℚ rational u) c.upper u e
    (column_at p point j c is feasible).upper)

pub lower_holds : (p : Problem) (j : ℕ) (c : Column) (l : Frac) (q : Inequality) → IsColumn p j c →
    c.lower ≡ Some l →
    ((point : List Rational) → surplus_at point q ≡ value_at point j -ℚ rational l) → Holds p q
lower_holds p j c l q is e surplus =
    from_surplus p q
    (λ (point : List Rational) (feasible : IsFeasible p point). subst IsNonnegativeQ
    (sym (surplus point)) (lower_at p point j c l is e feasible))

pub upper_holds : (p : Problem) (j : ℕ) (c : Column) (u : Frac) (q : Inequality) → IsColumn p j c →
    c.upper ≡ Some u →
    ((point : List Rational) → surplus_at point q ≡ rational u -ℚ value_at point j) → Holds p q
upper_holds p j c u q is e surplus =
    from_surplus p q
    (λ (point : List Rational) (feasible : IsFeasible p point). subst IsNonnegativeQ
    (sym (surplus point)) (upper_at p point j c u is e feasible))

-- ---- whole inequalities

pub whole_frac : (x : Frac) → IsWhole x → IsWholeNumber (rational x)
unfolding whole
whole_frac x h = (x.num, equal_q (rational x) (whole x.num) (ap (λ z. x.num *ℤ z) (sym h)))

pub whole_sum : (x y : Rational) → IsWholeNumber x → IsWholeNumber y → IsWholeNumber (x +ℚ y)
whole_sum x y h k = (h.0 +ℤ k.0, ap₂ (λ a b. a +ℚ b) h.1 k.1 ∙ sym (whole_add h.0 k.0))

pub whole_product : (x y : Rational) → IsWholeNumber x → IsWholeNumber y → IsWholeNumber (x *ℚ y)
whole_product x y h k = (h.0 *ℤ k.0, ap₂ (λ a b. a *ℚ b) h.1 k.1 ∙ sym (whole_mul h.0 k.0))

pub whole_sum_at : (p : Problem) (point : List Rational) (entries : List Entry) →
    IsFeasible p point →
    All (λ e. IsWhole e.value × IsWholeColumn p e.column) entries →
    IsWholeNumber (sum_at point entries)
whole_sum_at p point [] feasible h = (pos 0, refl)
whole_sum_at p point (e ∷ entries) feasible h =
    let (is, (c, at, flag)) =
    All-head (λ e. IsWhole e.value × IsWholeColumn p e.column) e entries h in
    whole_sum (rational e.value *ℚ value_at point e.column) (sum_at point entries)
    (whole_product (rational e.value) (value_at point e.column) (whole_frac e.value is)
    ((column_at p point e.column c at feasible).is_whole flag))
    (whole_sum_at p point entries feasible
    (All-tail (λ e. IsWhole e.value × IsWholeColumn p e.column) e entries h))

pub whole_surplus : (p : Problem) (q : Inequality) → IsWholeInequality p q → HasWholeSurplus p q
whole_surplus p q h point feasible =
    whole_sum (sum_at point q.entries) (neg_ℚ (rational q.right))
    (whole_sum_at p point q.entries feasible h.entries)
    (whole_product (whole (negsuc 0)) (rational q.right) (negsuc 0, refl)
    (whole_frac q.right h.right))

-- ---- rounding

raised : (d x b : Rational) → d *ℚ (x -ℚ b) ≡ d *ℚ x -ℚ d *ℚ b
raised d x b = by_ring_q (d ∷ x ∷ b ∷ []) (search ring_q depth 40) refl

lowered : (e f x b : Rational) → (e -ℚ f) *ℚ (b -ℚ x) ≡ (f -ℚ e) *ℚ x -ℚ (f -ℚ e) *ℚ b
lowered e f x b = by_ring_q (e ∷ f ∷ x ∷ b ∷ []) (search ring_q depth 40) refl

kept_change : (e x : Rational) → whole (pos 0) ≡ (e -ℚ e) *ℚ x -ℚ whole (pos 0)
kept_change e x = by_ring_q (e ∷ x ∷ []) (search ring_q depth 40) refl

-- a coefficient that is moved by bounds of v adds at least its shift
pub move_low : (IsLower IsUpper : Frac → Type 0) (x y shift v : Rational) →
    ((b : Frac) → IsLower b → IsNonnegativeQ (v -ℚ rational b)) →
    ((b : Frac) → IsUpper b → IsNonnegativeQ (rational b -ℚ v)) →
    IsMovedBy IsLower IsUpper x y shift →
    IsNonnegativeQ ((y -ℚ x) *ℚ v -ℚ shift)
move_low IsLower IsUpper x y shift v low high =
    ⊎_elim
    (λ (h : IsUnmoved x y shift).
    subst IsNonnegativeQ
    (kept_change x v ∙ ap₂ (λ a b. (a -ℚ x) *ℚ v -ℚ b) (sym h.same) (sym h.shift_is))
    (nonnegative_whole (pos 0) (omega (arith, ints))))
    (⊎_elim
    (λ (h : IsMovedUp IsLower x y shift).
    subst IsNonnegativeQ (raised (y -ℚ x) v (rational h.bound)
    ∙ ap (λ w. (y -ℚ x) *ℚ v -ℚ w) (sym h.shift_is))
    (nonnegative_mul (y -ℚ x) (v -ℚ rational h.bound) (difference_nonnegative x y h.greater)
    (low h.bound h.bound_is)))
    (λ (h : IsMovedDown IsUpper x y shift).
    subst IsNonnegativeQ (lowered x y v (rational h.bound)
    ∙ ap (λ w. (y -ℚ x) *ℚ v -ℚ w) (sym h.shift_is))
    (nonnegative_mul (x -ℚ y) (rational h.bound -ℚ v) (difference_nonnegative y x h.lesser)
    (high h.bound h.bound_is))))

-- the column at an index with this bound, which f gives
abbrev HasBound : (Column → Option Frac) → List Column → ℕ → Frac → Type 0
HasBound f cs j b = (c : Column) × (j < length cs) × (get_or cs j c ≡ c) × (f c ≡ Some b)

bound_at : (f : Column → Option Frac) (cs : List Column) (j : ℕ) (b : Frac) →
    get_or (map f cs) j None ≡ Some b → HasBound f cs j b
bound_at f [] zero b e = absurd (cc)
bound_at f [] (suc j) b e = absurd (cc)
bound_at f (c ∷ cs) zero b e = (c, omega arith, refl, e)
bound_at f (c ∷ cs) (suc j) b e = let (d, below, is, f_is) = bound_at f cs j b e in
    (d, omega arith, is, f_is)

change_low : (p : Problem) (point : List Rational) (j : ℕ) (x y shift : Rational) →
    IsFeasible p point →
    IsChanged (lower_of p j) (upper_of p j) x y shift →
    IsNonnegativeQ ((y -ℚ x) *ℚ value_at point j -ℚ shift)
change_low p point j x y shift feasible =
    move_low (IsGiven (lower_of p j)) (IsGiven (upper_of p j)) x y shift (value_at point j)
    (λ b given.
    let (c, below, is, bound_is) = bound_at (λ (d : Column). d.lower) p.columns j b given in
    lower_at p point j c b (record { below = below; is = is }) bound_is feasible)
    (λ b given.
    let (c, below, is, bound_is) = bound_at (λ (d : Column). d.upper) p.columns j b given in
    upper_at p point j c b (record { below = below; is = is }) bound_is feasible)

pub no_change : whole (pos 0) ≡ (whole (pos 0) -ℚ whole (pos 0)) -ℚ whole (pos 0)
no_change = by_ring_q [] (search ring_q depth 40) refl

pub change_step : (e f x s r q t : Rational) → ((f -ℚ e) *ℚ x -ℚ s) +ℚ ((q -ℚ r) -ℚ t)
    ≡ ((f *ℚ x +ℚ q) -ℚ (e *ℚ x +ℚ r)) -ℚ (s +ℚ t)
change_step e f x s r q t =
    by_ring_q (e ∷ f ∷ x ∷ s ∷ r ∷ q ∷ t ∷ []) (search ring_q depth 60 fits 3000) refl

changes_low : (p : Problem) (point : List Rational) (es fs : List Entry) (shifts : List Rational) →
    IsFeasible p point →
    AreMovedAs IsChanged p es fs shifts →
    IsNonnegativeQ ((sum_at point fs -ℚ sum_at point es) -ℚ total_of shifts)
changes_low p point [] [] [] feasible h =
    subst IsNonnegativeQ no_change (nonnegative_whole (pos 0) (omega (arith, ints)))
changes_low p point [] [] (s ∷ shifts) feasible h = absurd h
changes_low p point [] (f ∷ fs) shifts feasible h = absurd h
changes_low p point (e ∷ es) [] shifts feasible h = absurd h
changes_low p point (e ∷ es) (f ∷ fs) [] feasible h = absurd h
changes_low p point (e ∷ es) (f ∷ fs) (s ∷ shifts) feasible h =
    let here : IsNonnegativeQ
    ((rational f.value -ℚ rational e.value) *ℚ value_at point e.column -ℚ s) =
    change_low p point e.column (rational e.value) (rational f.value) s feasible h.1 in
    subst IsNonnegativeQ
    (change_step (rational e.value) (rational f.value) (value_at point e.column) s (sum_at point es)
    (sum_at point fs) (total_of shifts)
    ∙ ap (λ (j : ℕ). ((rational f.value *ℚ value_at point j +ℚ sum_at point fs)
    -ℚ (rational e.value *ℚ value_at point e.column +ℚ sum_at point es)) -ℚ (s +ℚ total_of shifts))
    (sym h.0))
    (nonnegative_add _ _ here (changes_low p point es fs shifts feasible h.2))

rounded_sum : (a b r q t : Rational) → (((b -ℚ a) -ℚ t) +ℚ (a -ℚ q)) +ℚ ((q +ℚ t) -ℚ r) ≡ b -ℚ r
rounded_sum a b r q t = by_ring_q (a ∷ b ∷ r ∷ q ∷ t ∷ []) (search ring_q depth 60 fits 3000) refl

pub rounded_holds : (p : Problem) (q r : Inequality) → Holds p q → IsRounded p q r → Holds p r
rounded_holds p q r holds h =
    from_surplus p r
    (λ (point : List Rational) (feasible : IsFeasible p point).
    subst IsNonnegativeQ
    (rounded_sum (sum_at point q.entries) (sum_at point r.entries) (rational r.right)
    (rational q.right) (total_of h.shifts))
    (nonnegative_add _ _
    (nonnegative_add _ _ (changes_low p point q.entries r.entries h.shifts feasible h.changed)
    (difference_nonnegative (rational q.right) (sum_at point q.entries) (holds point feasible)))
    (difference_nonnegative (rational r.right) (rational q.right +ℚ total_of h.shifts) h.right)))

-- ---- turning back

pub turned_back_holds : (p : Problem) (pieces : List Piece) (coefficients : List Frac)
    (q : Inequality) → IsCutOver p pieces coefficients →
    IsTurnedBack pieces coefficients q → Holds p q
turned_back_holds p pieces coefficients q cut back =
    from_surplus p q
    (λ (point : List Rational) (feasible : IsFeasible p point).
    subst IsNonnegativeQ (sym (back point))
    (difference_nonnegative (whole (pos 1)) (combined_at point coefficients pieces)
    (cut point feasible)))
