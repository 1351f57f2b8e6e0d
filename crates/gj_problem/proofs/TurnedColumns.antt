-- Columns turned to their bounds: what they add to a sum, and that they hold.
use Rattle.std.proofs.Common.{◌≡◌, ◌⊎◌, ⊎_elim, inl, inr, ℕ, suc, ◌+◌, ◌<◌, List, [], ◌∷◌, length, get_or, All, Bool, true, false, Option, Some, None, IsTrue, ℤ, pos, negsuc, ◌+ℤ◌, ◌-ℤ◌, ◌≤ℤ◌, ◌<ℤ◌, refl, sym, ap, ap₂, subst, ◌∙◌, arith, rules}
use Rattle.std.specs.List.{AllZip}
use Rattle.std.proofs.lemmas.Int.{ints}
use Rattle.std.proofs.lemmas.List.Elements.{All-nil, All-cons}
use Rattle.gj_frac.specs.declared.Frac.{Frac}
use Rattle.gj_frac.specs.Floor.{IsFloor}
use Rattle.gj_frac.specs.Fraction.{IsWhole, numerator}
use Rattle.gj_lemmas.proofs.Integers.{mul_lt_cancel_right_z}
use Rattle.gj_fields.specs.Rational.{Rational, whole, rational, ◌+ℚ◌, ◌*ℚ◌, neg_ℚ, ◌-ℚ◌, ◌≤ℚ◌, IsWholeNumber}
use Rattle.gj_fields.proofs.RationalLaws.{zero_mul_q, whole_add, whole_sub}
use Rattle.gj_fields.proofs.RationalOrder.{IsNonnegativeQ, nonnegative_whole, at_most_from_difference}
use Rattle.gj_fields.proofs.RationalRing.{by_ring_q, ring_q}
use Rattle.gj_problem.specs.declared.problem.Column.{Column}
use Rattle.gj_problem.specs.declared.problem.Problem.{Problem}
use Rattle.gj_problem.specs.declared.pieces.Piece.{Piece}
use Rattle.gj_problem.specs.Problems.{value_at, surplus_at, MeetsColumn, IsFeasible, Holds, IsColumn}
use Rattle.gj_problem.specs.Rows.{dot, HasWholeSurplus}
use Rattle.gj_problem.specs.declared.bounds.Held.{Held}
use Rattle.gj_problem.specs.Aggregates.{pieces_at, AreMadeOf, held, IsLeftOut, IsCeiling, IsLowerBound, IsUpperBound, IsFromLower, IsFromUpper, IsTurnedFrom, IsTurned, IsFree}
use Rattle.gj_problem.proofs.MadePieces.{Made, none_from_made}
use Rattle.gj_problem.proofs.AddedSums.{zero_frac}
use Rattle.gj_problem.proofs.OneColumn.{lower_surplus, upper_surplus, nothing_value}
use Rattle.gj_problem.proofs.Prefixes.{default_unused}
use Rattle.gj_problem.proofs.HeldInequalities.{from_surplus, column_at, lower_at, upper_at, whole_frac, whole_sum, whole_product}

-- ---- which bound

abbrev pub IsFromBound : Held → Option Frac → Option Frac → Piece → Type 0
IsFromBound h lower upper s =
    ((l : Frac) × (lower ≡ Some l) × IsFromLower h l s)
    ⊎ ((u : Frac) × (upper ≡ Some u) × IsFromUpper h u s)

from_bound : (h : Held) (lower upper : Option Frac) (up : Bool) (s : Piece) →
    IsTurnedFrom h lower upper up s → IsFromBound h lower upper s
from_bound h None None up s k = absurd k
from_bound h None (Some u) up s k = inr (u, refl, k)
from_bound h (Some l) None up s k = inl (l, refl, k)
from_bound h (Some l) (Some u) true s k = inr (u, refl, k)
from_bound h (Some l) (Some u) false s k = inl (l, refl, k)

-- ---- what it adds

lower_change : (c x b : Rational) → c *ℚ (x -ℚ b) -ℚ c *ℚ (whole (pos 0) -ℚ b) ≡ c *ℚ x
lower_change c x b = by_ring_q (c ∷ x ∷ b ∷ []) (search ring_q depth 40) refl

upper_change : (c x b : Rational) → neg_ℚ c *ℚ (b -ℚ x) -ℚ neg_ℚ c *ℚ (b -ℚ whole (pos 0)) ≡ c *ℚ x
upper_change c x b = by_ring_q (c ∷ x ∷ b ∷ []) (search ring_q depth 40) refl

-- the entry times the surplus changes from the point 0 on as the coefficient times the column
change_at : (h : Held) (point : List Rational) (s : Piece) → IsTurned h s →
    rational s.entry *ℚ surplus_at point s.inequality -ℚ rational s.entry *ℚ surplus_at
    [] s.inequality
    ≡ rational h.coefficient *ℚ value_at point h.index
change_at h point s k =
    let c = rational h.coefficient in
    let x = value_at point h.index in
    ⊎_elim
    (λ (low : (l : Frac) × (h.column.lower ≡ Some l) × IsFromLower h l s).
    let b = rational low.2.bound in
    ap₂ (λ e z. e *ℚ z -ℚ e *ℚ surplus_at [] s.inequality) low.2.entry_is
    (lower_surplus point h.index (rational low.2.bound) s.inequality low.2.inequality_is)
    ∙ ap (λ z. c *ℚ (x -ℚ b) -ℚ c *ℚ z) (lower_surplus [] h.index b s.inequality low.2.inequality_is
    ∙ ap (λ z. z -ℚ b) (nothing_value h.index))
    ∙ lower_change c x b)
    (λ (high : (u : Frac) × (h.column.upper ≡ Some u) × IsFromUpper h u s).
    let b = rational high.2.bound in
    ap₂ (λ e z. e *ℚ z -ℚ e *ℚ surplus_at [] s.inequality) high.2.entry_is
    (upper_surplus point h.index (rational high.2.bound) s.inequality high.2.inequality_is)
    ∙ ap (λ z. neg_ℚ c *ℚ (b -ℚ x) -ℚ neg_ℚ c *ℚ z)
    (upper_surplus [] h.index b s.inequality high.2.inequality_is
    ∙ ap (λ z. b -ℚ z) (nothing_value h.index))
    ∙ upper_change c x b)
    (from_bound h h.column.lower h.column.upper h.at_upper s k.turned)

left_out_at : (h : Held) (x : Rational) → IsLeftOut h → MeetsColumn h.column x →
    IsWholeNumber (rational h.coefficient *ℚ x)
left_out_at h x out meets =
    ⊎_elim
    (λ (none : numerator h.coefficient ≡ pos 0).
    (pos 0, ap (λ w. w *ℚ x) (zero_frac h.coefficient none) ∙ zero_mul_q x))
    (λ (is : IsWhole h.coefficient × IsTrue h.column.is_whole).
    whole_product (rational h.coefficient) x (whole_frac h.coefficient is.0) (meets.is_whole is.1))
    out

-- the sum of the columns is a whole number and what the pieces have changed by from the point 0 on
abbrev pub IsTakenOut : List Rational → List Frac → List Rational → List Piece → Type 0
IsTakenOut full cs point pieces =
    (z : ℤ) × (dot cs point ≡ whole z +ℚ (pieces_at full pieces -ℚ pieces_at [] pieces))

none_taken : whole (pos 0) ≡ whole (pos 0) +ℚ (whole (pos 0) -ℚ whole (pos 0))
none_taken = by_ring_q [] (search ring_q depth 40) refl

pub one_left : (a b d : Rational) → a +ℚ (b +ℚ d) ≡ (a +ℚ b) +ℚ d
one_left a b d = by_ring_q (a ∷ b ∷ d ∷ []) (search ring_q depth 40) refl

one_taken : (s t z a b : Rational) → (s -ℚ t) +ℚ (z +ℚ (a -ℚ b)) ≡ z +ℚ ((s +ℚ a) -ℚ (t +ℚ b))
one_taken s t z a b = by_ring_q (s ∷ t ∷ z ∷ a ∷ b ∷ []) (search ring_q depth 40) refl

pub bounds_at : (full : List Rational) (j : ℕ) (columns : List Column) (cs : List Frac)
    (ups : List Bool) (point : List Rational)
    (ps : List Piece) → AreMadeOf IsLeftOut IsTurned (held j columns cs ups) ps →
    AllZip MeetsColumn columns point →
    length cs ≡ length columns → length ups ≡ length columns →
    ((k : ℕ) → value_at full (j + k) ≡ value_at point k) →
    IsTakenOut full cs point ps
bounds_at full j [] [] ups [] ps h meets count more at = (
  pos 0,
  none_taken ∙ ap
      (λ (qs : List Piece). whole (pos 0) +ℚ (pieces_at full qs -ℚ pieces_at [] qs)) (sym h),
)
bounds_at full j [] [] ups (x ∷ point) ps h meets count more at = absurd meets
bounds_at full j [] (c ∷ cs) ups point ps h meets count more at = absurd (omega arith)
bounds_at full j (d ∷ columns) [] ups point ps h meets count more at = absurd (omega arith)
bounds_at full j (d ∷ columns) (c ∷ cs) [] point ps h meets count more at = absurd (omega arith)
bounds_at full j (d ∷ columns) (c ∷ cs) (up ∷ ups) [] ps h meets count more at = absurd meets
bounds_at full j (d ∷ columns) (c ∷ cs) (up ∷ ups) (x ∷ point) ps h meets count more at =
    let here : Held = record { index = j; column = d; coefficient = c; at_upper = up } in
    let others = held (j + 1) columns cs ups in
    let next : (k : ℕ) → value_at full (j + 1 + k) ≡ value_at point k =
    λ k. let e : j + 1 + k ≡ j + suc k = omega arith in ap (value_at full) e ∙ at (suc k) in
    let none : j ≡ j + 0 = omega arith in
    let x_is : value_at full j ≡ x = ap (value_at full) none ∙ at 0 in
    ⊎_elim
    (λ (k : IsLeftOut here × AreMadeOf IsLeftOut IsTurned others ps).
    let (z, z_is) = bounds_at full (j + 1) columns cs ups point ps k.1 meets.1 (omega arith)
    (omega arith) next in
    let (y, y_is) = left_out_at here x k.0 meets.0 in (
      y +ℤ z,
      ap₂ (λ a b. a +ℚ b) y_is z_is
          ∙ one_left (whole y) (whole z) (pieces_at full ps -ℚ pieces_at [] ps)
          ∙ ap (λ a. a +ℚ (pieces_at full ps -ℚ pieces_at [] ps)) (sym (whole_add y z)),
    ))
    (λ (k : Made IsLeftOut IsTurned here others ps).
    let s = k.1 in
    let rest = k.2 in
    let (z, z_is) = bounds_at full (j + 1) columns cs ups point rest k.5 meets.1 (omega arith)
    (omega arith) next in
    let change = change_at here full s k.4 in (
      z,
      ap₂ (λ a b. a +ℚ b) (ap (λ v. rational c *ℚ v) (sym x_is) ∙ sym change) z_is
          ∙ one_taken (rational s.entry *ℚ surplus_at full s.inequality)
          (rational s.entry *ℚ surplus_at [] s.inequality) (whole z)
          (pieces_at full rest) (pieces_at [] rest)
          ∙ ap (λ (qs : List Piece). whole z +ℚ (pieces_at full qs -ℚ pieces_at [] qs)) (sym k.3),
    ))
    h

-- ---- rounded bounds

pub above_ceiling : (l : Frac) (n z : ℤ) → IsCeiling l n → rational l ≤ℚ whole z → pos 0 ≤ℤ (z -ℤ n)
unfolding whole
above_ceiling l n z ceiling h =
    let low = h.crosswise in
    let before = ceiling.before_below in
    let below : (n -ℤ pos 1) <ℤ z =
    mul_lt_cancel_right_z (n -ℤ pos 1) z l.den l.lowest.positive (omega (arith, ints)) in
    omega (arith, ints)

pub below_floor : (u : Frac) (n z : ℤ) → IsFloor u n → whole z ≤ℚ rational u → pos 0 ≤ℤ (n -ℤ z)
unfolding whole
below_floor u n z floor h =
    let high = h.crosswise in
    let above = floor.next_above in
    let below : z <ℤ (n +ℤ pos 1) =
    mul_lt_cancel_right_z z (n +ℤ pos 1) u.den u.lowest.positive (omega (arith, ints)) in
    omega (arith, ints)

pub lower_rounded : (b : Bool) (l bound : Frac) (x : Rational) → IsLowerBound b l bound →
    (IsTrue b → IsWholeNumber x) →
    IsNonnegativeQ (x -ℚ rational l) → IsNonnegativeQ (x -ℚ rational bound)
lower_rounded false l bound x h is_whole low =
    subst (λ (c : Frac). IsNonnegativeQ (x -ℚ rational c)) (sym h) low
lower_rounded true l bound x h is_whole low =
    let (z, z_is) = is_whole (search rules) in
    let n = h.0 in
    let below : rational l ≤ℚ whole z =
    at_most_from_difference (rational l) (whole z)
    (subst (λ y. IsNonnegativeQ (y -ℚ rational l)) z_is low) in
    subst IsNonnegativeQ (whole_sub z n ∙ ap₂ (λ a b. a -ℚ b) (sym z_is) (sym h.2))
    (nonnegative_whole (z -ℤ n) (above_ceiling l n z h.1 below))

pub upper_rounded : (b : Bool) (u bound : Frac) (x : Rational) → IsUpperBound b u bound →
    (IsTrue b → IsWholeNumber x) →
    IsNonnegativeQ (rational u -ℚ x) → IsNonnegativeQ (rational bound -ℚ x)
upper_rounded false u bound x h is_whole low =
    subst (λ (c : Frac). IsNonnegativeQ (rational c -ℚ x)) (sym h) low
upper_rounded true u bound x h is_whole low =
    let (z, z_is) = is_whole (search rules) in
    let n = h.0 in
    let below : whole z ≤ℚ rational u =
    at_most_from_difference (whole z) (rational u)
    (subst (λ y. IsNonnegativeQ (rational u -ℚ y)) z_is low) in
    subst IsNonnegativeQ (whole_sub n z ∙ ap₂ (λ a b. a -ℚ b) (sym h.2) (sym z_is))
    (nonnegative_whole (n -ℤ z) (below_floor u n z h.1 below))

lower_whole : (b : Bool) (l bound : Frac) → IsTrue b → IsLowerBound b l bound →
    IsWholeNumber (rational bound)
lower_whole true l bound flag h = (h.0, h.2)
lower_whole false l bound flag h = absurd (cc)

upper_whole : (b : Bool) (u bound : Frac) → IsTrue b → IsUpperBound b u bound →
    IsWholeNumber (rational bound)
upper_whole true u bound flag h = (h.0, h.2)
upper_whole false u bound flag h = absurd (cc)

-- ---- they hold

-- the column is that of the problem
abbrev pub IsOf : Problem → Held → Type 0
IsOf p h = IsColumn p h.index h.column

pub turned_holds : (p : Problem) (h : Held) (s : Piece) → IsOf p h → IsTurned h s →
    Holds p s.inequality
turned_holds p h s of k =
    from_surplus p s.inequality
    (λ (point : List Rational) (feasible : IsFeasible p point).
    let x = value_at point h.index in
    let meets = column_at p point h.index h.column of feasible in
    ⊎_elim
    (λ (low : (l : Frac) × (h.column.lower ≡ Some l) × IsFromLower h l s).
    subst IsNonnegativeQ
    (sym (lower_surplus point h.index (rational low.2.bound) s.inequality low.2.inequality_is))
    (lower_rounded h.column.is_whole low.0 low.2.bound x low.2.bound_is meets.is_whole
    (lower_at p point h.index h.column low.0 of low.1 feasible)))
    (λ (high : (u : Frac) × (h.column.upper ≡ Some u) × IsFromUpper h u s).
    subst IsNonnegativeQ
    (sym (upper_surplus point h.index
    (rational high.2.bound) s.inequality high.2.inequality_is))
    (upper_rounded h.column.is_whole high.0 high.2.bound x high.2.bound_is meets.is_whole
    (upper_at p point h.index h.column high.0 of high.1 feasible)))
    (from_bound h h.column.lower h.column.upper h.at_upper s k.turned))

whole_difference : (x y : Rational) → IsWholeNumber x → IsWholeNumber y → IsWholeNumber (x -ℚ y)
whole_difference x y h k =
    whole_sum x (neg_ℚ y) h (whole_product (whole (negsuc 0)) y (negsuc 0, refl) k)

pub turned_whole : (p : Problem) (h : Held) (s : Piece) → IsOf p h → IsTurned h s →
    IsTrue s.is_whole → HasWholeSurplus p s.inequality
turned_whole p h s of k flag point feasible =
    let x = value_at point h.index in
    let column_flag : IsTrue h.column.is_whole = subst IsTrue k.is_whole flag in
    let x_whole : IsWholeNumber x =
    (column_at p point h.index h.column of feasible).is_whole column_flag in
    ⊎_elim
    (λ (low : (l : Frac) × (h.column.lower ≡ Some l) × IsFromLower h l s).
    subst IsWholeNumber (sym
    (lower_surplus point h.index (rational low.2.bound) s.inequality low.2.inequality_is))
    (whole_difference x (rational low.2.bound) x_whole
    (lower_whole h.column.is_whole low.0 low.2.bound column_flag low.2.bound_is)))
    (λ (high : (u : Frac) × (h.column.upper ≡ Some u) × IsFromUpper h u s).
    subst IsWholeNumber (sym
    (upper_surplus point h.index (rational high.2.bound) s.inequality high.2.inequality_is))
    (whole_difference (rational high.2.bound) x
    (upper_whole h.column.is_whole high.0 high.2.bound column_flag high.2.bound_is) x_whole))
    (from_bound h h.column.lower h.column.upper h.at_upper s k.turned)

-- ---- each column is one of the problem

held_columns : (p : Problem) (j : ℕ) (columns : List Column) (cs : List Frac) (ups : List Bool) →
    ((k : ℕ) (d : Column) → k < length columns → IsColumn p (j + k) (get_or columns k d)) →
    All (IsOf p) (held j columns cs ups)
held_columns p j [] cs ups h = All-nil (IsOf p)
held_columns p j (d ∷ columns) [] ups h = All-nil (IsOf p)
held_columns p j (d ∷ columns) (c ∷ cs) [] h = All-nil (IsOf p)
held_columns p j (d ∷ columns) (c ∷ cs) (up ∷ ups) h =
    All-cons (IsOf p) (record { index = j; column = d; coefficient = c; at_upper = up })
    (held (j + 1) columns cs ups)
    (let at : j + 0 ≡ j = omega arith in subst (λ (i : ℕ). IsColumn p i d) at (h 0 d (omega arith)))
    (held_columns p (j + 1) columns cs ups
    (λ k e below. let at : j + suc k ≡ j + 1 + k = omega arith in
    subst (λ (i : ℕ). IsColumn p i (get_or columns k e)) at (h (suc k) e (omega arith))))

pub all_columns_of : (p : Problem) (cs : List Frac) (ups : List Bool) →
    All (IsOf p) (held 0 p.columns cs ups)
all_columns_of p cs ups =
    held_columns p 0 p.columns cs ups
    (λ k d below. let at : k ≡ 0 + k = omega arith in
    subst (λ (i : ℕ). IsColumn p i (get_or p.columns k d)) at
    (record { below = below; is = default_unused p.columns k (get_or p.columns k d) d below }))

-- a column that is turned or left out is not free
not_none : (h : Held) (lower upper : Option Frac) (up : Bool) (s : Piece) → lower ≡ None →
    upper ≡ None → IsTurnedFrom h lower upper up s → ⊥
not_none h None None up s l u k = k
not_none h None (Some x) up s l u k = cc
not_none h (Some x) upper up s l u k = cc

pub turned_not_free : (h : Held) (s : Piece) → IsTurned h s → IsFree h → ⊥
turned_not_free h s k free =
    not_none h h.column.lower h.column.upper h.at_upper s free.no_lower free.no_upper k.turned

pub left_out_not_free : (h : Held) → IsLeftOut h → IsFree h → ⊥
left_out_not_free h out free = free.kept out

-- of turned columns none is free
pub none_free : (hs : List Held) (ps : List Piece) → AreMadeOf IsLeftOut IsTurned hs ps →
    All (λ h. IsFree h → ⊥) hs
none_free hs ps h = none_from_made IsLeftOut IsTurned (λ h. IsFree h →
    ⊥) hs ps h left_out_not_free turned_not_free
