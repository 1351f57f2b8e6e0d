-- The moves that a check makes.
use Rattle.std.proofs.Common.{◌≡◌, ◌⊎◌, ⊎_elim, inl, inr, ◌↔◌, ℕ, zero, suc, ◌+◌, ◌<◌, Bool, true, false, IsTrue, Option, Some, None, MatchOption, List, [], ◌∷◌, length, get_or, take, ℤ, pos, negsuc, ◌≤◌, ◌*ℤ◌, ◌<ℤ◌, ◌≤ℤ◌, refl, sym, ap, ap₂, subst, subst₂, ◌∙◌, arith, rules}
use Rattle.std.proofs.lemmas.Int.{ints}
use Rattle.gj_frac.specs.declared.Frac.{Frac}
use Rattle.std.proofs.lemmas.List.{take_all}
use Rattle.std.specs.declared.cmp.Ordering.{Ordering}
use Rattle.std.specs.declared.cmp.Ordering.TheVariants.{Less, Equal, Greater}
use Rattle.std.specs.Ordering.{MatchOrdering}
use Rattle.gj_frac.specs.CompareValues.{compare_values}
use Rattle.gj_frac.specs.TotalOrder.{IsLess, compare_values_ranks}
use Rattle.gj_frac.specs.Fraction.{IsWhole, IsRatio, numerator}
use Rattle.gj_fields.specs.Rational.{Rational, whole, rational, ◌+ℚ◌, ◌*ℚ◌, neg_ℚ, ◌-ℚ◌, ◌≤ℚ◌}
use Rattle.gj_fields.proofs.RationalLaws.{add_assoc_q, mul_zero_q, one_mul_q, whole_top, whole_bottom}
use Rattle.gj_fields.proofs.RationalOrder.{IsNonnegativeQ, difference_nonnegative, at_most_from_difference}
use Rattle.gj_fields.proofs.RationalRing.{by_ring_q, ring_q}
use Rattle.gj_problem.specs.declared.problem.Column.{Column}
use Rattle.gj_problem.specs.declared.sums.Sum.{Sum}
use Rattle.gj_problem.specs.Aggregates.{IsUpperBound}
use Rattle.gj_problem.specs.Moves.{IsBelowOnGrid, HasLower, HasUpper, IsMovedBy, AreMovedBy}
use Rattle.gj_problem.proofs.AddedSums.{zero_frac, add_zero_q}
use Rattle.gj_problem.proofs.GridParts.{below_from_floor}
use Rattle.gj_problem.proofs.HeldInequalities.{whole_frac}
use Rattle.gj_problem.proofs.MovedEntries.{double_neg}
use Rattle.gj_derivation.specs.Derivations.{times, IsWholeTerm, AreWholeTerms, IsRoundedUp, IsRightOf}
use Rattle.gj_derivation.specs.Checks.{IsUnmovable, IsFirstUnmovable, line_of_sum, claimed_at, IsWideMoved, IsWideMoving}
use Rattle.gj_derivation.proofs.ClaimsHold.{at_most_zero}
use Rattle.gj_derivation.proofs.CheckedSums.{dot_unit}

-- ---- whole terms

pub whole_if_true : (b r : Bool) (y : Frac) → b ≡ true → (IsTrue r ↔ IsWhole y) →
    (IsTrue r ↔ IsWholeTerm b (rational y))
whole_if_true true r y e h = (
  λ t. whole_frac y (h.0 t),
  λ is. h.1 (ap (λ (q : Rational). q.bottom) is.1 ∙ whole_bottom is.0),
)
whole_if_true false r y e h = absurd (cc)

pub none_if_false : (b r : Bool) (y : Frac) → b ≡ false → (IsTrue r ↔ (numerator y ≡ pos 0)) →
    (IsTrue r ↔ IsWholeTerm b (rational y))
none_if_false false r y e h = (
  λ t. zero_frac y (h.0 t),
  λ is. h.1 (ap (λ (q : Rational). q.top) is ∙ whole_top (pos 0)),
)
none_if_false true r y e h = absurd (cc)

-- ---- one column

change_is : (x y c : Rational) → c ≡ y -ℚ x → c ≡ whole (pos 0) → y ≡ x
change_is x y c is none = first x y ∙ ap (λ w. x +ℚ w) (sym is ∙ none) ∙ second x
  where
    first : (x y : Rational) → y ≡ x +ℚ (y -ℚ x)
    first x y = by_ring_q (x ∷ y ∷ []) (search ring_q depth 40) refl

    second : (x : Rational) → x +ℚ whole (pos 0) ≡ x
    second x = by_ring_q (x ∷ []) (search ring_q depth 40) refl

pub moved_none : (c : Column) (x y change zero_shift : Frac) →
    rational change ≡ rational y -ℚ rational x → numerator change ≡ pos 0 →
    rational zero_shift ≡ whole (pos 0) → IsMovedBy (HasLower c) (HasUpper c) (rational x)
    (rational y) (rational zero_shift)
moved_none c x y change zero_shift is none shift_is =
    inl (record {
      same = change_is (rational x) (rational y) (rational change) is
          (zero_frac change none);
      shift_is = shift_is;
    })

greater : (x y change : Frac) → rational change ≡ rational y -ℚ rational x →
    pos 0 ≤ℤ numerator change → rational x ≤ℚ rational y
greater x y change is low =
    at_most_from_difference (rational x) (rational y) (subst IsNonnegativeQ is
    (let h : IsNonnegativeQ (rational change) = record { low = low } in h))

turned_change : (x y : Rational) → whole (pos 0) -ℚ (y -ℚ x) ≡ x -ℚ y
turned_change x y = by_ring_q (x ∷ y ∷ []) (search ring_q depth 40) refl

lesser : (x y change : Frac) → rational change ≡ rational y -ℚ rational x →
    numerator change ≤ℤ pos 0 → rational y ≤ℚ rational x
lesser x y change is high =
    at_most_from_difference (rational y) (rational x)
    (subst IsNonnegativeQ (ap (λ w. whole (pos 0) -ℚ w) is
    ∙ turned_change (rational x) (rational y))
    (difference_nonnegative (rational change) (whole (pos 0)) (at_most_zero change high)))

sign_of_lesser : (m : Frac) → rational m ≤ℚ whole (pos 0) → numerator m ≤ℤ pos 0
unfolding whole
sign_of_lesser m h = let k = h.crosswise in omega (arith, ints)

not_lesser : (x y change : Frac) → rational change ≡ rational y -ℚ rational x →
    pos 0 <ℤ numerator change → rational y ≤ℚ rational x → ⊥
not_lesser x y change is some below =
    let low : numerator change ≤ℤ pos 0 =
    sign_of_lesser change
    (at_most_from_difference (rational change) (whole (pos 0))
    (subst IsNonnegativeQ (sym (ap (λ w. whole (pos 0) -ℚ w) is
    ∙ turned_change (rational x) (rational y)))
    (difference_nonnegative (rational y) (rational x) below))) in
    omega (arith, ints)

sign_of_greater : (m : Frac) → IsNonnegativeQ (rational m) → pos 0 ≤ℤ numerator m
sign_of_greater m h = h.low

not_greater : (x y change : Frac) → rational change ≡ rational y -ℚ rational x →
    numerator change <ℤ pos 0 → rational x ≤ℚ rational y → ⊥
not_greater x y change is some below =
    let low : pos 0 ≤ℤ numerator change =
    sign_of_greater change (subst IsNonnegativeQ (sym is)
    (difference_nonnegative (rational x) (rational y) below)) in
    omega (arith, ints)

-- what is answered with a lower bound, or without
abbrev pub IsTimesLower : Column → Frac → Option Frac → Type 0
IsTimesLower c change made =
    MatchOption made (c.lower ≡ None) (λ s. (b : Frac) × HasLower c b
    × (rational s ≡ rational change *ℚ rational b))

abbrev pub IsTimesUpper : Column → Frac → Option Frac → Type 0
IsTimesUpper c change made =
    MatchOption made (c.upper ≡ None) (λ s. (b : Frac) × HasUpper c b
    × (rational s ≡ rational change *ℚ rational b))

abbrev pub IsShift : Column → Frac → Frac → Option Frac → Type 0
IsShift c x y made =
    MatchOption made (IsUnmovable c (rational x) (rational y))
    (λ s. IsMovedBy (HasLower c) (HasUpper c) (rational x) (rational y) (rational s))

pub shift_up : (c : Column) (x y change : Frac) (made : Option Frac) →
    rational change ≡ rational y -ℚ rational x → pos 0 <ℤ numerator change →
    IsTimesLower c change made → IsShift c x y made
shift_up c x y change None is some h = inl (not_lesser x y change is some, h)
shift_up c x y change (Some s) is some h =
    inr (inl (record {
      bound = h.0;
      bound_is = h.1;
      greater = greater x y change is (omega (arith, ints));
      shift_is = h.2 ∙ ap (λ w. w *ℚ rational h.0) is;
    }))

pub shift_down : (c : Column) (x y change : Frac) (made : Option Frac) →
    rational change ≡ rational y -ℚ rational x → numerator change <ℤ pos 0 →
    IsTimesUpper c change made → IsShift c x y made
shift_down c x y change None is some h = inr (not_greater x y change is some, h)
shift_down c x y change (Some s) is some h =
    inr (inr (record {
      bound = h.0;
      bound_is = h.1;
      lesser = lesser x y change is (omega (arith, ints));
      shift_is = h.2 ∙ ap (λ w. w *ℚ rational h.0) is;
    }))

-- ---- one more column

first_total : (s t : Rational) → t ≡ whole (pos 0) → t +ℚ s ≡ s +ℚ whole (pos 0)
first_total s t none = ap (λ w. w +ℚ s) none ∙ swapped s
  where
    swapped : (s : Rational) → whole (pos 0) +ℚ s ≡ s +ℚ whole (pos 0)
    swapped s = by_ring_q (s ∷ []) (search ring_q depth 40) refl

pub moved_more : (columns : List Column) (i : ℕ) (c : Column) (xs ys : ℕ → Rational)
    (total s : Rational) → i < length columns →
    c ≡ get_or columns i c → AreMovedBy (take i columns) xs ys total →
    IsMovedBy (HasLower c) (HasUpper c) (xs i) (ys i) s →
    AreMovedBy (take (suc i) columns) xs ys (total +ℚ s)
moved_more [] i c xs ys total s below here h moved = absurd (omega arith)
moved_more (d ∷ columns) zero c xs ys total s below here h moved = (
  s,
  whole (pos 0),
  subst (λ (e : Column). IsMovedBy (HasLower e) (HasUpper e) (xs zero) (ys zero) s) here moved,
  refl,
  first_total s total h,
)
moved_more (d ∷ columns) (suc i) c xs ys total s below here (shift, rest, first, more, total_is)
    moved = (
      shift,
      rest +ℚ s,
      first,
      moved_more columns i c (λ j. xs (suc j)) (λ j. ys (suc j)) rest s (omega arith) here more
          moved,
      ap (λ w. w +ℚ s) total_is ∙ add_assoc_q shift rest s,
    )

pub whole_more : (columns : List Column) (i : ℕ) (c : Column) (ys : ℕ → Rational) →
    i < length columns → c ≡ get_or columns i c →
    ((AreWholeTerms (take i columns) ys × IsWholeTerm c.is_whole (ys i)) ↔ AreWholeTerms
    (take (suc i) columns) ys)
whole_more [] i c ys below here = absurd (omega arith)
whole_more (d ∷ columns) zero c ys below here = (
  λ h. (subst (λ (e : Column). IsWholeTerm e.is_whole (ys zero)) here h.1, tt),
  λ h. (tt, subst (λ (e : Column). IsWholeTerm e.is_whole (ys zero)) (sym here) h.0),
)
whole_more (d ∷ columns) (suc i) c ys below here =
    let rest = whole_more columns i c (λ j. ys (suc j)) (omega arith) here in (
      λ h. (h.0.0, rest.0 (h.0.1, h.1)),
      λ h. let back = rest.1 h.1 in ((h.0, back.0), back.1),
    )

-- the coefficients of the sum, each times the factor
abbrev pub scaled : Frac → Sum → ℕ → Rational
scaled factor sum = times factor (line_of_sum sum)

-- the columns up to now are moved
pub record IsMovedUpTo (columns : List Column) (factor : Frac) (sum : Sum) (claimed : List Frac)
    (i : ℕ) (right : Frac) (is_whole : Bool) : Type 0 where
  pub total : Rational
  pub moved : AreMovedBy (take i columns) (scaled factor sum) (claimed_at claimed) total
  pub right_is : rational right ≡ rational factor *ℚ rational sum.right +ℚ total
  pub whole : IsTrue is_whole ↔ AreWholeTerms (take i columns) (claimed_at claimed)

-- ---- signs and comparisons

pub sign_left : (n : ℤ) (z p : Bool) → (IsTrue z ↔ (n ≡ pos 0)) → (IsTrue p ↔ (pos 0 <ℤ n)) →
    z ≡ false → p ≡ false → n <ℤ pos 0
sign_left (pos zero) z p hz hp z_is p_is = let t = hz.1 refl in absurd (cc)
sign_left (pos (suc k)) z p hz hp z_is p_is = let t = hp.1 (omega (arith, ints)) in absurd (cc)
sign_left (negsuc k) z p hz hp z_is p_is = omega (arith, ints)

ranks_as : (x y : Frac) (r s : Ordering) → r ≡ compare_values x y → r ≡ s →
    MatchOrdering s (IsLess x y) (x ≡ y) (IsLess y x)
ranks_as x y r s is fits = subst (λ t. MatchOrdering t (IsLess x y) (x ≡ y) (IsLess y x)) (sym is
    ∙ fits) (compare_values_ranks x y)

pub at_most_itself : (x : Rational) → x ≤ℚ x
at_most_itself x = record { crosswise = omega (arith, ints) }

pub at_most_if_less : (x y : Frac) (r : Ordering) → r ≡ compare_values x y → r ≡ Less →
    rational x ≤ℚ rational y
at_most_if_less x y r is fits = let less : IsLess x y =
    ranks_as x y r Less is fits in record { crosswise = omega (arith, ints) }

pub at_most_if_equal : (x y : Frac) (r : Ordering) → r ≡ compare_values x y → r ≡ Equal →
    rational x ≤ℚ rational y
at_most_if_equal x y r is fits =
    let same : x ≡ y = ranks_as x y r Equal is fits in
    subst (λ (z : Frac). rational x ≤ℚ rational z) same (record { crosswise = omega (arith, ints) })

pub above_if_greater : (x y : Frac) (r : Ordering) → r ≡ compare_values x y → r ≡ Greater →
    rational x ≤ℚ rational y → ⊥
above_if_greater x y r is fits h =
    let less : IsLess y x = ranks_as x y r Greater is fits in
    let k = h.crosswise in
    omega (arith, ints)

-- ---- rounding up

ratio_of_whole : (y : Frac) (n : ℤ) → rational y ≡ whole n → IsRatio y n (pos 1)
ratio_of_whole y n is =
    ap₂ (λ v w. v *ℤ w) (ap (λ (q : Rational). q.top) is ∙ whole_top n)
    (sym (ap (λ (q : Rational). q.bottom) is ∙ whole_bottom n))

pub rounded_from_floor : (x m down r : Frac) → rational m ≡ neg_ℚ (rational x) →
    IsUpperBound true m down → rational r ≡ neg_ℚ (rational down) →
    IsRoundedUp (rational x) (rational r)
rounded_from_floor x m down r m_is (n, floor, down_is) r_is =
    subst₂ (IsBelowOnGrid 1) m_is (sym (ap neg_ℚ r_is ∙ double_neg (rational down)))
    (below_from_floor 1 m down m n (omega arith) (sym (one_mul_q (rational m))) floor
    (ratio_of_whole down n down_is))

-- ---- over all columns

scaled_at : (factor coefficient x : Frac) (sum : Sum) (i : ℕ) → i < length sum.coefficients.items →
    coefficient ≡ get_or sum.coefficients.items i coefficient →
    rational x ≡ rational factor *ℚ rational coefficient → rational x ≡ scaled factor sum i
scaled_at factor coefficient x sum i below here is =
    is ∙ ap (λ w. rational factor *ℚ w) (ap rational here
    ∙ sym (dot_unit sum.coefficients.items i coefficient below))

pub claimed_is : (claimed : List Frac) (i : ℕ) (y : Frac) → i < length claimed →
    y ≡ get_or claimed i y → rational y ≡ claimed_at claimed i
claimed_is claimed i y below here = ap rational here ∙ sym (dot_unit claimed i y below)

pub none_up_to : (columns : List Column) (factor : Frac) (sum : Sum) (claimed : List Frac)
    (right : Frac) →
    rational right ≡ rational factor *ℚ rational sum.right →
    IsMovedUpTo columns factor sum claimed 0 right true
none_up_to columns factor sum claimed right is = record {
  total = whole (pos 0);
  moved = refl;
  right_is = is ∙ add_zero_q (rational factor *ℚ rational sum.right);
  whole = (λ t. tt, λ t. search rules);
}

pub one_up_to : (columns : List Column) (factor : Frac) (sum : Sum) (claimed : List Frac) (i : ℕ)
    (c : Column) (coefficient x y s right new : Frac)
    (w v : Bool) → i < length columns → length sum.coefficients.items ≡ length columns →
    length claimed ≡ length columns → c ≡ get_or columns i c →
    coefficient ≡ get_or sum.coefficients.items i coefficient →
    rational x ≡ rational factor *ℚ rational coefficient → y ≡ get_or claimed i y →
    IsMovedBy (HasLower c) (HasUpper c) (rational x) (rational y) (rational s) →
    rational new ≡ rational right +ℚ rational s →
    (IsTrue v ↔ (IsTrue w × IsWholeTerm c.is_whole (rational y))) →
    IsMovedUpTo columns factor sum claimed i right w →
    IsMovedUpTo columns factor sum claimed (i + 1) new v
one_up_to columns factor sum claimed i c coefficient x y s right new w v below count claims here
    c_here x_is y_here moved new_is v_is h =
    let x_at = scaled_at factor coefficient x sum i (omega arith) c_here x_is in
    let y_at = claimed_is claimed i y (omega arith) y_here in
    let at : IsMovedBy (HasLower c) (HasUpper c) (scaled factor sum i) (claimed_at claimed i)
    (rational s) =
    subst₂ (λ a b. IsMovedBy (HasLower c) (HasUpper c) a b (rational s)) x_at y_at moved in
    let next = whole_more columns i c (claimed_at claimed) below here in
    let on : suc i ≡ i + 1 = omega arith in
    subst (λ k. IsMovedUpTo columns factor sum claimed k new v) on
    (record {
      total = h.total +ℚ rational s;
      moved = moved_more columns i c (scaled factor sum) (claimed_at claimed) h.total (rational s)
          below here h.moved at;
      right_is = new_is ∙ ap (λ a. a +ℚ rational s) h.right_is
          ∙ add_assoc_q (rational factor *ℚ rational sum.right) h.total (rational s);
      whole = (
        λ t. let both = v_is.0 t in next.0 (
          h.whole.0 both.0,
          subst (IsWholeTerm c.is_whole) y_at both.1,
        ),
        λ all. let both = next.1 all in v_is.1 (
          h.whole.1 both.0,
          subst (IsWholeTerm c.is_whole) (sym y_at) both.1,
        ),
      );
    })

zero_whole : (b : Bool) → IsWholeTerm b (whole (pos 0))
zero_whole true = (pos 0, refl)
zero_whole false = refl

no_multiple : (f x : Rational) → x ≡ whole (pos 0) → x ≡ f *ℚ x
no_multiple f x none = none ∙ sym (ap (λ w. f *ℚ w) none ∙ mul_zero_q f)

-- a column with neither coefficient is passed over
pub none_more : (columns : List Column) (factor : Frac) (sum : Sum) (claimed : List Frac) (i : ℕ)
    (c : Column) (coefficient y right : Frac) (w : Bool) →
    i < length columns → length sum.coefficients.items ≡ length columns →
    length claimed ≡ length columns → c ≡ get_or columns i c →
    coefficient ≡ get_or sum.coefficients.items i coefficient → y ≡ get_or claimed i y →
    numerator coefficient ≡ pos 0 → numerator y ≡ pos 0 →
    IsMovedUpTo columns factor sum claimed i right w → IsMovedUpTo columns factor sum claimed
    (i + 1) right w
none_more columns factor sum claimed i c coefficient y right w below count claims here c_here y_here
    none no_claim h =
    let x_none = zero_frac coefficient none in
    let y_none = zero_frac y no_claim in
    one_up_to columns factor sum claimed i c coefficient coefficient y coefficient right right w w
    below count claims here c_here
    (no_multiple (rational factor) (rational coefficient) x_none) y_here
    (inl (record { same = y_none ∙ sym x_none; shift_is = x_none }))
    (add_zero_q (rational right) ∙ ap (λ a. rational right +ℚ a) (sym x_none))
    (λ t. (t, subst (IsWholeTerm c.is_whole) (sym y_none) (zero_whole c.is_whole)), λ both. both.0)
    h

pub stuck_at : (columns : List Column) (factor : Frac) (sum : Sum) (claimed : List Frac) (i : ℕ)
    (c : Column) (coefficient x y right : Frac)
    (w : Bool) → i < length columns → length sum.coefficients.items ≡ length columns →
    length claimed ≡ length columns → c ≡ get_or columns i c →
    coefficient ≡ get_or sum.coefficients.items i coefficient →
    rational x ≡ rational factor *ℚ rational coefficient → y ≡ get_or claimed i y →
    IsUnmovable c (rational x) (rational y) → IsMovedUpTo columns factor sum claimed i right w →
    IsFirstUnmovable columns (scaled factor sum) (claimed_at claimed) i
stuck_at columns factor sum claimed i c coefficient x y right w below count claims here c_here x_is
    y_here unmovable h = record {
      below = below;
      column = c;
      is = here;
      total = h.total;
      moved_before = h.moved;
      unmovable = subst₂ (IsUnmovable c) (scaled_at factor coefficient x sum i (omega arith) c_here
          x_is) (claimed_is claimed i y (omega arith) y_here) unmovable;
    }

pub all_up_to : (columns : List Column) (factor : Frac) (sum : Sum) (claimed : List Frac) (i : ℕ)
    (right b : Frac) (w : Bool) → length columns ≤ i →
    (IsTrue w × IsRoundedUp (rational right) (rational b))
    ⊎ ((w ≡ false) × (rational b ≡ rational right)) →
    IsMovedUpTo columns factor sum claimed i right w → IsRightOf columns factor (line_of_sum sum)
    (claimed_at claimed) (rational b)
all_up_to columns factor sum claimed i right b w end shown h =
    let all : take i columns ≡ columns = take_all i columns end in
    let Whole = AreWholeTerms columns (claimed_at claimed) in
    let whole : IsTrue w ↔ Whole = subst (λ (cs : List Column). IsTrue w ↔ AreWholeTerms cs
    (claimed_at claimed)) all h.whole in
    record {
      shift = h.total;
      moved = subst (λ (cs : List Column). AreMovedBy cs (scaled factor sum) (claimed_at claimed)
          h.total) all h.moved;
      right_is = ⊎_elim
          (λ (k : IsTrue w × IsRoundedUp (rational right) (rational b)).
          inl (whole.0 k.0, subst (λ a. IsRoundedUp a (rational b)) h.right_is k.1))
          (λ (k : (w ≡ false) × (rational b ≡ rational right)).
          inr (λ is. let t = whole.1 is in absurd (cc), k.1 ∙ h.right_is))
          shown;
    }

pub wide_at : (columns : List Column) (factor : Frac) (sum : Sum) (claimed : List Frac) (i : ℕ)
    (c : Column) (coefficient y right : Frac) (w : Bool) →
    i < length columns → length sum.coefficients.items ≡ length columns →
    length claimed ≡ length columns → c ≡ get_or columns i c →
    coefficient ≡ get_or sum.coefficients.items i coefficient → y ≡ get_or claimed i y →
    IsWideMoved c factor coefficient y right →
    IsMovedUpTo columns factor sum claimed i right w → IsWideMoving columns factor (line_of_sum sum)
    (claimed_at claimed)
wide_at columns factor sum claimed i c coefficient y right w below count claims here c_here y_here
    wide h =
    inr (inl (record {
      index = i;
      below = below;
      column = c;
      is = here;
      coefficient = coefficient;
      coefficient_is = claimed_is sum.coefficients.items i coefficient (omega arith) c_here;
      claimed = y;
      claimed_is = claimed_is claimed i y (omega arith) y_here;
      total = h.total;
      moved_before = h.moved;
      right = right;
      right_is = h.right_is;
      wide = wide;
    }))
