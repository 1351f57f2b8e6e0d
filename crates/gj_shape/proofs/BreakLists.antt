-- Breakpoints that come one after another: the tests of the next one, and what holds of all.
use Rattle.std.proofs.Common.{◌≡◌, ℕ, ◌-◌, ◌*◌, ◌/◌, ◌<◌, ◌≤◌, ◌↔◌, List, [], ◌∷◌, ◌++◌, length, get_or, map, take, ℤ, pos, ◌*ℤ◌, ◌<ℤ◌, ◌≤ℤ◌, unsigned_abs, refl, sym, ap, subst, ◌∙◌, append_assoc, arith}
use Rattle.std.specs.Int.{◌∣◌}
use Rattle.std.proofs.Math.Nat.{mul-div_cancel', dvd_refl}
use Rattle.std.proofs.lemmas.Int.{ints}
use Rattle.std.proofs.lemmas.Nat.Gcd.{le_of_dvd}
use Rattle.std.proofs.lemmas.List.{map-append, get_or_default}
use Rattle.std.proofs.lemmas.List.Concat.{flat_map-append}
use Rattle.std.proofs.lemmas.List.Elements.{All-head, All-tail}
use Rattle.gj_lemmas.specs.Divisors.{IsLcm}
use Rattle.gj_lemmas.proofs.Divisors.{lcm_positive}
use Rattle.gj_lemmas.proofs.Integers.{mul_lt_cancel_right_z, mul_lt_mul_right_z, mul_nonnegative_z, mul_positive_z, pos_abs_z}
use Rattle.gj_lemmas.proofs.Lists.{All-back, All-one}
use Rattle.gj_frac.specs.declared.Frac.{Frac}
use Rattle.gj_frac.specs.Fraction.{LessValue, fraction_of, numerator, denominator, IsInside, IsRatio}
use Rattle.gj_frac.proofs.SameValues.{same_from_is}
use Rattle.gj_shape.specs.Given.{IsCommonDenominator, IsOrder, numerator_over, IsLeastCommonDenominator}
use Rattle.gj_shape.specs.Denominators.{AreWithinBoundsOver, ExtendsBy, IsRefusedBehind}
use Rattle.gj_shape.specs.Points.{all_fractions, fractions_of}
use Rattle.gj_shape.specs.BreakPlaces.{IsBehindOthers}
use Rattle.gj_shape.specs.Breaks.{BreakList, no_breaks, AreBreaks, AreAscending, AreOnGrid, IsNextBreak, HasOrderWith, Follows, IsBreakFault, break_fault, points_at, point_at}
use Rattle.gj_shape.specs.declared.breaks.Break.{Break}
use Rattle.gj_shape.specs.declared.faults.FractionFault.{FractionFault}
use Rattle.gj_shape.specs.declared.faults.FractionFault.TheVariants.{Large, Fine}
use Rattle.gj_shape.proofs.LastElements.{behind_others, at_last_index, each_behind_none, each_behind_more, along_behind}
use Rattle.gj_shape.proofs.LeastDenominator.{Divides, least_of_none, least_common_some, least_common_more, within_of_least}
use Rattle.gj_shape.proofs.OverScale.{over_scale}

-- ---- the place of the next one

-- x is behind breakpoints if it is behind the last
pub behind_others_last : (breaks : List Break) (last : Break) (start x : Frac) → 0 < length breaks →
    last ≡ get_or breaks (length breaks - 1) last → LessValue (fraction_of last.x) (fraction_of x)
    ↔ IsBehindOthers breaks start x
behind_others_last breaks last start x some at = (
  λ h. record {
    first = λ none. let long = ap length none in absurd (omega arith);
    further = λ front b split.
        subst (λ (c : Break). LessValue (fraction_of c.x) (fraction_of x))
        (at_last_index breaks front last b at split) h;
  },
  λ next. next.further (take (length breaks - 1) breaks) last (behind_others breaks last some at),
)

zero_over_one : (x : Frac) → IsRatio x (pos 0) (pos 1) → numerator x ≡ pos 0
zero_over_one x is = omega (arith, ints)

-- a breakpoint that is behind the others, the first at 0, and below 1 is in its place
pub next_from_behind : (breaks : List Break) (start x : Frac) → IsRatio start (pos 0) (pos 1) →
    IsBehindOthers breaks start x →
    numerator x <ℤ denominator x → IsNextBreak breaks x
next_from_behind breaks start x zero h below = record {
  first = λ none. ap (λ (y : Frac). numerator y) (h.first none) ∙ zero_over_one start zero;
  further = λ front b split. (h.further front b split, omega (arith, ints));
}

-- and one in its place is so
pub behind_from_next : (breaks : List Break) (start x : Frac) → IsRatio start (pos 0) (pos 1) →
    IsNextBreak breaks x →
    IsBehindOthers breaks start x
behind_from_next breaks start x zero next = record {
  first = λ none.
      let e : numerator x ≡ pos 0 = next.first none in
      let is : IsRatio x (pos 0) (pos 1) = omega (arith, ints) in
      same_from_is x start (pos 0) (pos 1) (omega (arith, ints)) is zero;
  further = λ front b split. (next.further front b split).0;
}

pub below_from_next : (breaks : List Break) (x : Frac) → IsNextBreak breaks x →
    numerator x <ℤ denominator x
below_from_next [] x next =
    let e = next.first refl in
    let positive = x.lowest.positive in
    omega (arith, ints)
below_from_next (b ∷ more) x next =
    let breaks = b ∷ more in
    let last = get_or breaks (length breaks - 1) b in
    let at = get_or_default breaks (length breaks - 1) b last (omega arith) in
    let less = (next.further (take (length breaks - 1) breaks) last
    (behind_others breaks last (omega arith) at)).1 in
    omega (arith, ints)

-- ---- the order

-- the places of f and of the breakpoints
abbrev pub places_of : BreakList → List Frac
places_of s = s.place ∷ map (λ b. b.x) s.breaks

-- the order and a denominator above 1,000 have no least common multiple up to 1,000
pub no_order_above : (order d m : ℕ) → 0 < order → 1000 < d → m ≤ 1000 → IsLcm order d m → ⊥
no_order_above order d m some large few lcm =
    let positive = lcm_positive order d m lcm some (omega arith) in
    let at_most = le_of_dvd positive lcm.1 in
    omega arith

-- two numbers have one least common multiple
pub lcm_at_most : (a b m n : ℕ) → 0 < a → 0 < b → IsLcm a b m → IsLcm a b n → n ≤ m
lcm_at_most a b m n a_some b_some h k =
    le_of_dvd (lcm_positive a b m h a_some b_some) (k.2 m h.0 h.1)

-- ---- one more breakpoint

-- the fractions of one more breakpoint
fractions_more : (breaks : List Break) (b : Break) →
    all_fractions (points_at (breaks ++ b ∷ [])) ≡ all_fractions (points_at breaks) ++ fractions_of
    (point_at b)
fractions_more breaks b =
    ap all_fractions (map-append point_at breaks (b ∷ []))
    ∙ flat_map-append fractions_of (points_at breaks) (point_at b ∷ [])

-- no breakpoints
pub breaks_of_none : (place : Frac) → IsInside place → unsigned_abs (denominator place) ≤ 1000 →
    AreBreaks (no_breaks place)
breaks_of_none place inside few =
    let d = unsigned_abs (denominator place) in
    record {
      inside = inside;
      order_is = record {
        common = All-one (Divides d) place (dvd_refl d);
        least = λ c all. All-head (Divides c) place [] all;
      };
      few = few;
      ascending = each_behind_none (λ front b. IsNextBreak front b.x);
      within = within_of_least [] 1 least_of_none;
    }

pub least_more : (breaks : List Break) (b : Break) (scale m : ℕ) →
    AreWithinBoundsOver (all_fractions (points_at breaks)) scale →
    ExtendsBy scale (fractions_of (point_at b)) m →
    AreWithinBoundsOver (all_fractions (points_at (breaks ++ b ∷ []))) m
least_more breaks b scale m least more =
    subst (λ xs. AreWithinBoundsOver xs m) (sym (fractions_more breaks b))
    (more (all_fractions (points_at breaks)) least)

-- a breakpoint that passes all tests follows
pub follows : (s : BreakList) (b : Break) (order scale m : ℕ) → IsNextBreak s.breaks b.x →
    order ≤ 1000 →
    IsLcm s.order (unsigned_abs (denominator b.x)) order →
    AreWithinBoundsOver (all_fractions (points_at s.breaks)) scale →
    ExtendsBy scale (fractions_of (point_at b)) m →
    Follows s b (record { place = s.place; order = order; breaks = s.breaks ++ b ∷ [] })
follows s b order scale m next few lcm least more = record {
  next = next;
  place_is = refl;
  order_is = lcm;
  few = few;
  breaks_are = refl;
  within = within_of_least _ m (least_more s.breaks b scale m least more);
}

-- breakpoints with one that follows
pub breaks_more : (s : BreakList) (b : Break) (order : ℕ) → AreBreaks s →
    Follows s b (record { place = s.place; order = order; breaks = s.breaks ++ b ∷ [] }) →
    AreBreaks (record { place = s.place; order = order; breaks = s.breaks ++ b ∷ [] })
breaks_more s b order are h = record {
  inside = are.inside;
  order_is = subst (λ xs. IsLeastCommonDenominator (s.place ∷ xs) order)
      (sym (map-append (λ c. c.x) s.breaks (b ∷ [])))
      (least_common_more (places_of s) b.x s.order order are.order_is h.order_is);
  few = h.few;
  ascending = each_behind_more (λ front c. IsNextBreak front c.x) s.breaks b are.ascending h.next;
  within = h.within;
}

-- a breakpoint with a fraction that is refused cannot follow
pub break_refused : (s : BreakList) (b : Break) (scale : ℕ) (e : FractionFault) →
    IsNextBreak s.breaks b.x →
    HasOrderWith s b.x → AreWithinBoundsOver (all_fractions (points_at s.breaks)) scale →
    IsRefusedBehind scale (fractions_of (point_at b)) e → IsBreakFault s b (break_fault e)
break_refused s b scale Large next order least refused =
    (next, order, refused (all_fractions (points_at s.breaks)) least)
break_refused s b scale Fine next order least refused =
    (next, order, refused (all_fractions (points_at s.breaks)) least)

-- ---- the grid

pub order_some : (s : BreakList) → AreBreaks s → 0 < s.order
order_some s are = least_common_some (places_of s) s.order are.order_is

pub place_divides : (s : BreakList) → AreBreaks s → Divides s.order s.place
place_divides s are =
    All-head (Divides s.order) s.place (map (λ b. b.x) s.breaks) are.order_is.common

pub order_fits : (s : BreakList) → AreBreaks s → IsOrder s.order
order_fits s are =
    let inside = are.inside in
    let at_most = le_of_dvd (order_some s are) (place_divides s are) in
    (omega (arith, ints), are.few)

-- k/order is a fraction between 0 and 1 if n/d is
place_within : (n d : ℤ) (order : ℕ) → 0 < order → pos 0 <ℤ n → n <ℤ d → unsigned_abs d ∣ order →
    (pos 0 <ℤ (n *ℤ pos (order / unsigned_abs d)))
    × ((n *ℤ pos (order / unsigned_abs d)) <ℤ pos order)
place_within n d order some positive below divides =
    let c = order / unsigned_abs d in
    let whole : unsigned_abs d * c ≡ order = mul-div_cancel' (unsigned_abs d) divides in
    let no : c ≡ 0 → ⊥ = λ z. let none = ap (λ m. unsigned_abs d * m) z in omega arith in
    let c_some : pos 0 <ℤ pos c = omega (arith, ints, no) in
    let d_is : pos (unsigned_abs d) ≡ d = pos_abs_z d (omega (arith, ints)) in
    let less = mul_lt_mul_right_z n d (pos c) c_some below in
    let all : d *ℤ pos c ≡ pos order = ap (λ z. z *ℤ pos c) (sym d_is) ∙ ap pos whole in
    (mul_positive_z n (pos c) positive c_some, subst (λ z. (n *ℤ pos c) <ℤ z) all less)

pub place_over : (s : BreakList) → AreBreaks s →
    (pos 0 <ℤ numerator_over s.order s.place) × (numerator_over s.order s.place <ℤ pos s.order)
place_over s are =
    place_within (numerator s.place) (denominator s.place) s.order
    (order_some s are) are.inside.0 are.inside.1
    (place_divides s are)

-- f is k/order
pub place_ratio : (s : BreakList) → AreBreaks s →
    IsRatio s.place (pos (unsigned_abs (numerator_over s.order s.place))) (pos s.order)
place_ratio s are =
    let over = place_over s are in
    subst (λ z. IsRatio s.place z (pos s.order))
    (sym (pos_abs_z (numerator_over s.order s.place) (omega (arith, ints))))
    (over_scale s.order s.place (place_divides s are))

-- what is greater than a fraction that is not negative is not negative
nonnegative_above : (n d m e : ℤ) → pos 0 ≤ℤ n → pos 0 <ℤ d → pos 0 <ℤ e → (n *ℤ e) <ℤ (m *ℤ d) →
    pos 0 ≤ℤ m
nonnegative_above n d m e low d_some e_some less =
    let left = mul_nonnegative_z n e low (omega (arith, ints)) in
    let above = mul_lt_cancel_right_z (pos 0) m d d_some (omega (arith, ints)) in
    omega (arith, ints)

-- no breakpoint lies below 0
pub breaks_nonnegative : (breaks : List Break) → AreAscending breaks →
    (front : List Break) (b : Break) (back : List Break) → breaks ≡ front ++ b ∷ back →
    pos 0 ≤ℤ numerator b.x
breaks_nonnegative breaks ascending =
    along_behind (λ (b : Break). pos 0 ≤ℤ numerator b.x) breaks
    (λ b back e. let zero_is = (ascending [] b back e).first refl in omega (arith, ints))
    (λ front b c back e low.
    let split = e ∙ sym (append_assoc front (b ∷ []) (c ∷ back)) in
    let less = (ascending (front ++ b ∷ []) c back split).further front b refl in
    nonnegative_above (numerator b.x) (denominator b.x) (numerator c.x)
    (denominator c.x) low b.x.lowest.positive
    c.x.lowest.positive less.0)

-- they lie on the grid of the order
pub breaks_on_grid : (s : BreakList) → AreBreaks s → AreOnGrid s.order s.breaks
breaks_on_grid s are front b back e =
    let low = breaks_nonnegative s.breaks are.ascending front b back e in
    let places = All-tail (Divides s.order) s.place (map (λ c. c.x) s.breaks) are.order_is.common in
    let split : map (λ c. c.x) s.breaks ≡ map (λ c. c.x) front ++ b.x ∷ map (λ c. c.x) back =
    ap (map (λ c. c.x)) e ∙ map-append (λ c. c.x) front (b ∷ back) in
    let divides : Divides s.order b.x =
    All-head (Divides s.order) b.x (map (λ c. c.x) back)
    (All-back (Divides s.order) (map (λ c. c.x) front) (b.x ∷ map (λ c. c.x) back)
    (subst (λ xs. IsCommonDenominator xs s.order) split places)) in
    let positive = mul_nonnegative_z (numerator b.x)
    (pos (s.order / unsigned_abs (denominator b.x))) low (omega (arith, ints)) in (
      unsigned_abs (numerator_over s.order b.x),
      subst (λ z. IsRatio b.x z (pos s.order))
          (sym (pos_abs_z (numerator_over s.order b.x) positive)) (over_scale s.order b.x divides),
    )
