-- Functions by their breakpoints, at any fractions (Light on the Infinite Group Relaxation I; the
-- limits are own).
use Rattle.std.specs.Prelude.{ℕ, pos, ◌≡◌, ◌+◌, ◌-◌, ◌*◌, ◌<◌, ◌≤◌, ◌+ℤ◌, ◌*ℤ◌, List, [], ◌∷◌, ◌++◌, length, map, slice_index_or, unsigned_abs}
use Rattle.gj_lemmas.specs.Divisors.{IsLcm}
use Rattle.gj_frac.specs.declared.Frac.{Frac}
use Rattle.gj_frac.specs.Fraction.{Fraction, SameValue, LessValue, fraction_of, numerator, denominator, IsRatio, IsInside}
use Rattle.gj_shape.specs.Limits.{greatest_order}
use Rattle.gj_shape.specs.FunctionData.{FunctionData}
use Rattle.gj_shape.specs.Table.{table}
use Rattle.gj_shape.specs.Given.{AreWithinBounds, IsGivenBy, IsTooFine, IsLeastCommonDenominator}
use Rattle.gj_shape.specs.Points.{lefts, values, rights, all_fractions, IsPointAt, IsPointFault}
use Rattle.gj_shape.specs.declared.faults.FractionFault.{FractionFault}
use Rattle.gj_shape.specs.declared.faults.FractionFault.TheVariants as refusal
use Rattle.gj_shape.specs.declared.points.Point.{Point}
use Rattle.gj_shape.specs.declared.points.PointFault.TheVariants.{Large, Fine}
use Rattle.gj_shape.specs.declared.breaks.Break.{Break}
use Rattle.gj_shape.specs.declared.breaks.BreakFault.{BreakFault}
use Rattle.gj_shape.specs.declared.breaks.BreakFault.TheVariants as fault

-- the limits and the value at a breakpoint
abbrev pub point_at : Break → Point
point_at b = record { left = b.left; value = b.value; right = b.right }

abbrev pub points_at : List Break → List Point
points_at breaks = map point_at breaks

-- ---- which breakpoints

-- x can stand behind the breakpoints: the first x is 0, and each further one greater than the one
-- before and below 1
pub record IsNextBreak (breaks : List Break) (x : Frac) : Type 0 where
  pub first : breaks ≡ [] → numerator x ≡ pos 0
  pub further : (front : List Break) (b : Break) → breaks ≡ front ++ b ∷ [] →
      LessValue (fraction_of b.x) (fraction_of x)
      × LessValue (fraction_of x) (record { top = pos 1; bottom = pos 1 })

-- each breakpoint can stand behind those before it
abbrev pub AreAscending : List Break → Type 0
AreAscending breaks = (front : List Break) (b : Break) (back : List Break) →
    breaks ≡ front ++ b ∷ back → IsNextBreak front b.x

-- each breakpoint is a multiple of 1/q
abbrev pub AreOnGrid : ℕ → List Break → Type 0
AreOnGrid q breaks = (front : List Break) (b : Break) (back : List Break) →
    breaks ≡ front ++ b ∷ back →
    (p : ℕ) × IsRatio b.x (pos p) (pos q)

-- ---- which function

-- what the line from (0, u) to (n, w) has at r, for r up to n
abbrev pub on_line : Frac → Frac → ℕ → ℕ → Fraction
on_line u w n r = record {
  top = numerator u *ℤ denominator w *ℤ pos (n - r) +ℤ numerator w *ℤ denominator u *ℤ pos r;
  bottom = denominator u *ℤ denominator w *ℤ pos n;
}

-- from p/order to n/order behind it the function goes along the line from u to w: at each fraction
-- strictly between the two its value is that of the line
abbrev pub IsAffineBetween : FunctionData → ℕ → ℕ → Frac → Frac → Type 0
IsAffineBetween f p n u w = (m r : ℕ) → 0 < m → 0 < r → r < n * m →
    SameValue (record { top = table f m (p * m + r); bottom = pos (f.scale * m) })
    (on_line u w (n * m) r)

-- the function has the breakpoints: at each of them its limits and its value; between neighbouring
-- ones it goes along the line from the limit from the right of the one to the limit from the left
-- of the next, and behind the last one to the limit from the left of the first one, a period on
pub record HasBreaks (f : FunctionData) (breaks : List Break) : Type 0 where
  pub at_breaks : (front : List Break) (b : Break) (back : List Break) →
      breaks ≡ front ++ b ∷ back →
      (p : ℕ) × (p < f.order) × IsRatio b.x (pos p) (pos f.order) × IsPointAt f p (point_at b)
  pub between : (front : List Break) (b c : Break) (back : List Break) (p n : ℕ) →
      breaks ≡ front ++ b ∷ c ∷ back →
      IsRatio b.x (pos p) (pos f.order) → IsRatio c.x (pos (p + n)) (pos f.order) →
      IsAffineBetween f p n b.right c.left
  pub last : (front : List Break) (b c : Break) (back : List Break) (p n : ℕ) →
      breaks ≡ front ++ b ∷ [] → breaks ≡ c ∷ back →
      IsRatio b.x (pos p) (pos f.order) → p + n ≡ f.order → IsAffineBetween f p n b.right c.left

-- ---- its points on the grid

-- a point whose limits are its value
abbrev pub even : Frac → Point
even x = record { left = x; value = x; right = x }

-- the points on the line from u to w, n steps long, one a step, without its two ends
pub record IsStraightLine (u w : Frac) (n : ℕ) (between : List Frac) : Type 0 where
  pub count : length between + 1 ≡ n
  pub on : (i : ℕ) (x : Frac) → i < length between →
      SameValue (fraction_of (slice_index_or between i x)) (on_line u w n (i + 1))

-- the points of the grid from a breakpoint on, up to where the line from its limit from the right
-- arrives, n steps on, at w: its own, and those on the line
pub record IsPiece (b : Break) (w : Frac) (n : ℕ) (points : List Point) : Type 0 where
  pub between : List Frac
  pub line : IsStraightLine b.right w n between
  pub points_are : points ≡ point_at b ∷ map even between

-- the points of the grid of order q from the first breakpoint on; behind the last one the function
-- goes to w at 1
pub data AreLaid (q : ℕ) (w : Frac) : List Break → List Point → Type 0 where
  last : (b : Break) (p n : ℕ) (points : List Point) → IsRatio b.x (pos p) (pos q) → p + n ≡ q →
      IsPiece b w n points →
      AreLaid q w (b ∷ []) points
  onward : (b c : Break) (more : List Break) (p n : ℕ) (points rest : List Point) →
      IsRatio b.x (pos p) (pos q) →
      IsRatio c.x (pos (p + n)) (pos q) → IsPiece b c.left n points → AreLaid q w (c ∷ more) rest →
      AreLaid q w (b ∷ c ∷ more) (points ++ rest)

-- all points of the grid of order q
pub record AreGridPoints (q : ℕ) (breaks : List Break) (points : List Point) : Type 0 where
  pub first : Break
  pub more : List Break
  pub breaks_are : breaks ≡ first ∷ more
  pub laid : AreLaid q first.left breaks points

-- the function of this order and place with these breakpoints
abbrev pub IsGivenByBreaks : ℕ → ℕ → List Break → FunctionData → Type 0
IsGivenByBreaks q k breaks f =
    (points : List Point) × AreGridPoints q breaks points
    × IsGivenBy q k (lefts points) (values points) (rights points) f

-- three lists are those of the points of the grid
abbrev pub AreListsOfBreaks : ℕ → List Break → List Frac → List Frac → List Frac → Type 0
AreListsOfBreaks q breaks left value right =
    (points : List Point) × AreGridPoints q breaks points × (left ≡ lefts points)
    × (value ≡ values points) × (right ≡ rights points)

-- the fractions at the points of the grid have no common denominator up to 2^31 - 1
abbrev pub AreTooFine : ℕ → List Break → Type 0
AreTooFine q breaks = (points : List Point) × (i : ℕ) × AreGridPoints q breaks points
    × IsTooFine (lefts points) (values points) (rights points) i

-- ---- breakpoints that come one after another

-- f, the breakpoints so far, and the least common multiple of the denominators of f and of all x
pub record BreakList : Type 0 where
  pub place : Frac
  pub order : ℕ
  pub breaks : List Break

-- f alone
abbrev pub no_breaks : Frac → BreakList
no_breaks place = record { place = place; order = unsigned_abs (denominator place); breaks = [] }

-- the order is still at most 1,000 with a further denominator
abbrev pub HasOrderWith : BreakList → Frac → Type 0
HasOrderWith s x = (m : ℕ) × (m ≤ greatest_order) × IsLcm s.order (unsigned_abs (denominator x)) m

-- t is s with the breakpoint b behind the others
pub record Follows (s : BreakList) (b : Break) (t : BreakList) : Type 0 where
  pub next : IsNextBreak s.breaks b.x
  pub place_is : t.place ≡ s.place
  pub order_is : IsLcm s.order (unsigned_abs (denominator b.x)) t.order
  pub few : t.order ≤ greatest_order
  pub breaks_are : t.breaks ≡ s.breaks ++ b ∷ []
  pub within : AreWithinBounds (all_fractions (points_at t.breaks))

-- why b cannot follow: the first test that fails
abbrev pub IsBreakFault : BreakList → Break → BreakFault → Type 0
IsBreakFault s b fault.Break = IsNextBreak s.breaks b.x → ⊥
IsBreakFault s b fault.Pieces = IsNextBreak s.breaks b.x × (HasOrderWith s b.x → ⊥)
IsBreakFault s b fault.Large = IsNextBreak s.breaks b.x × HasOrderWith s b.x
    × IsPointFault (points_at s.breaks) (point_at b) Large
IsBreakFault s b fault.Fine = IsNextBreak s.breaks b.x × HasOrderWith s b.x
    × IsPointFault (points_at s.breaks) (point_at b) Fine
IsBreakFault s b (fault.Memory e) = Unit {0}

-- the fault of a breakpoint with a fraction at fault
abbrev pub break_fault : FractionFault → BreakFault
break_fault refusal.Large = fault.Large
break_fault refusal.Fine = fault.Fine

-- what holds of breakpoints that came so
pub record AreBreaks (s : BreakList) : Type 0 where
  pub inside : IsInside s.place
  pub order_is : IsLeastCommonDenominator (s.place ∷ map (λ b. b.x) s.breaks) s.order
  pub few : s.order ≤ greatest_order
  pub ascending : AreAscending s.breaks
  pub within : AreWithinBounds (all_fractions (points_at s.breaks))

-- the function that the list tells, with f as its place
abbrev pub IsOfBreaks : BreakList → FunctionData → Type 0
IsOfBreaks s f = (k : ℕ) × IsRatio s.place (pos k) (pos s.order)
    × IsGivenByBreaks s.order k s.breaks f
