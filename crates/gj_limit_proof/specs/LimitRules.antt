-- What the checker demands of a claim about a function that jumps, rule by rule (own).
use Rattle.std.specs.Prelude.{ℕ, ℤ, pos, ◌≡◌, ◌≢◌, ◌⊎◌, ◌*◌, ◌+◌, ◌+ℤ◌, ◌*ℤ◌, ◌≤ℤ◌, List, [], ◌∷◌, ◌++◌, All, length, map}
use Rattle.std.specs.List.{range_with_len}
use Rattle.gj_shape.specs.Cover.{HasCoverLine, components_in}
use Rattle.gj_shape.specs.Elimination.{KeptRow}
use Rattle.gj_shape.specs.FunctionData.{FunctionData, at}
use Rattle.gj_shape.specs.FirstViolation.{PassesAll}
use Rattle.gj_shape.specs.Refinement.{refined}
use Rattle.gj_shape.specs.declared.extremality.CoverLine.{CoverLine}
use Rattle.gj_shape.specs.declared.extremality.LimitHalves.{LimitHalves}
use Rattle.gj_shape.specs.declared.extremality.SideNumbers.{SideNumbers}
use Rattle.gj_theory.specs.TriangularRows.{present_row_by}
use Rattle.gj_jumps.specs.LimitCover.{IsTightAt}
use Rattle.gj_limit_cover.specs.LimitCover.{Joins, Covers}
use Rattle.gj_limit_system.specs.LimitSlacks.{limits_in, slack_at}
use Rattle.gj_limit_system.specs.Unknowns.{columns_for}
use Rattle.gj_limit_system.specs.declared.limit_row.LimitRow.{LimitRow}
use Rattle.gj_limit_system.specs.declared.limit_row.LimitRow.TheVariants.{F, Tight}
use Rattle.gj_proof.specs.PresentRows.{arithmetic_of, AreNumbersOf}
use Rattle.gj_proof.specs.Rules.{Demand, AtIndex, MeetsReduce, MeetsSize, MeetsPivotBy, step_demands_by, pair_demands}
use Rattle.gj_proof.specs.Rules.Demand.{minimal, cover, row, reduce, size, pivot, rank, scale, range, average, first, second, same}
use Rattle.gj_proof.specs.declared.numbers.Numbers.{Numbers}
use Rattle.gj_limit_proof.specs.LimitMeaning.{half_of}
use Rattle.gj_limit_proof.specs.LimitRowsKept.{begun_row, rows_before_by}
use Rattle.gj_limit_proof.specs.LimitText.{function_of, triple_at}
use Rattle.gj_limit_proof.specs.declared.claim.LimitClaim.{LimitClaim}
use Rattle.gj_limit_proof.specs.declared.claim.LimitClaim.TheVariants.{Extreme, NotExtreme}
use Rattle.gj_limit_proof.specs.declared.claim.LimitPivotRow.{LimitPivotRow}
use Rattle.gj_limit_proof.specs.declared.triple.Triple.{Triple}

-- ---- the rules of an extreme function

-- the rule `cover`, of the line behind those before it: its interval has no line yet. If the line
-- opens a component its face is a triangle with slack 0 that projects on the interval, and else an
-- edge of it, at both ends of which the slack tends to 0 from inside it, joins the interval to one
-- that has a line
pub record MeetsLimitCover (f : FunctionData) (before : List CoverLine) (l : CoverLine) :
    Type 0 where
  pub new : HasCoverLine before l.interval → ⊥
  pub opening : l.from ≡ l.interval →
      Covers f.order (IsTightAt f) l.face.kind l.face.a l.face.b l.interval
  pub earlier : l.from ≢ l.interval → HasCoverLine before l.from
  pub joining : l.from ≢ l.interval →
      Joins f.order (IsTightAt f) l.face.kind l.face.a l.face.b l.interval l.from

-- the rule `row`: the limit that names a row is 0
abbrev pub MeetsLimitRow : FunctionData → LimitRow → Type 0
MeetsLimitRow f F = Unit {0}
MeetsLimitRow f (Tight kind corner a b) = slack_at (limits_in f) kind corner a b ≡ pos 0

-- ---- the rules of halves

-- the rule `scale`: the order is m times the function's for some m, and the scale a multiple of m
-- times the function's
abbrev pub MeetsLimitScale : FunctionData → LimitHalves → Type 0
MeetsLimitScale f h = (m : ℕ) × (c : ℕ) × (h.order ≡ f.order * m)
    × (h.scale ≡ pos (c * (f.scale * m)))

-- the three numbers lie from 0 to the scale
pub record AreWithinScale (scale : ℤ) (t : Triple) : Type 0 where
  pub left_low : pos 0 ≤ℤ t.left
  pub left_high : t.left ≤ℤ scale
  pub value_low : pos 0 ≤ℤ t.value
  pub value_high : t.value ≤ℤ scale
  pub right_low : pos 0 ≤ℤ t.right
  pub right_high : t.right ≤ℤ scale

-- the rule `range`: all numbers of both halves do
abbrev pub MeetsLimitRange : LimitHalves → ℕ → Type 0
MeetsLimitRange h i = AreWithinScale h.scale (triple_at h.first i)
    × AreWithinScale h.scale (triple_at h.second i)

-- the rule `average`: half the sums of both are the value and the limits of the function, over the
-- scale
pub record MeetsLimitAverage (f : FunctionData) (h : LimitHalves) (i : ℕ) : Type 0 where
  pub left : (m c : ℕ) → h.order ≡ f.order * m → h.scale ≡ pos (c * (f.scale * m)) →
      at h.first.left i +ℤ at h.second.left i ≡ pos (2 * c) *ℤ refined f f.left m i
  pub value : (m c : ℕ) → h.order ≡ f.order * m → h.scale ≡ pos (c * (f.scale * m)) →
      at h.first.value i +ℤ at h.second.value i ≡ pos (2 * c) *ℤ refined f f.value m i
  pub right : (m c : ℕ) → h.order ≡ f.order * m → h.scale ≡ pos (c * (f.scale * m)) →
      at h.first.right i +ℤ at h.second.right i ≡ pos (2 * c) *ℤ refined f f.right m i

-- the rules `first` and `second`: the half, with the function's place of f, passes all tests of
-- minimality
abbrev pub PassesAsHalf : FunctionData → LimitHalves → SideNumbers → Type 0
PassesAsHalf f h s = (m : ℕ) → h.order ≡ f.order * m → PassesAll (half_of f m h s)

-- the rule `same`: some number of the one is not that of the other
abbrev pub MeetsLimitSame : LimitHalves → Type 0
MeetsLimitSame h =
    (i : ℕ) × ((at h.first.left i ≢ at h.second.left i) ⊎ (at h.first.value i ≢ at h.second.value i)
    ⊎ (at h.first.right i ≢ at h.second.right i))

-- ---- the demands of a claim

-- those on groups, from the g-th on
abbrev pub group_demands_by : Numbers → ℕ → List LimitPivotRow → List Demand
group_demands_by numbers g [] = []
group_demands_by numbers g (one ∷ more) =
    row g ∷ step_demands_by numbers g 0 one.reduce ++ pivot g ∷ group_demands_by numbers
    (g + 1) more

-- those of a claim, in the order in which they are tested
abbrev pub demands_of : LimitClaim → List Demand
demands_of (Extreme numbers f lines rows) =
    minimal ∷ map cover (range_with_len 0 (length lines)) ++ group_demands_by numbers 0 rows ++ rank
    ∷ []
demands_of (NotExtreme f h) =
    minimal ∷ scale ∷ pair_demands (range_with_len 0 h.order) ++ first ∷ second ∷ same ∷ []

-- a claim that a function is extreme has a property of its parts
abbrev pub IfExtreme : LimitClaim →
    (Numbers → FunctionData → List CoverLine → List LimitPivotRow → Type 0) → Type 0
IfExtreme (Extreme numbers f lines rows) P = P numbers f lines rows
IfExtreme (NotExtreme f h) P = Unit {0}

-- a claim that a function is not extreme has a property of the function and its halves
abbrev pub IfHalves : LimitClaim → (FunctionData → LimitHalves → Type 0) → Type 0
IfHalves (Extreme numbers f lines rows) P = Unit {0}
IfHalves (NotExtreme f h) P = P f h

-- the g-th group has a property: of the number of columns, the rows that the groups before it keep,
-- and the row that it begins with, with these numbers of the components of intervals, below n
abbrev pub IfGroupOf : Numbers → FunctionData → (ℕ → ℕ) → ℕ → List LimitPivotRow → ℕ →
    (List KeptRow → List ℤ → LimitPivotRow → Type 0) → Type 0
IfGroupOf numbers f component n rows g P =
    AtIndex rows g (λ before one.
    P (rows_before_by (arithmetic_of numbers) f component n before)
    (begun_row (arithmetic_of numbers) f component n one.name) one)

-- the same by any numbers of the components of all intervals. If there are no such numbers it
-- demands nothing; but there are, if the claim has a text and its lines meet the rule `cover`, since
-- then each interval has a line
abbrev pub IfGroup : LimitClaim → ℕ →
    (Numbers → ℕ → List KeptRow → List ℤ → LimitPivotRow → Type 0) → Type 0
IfGroup c g P = IfExtreme c (λ numbers f lines rows.
    (component : ℕ → ℕ) → AreNumbersOf f lines component →
    IfGroupOf numbers f component (columns_for f.order (components_in lines)) rows g
    (P numbers (columns_for f.order (components_in lines))))

-- the r-th step of the g-th group has a property: of the rows kept before, the row before the step,
-- and the column
abbrev pub IfStep : LimitClaim → ℕ → ℕ → (List KeptRow → List ℤ → ℕ → Type 0) → Type 0
IfStep c g r P = IfGroup c g (λ numbers n kept begun one. AtIndex one.reduce r (λ before column.
    P kept (present_row_by (arithmetic_of numbers) kept begun before) column))

-- what a demand says of the claim
abbrev pub DemandHolds : LimitClaim → Demand → Type 0
DemandHolds c minimal = PassesAll (function_of c)
DemandHolds c (cover i) = IfExtreme c (λ numbers f lines rows. AtIndex lines i (MeetsLimitCover f))
DemandHolds c (row g) =
    IfExtreme c (λ numbers f lines rows. AtIndex rows g (λ before one. MeetsLimitRow f one.name))
DemandHolds c (reduce g r) = IfStep c g r MeetsReduce
DemandHolds c (size g r) = IfStep c g r MeetsSize
DemandHolds c (pivot g) = IfGroup c g (λ numbers n kept begun one.
    MeetsPivotBy numbers n kept (present_row_by (arithmetic_of numbers) kept begun one.reduce)
    one.pivot)
DemandHolds c rank =
    IfExtreme c (λ numbers f lines rows. length rows ≡ columns_for f.order (components_in lines))
DemandHolds c scale = IfHalves c MeetsLimitScale
DemandHolds c (range i) = IfHalves c (λ f h. MeetsLimitRange h i)
DemandHolds c (average i) = IfHalves c (λ f h. MeetsLimitAverage f h i)
DemandHolds c first = IfHalves c (λ f h. PassesAsHalf f h h.first)
DemandHolds c second = IfHalves c (λ f h. PassesAsHalf f h h.second)
DemandHolds c same = IfHalves c (λ f h. MeetsLimitSame h)
DemandHolds c _ = Unit {0}

-- every rule holds
abbrev pub MeetsLimitRules : LimitClaim → Type 0
MeetsLimitRules c = All (DemandHolds c) (demands_of c)
