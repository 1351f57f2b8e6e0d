-- What the checker demands of a claim, rule by rule (own).
use Rattle.std.specs.Prelude.{ℕ, ℤ, pos, ◌≡◌, ◌≢◌, ◌+◌, ◌*◌, ◌<◌, ◌≤◌, ◌^◌, ◌+ℤ◌, ◌*ℤ◌, ◌≤ℤ◌, ◌<ℤ◌, List, [], ◌∷◌, ◌++◌, All, Any, length, map, unsigned_abs}
use Rattle.std.specs.List.{range_with_len}
use Rattle.gj_frac.specs.declared.Frac.{Frac}
use Rattle.gj_frac.specs.Floor.{HasFractionalPart}
use Rattle.gj_frac.specs.Fraction.{numerator, denominator, IsWhole}
use Rattle.gj_lemmas.specs.Divisors.{gcd_of}
use Rattle.gj_shape.specs.Cover.{components_in}
use Rattle.gj_shape.specs.Additive.{IsTight}
use Rattle.gj_shape.specs.Elimination.{KeptRow, at_column, entries_of, row_with_pivot, marked_in_step, Passes}
use Rattle.gj_shape.specs.FunctionData.{FunctionData, at, IsContinuous}
use Rattle.gj_shape.specs.Limits.{IsSmallNumber}
use Rattle.gj_shape.specs.Given.{IsCommonDenominator, HasCommonDenominator}
use Rattle.gj_shape.specs.FirstViolation.{PassesAll}
use Rattle.gj_shape.specs.Table.{table, IsMinimalTable}
use Rattle.gj_shape.specs.Values.{IsValueAt}
use Rattle.gj_shape.specs.Violation.{ShowsViolation}
use Rattle.gj_shape.specs.declared.extremality.CoverLine.{CoverLine}
use Rattle.gj_shape.specs.declared.extremality.Halves.{Halves}
use Rattle.gj_shape.specs.declared.extremality.RowName.{RowName}
use Rattle.gj_shape.specs.declared.extremality.RowName.TheVariants.{Period, F, Pair}
use Rattle.gj_shape.specs.declared.violations.Violation.{Violation}
use Rattle.gj_shape.specs.declared.violations.Violation.TheVariants as violation
use Rattle.gj_theory.specs.CoverRules.{MeetsCoverRule}
use Rattle.gj_theory.specs.Cuts.{IsGmicValue}
use Rattle.gj_theory.specs.Modulus.{modulus}
use Rattle.gj_theory.specs.TriangularRows.{present_row_by}
use Rattle.gj_proof.specs.PresentRows.{arithmetic_of, AreNumbersOf, begun_row, rows_before_by}
use Rattle.gj_proof.specs.ProofText.{ProofLine, subject_of, numbers_of, IfFunction}
use Rattle.gj_proof.specs.ProofText.ProofLine.{claim, violation_shown, cut, term, covered, group, reduction, group_pivot, halves, pair, last}
use Rattle.gj_proof.specs.declared.claim.Claim.{Claim}
use Rattle.gj_proof.specs.declared.claim.Claim.TheVariants.{Minimal, NotMinimal, Cut, Extreme, ExtremeByResidues, NotExtreme}
use Rattle.gj_proof.specs.declared.cut.CutRule.{CutRule}
use Rattle.gj_proof.specs.declared.cut.CutRule.TheVariants.{Gmic, Table}
use Rattle.gj_proof.specs.declared.cut.CutLine.{CutLine}
use Rattle.gj_proof.specs.declared.cut.CutLine.TheVariants as cuts
use Rattle.gj_proof.specs.declared.cut.CutTerm.{CutTerm}
use Rattle.gj_proof.specs.declared.cut.SkipReason.TheVariants.{Integral, Other}
use Rattle.gj_proof.specs.declared.numbers.Numbers.{Numbers}
use Rattle.gj_proof.specs.declared.numbers.Numbers.TheVariants.{Whole, Residues}
use Rattle.gj_proof.specs.declared.pivot.PivotRow.{PivotRow}

-- the coordinates of the points of a violation
abbrev pub coordinates_of : Violation → List Frac
coordinates_of violation.Zero = []
coordinates_of (violation.Negative x) = x ∷ []
coordinates_of (violation.Asymmetric x) = x ∷ []
coordinates_of (violation.Superadditive x y) = x ∷ y ∷ []

-- the fraction is at least 0 and below 1
pub record IsCoordinate (x : Frac) : Type 0 where
  pub not_negative : pos 0 ≤ℤ numerator x
  pub below_one : numerator x <ℤ denominator x

-- the fractions have a common denominator of at most 2^62
abbrev pub HasFineDenominator : List Frac → Type 0
HasFineDenominator xs = (d : ℕ) × (1 ≤ d) × (d ≤ 2 ^ 62) × IsCommonDenominator xs d

-- the rule `point`: the violation's points are coordinates with such a denominator, and it is shown
-- there
pub record MeetsPoint (f : FunctionData) (v : Violation) : Type 0 where
  pub coordinates : All IsCoordinate (coordinates_of v)
  pub common : HasFineDenominator (coordinates_of v)
  pub shown : ShowsViolation f v

-- ---- the rules of cuts

-- the rule `fraction`: a row with a cut has a right side with the fractional part f, and by the
-- rule of the mixed-integer cut one that is not whole; a row that is passed over has a whole one,
-- or, by a function, one that is not whole and has another fractional part
abbrev pub MeetsFraction : CutRule → CutLine → Type 0
MeetsFraction (Table f) (cuts.Cut name right terms) =
    HasFractionalPart right (pos f.place) (pos f.order)
MeetsFraction Gmic (cuts.Cut name right terms) = IsWhole right → ⊥
MeetsFraction rule (cuts.Skip name right Integral) = IsWhole right
MeetsFraction (Table f) (cuts.Skip name right Other) = (IsWhole right → ⊥)
    × (HasFractionalPart right (pos f.place) (pos f.order) → ⊥)
MeetsFraction Gmic (cuts.Skip name right Other) = ⊥

-- the rule `limit`: x is at most 2^31 in absolute value, and has a common denominator of at most
-- 2^31 - 1 with the fractions of its row that stand before it
pub record MeetsLimit (before : List Frac) (x : Frac) : Type 0 where
  pub small : IsSmallNumber x
  pub common : HasCommonDenominator (before ++ x ∷ [])

-- the rule `name`: the term's name is not that of the basic variable, nor of a term before it
pub record MeetsName (basic : List ℕ) (before : List CutTerm) (t : CutTerm) : Type 0 where
  pub not_basic : t.name ≢ basic
  pub new : All (λ u. u.name ≢ t.name) before

-- x is the coefficient of the mixed-integer cut at the entry: its value there for the fractional
-- part f of the right side
abbrev pub IsGmicCoefficient : Frac → Frac → Frac → Type 0
IsGmicCoefficient right entry x = (f : Frac) →
    HasFractionalPart right (numerator f) (denominator f) → IsGmicValue f entry x

-- the rule `value`: the coefficient of the term is the value of the rule at its entry
abbrev pub MeetsValue : CutRule → Frac → CutTerm → Type 0
MeetsValue (Table f) right t =
    IsValueAt f (numerator t.entry *ℤ pos f.order) (unsigned_abs (denominator t.entry)) t.cut
MeetsValue Gmic right t = IsGmicCoefficient right t.entry t.cut

-- ---- the rules of an extreme function

-- the rule `row`: a pair that names a row is tight
abbrev pub MeetsRow : FunctionData → RowName → Type 0
MeetsRow f Period = Unit {0}
MeetsRow f F = Unit {0}
MeetsRow f (Pair a b) = IsTight f a b

-- the rule `reduce`: an earlier group has its pivot at the column, and the present row is not 0
-- there
pub record MeetsReduce (kept : List KeptRow) (row : List ℤ) (c : ℕ) : Type 0 where
  pub pivot : Any (λ k. k.pivot ≡ c) kept
  pub not_zero : at_column row c ≢ pos 0

-- the rule `size`: none of the numbers that the step marks is above 2^127 - 1 in absolute value
abbrev pub MeetsSize : List KeptRow → List ℤ → ℕ → Type 0
MeetsSize kept row c = Passes (marked_in_step (entries_of (row_with_pivot kept c)) row c) → ⊥

-- the rule `pivot`: the column is one of n, no earlier group has its pivot there, and the present
-- row is 0 before it and not 0 there
pub record MeetsPivot (n : ℕ) (kept : List KeptRow) (row : List ℤ) (c : ℕ) : Type 0 where
  pub column : c < n
  pub new : All (λ k. k.pivot ≢ c) kept
  pub zero_before : (j : ℕ) → j < c → at_column row j ≡ pos 0
  pub not_zero : at_column row c ≢ pos 0

-- of residues it asks in addition that the greatest common divisor of the entry there with the
-- modulus is 1
abbrev pub MeetsPivotBy : Numbers → ℕ → List KeptRow → List ℤ → ℕ → Type 0
MeetsPivotBy Whole n kept row c = MeetsPivot n kept row c
MeetsPivotBy Residues n kept row c = MeetsPivot n kept row c
    × (gcd_of (unsigned_abs (at_column row c)) modulus ≡ 1)

-- ---- the rules of halves

-- the rule `scale`: the order is m times the function's for some m, and the scale a multiple of m
-- times the function's
abbrev pub MeetsScale : FunctionData → Halves → Type 0
MeetsScale f h = (m : ℕ) × (c : ℕ) × (h.order ≡ f.order * m) × (h.scale ≡ pos (c * (f.scale * m)))

-- the rule `range`: both values lie from 0 to the scale
pub record MeetsRange (h : Halves) (i : ℕ) : Type 0 where
  pub first_low : pos 0 ≤ℤ at h.first i
  pub first_high : at h.first i ≤ℤ h.scale
  pub second_low : pos 0 ≤ℤ at h.second i
  pub second_high : at h.second i ≤ℤ h.scale

-- the rule `average`: half the sum of both values is the function's, over the scale
abbrev pub MeetsAverage : FunctionData → Halves → ℕ → Type 0
MeetsAverage f h i = (m c : ℕ) → h.order ≡ f.order * m → h.scale ≡ pos (c * (f.scale * m)) →
    at h.first i +ℤ at h.second i ≡ pos (2 * c) *ℤ table f m i

-- the rules `first` and `second`: the table of these values is minimal, with the function's place
-- of f
abbrev pub IsMinimalHalf : FunctionData → Halves → List ℤ → Type 0
IsMinimalHalf f h values = (m : ℕ) → h.order ≡ f.order * m →
    IsMinimalTable (at values) h.order (f.place * m) (unsigned_abs h.scale)

-- the rule `same`: some values differ
abbrev pub MeetsSame : Halves → Type 0
MeetsSame h = (i : ℕ) × (at h.first i ≢ at h.second i)

-- ---- the demands of a claim

-- a rule, at the place of a claim where it is asked for
pub data Demand : Type 0 where
  -- the function of the claim is minimal
  minimal : Demand
  -- its violation is shown
  point : Demand
  -- the right side of the i-th row has the fractional part that the line asks for
  fraction : ℕ → Demand
  -- the right side of the i-th row is within the limits
  limit : ℕ → Demand
  -- the entry of the j-th term of the i-th row is within the limits, its name is new, and its
  -- coefficient is the rule's value
  term_limit : ℕ → ℕ → Demand
  term_name : ℕ → ℕ → Demand
  term_value : ℕ → ℕ → Demand
  -- the function is continuous
  continuous : Demand
  -- the i-th line of a covered interval meets the rule behind those before it
  cover : ℕ → Demand
  -- the pair of the g-th group is tight
  row : ℕ → Demand
  -- the r-th step of the g-th group is possible, and its numbers are not too wide
  reduce : ℕ → ℕ → Demand
  size : ℕ → ℕ → Demand
  -- the g-th group has a new pivot
  pivot : ℕ → Demand
  -- there are as many groups as components
  rank : Demand
  -- the order and the scale of the halves go with the function
  scale : Demand
  -- the i-th values lie from 0 to the scale, and the function's is their average
  range : ℕ → Demand
  average : ℕ → Demand
  -- both halves are minimal, and they are not the same
  first : Demand
  second : Demand
  same : Demand

-- the demands on the rule of a claim about cuts
abbrev pub rule_demands : CutRule → List Demand
rule_demands (Table f) = minimal ∷ []
rule_demands Gmic = []

-- the demands on the j-th term of the i-th row, from the j-th on
abbrev pub term_demands : ℕ → ℕ → List CutTerm → List Demand
term_demands i j [] = []
term_demands i j (t ∷ terms) = term_limit i j ∷ term_name i j ∷ term_value i j ∷ term_demands i
    (j + 1) terms

-- the demands on the i-th row
abbrev pub row_demands : ℕ → CutLine → List Demand
row_demands i (cuts.Cut name right terms) = fraction i ∷ limit i ∷ term_demands i 0 terms
row_demands i (cuts.Skip name right reason) = fraction i ∷ []

-- the demands on all rows, from the i-th on
abbrev pub cut_demands : ℕ → List CutLine → List Demand
cut_demands i [] = []
cut_demands i (l ∷ more) = row_demands i l ++ cut_demands (i + 1) more

-- the demand on the size of the numbers of a step: of residues, none
abbrev pub size_demands : Numbers → ℕ → ℕ → List Demand
size_demands Whole g r = size g r ∷ []
size_demands Residues g r = []

-- the demands on the r-th step of the g-th group, from the r-th on
abbrev pub step_demands_by : Numbers → ℕ → ℕ → List ℕ → List Demand
step_demands_by numbers g r [] = []
step_demands_by numbers g r (c ∷ more) =
    reduce g r ∷ (size_demands numbers g r ++ step_demands_by numbers g (r + 1) more)

-- the demands on groups, from the g-th on
abbrev pub group_demands_by : Numbers → ℕ → List PivotRow → List Demand
group_demands_by numbers g [] = []
group_demands_by numbers g (one ∷ more) =
    row g ∷ step_demands_by numbers g 0 one.reduce ++ pivot g ∷ group_demands_by numbers
    (g + 1) more

-- the demands of a claim that a function is extreme, by rows of these numbers
abbrev pub extreme_demands : Numbers → List CoverLine → List PivotRow → List Demand
extreme_demands numbers lines rows =
    minimal ∷ continuous ∷ map cover (range_with_len 0 (length lines))
    ++ group_demands_by numbers 0 rows ++ rank ∷ []

-- the demands on pairs of values, from the i-th on
abbrev pub pair_demands : List ℕ → List Demand
pair_demands [] = []
pair_demands (i ∷ more) = range i ∷ average i ∷ pair_demands more

-- the demands of a claim, in the order in which they are tested
abbrev pub demands_of : Claim → List Demand
demands_of (Minimal f) = minimal ∷ []
demands_of (NotMinimal f v) = point ∷ []
demands_of (Cut rule rows) = rule_demands rule ++ cut_demands 0 rows
demands_of (Extreme f lines rows) = extreme_demands Whole lines rows
demands_of (ExtremeByResidues f lines rows) = extreme_demands Residues lines rows
demands_of (NotExtreme f h) =
    minimal ∷ continuous ∷ scale ∷ pair_demands (range_with_len 0 h.order) ++ first ∷ second ∷ same
    ∷ []

-- the line of the proof text with which a demand is written
abbrev pub line_of_demand : Demand → ProofLine
line_of_demand minimal = claim
line_of_demand point = violation_shown
line_of_demand (fraction i) = cut i
line_of_demand (limit i) = cut i
line_of_demand (term_limit i j) = term i j
line_of_demand (term_name i j) = term i j
line_of_demand (term_value i j) = term i j
line_of_demand continuous = claim
line_of_demand (cover i) = covered i
line_of_demand (row g) = group g
line_of_demand (reduce g r) = reduction g r
line_of_demand (size g r) = reduction g r
line_of_demand (pivot g) = group_pivot g
line_of_demand rank = last
line_of_demand scale = halves
line_of_demand (range i) = pair i
line_of_demand (average i) = pair i
line_of_demand first = halves
line_of_demand second = halves
line_of_demand same = halves

-- the violation of the claim, if it has one, meets the rule `point`
abbrev pub IsShown : Claim → Type 0
IsShown (Minimal f) = Unit {0}
IsShown (NotMinimal f v) = MeetsPoint f v
IsShown (Cut rule rows) = Unit {0}
IsShown (Extreme f lines rows) = Unit {0}
IsShown (ExtremeByResidues f lines rows) = Unit {0}
IsShown (NotExtreme f h) = Unit {0}

-- the i-th item of a list, if it has one, has a property behind those before it
abbrev pub AtIndex : {A : Type 0} → List A → ℕ → (List A → A → Type 0) → Type 0
AtIndex {A} items i P = (before : List A) (x : A) (after : List A) → items ≡ before ++ x ∷ after →
    length before ≡ i → P before x

-- the i-th row of a claim about cuts, if it has one, has a property by the claim's rule
abbrev pub IfRow : Claim → ℕ → (CutRule → CutLine → Type 0) → Type 0
IfRow (Minimal f) i P = Unit {0}
IfRow (NotMinimal f v) i P = Unit {0}
IfRow (Cut rule rows) i P = AtIndex rows i (λ before l. P rule l)
IfRow (Extreme f lines rows) i P = Unit {0}
IfRow (ExtremeByResidues f lines rows) i P = Unit {0}
IfRow (NotExtreme f h) i P = Unit {0}

-- a row with a cut has a property of its basic variable, its right side and its terms
abbrev pub IfCut : CutLine → (List ℕ → Frac → List CutTerm → Type 0) → Type 0
IfCut (cuts.Cut name right terms) P = P name right terms
IfCut (cuts.Skip name right reason) P = Unit {0}

-- the j-th term of the i-th row has a property by the rule, for the basic variable, the right side
-- and the terms before it
abbrev pub IfTerm : Claim → ℕ → ℕ → (CutRule → List ℕ → Frac → List CutTerm → CutTerm → Type 0) →
    Type 0
IfTerm c i j P = IfRow c i
    (λ rule l. IfCut l (λ name right terms. AtIndex terms j
    (λ before t. P rule name right before t)))

-- a claim that a function is extreme has a property of the function, its lines and its groups
abbrev pub IfExtreme : Claim → (FunctionData → List CoverLine → List PivotRow → Type 0) → Type 0
IfExtreme (Minimal f) P = Unit {0}
IfExtreme (NotMinimal f v) P = Unit {0}
IfExtreme (Cut rule rows) P = Unit {0}
IfExtreme (Extreme f lines rows) P = P f lines rows
IfExtreme (ExtremeByResidues f lines rows) P = P f lines rows
IfExtreme (NotExtreme f h) P = Unit {0}

-- the g-th group has a property: of the number of components, the rows that the groups before it
-- keep, and the row that it begins with, by any numbers of the components of all intervals. If
-- there are no such numbers it demands nothing; but there are, if the claim has a text and its
-- lines meet the rule `cover`, since then each interval has a line
abbrev pub IfGroup : Claim → ℕ → (ℕ → List KeptRow → List ℤ → PivotRow → Type 0) → Type 0
IfGroup c g P = IfExtreme c (λ f lines rows. AtIndex rows g (λ before one.
    (component : ℕ → ℕ) → AreNumbersOf f lines component →
    P (components_in lines)
    (rows_before_by (arithmetic_of (numbers_of c)) f component (components_in lines) before)
    (begun_row (arithmetic_of (numbers_of c)) f component (components_in lines) one.name) one))

-- the r-th step of the g-th group has a property: of the rows kept before, the row before the step,
-- and the column
abbrev pub IfStep : Claim → ℕ → ℕ → (List KeptRow → List ℤ → ℕ → Type 0) → Type 0
IfStep c g r P = IfGroup c g (λ n kept begun one. AtIndex one.reduce r (λ before column.
    P kept (present_row_by (arithmetic_of (numbers_of c)) kept begun before) column))

-- a claim that a function is not extreme has a property of the function and its halves
abbrev pub IfHalves : Claim → (FunctionData → Halves → Type 0) → Type 0
IfHalves (Minimal f) P = Unit {0}
IfHalves (NotMinimal f v) P = Unit {0}
IfHalves (Cut rule rows) P = Unit {0}
IfHalves (Extreme f lines rows) P = Unit {0}
IfHalves (ExtremeByResidues f lines rows) P = Unit {0}
IfHalves (NotExtreme f h) P = P f h

-- what a demand says of the claim; for `minimal`, that all tests of minimality pass
abbrev pub DemandHolds : Claim → Demand → Type 0
DemandHolds c minimal = IfFunction (subject_of c) PassesAll
DemandHolds c point = IsShown c
DemandHolds c (fraction i) = IfRow c i MeetsFraction
DemandHolds c (limit i) = IfRow c i (λ rule l. IfCut l (λ name right terms. MeetsLimit [] right))
DemandHolds c (term_limit i j) =
    IfTerm c i j (λ rule name right before t. MeetsLimit
    (right ∷ map (λ u. u.entry) before) t.entry)
DemandHolds c (term_name i j) = IfTerm c i j (λ rule name right before t. MeetsName name before t)
DemandHolds c (term_value i j) = IfTerm c i j (λ rule name right before t. MeetsValue rule right t)
DemandHolds c continuous = IfFunction (subject_of c) IsContinuous
DemandHolds c (cover i) =
    IfExtreme c (λ f lines rows. AtIndex lines i (MeetsCoverRule f.order (IsTight f)))
DemandHolds c (row g) =
    IfExtreme c (λ f lines rows. AtIndex rows g (λ before one. MeetsRow f one.name))
DemandHolds c (reduce g r) = IfStep c g r MeetsReduce
DemandHolds c (size g r) = IfStep c g r MeetsSize
DemandHolds c (pivot g) = IfGroup c g (λ n kept begun one.
    MeetsPivotBy (numbers_of c) n kept
    (present_row_by (arithmetic_of (numbers_of c)) kept begun one.reduce) one.pivot)
DemandHolds c rank = IfExtreme c (λ f lines rows. length rows ≡ components_in lines)
DemandHolds c scale = IfHalves c MeetsScale
DemandHolds c (range i) = IfHalves c (λ f h. MeetsRange h i)
DemandHolds c (average i) = IfHalves c (λ f h. MeetsAverage f h i)
DemandHolds c first = IfHalves c (λ f h. IsMinimalHalf f h h.first)
DemandHolds c second = IfHalves c (λ f h. IsMinimalHalf f h h.second)
DemandHolds c same = IfHalves c (λ f h. MeetsSame h)

-- every rule holds
abbrev pub MeetsRules : Claim → Type 0
MeetsRules c = All (DemandHolds c) (demands_of c)
