-- The one spelling of a proof about a function that jumps (own).
use Rattle.std.specs.Prelude.{ℕ, ℤ, pos, ◌≡◌, ◌≢◌, ◌⊎◌, ◌+◌, ◌<◌, ◌≤◌, ◌≤ℤ◌, Bool, ◌&&◌, if◌then◌else◌, List, [], ◌∷◌, ◌++◌, All, Contains, length, map, flat_map, codes}
use Rattle.std.specs.List.{range_with_len}
use Rattle.std.specs.Ordering.{int_eq}
use Rattle.gj_frac.specs.Fraction.{Fits}
use Rattle.gj_forms.specs.LineForms.{Field, bytes_of}
use Rattle.gj_forms.specs.LineForms.Field.{word, count, whole}
use Rattle.gj_shape.specs.Faces.{corners_of}
use Rattle.gj_shape.specs.Limits.{greatest_halves_order, greatest_halves_scale}
use Rattle.gj_shape.specs.FunctionData.{FunctionData, IsWithinBounds, at}
use Rattle.gj_shape.specs.declared.extremality.CoverLine.{CoverLine}
use Rattle.gj_shape.specs.declared.extremality.LimitHalves.{LimitHalves}
use Rattle.gj_shape.specs.declared.extremality.SideNumbers.{SideNumbers}
use Rattle.gj_shape.specs.declared.faces.FaceKind.{FaceKind}
use Rattle.gj_shape.specs.declared.faces.FaceKind.TheVariants.{Vertex}
use Rattle.gj_function_lines.specs.FaceLines.{cover_line}
use Rattle.gj_function_lines.specs.FunctionLines.{line, AreFunctionLines}
use Rattle.gj_limit_system.specs.declared.limit_row.LimitRow.{LimitRow}
use Rattle.gj_limit_system.specs.declared.limit_row.LimitRow.TheVariants.{F, Tight}
use Rattle.gj_proof.specs.ProofText.{claim_fields, reduction_line, pivot_line, modulus_text, modulus_lines, halves_fields, IsCoverLineBelow, ProofLine, OwnLine, covered_lines, reduction_lines}
use Rattle.gj_proof.specs.ProofText.ProofLine.{title, claim, order, place, point, group, group_pivot, halves, pair, last}
use Rattle.gj_proof.specs.declared.numbers.Numbers.{Numbers}
use Rattle.gj_limit_proof.specs.declared.claim.LimitClaim.{LimitClaim}
use Rattle.gj_limit_proof.specs.declared.claim.LimitClaim.TheVariants.{Extreme, NotExtreme}
use Rattle.gj_limit_proof.specs.declared.claim.LimitPivotRow.{LimitPivotRow}
use Rattle.gj_limit_proof.specs.declared.triple.Triple.{Triple}
use Rattle.gj_limit_proof.specs.Sides.{sides_word}

-- ---- what a claim is about

abbrev pub function_of : LimitClaim → FunctionData
function_of (Extreme numbers f lines rows) = f
function_of (NotExtreme f h) = f

-- the function that it is about is within the limits, as its type promises
abbrev pub IsBounded : LimitClaim → Type 0
IsBounded c = IsWithinBounds (function_of c)

-- ---- the lines of a claim

-- `gj-proof 3`
abbrev pub title_fields : List Field
title_fields = word (codes "gj-proof") ∷ word (codes "3") ∷ []

-- the word of a claim
abbrev pub claim_word : LimitClaim → List ℕ
claim_word (Extreme numbers f lines rows) = codes "extreme"
claim_word (NotExtreme f h) = codes "not-extreme"

-- ---- the lines of an extreme function

-- of a limit at values alone no word, and else that of its sides
abbrev pub sides_fields : FaceKind → ℕ → List Field
sides_fields Vertex corner = []
sides_fields kind corner = word (sides_word kind corner) ∷ []

-- `row f`, `row A B` or `row A B S`
abbrev pub row_fields : LimitRow → List Field
row_fields F = word (codes "row") ∷ word (codes "f") ∷ []
row_fields (Tight kind corner a b) =
    word (codes "row") ∷ count a ∷ count b ∷ sides_fields kind corner

abbrev pub group_line : LimitRow → List ℕ
group_line row = bytes_of (row_fields row)

-- the line of its row, those of its steps, and that of its pivot
abbrev pub group_text : LimitPivotRow → List ℕ
group_text row = group_line row.name ++ flat_map reduction_line row.reduce ++ pivot_line row.pivot

-- the lines of covered intervals, that of the modulus, and those of the groups
abbrev pub extreme_text : Numbers → List CoverLine → List LimitPivotRow → List ℕ
extreme_text numbers lines rows =
    flat_map cover_line lines ++ (modulus_text numbers ++ flat_map group_text rows)

-- ---- the lines of halves

-- the numbers of a function at the i-th point
abbrev pub triple_at : SideNumbers → ℕ → Triple
triple_at s i = record { left = at s.left i; value = at s.value i; right = at s.right i }

-- the three are one number
abbrev pub is_one : Triple → Bool
is_one t = int_eq t.left t.value && int_eq t.right t.value

abbrev pub three_fields : Triple → List Field
three_fields t = whole t.left ∷ whole t.value ∷ whole t.right ∷ []

-- `pair A B`
abbrev pub values_fields : ℤ → ℤ → List Field
values_fields x y = word (codes "pair") ∷ whole x ∷ whole y ∷ []

-- `pair AL A AR BL B BR`
abbrev pub triples_fields : Triple → Triple → List Field
triples_fields s t = word (codes "pair") ∷ three_fields s ++ three_fields t

-- the first if neither half jumps at the point, and else the second
abbrev pub pair_fields : Triple × Triple → List Field
pair_fields p = if is_one p.0 && is_one p.1 then values_fields p.0.value p.1.value else
    triples_fields p.0 p.1

abbrev pub pair_line : Triple × Triple → List ℕ
pair_line p = bytes_of (pair_fields p)

-- those of both halves at each point
abbrev pub pairs_of : LimitHalves → List (Triple × Triple)
pairs_of h = map (λ i. (triple_at h.first i, triple_at h.second i)) (range_with_len 0 h.order)

abbrev pub halves_line : LimitHalves → List ℕ
halves_line h = bytes_of (halves_fields h.order h.scale)

-- their line and those of their values
abbrev pub halves_text : LimitHalves → List ℕ
halves_text h = halves_line h ++ flat_map pair_line (pairs_of h)

-- ---- the text of a claim

-- the lines of the claim's own, in their order
abbrev pub own_text : LimitClaim → List ℕ
own_text (Extreme numbers f lines rows) = extreme_text numbers lines rows
own_text (NotExtreme f h) = halves_text h

-- the columns of rows are below 3,000
abbrev pub greatest_columns : ℕ
greatest_columns = 3000

-- the corner is one of its face, and the points are ascending and below the order; those of values
-- alone are not 0
pub record IsLimitRowWithin (q : ℕ) (kind : FaceKind) (corner a b : ℕ) : Type 0 where
  pub corner_is : corner < length (corners_of kind 0 0)
  pub ascending : a ≤ b
  pub below : b < q
  pub some : kind ≡ Vertex → 1 ≤ a

abbrev pub IsRowWithin : ℕ → LimitRow → Type 0
IsRowWithin q F = Unit {0}
IsRowWithin q (Tight kind corner a b) = IsLimitRowWithin q kind corner a b

pub record IsLimitPivotRowBelow (q : ℕ) (row : LimitPivotRow) : Type 0 where
  pub name : IsRowWithin q row.name
  pub reduce : All (λ c. c < greatest_columns) row.reduce
  pub pivot : row.pivot < greatest_columns

-- each interval has a line, and the lines and the rows are within the ranges of the form
pub record AreLimitExtremeLines (f : FunctionData) (lines : List CoverLine)
    (rows : List LimitPivotRow) : Type 0 where
  pub count : length lines ≡ f.order
  pub lines_below : All (IsCoverLineBelow f.order) lines
  pub rows_below : All (IsLimitPivotRowBelow f.order) rows

-- so many numbers of each side, and all fit
pub record AreSideNumbersWithin (n : ℕ) (s : SideNumbers) : Type 0 where
  pub left_length : length s.left ≡ n
  pub value_length : length s.value ≡ n
  pub right_length : length s.right ≡ n
  pub left_fit : All Fits s.left
  pub value_fit : All Fits s.value
  pub right_fit : All Fits s.right

-- the order, the scale and the numbers of halves are within the limits of a proof text
pub record AreLimitHalvesInBounds (h : LimitHalves) : Type 0 where
  pub order_low : 2 ≤ h.order
  pub order_high : h.order ≤ greatest_halves_order
  pub scale_low : pos 1 ≤ℤ h.scale
  pub scale_high : h.scale ≤ℤ pos greatest_halves_scale
  pub first : AreSideNumbersWithin h.order h.first
  pub second : AreSideNumbersWithin h.order h.second

abbrev pub HasText : LimitClaim → Type 0
HasText (Extreme numbers f lines rows) = AreLimitExtremeLines f lines rows
HasText (NotExtreme f h) = AreLimitHalvesInBounds h

-- the text is the proof text of the claim
pub record IsLimitProofText (c : LimitClaim) (text : List ℕ) : Type 0 where
  pub has_text : HasText c
  pub subject : List ℕ
  pub are_function_lines : AreFunctionLines (function_of c) subject
  pub spelled : text ≡ bytes_of title_fields ++ bytes_of (claim_fields (claim_word c)) ++ subject
      ++ own_text c
      ++ line (codes "end")

-- ---- the lines by name

-- the lines of groups, from the g-th on
abbrev pub group_lines : ℕ → List LimitPivotRow → List OwnLine
group_lines g [] = []
group_lines g (row ∷ more) =
    record { name = group g; bytes = group_line row.name } ∷ reduction_lines g 0 row.reduce
    ++ record { name = group_pivot g; bytes = pivot_line row.pivot } ∷ group_lines (g + 1) more

-- the lines of covered intervals, that of the modulus, and those of the groups
abbrev pub extreme_lines : Numbers → List CoverLine → List LimitPivotRow → List OwnLine
extreme_lines numbers lines rows =
    covered_lines 0 lines ++ (modulus_lines numbers ++ group_lines 0 rows)

-- the lines of the halves' values, from the i-th on
abbrev pub pair_lines : ℕ → List (Triple × Triple) → List OwnLine
pair_lines i [] = []
pair_lines i (p ∷ more) = record { name = pair i; bytes = pair_line p } ∷ pair_lines (i + 1) more

-- the lines of the claim's own, in their order
abbrev pub own_lines : LimitClaim → List OwnLine
own_lines (Extreme numbers f lines rows) = extreme_lines numbers lines rows
own_lines (NotExtreme f h) = record { name = halves; bytes = halves_line h } ∷ pair_lines 0
    (pairs_of h)

-- all lines of the text of a claim
abbrev pub proof_lines_of : LimitClaim → List ProofLine
proof_lines_of c =
    title ∷ claim ∷ order ∷ place ∷ map point (range_with_len 0 (function_of c).order)
    ++ map (λ l. l.name) (own_lines c) ++ last ∷ []

-- the bytes of the line of a claim's word, and of its own lines
abbrev pub HasBytes : LimitClaim → ProofLine → List ℕ → Type 0
HasBytes c l bytes =
    ((l ≡ claim) × (bytes ≡ bytes_of (claim_fields (claim_word c))))
    ⊎ Contains (own_lines c) (record { name = l; bytes = bytes })

-- the line is the n-th of the text, counted from 1, and none before it
pub record HasNumber (c : LimitClaim) (l : ProofLine) (n : ℕ) : Type 0 where
  pub before : List ProofLine
  pub after : List ProofLine
  pub place : proof_lines_of c ≡ before ++ l ∷ after
  pub first : All (λ k. k ≢ l) before
  pub number : n ≡ length before + 1
