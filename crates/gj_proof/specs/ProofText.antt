-- The one spelling of a proof (own).
use Rattle.std.specs.Prelude.{ℕ, ℤ, ◌≡◌, ◌≢◌, ◌⊎◌, ◌+◌, ◌<◌, ◌≤◌, List, [], ◌∷◌, ◌++◌, All, Contains, length, map, flat_map, zip, codes}
use Rattle.std.specs.List.{range_with_len}
use Rattle.gj_shape.specs.Perturbation.{AreHalvesInBounds}
use Rattle.gj_lex.specs.Name.{IsName}
use Rattle.gj_forms.specs.LineForms.{Field, bytes_of}
use Rattle.gj_forms.specs.LineForms.Field.{word, fraction, count, whole}
use Rattle.gj_shape.specs.Limits.{greatest_order}
use Rattle.gj_shape.specs.FunctionData.{FunctionData, IsWithinBounds}
use Rattle.gj_shape.specs.declared.extremality.CoverLine.{CoverLine}
use Rattle.gj_shape.specs.declared.extremality.Halves.{Halves}
use Rattle.gj_shape.specs.declared.extremality.RowName.{RowName}
use Rattle.gj_shape.specs.declared.extremality.RowName.TheVariants.{Period, F, Pair}
use Rattle.gj_shape.specs.declared.faces.FaceKind.TheVariants.{Vertex}
use Rattle.gj_shape.specs.declared.violations.Violation.{Violation}
use Rattle.gj_shape.specs.declared.violations.Violation.TheVariants as violation
use Rattle.gj_function_lines.specs.FaceLines.{cover_line}
use Rattle.gj_function_lines.specs.FunctionLines.{line, AreFunctionLines}
use Rattle.gj_proof.specs.declared.claim.Claim.{Claim}
use Rattle.gj_theory.specs.Modulus.{modulus}
use Rattle.gj_proof.specs.declared.claim.Claim.TheVariants.{Minimal, NotMinimal, Cut, Extreme, ExtremeByResidues, NotExtreme}
use Rattle.gj_proof.specs.declared.cut.CutRule.{CutRule}
use Rattle.gj_proof.specs.declared.cut.CutRule.TheVariants.{Gmic, Table}
use Rattle.gj_proof.specs.declared.cut.CutLine.{CutLine}
use Rattle.gj_proof.specs.declared.cut.CutLine.TheVariants as cuts
use Rattle.gj_proof.specs.declared.cut.CutTerm.{CutTerm}
use Rattle.gj_proof.specs.declared.cut.SkipReason.{SkipReason}
use Rattle.gj_proof.specs.declared.cut.SkipReason.TheVariants.{Integral, Other}
use Rattle.gj_proof.specs.declared.numbers.Numbers.{Numbers}
use Rattle.gj_proof.specs.declared.numbers.Numbers.TheVariants.{Whole, Residues}
use Rattle.gj_proof.specs.declared.pivot.PivotRow.{PivotRow}

-- ---- what a claim is about

-- a function, or the rule of the mixed-integer cut
pub data Subject : Type 0 where
  function : FunctionData → Subject
  gmic : Subject

abbrev pub subject_of_rule : CutRule → Subject
subject_of_rule (Table f) = function f
subject_of_rule Gmic = gmic

abbrev pub subject_of : Claim → Subject
subject_of (Minimal f) = function f
subject_of (NotMinimal f v) = function f
subject_of (Cut rule rows) = subject_of_rule rule
subject_of (Extreme f lines rows) = function f
subject_of (ExtremeByResidues f lines rows) = function f
subject_of (NotExtreme f halves) = function f

-- the subject, if it is a function, has a property of functions
abbrev pub IfFunction : Subject → (FunctionData → Type 0) → Type 0
IfFunction (function f) P = P f
IfFunction gmic P = Unit {0}

-- the names of a line of cuts are names
abbrev pub HasNames : CutLine → Type 0
HasNames (cuts.Cut name right terms) = IsName name × All (λ t. IsName t.name) terms
HasNames (cuts.Skip name right reason) = IsName name

-- the function of the rule, if it has one, is within the limits
abbrev pub IsBoundedRule : CutRule → Type 0
IsBoundedRule rule = IfFunction (subject_of_rule rule) IsWithinBounds

-- what the types of a claim promise: a function that it is about is within the limits, and names
-- are names
abbrev pub IsBounded : Claim → Type 0
IsBounded (Minimal f) = IsWithinBounds f
IsBounded (NotMinimal f v) = IsWithinBounds f
IsBounded (Cut rule rows) = IsBoundedRule rule × All HasNames rows
IsBounded (Extreme f lines rows) = IsWithinBounds f
IsBounded (ExtremeByResidues f lines rows) = IsWithinBounds f
IsBounded (NotExtreme f halves) = IsWithinBounds f

-- a claim whose lines are not any number, so that its text is short
abbrev pub IsShort : Claim → Type 0
IsShort (Minimal f) = Unit {0}
IsShort (NotMinimal f v) = Unit {0}
IsShort (Cut rule rows) = ⊥
IsShort (Extreme f lines rows) = ⊥
IsShort (ExtremeByResidues f lines rows) = ⊥
IsShort (NotExtreme f halves) = Unit {0}

-- the numbers of the rows of a claim: residues, if it says so, and else whole numbers
abbrev pub numbers_of : Claim → Numbers
numbers_of (Minimal f) = Whole
numbers_of (NotMinimal f v) = Whole
numbers_of (Cut rule rows) = Whole
numbers_of (Extreme f lines rows) = Whole
numbers_of (ExtremeByResidues f lines rows) = Residues
numbers_of (NotExtreme f halves) = Whole

-- the claim that a function is extreme, by rows of these numbers
abbrev pub extreme_claim : Numbers → FunctionData → List CoverLine → List PivotRow → Claim
extreme_claim Whole f lines rows = Extreme f lines rows
extreme_claim Residues f lines rows = ExtremeByResidues f lines rows

-- ---- the lines of a claim

-- `gj-proof 1`, or of a claim by residues `gj-proof 2`
abbrev pub title_fields : Numbers → List Field
title_fields Whole = word (codes "gj-proof") ∷ word (codes "1") ∷ []
title_fields Residues = word (codes "gj-proof") ∷ word (codes "2") ∷ []

-- the word of a claim
abbrev pub claim_word : Claim → List ℕ
claim_word (Minimal f) = codes "minimal"
claim_word (NotMinimal f v) = codes "not-minimal"
claim_word (Cut rule rows) = codes "cut"
claim_word (Extreme f lines rows) = codes "extreme"
claim_word (ExtremeByResidues f lines rows) = codes "extreme"
claim_word (NotExtreme f halves) = codes "not-extreme"

-- `claim W`
abbrev pub claim_fields : List ℕ → List Field
claim_fields w = word (codes "claim") ∷ word w ∷ []

-- the lines of a subject
abbrev pub AreSubjectLines : Subject → List ℕ → Type 0
AreSubjectLines (function f) bytes = AreFunctionLines f bytes
AreSubjectLines gmic bytes = bytes ≡ line (codes "rule gmic")

-- `zero`, `negative X`, `asymmetric X` or `superadditive X Y`
abbrev pub violation_fields : Violation → List Field
violation_fields violation.Zero = word (codes "zero") ∷ []
violation_fields (violation.Negative x) = word (codes "negative") ∷ fraction x ∷ []
violation_fields (violation.Asymmetric x) = word (codes "asymmetric") ∷ fraction x ∷ []
violation_fields (violation.Superadditive x y) =
    word (codes "superadditive") ∷ fraction x ∷ fraction y ∷ []

abbrev pub violation_line : Violation → List ℕ
violation_line v = bytes_of (violation_fields v)

-- ---- the lines of cuts

-- the word for why a row has no cut
abbrev pub reason_word : SkipReason → List ℕ
reason_word Integral = codes "integral"
reason_word Other = codes "other"

-- `cut NAME B`, `skip NAME B integral` or `skip NAME B other`
abbrev pub row_fields : CutLine → List Field
row_fields (cuts.Cut name right terms) = word (codes "cut") ∷ word name ∷ fraction right ∷ []
row_fields (cuts.Skip name right reason) = word (codes "skip") ∷ word name ∷ fraction right ∷ word
    (reason_word reason) ∷ []

abbrev pub row_line : CutLine → List ℕ
row_line l = bytes_of (row_fields l)

-- `term NAME A C`
abbrev pub term_fields : CutTerm → List Field
term_fields t = word (codes "term") ∷ word t.name ∷ fraction t.entry ∷ fraction t.cut ∷ []

abbrev pub term_line : CutTerm → List ℕ
term_line t = bytes_of (term_fields t)

-- the terms of a line of cuts: of one that passes its row over, none
abbrev pub terms_of : CutLine → List CutTerm
terms_of (cuts.Cut name right terms) = terms
terms_of (cuts.Skip name right reason) = []

-- its line and those of its terms
abbrev pub row_text : CutLine → List ℕ
row_text l = row_line l ++ flat_map term_line (terms_of l)

-- ---- the lines of an extreme function

-- `row period`, `row f` or `row A B`
abbrev pub row_name_fields : RowName → List Field
row_name_fields Period = word (codes "row") ∷ word (codes "period") ∷ []
row_name_fields F = word (codes "row") ∷ word (codes "f") ∷ []
row_name_fields (Pair a b) = word (codes "row") ∷ count a ∷ count b ∷ []

abbrev pub group_line : RowName → List ℕ
group_line name = bytes_of (row_name_fields name)

-- `reduce C` or `pivot C`
abbrev pub column_fields : List ℕ → ℕ → List Field
column_fields w c = word w ∷ count c ∷ []

abbrev pub reduction_line : ℕ → List ℕ
reduction_line c = bytes_of (column_fields (codes "reduce") c)

abbrev pub pivot_line : ℕ → List ℕ
pivot_line c = bytes_of (column_fields (codes "pivot") c)

-- the line of its row, those of its steps, and that of its pivot
abbrev pub group_text : PivotRow → List ℕ
group_text row = group_line row.name ++ flat_map reduction_line row.reduce ++ pivot_line row.pivot

-- `modulus M`
abbrev pub modulus_fields : List Field
modulus_fields = word (codes "modulus") ∷ count modulus ∷ []

abbrev pub modulus_line : List ℕ
modulus_line = bytes_of modulus_fields

-- by residues, this line
abbrev pub modulus_text : Numbers → List ℕ
modulus_text Whole = []
modulus_text Residues = modulus_line

-- the lines of covered intervals, that of the modulus, and those of the groups
abbrev pub extreme_text : Numbers → List CoverLine → List PivotRow → List ℕ
extreme_text numbers lines rows =
    flat_map cover_line lines ++ (modulus_text numbers ++ flat_map group_text rows)

-- ---- the lines of halves

-- `halves N S`
abbrev pub halves_fields : ℕ → ℤ → List Field
halves_fields n s = word (codes "halves") ∷ count n ∷ whole s ∷ []

abbrev pub halves_line : Halves → List ℕ
halves_line h = bytes_of (halves_fields h.order h.scale)

-- `pair A B`
abbrev pub pair_fields : ℤ × ℤ → List Field
pair_fields p = word (codes "pair") ∷ whole p.0 ∷ whole p.1 ∷ []

abbrev pub pair_line : ℤ × ℤ → List ℕ
pair_line p = bytes_of (pair_fields p)

-- their line and those of their values
abbrev pub halves_text : Halves → List ℕ
halves_text h = halves_line h ++ flat_map pair_line (zip h.first h.second)

-- ---- the text of a claim

-- the lines of the claim's own, as many as it has, in their order
abbrev pub own_text : Claim → List ℕ
own_text (Minimal f) = []
own_text (NotMinimal f v) = violation_line v
own_text (Cut rule rows) = flat_map row_text rows
own_text (Extreme f lines rows) = extreme_text Whole lines rows
own_text (ExtremeByResidues f lines rows) = extreme_text Residues lines rows
own_text (NotExtreme f h) = halves_text h

-- the intervals and the square of a line of a covered interval are below the order, and its face is
-- no vertex
pub record IsCoverLineBelow (q : ℕ) (l : CoverLine) : Type 0 where
  pub interval : l.interval < q
  pub from : l.from < q
  pub first : l.face.a < q
  pub second : l.face.b < q
  pub not_vertex : l.face.kind ≢ Vertex

-- a pair that names a row is ascending, from 1 to below the order
abbrev pub IsRowNameBelow : ℕ → RowName → Type 0
IsRowNameBelow q Period = Unit {0}
IsRowNameBelow q F = Unit {0}
IsRowNameBelow q (Pair a b) = (1 ≤ a) × (a ≤ b) × (b < q)

-- the columns of a row are below 1,000
pub record IsPivotRowBelow (q : ℕ) (row : PivotRow) : Type 0 where
  pub name : IsRowNameBelow q row.name
  pub reduce : All (λ c. c < greatest_order) row.reduce
  pub pivot : row.pivot < greatest_order

-- at most 1,000 groups, and at most 1,000 steps in each
pub record HaveFewSteps (rows : List PivotRow) : Type 0 where
  pub groups : length rows ≤ greatest_order
  pub steps : All (λ row. length row.reduce ≤ greatest_order) rows

-- and then the text of a claim that a function is extreme has at most so many bytes
abbrev pub longest_extreme_text : ℕ
longest_extreme_text = 12000000

-- each interval has a line, and the lines and the rows are within the ranges of the form
abbrev pub AreExtremeLines : FunctionData → List CoverLine → List PivotRow → Type 0
AreExtremeLines f lines rows =
    (length lines ≡ f.order) × All (IsCoverLineBelow f.order) lines
    × All (IsPivotRowBelow f.order) rows

-- the ranges and counts of the claim are those of the form; names are names by their type
abbrev pub HasText : Claim → Type 0
HasText (Minimal f) = Unit {0}
HasText (NotMinimal f v) = Unit {0}
HasText (Cut rule rows) = Unit {0}
HasText (Extreme f lines rows) = AreExtremeLines f lines rows
HasText (ExtremeByResidues f lines rows) = AreExtremeLines f lines rows
HasText (NotExtreme f h) = AreHalvesInBounds h

-- the text is the proof text of the claim
pub record IsProofText (c : Claim) (text : List ℕ) : Type 0 where
  pub has_text : HasText c
  pub subject : List ℕ
  pub are_subject_lines : AreSubjectLines (subject_of c) subject
  pub spelled : text ≡ bytes_of (title_fields (numbers_of c)) ++ bytes_of
      (claim_fields (claim_word c)) ++ subject ++ own_text c
      ++ line (codes "end")

-- ---- the lines by name

-- a line of a proof text, by its place in the form: of a claim about cuts, the line of the i-th
-- row, and that of the j-th term of the i-th row; of an extreme function, the line of the i-th
-- covered interval, that of the modulus, the first line of the g-th group, its r-th step and its
-- pivot; of one that is not extreme, the line of its halves, and that of their i-th values; all
-- from 0
pub data ProofLine : Type 0 where
  title : ProofLine
  claim : ProofLine
  order : ProofLine
  place : ProofLine
  point : ℕ → ProofLine
  rule_named : ProofLine
  violation_shown : ProofLine
  cut : ℕ → ProofLine
  term : ℕ → ℕ → ProofLine
  covered : ℕ → ProofLine
  modulus_named : ProofLine
  group : ℕ → ProofLine
  reduction : ℕ → ℕ → ProofLine
  group_pivot : ℕ → ProofLine
  halves : ProofLine
  pair : ℕ → ProofLine
  last : ProofLine

-- a line between the subject and `end`: which one it is, and its bytes
pub record OwnLine : Type 0 where
  pub name : ProofLine
  pub bytes : List ℕ

-- the lines of a subject
abbrev pub subject_lines : Subject → List ProofLine
subject_lines (function f) = order ∷ place ∷ map point (range_with_len 0 f.order)
subject_lines gmic = rule_named ∷ []

-- the lines of terms of the i-th row, from the j-th on
abbrev pub term_lines : ℕ → ℕ → List CutTerm → List OwnLine
term_lines i j [] = []
term_lines i j (t ∷ terms) = record { name = term i j; bytes = term_line t } ∷ term_lines i
    (j + 1) terms

-- the lines of rows, each with those of its terms, from the i-th on
abbrev pub row_lines : ℕ → List CutLine → List OwnLine
row_lines i [] = []
row_lines i (l ∷ more) = record { name = cut i; bytes = row_line l } ∷ term_lines i 0 (terms_of l)
    ++ row_lines (i + 1) more

-- the lines of covered intervals, from the i-th on
abbrev pub covered_lines : ℕ → List CoverLine → List OwnLine
covered_lines i [] = []
covered_lines i (l ∷ more) = record { name = covered i; bytes = cover_line l } ∷ covered_lines
    (i + 1) more

-- the lines of the steps of the g-th group, from the r-th on
abbrev pub reduction_lines : ℕ → ℕ → List ℕ → List OwnLine
reduction_lines g r [] = []
reduction_lines g r (c ∷ more) = record { name = reduction g r; bytes = reduction_line c }
    ∷ reduction_lines g (r + 1) more

-- the lines of groups, from the g-th on
abbrev pub group_lines : ℕ → List PivotRow → List OwnLine
group_lines g [] = []
group_lines g (row ∷ more) =
    record { name = group g; bytes = group_line row.name } ∷ reduction_lines g 0 row.reduce
    ++ record { name = group_pivot g; bytes = pivot_line row.pivot } ∷ group_lines (g + 1) more

-- by residues, this line
abbrev pub modulus_lines : Numbers → List OwnLine
modulus_lines Whole = []
modulus_lines Residues = record { name = modulus_named; bytes = modulus_line } ∷ []

-- the lines of covered intervals, that of the modulus, and those of the groups
abbrev pub extreme_lines : Numbers → List CoverLine → List PivotRow → List OwnLine
extreme_lines numbers lines rows =
    covered_lines 0 lines ++ (modulus_lines numbers ++ group_lines 0 rows)

-- the lines of the halves' values, from the i-th on
abbrev pub pair_lines : ℕ → List (ℤ × ℤ) → List OwnLine
pair_lines i [] = []
pair_lines i (p ∷ more) = record { name = pair i; bytes = pair_line p } ∷ pair_lines (i + 1) more

-- the lines of the claim's own, as many as it has, in their order
abbrev pub own_lines : Claim → List OwnLine
own_lines (Minimal f) = []
own_lines (NotMinimal f v) = record { name = violation_shown; bytes = violation_line v } ∷ []
own_lines (Cut rule rows) = row_lines 0 rows
own_lines (Extreme f lines rows) = extreme_lines Whole lines rows
own_lines (ExtremeByResidues f lines rows) = extreme_lines Residues lines rows
own_lines (NotExtreme f h) = record { name = halves; bytes = halves_line h } ∷ pair_lines 0
    (zip h.first h.second)

-- all lines of the text of a claim
abbrev pub proof_lines_of : Claim → List ProofLine
proof_lines_of c = title ∷ claim ∷ [] ++ subject_lines (subject_of c) ++ map (λ l. l.name)
    (own_lines c) ++ last ∷ []

-- the bytes of the line of a claim's word, and of its own lines
abbrev pub HasBytes : Claim → ProofLine → List ℕ → Type 0
HasBytes c l bytes =
    ((l ≡ claim) × (bytes ≡ bytes_of (claim_fields (claim_word c))))
    ⊎ Contains (own_lines c) (record { name = l; bytes = bytes })

-- the line is the n-th of the text, counted from 1, and none before it
pub record HasNumber (c : Claim) (l : ProofLine) (n : ℕ) : Type 0 where
  pub before : List ProofLine
  pub after : List ProofLine
  pub place : proof_lines_of c ≡ before ++ l ∷ after
  pub first : All (λ k. k ≢ l) before
  pub number : n ≡ length before + 1
