-- Proof texts are short.
use Rattle.std.proofs.Common.{◌≡◌, ℕ, ◌+◌, ◌*◌, ◌<◌, ◌≤◌, ℤ, List, [], ◌∷◌, ◌++◌, All, length, flat_map, zip, codes, decimal, ap, arith, lit<}
use Rattle.std.specs.Fmt.{signed_decimal}
use Rattle.std.proofs.lemmas.Fmt.{length-decimal-le_wide}
use Rattle.std.proofs.lemmas.Int.{ints}
use Rattle.std.proofs.lemmas.List.{length-append}
use Rattle.std.proofs.lemmas.List.Elements.{All-head, All-tail}
use Rattle.gj_frac.specs.Fraction.{Fits}
use Rattle.gj_shape.specs.FunctionData.{FunctionData, IsWithinBounds}
use Rattle.gj_shape.specs.Perturbation.{AreHalvesInBounds}
use Rattle.gj_lex.specs.NumberText.{fraction_text}
use Rattle.gj_lex.proofs.SpelledWords.{fraction_is_short, count_is_short}
use Rattle.gj_shape.specs.declared.extremality.CoverLine.{CoverLine}
use Rattle.gj_shape.specs.declared.extremality.Halves.{Halves}
use Rattle.gj_shape.specs.declared.extremality.RowName.{RowName}
use Rattle.gj_shape.specs.declared.extremality.RowName.TheVariants.{Period, F, Pair}
use Rattle.gj_shape.specs.declared.faces.FaceKind.{FaceKind}
use Rattle.gj_shape.specs.declared.faces.FaceKind.TheVariants.{Vertex, Horizontal, Vertical, Diagonal, Lower, Upper}
use Rattle.gj_shape.specs.declared.violations.Violation.{Violation}
use Rattle.gj_shape.specs.declared.violations.Violation.TheVariants as violation
use Rattle.gj_theory.specs.Modulus.{modulus}
use Rattle.gj_function_lines.specs.FaceLines.{face_word, cover_line}
use Rattle.gj_forms.specs.LineForms.{Field, bytes_of}
use Rattle.gj_forms.specs.LineForms.Field.{word, count}
use Rattle.gj_function_lines.specs.FunctionLines.{line}
use Rattle.gj_function_lines.proofs.StrictFunctions.{function_lines_are_short}
use Rattle.gj_proof.specs.ProofText.{IsBounded, IsShort, longest_extreme_text, violation_line, group_line, reduction_line, pivot_line, halves_line, pair_line, IsCoverLineBelow, IsRowNameBelow, IsPivotRowBelow, HaveFewSteps, IsProofText, group_text, halves_text, modulus_text, extreme_text}
use Rattle.gj_proof.specs.declared.claim.Claim.{Claim}
use Rattle.gj_proof.specs.declared.claim.Claim.TheVariants.{Minimal, NotMinimal, Cut, Extreme, ExtremeByResidues, NotExtreme}
use Rattle.gj_proof.specs.declared.numbers.Numbers.{Numbers}
use Rattle.gj_proof.specs.declared.numbers.Numbers.TheVariants.{Whole, Residues}
use Rattle.gj_proof.specs.declared.pivot.PivotRow.{PivotRow}
use Rattle.gj_proof.proofs.LineLists.{title_line}
use Rattle.gj_proof.proofs.ExtremeClaims.{IsExtremeText, of_extreme_text}
use Rattle.gj_forms.proofs.WholeNumbers.{whole_is_short}

violation_is_short : (v : Violation) → length (violation_line v) ≤ 176
violation_is_short violation.Zero = omega arith
violation_is_short (violation.Negative x) =
    omega (arith, fraction_is_short x, length-append (fraction_text x) (10 ∷ []))
violation_is_short (violation.Asymmetric x) =
    omega (arith, fraction_is_short x, length-append (fraction_text x) (10 ∷ []))
violation_is_short (violation.Superadditive x y) =
    omega (
      arith,
      fraction_is_short x,
      fraction_is_short y,
      length-append (fraction_text x) (32 ∷ (fraction_text y ++ 10 ∷ [])),
      length-append (fraction_text y) (10 ∷ []),
    )

-- ---- halves

pair_is_short : (p : ℤ × ℤ) → Fits p.0 → Fits p.1 → length (pair_line p) ≤ 167
pair_is_short p x y =
    omega (
      arith,
      whole_is_short p.0 x,
      whole_is_short p.1 y,
      length-append (signed_decimal p.0) (32 ∷ (signed_decimal p.1 ++ 10 ∷ [])),
      length-append (signed_decimal p.1) (10 ∷ []),
    )

pairs_are_short : (first second : List ℤ) → All Fits first → All Fits second →
    length (flat_map pair_line (zip first second)) ≤ 167 * length first
pairs_are_short [] second h k = omega arith
pairs_are_short (x ∷ first) [] h k = omega arith
pairs_are_short (x ∷ first) (y ∷ second) h k =
    omega (
      arith,
      pair_is_short (x, y) (All-head Fits x first h) (All-head Fits y second k),
      pairs_are_short first second (All-tail Fits x first h) (All-tail Fits y second k),
      length-append (pair_line (x, y)) (flat_map pair_line (zip first second)),
    )

halves_are_short : (h : Halves) → AreHalvesInBounds h → length (halves_text h) ≤ 700000
halves_are_short h b =
    let low = b.scale_low in
    let high = b.scale_high in
    let order = b.order_high in
    let count = b.first_length in
    omega (
      arith,
      whole_is_short h.scale (omega (arith, ints)),
      count_is_short h.order (omega arith),
      pairs_are_short h.first h.second b.first_fit b.second_fit,
      length-append (decimal h.order) (32 ∷ (signed_decimal h.scale ++ 10 ∷ [])),
      length-append (signed_decimal h.scale) (10 ∷ []),
      length-append (halves_line h) (flat_map pair_line (zip h.first h.second)),
    )

-- ---- texts

-- a text is as long as its parts
text_is_long : (a b c d e : List ℕ) →
    length (a ++ b ++ c ++ d ++ e) ≡ length a + length b + length c + length d + length e
text_is_long a b c d e =
    omega (
      arith,
      length-append (a ++ b ++ c ++ d) e,
      length-append (a ++ b ++ c) d,
      length-append
          (a ++ b) c,
      length-append a b,
    )

pub text_is_short : (c : Claim) (text : List ℕ) → IsShort c → IsBounded c → IsProofText c text →
    length text ≤ 1000000
text_is_short (Minimal f) text few b p =
    omega (
      arith,
      ap length p.spelled,
      text_is_long (line (codes "gj-proof 1")) (line (codes "claim minimal")) p.subject []
          (line (codes "end")),
      function_lines_are_short f p.subject b p.are_subject_lines,
    )
text_is_short (NotMinimal f v) text few b p =
    omega (
      arith,
      ap length p.spelled,
      text_is_long (line (codes "gj-proof 1")) (line (codes "claim not-minimal")) p.subject
          (violation_line v) (line (codes "end")),
      function_lines_are_short f p.subject b p.are_subject_lines,
      violation_is_short v,
    )
text_is_short (Cut rule rows) text few b p = absurd few
text_is_short (Extreme f lines rows) text few b p = absurd few
text_is_short (ExtremeByResidues f lines rows) text few b p = absurd few
text_is_short (NotExtreme f h) text few b p =
    omega (
      arith,
      ap length p.spelled,
      text_is_long (line (codes "gj-proof 1")) (line (codes "claim not-extreme")) p.subject
          (halves_text h)
          (line (codes "end")),
      function_lines_are_short f p.subject b p.are_subject_lines,
      halves_are_short h p.has_text,
    )

-- ---- texts of extreme functions

face_word_is_short : (kind : FaceKind) → length (face_word kind) ≤ 10
face_word_is_short Vertex = omega arith
face_word_is_short Horizontal = omega arith
face_word_is_short Vertical = omega arith
face_word_is_short Diagonal = omega arith
face_word_is_short Lower = omega arith
face_word_is_short Upper = omega arith

-- the bytes of the fields behind others
abbrev bytes_behind : List Field → List ℕ
bytes_behind fields = 32 ∷ bytes_of fields

cover_is_short : (q : ℕ) (l : CoverLine) → q ≤ 1000 → IsCoverLineBelow q l →
    length (cover_line l) ≤ 61
cover_is_short q l small h =
    let interval = h.interval in
    let from = h.from in
    let first = h.first in
    let second = h.second in
    omega (
      arith,
      count_is_short l.interval (omega arith),
      count_is_short l.from (omega arith),
      count_is_short l.face.a (omega arith),
      count_is_short l.face.b (omega arith),
      face_word_is_short l.face.kind,
      length-append (decimal l.interval)
          (bytes_behind (count l.from ∷ word (face_word l.face.kind) ∷ count l.face.a
          ∷ count l.face.b ∷ [])),
      length-append (decimal l.from)
          (bytes_behind (word (face_word l.face.kind) ∷ count l.face.a ∷ count l.face.b ∷ [])),
      length-append (face_word l.face.kind) (bytes_behind (count l.face.a ∷ count l.face.b ∷ [])),
      length-append (decimal l.face.a) (bytes_behind (count l.face.b ∷ [])),
      length-append (decimal l.face.b) (10 ∷ []),
    )

covers_are_short : (q : ℕ) (lines : List CoverLine) → q ≤ 1000 → All (IsCoverLineBelow q) lines →
    length (flat_map cover_line lines) ≤ 61 * length lines
covers_are_short q [] small h = omega arith
covers_are_short q (l ∷ lines) small h =
    omega (
      arith,
      cover_is_short q l small (All-head (IsCoverLineBelow q) l lines h),
      covers_are_short q lines small (All-tail (IsCoverLineBelow q) l lines h),
      length-append (cover_line l) (flat_map cover_line lines),
    )

row_name_is_short : (q : ℕ) (name : RowName) → q ≤ 1000 → IsRowNameBelow q name →
    length (group_line name) ≤ 26
row_name_is_short q Period small h = omega arith
row_name_is_short q F small h = omega arith
row_name_is_short q (Pair a b) small h =
    omega (
      arith,
      count_is_short a (omega (arith, h.1, h.2)),
      count_is_short b (omega (arith, h.2)),
      length-append (decimal a) (32 ∷ (decimal b ++ 10 ∷ [])),
      length-append (decimal b) (10 ∷ []),
    )

-- a column has three digits at most
column_is_short : (c : ℕ) → c < 1000 → length (decimal c) ≤ 3
column_is_short c small = length-decimal-le_wide 3 c (omega arith) (omega arith) (omega arith)

steps_are_short : (columns : List ℕ) → All (λ c. c < 1000) columns →
    length (flat_map reduction_line columns) ≤ 11 * length columns
steps_are_short [] h = omega arith
steps_are_short (c ∷ columns) h =
    omega (
      arith,
      column_is_short c (All-head (λ c. c < 1000) c columns h),
      steps_are_short columns (All-tail (λ c. c < 1000) c columns h),
      length-append (decimal c) (10 ∷ []),
      length-append (reduction_line c) (flat_map reduction_line columns),
    )

group_is_short : (q : ℕ) (row : PivotRow) → q ≤ 1000 → IsPivotRowBelow q row →
    length row.reduce ≤ 1000 → length (group_text row) ≤ 11036
group_is_short q row small h few =
    omega (
      arith,
      row_name_is_short q row.name small h.name,
      steps_are_short row.reduce h.reduce,
      column_is_short row.pivot h.pivot,
      length-append (decimal row.pivot) (10 ∷ []),
      length-append (group_line row.name ++ flat_map reduction_line row.reduce)
          (pivot_line row.pivot),
      length-append (group_line row.name) (flat_map reduction_line row.reduce),
    )

groups_are_short : (q : ℕ) (rows : List PivotRow) → q ≤ 1000 → All (IsPivotRowBelow q) rows →
    All (λ row. length row.reduce ≤ 1000) rows →
    length (flat_map group_text rows) ≤ 11036 * length rows
groups_are_short q [] small h few = omega arith
groups_are_short q (row ∷ rows) small h few =
    omega (
      arith,
      group_is_short q row small (All-head (IsPivotRowBelow q) row rows h)
          (All-head (λ r. length r.reduce ≤ 1000) row rows few),
      groups_are_short q rows small (All-tail (IsPivotRowBelow q) row rows h)
          (All-tail (λ r. length r.reduce ≤ 1000) row rows few),
      length-append (group_text row) (flat_map group_text rows),
    )

title_is_short : (n : Numbers) → length (title_line n) ≤ 11
title_is_short Whole = omega arith
title_is_short Residues = omega arith

modulus_is_short : (n : Numbers) → length (modulus_text n) ≤ 28
modulus_is_short Whole = omega arith
modulus_is_short Residues =
    omega (
      arith,
      length-append (decimal modulus) (10 ∷ []),
      length-decimal-le_wide 19 modulus (omega arith) (omega arith) (lit< tt),
    )

pub extreme_text_is_short_by : (n : Numbers) (f : FunctionData) (lines : List CoverLine)
    (rows : List PivotRow) (text : List ℕ) →
    IsWithinBounds f → HaveFewSteps rows → IsExtremeText n f lines rows text →
    length text ≤ longest_extreme_text
extreme_text_is_short_by n f lines rows text b few p =
    let small = b.order_high in
    let groups = few.groups in
    let count = p.has_text.0 in
    omega (
      arith,
      ap length p.spelled,
      text_is_long (title_line n) (line (codes "claim extreme")) p.subject
          (extreme_text n lines rows)
          (line (codes "end")),
      length-append (flat_map cover_line lines) (modulus_text n ++ flat_map group_text rows),
      length-append (modulus_text n) (flat_map group_text rows),
      title_is_short n,
      modulus_is_short n,
      function_lines_are_short f p.subject b p.are_subject_lines,
      covers_are_short f.order lines small p.has_text.1,
      groups_are_short f.order rows small p.has_text.2 few.steps,
    )

pub extreme_text_is_short : (f : FunctionData) (lines : List CoverLine) (rows : List PivotRow)
    (text : List ℕ) → IsWithinBounds f →
    HaveFewSteps rows → IsProofText (Extreme f lines rows) text → length text ≤ longest_extreme_text
extreme_text_is_short f lines rows text b few p =
    extreme_text_is_short_by Whole f lines rows text b few
    (of_extreme_text f lines rows Whole text p)
