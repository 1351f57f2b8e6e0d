-- The bytes of a proof text are printable or line feeds, and the last is a line feed.
use Rattle.std.proofs.Common.{◌≡◌, inl, inr, ℕ, ◌+◌, ◌<◌, ◌≤◌, ◌^◌, ℤ, pos, ◌≤ℤ◌, zip, nat_le, ◌&&◌, Bool, true, List, [], ◌∷◌, ◌++◌, flat_map, codes, decimal}
use Rattle.std.proofs.Common.{refl, sym, subst, ◌∙◌, arith, append_assoc}
use Rattle.std.specs.List.{All, list_all}
use Rattle.std.specs.Char.{IsAsciiDigit}
use Rattle.std.specs.Fmt.{signed_decimal}
use Rattle.std.proofs.lemmas.Int.{ints}
use Rattle.std.proofs.lemmas.Bool.{and_parts}
use Rattle.std.proofs.lemmas.Bool.Decides.{nat_tests}
use Rattle.std.proofs.lemmas.List.Elements.{All-nil, All-cons, All-head, All-tail, All-append, All-weaker}
use Rattle.gj_lemmas.proofs.Lists.{All-flat_map}
use Rattle.std.proofs.lemmas.List.Sums.{AllPass-from_list_all}
use Rattle.gj_frac.specs.Fraction.{Fits}
use Rattle.gj_frac.specs.declared.Frac.{Frac}
use Rattle.gj_shape.specs.Perturbation.{AreHalvesInBounds}
use Rattle.gj_lex.specs.NumberText.{fraction_text, IsNumberByte}
use Rattle.gj_lex.proofs.WordBytes.{decimal_bytes, fraction_bytes}
use Rattle.gj_function_lines.specs.FunctionLines.{line, order_form, order_line, place_form, place_line, PointNumbers, point_form, numbers_of as printed_numbers, point_line, AreFunctionLines}
use Rattle.gj_function_lines.specs.FunctionLines.PointNumbers.{one, three}
use Rattle.gj_function_lines.specs.FaceLines.{face_word, cover_fields, cover_line}
use Rattle.gj_forms.specs.LineForms.{Field, word_of, bytes_of}
use Rattle.gj_shape.specs.FunctionData.{FunctionData, IsWithinBounds}
use Rattle.gj_shape.specs.declared.extremality.CoverLine.{CoverLine}
use Rattle.gj_shape.specs.declared.extremality.Halves.{Halves}
use Rattle.gj_shape.specs.declared.extremality.RowName.{RowName}
use Rattle.gj_shape.specs.declared.extremality.RowName.TheVariants.{Period, F, Pair}
use Rattle.gj_shape.specs.declared.faces.FaceKind.{FaceKind}
use Rattle.gj_shape.specs.declared.faces.FaceKind.TheVariants.{Vertex, Horizontal, Vertical, Diagonal, Lower, Upper}
use Rattle.gj_shape.specs.declared.points.Point.{Point}
use Rattle.gj_shape.specs.declared.violations.Violation.{Violation}
use Rattle.gj_shape.specs.declared.violations.Violation.TheVariants as violation
use Rattle.gj_proof.specs.declared.claim.Claim.{Claim}
use Rattle.gj_proof.specs.declared.claim.Claim.TheVariants.{Minimal, NotMinimal, Cut, Extreme, ExtremeByResidues, NotExtreme}
use Rattle.gj_proof.specs.declared.cut.CutLine.{CutLine}
use Rattle.gj_proof.specs.declared.cut.CutLine.TheVariants as cuts
use Rattle.gj_proof.specs.declared.cut.CutRule.TheVariants.{Gmic, Table}
use Rattle.gj_proof.specs.declared.cut.CutTerm.{CutTerm}
use Rattle.gj_proof.specs.declared.cut.SkipReason.{SkipReason}
use Rattle.gj_proof.specs.declared.cut.SkipReason.TheVariants.{Integral, Other}
use Rattle.gj_lex.specs.Name.{IsNameByte, IsName}
use Rattle.gj_theory.specs.Modulus.{modulus}
use Rattle.gj_proof.specs.declared.numbers.Numbers.{Numbers}
use Rattle.gj_proof.specs.declared.numbers.Numbers.TheVariants.{Whole, Residues}
use Rattle.gj_proof.specs.ProofText.{title_fields, numbers_of, claim_fields, violation_fields, row_fields, term_fields, column_fields, row_name_fields, modulus_fields, halves_fields, pair_fields, modulus_line, HasText, IsCoverLineBelow, IsRowNameBelow, IsPivotRowBelow, group_line, pivot_line, halves_line, pair_line, claim_word, row_line, term_line, reason_word, terms_of, HasNames, subject_of, AreSubjectLines, IsBounded, IsProofText, row_text, group_text, modulus_text, extreme_text, own_text, reduction_line}
use Rattle.gj_proof.specs.declared.pivot.PivotRow.{PivotRow}
use Rattle.gj_proof.proofs.OwnLines.{names_of_terms}
use Rattle.gj_forms.proofs.WholeNumbers.{whole, text_of_whole}
use Rattle.gj_json.specs.JsonText.{IsPrintable, IsProofByte, IsEnded}

-- ---- known texts

abbrev is_printable : ℕ → Bool
is_printable b = nat_le 32 b && nat_le b 126

abbrev are_printable : List ℕ → Bool
are_printable = list_all is_printable

printable_by_test : (b : ℕ) → is_printable b ≡ true → IsPrintable b
printable_by_test b h =
    let p = and_parts (nat_le 32 b) (nat_le b 126) h in
    let low : nat_le 32 b ≡ true = p.0 in
    let high : nat_le b 126 ≡ true = p.1 in
    (grind (arith, nat_tests), grind (arith, nat_tests))

-- the test of a known text computes
pub known : (bs : List ℕ) → are_printable bs ≡ true → All IsPrintable bs
known bs h = λ k d within. printable_by_test _ (AllPass-from_list_all is_printable bs h k d within)

-- ---- lines

joined : (a b : List ℕ) → All IsPrintable a → All IsPrintable b → All IsPrintable (a ++ b)
joined = All-append IsPrintable

both : (a b : List ℕ) → All IsProofByte a → All IsProofByte b → All IsProofByte (a ++ b)
both = All-append IsProofByte

line_bytes : (bs : List ℕ) → All IsPrintable bs → All IsProofByte (line bs)
line_bytes bs h =
    both bs (10 ∷ []) (All-weaker IsPrintable IsProofByte (λ b p. inr p) bs h)
    (All-cons IsProofByte 10 [] (inl refl) (All-nil IsProofByte))

-- the words of the fields are printable
abbrev ArePrintable : List Field → Type 0
ArePrintable [] = Unit {0}
ArePrintable (f ∷ fields) = All IsPrintable (word_of f) × ArePrintable fields

fields_bytes : (fields : List Field) → ArePrintable fields → All IsProofByte (bytes_of fields)
fields_bytes [] h = All-cons IsProofByte 10 [] (inl refl) (All-nil IsProofByte)
fields_bytes (f ∷ []) h = line_bytes (word_of f) h.0
fields_bytes (f ∷ g ∷ fields) h =
    both (word_of f) (32 ∷ bytes_of (g ∷ fields))
    (All-weaker IsPrintable IsProofByte (λ b p. inr p) (word_of f) h.0)
    (All-cons IsProofByte 32 (bytes_of (g ∷ fields)) (inr (omega arith, omega arith))
    (fields_bytes (g ∷ fields) h.1))

-- ---- numbers

number_printable : (b : ℕ) → IsNumberByte b → IsPrintable b
number_printable b (inl d) = (omega (arith, d), omega (arith, d))
number_printable b (inr (inl e)) = (omega (arith, e), omega (arith, e))
number_printable b (inr (inr e)) = (omega (arith, e), omega (arith, e))

fraction_printable : (x : Frac) → All IsPrintable (fraction_text x)
fraction_printable x = All-weaker IsNumberByte IsPrintable number_printable (fraction_text x)
    (fraction_bytes x)

decimal_printable : (n : ℕ) → n ≤ 4000 → All IsPrintable (decimal n)
decimal_printable n small =
    All-weaker IsAsciiDigit IsPrintable (λ b d. number_printable b (inl d)) (decimal n)
    (decimal_bytes n (omega arith))

-- ---- the lines of a function

point_printable : (n : PointNumbers) → ArePrintable (point_form.fields n)
point_printable (one x) = (known (codes "point") refl, (fraction_printable x, tt))
point_printable (three p) = (
  known (codes "point") refl,
  (fraction_printable p.left, (fraction_printable p.value, (fraction_printable p.right, tt))),
)

points_bytes : (ps : List Point) → All IsProofByte (flat_map point_line ps)
points_bytes [] = All-nil IsProofByte
points_bytes (p ∷ ps) =
    both (point_line p) (flat_map point_line ps)
    (fields_bytes (point_form.fields (printed_numbers p)) (point_printable (printed_numbers p)))
    (points_bytes ps)

function_bytes : (f : FunctionData) (text : List ℕ) → IsWithinBounds f → AreFunctionLines f text →
    All IsProofByte text
function_bytes f text within a =
    subst (All IsProofByte) (sym a.spelled)
    (both (order_line f.order ++ place_line a.place) (flat_map point_line a.points)
    (both (order_line f.order) (place_line a.place)
    (fields_bytes (order_form.fields f.order) (
      known (codes "order") refl,
      (decimal_printable f.order (let high = within.order_high in omega arith), tt),
    ))
    (fields_bytes (place_form.fields a.place)
    (known (codes "f") refl, (fraction_printable a.place, tt))))
    (points_bytes a.points))

-- ---- the lines of a claim

pub claim_word_printable : (c : Claim) → All IsPrintable (claim_word c)
claim_word_printable (Minimal f) = known (codes "minimal") refl
claim_word_printable (NotMinimal f v) = known (codes "not-minimal") refl
claim_word_printable (Cut r rows) = known (codes "cut") refl
claim_word_printable (Extreme f lines rows) = known (codes "extreme") refl
claim_word_printable (ExtremeByResidues f lines rows) = known (codes "extreme") refl
claim_word_printable (NotExtreme f h) = known (codes "not-extreme") refl

subject_bytes : (c : Claim) (text : List ℕ) → IsBounded c → AreSubjectLines (subject_of c) text →
    All IsProofByte text
subject_bytes (Minimal f) text within a = function_bytes f text within a
subject_bytes (NotMinimal f v) text within a = function_bytes f text within a
subject_bytes (Cut (Table f) rows) text within a = function_bytes f text within.0 a
subject_bytes (Extreme f lines rows) text within a = function_bytes f text within a
subject_bytes (ExtremeByResidues f lines rows) text within a = function_bytes f text within a
subject_bytes (NotExtreme f h) text within a = function_bytes f text within a
subject_bytes (Cut Gmic rows) text within a =
    subst (All IsProofByte) (sym a)
    (line_bytes (codes "rule gmic") (known (codes "rule gmic") refl))

violation_printable : (v : Violation) → ArePrintable (violation_fields v)
violation_printable violation.Zero = (known (codes "zero") refl, tt)
violation_printable (violation.Negative x) =
    (known (codes "negative") refl, (fraction_printable x, tt))
violation_printable (violation.Asymmetric x) =
    (known (codes "asymmetric") refl, (fraction_printable x, tt))
violation_printable (violation.Superadditive x y) =
    (known (codes "superadditive") refl, (fraction_printable x, (fraction_printable y, tt)))

-- ---- the lines of cuts

name_printable : (name : List ℕ) → IsName name → All IsPrintable name
name_printable name h = All-weaker IsNameByte IsPrintable byte name h.visible
  where
    byte : (b : ℕ) → IsNameByte b → IsPrintable b
    byte b n = let low = n.above_space in let high = n.below_delete in (omega arith, omega arith)

reason_printable : (r : SkipReason) → All IsPrintable (reason_word r)
reason_printable Integral = known (codes "integral") refl
reason_printable Other = known (codes "other") refl

row_bytes : (l : CutLine) → HasNames l → All IsProofByte (row_line l)
row_bytes (cuts.Cut name right terms) h =
    fields_bytes (row_fields (cuts.Cut name right terms))
    (known (codes "cut") refl, (name_printable name h.0, (fraction_printable right, tt)))
row_bytes (cuts.Skip name right reason) h =
    fields_bytes (row_fields (cuts.Skip name right reason)) (
      known (codes "skip") refl,
      (name_printable name h, (fraction_printable right, (reason_printable reason, tt))),
    )

term_bytes : (t : CutTerm) → IsName t.name → All IsProofByte (term_line t)
term_bytes t h =
    fields_bytes (term_fields t) (
      known (codes "term") refl,
      (name_printable t.name h, (fraction_printable t.entry, (fraction_printable t.cut, tt))),
    )

row_text_bytes : (l : CutLine) → HasNames l → All IsProofByte (row_text l)
row_text_bytes l h =
    both (row_line l) (flat_map term_line (terms_of l)) (row_bytes l h)
    (All-flat_map IsProofByte term_line (terms_of l)
    (All-weaker (λ (t : CutTerm). IsName t.name) (λ t. All IsProofByte (term_line t)) term_bytes
    (terms_of l) (names_of_terms l h)))

-- ---- the lines of an extreme function

kind_printable : (kind : FaceKind) → All IsPrintable (face_word kind)
kind_printable Vertex = known (codes "vertex") refl
kind_printable Horizontal = known (codes "horizontal") refl
kind_printable Vertical = known (codes "vertical") refl
kind_printable Diagonal = known (codes "diagonal") refl
kind_printable Lower = known (codes "lower") refl
kind_printable Upper = known (codes "upper") refl

cover_bytes : (q : ℕ) (l : CoverLine) → q ≤ 1000 → IsCoverLineBelow q l →
    All IsProofByte (cover_line l)
cover_bytes q l high below =
    let interval = below.interval in
    let from = below.from in
    let first = below.first in
    let second = below.second in
    fields_bytes (cover_fields l) (
      known (codes "cover") refl,
      (
        decimal_printable l.interval (omega arith),
        (
          decimal_printable l.from (omega arith),
          (
            kind_printable l.face.kind,
            (
              decimal_printable l.face.a (omega arith),
              (decimal_printable l.face.b (omega arith), tt),
            ),
          ),
        ),
      ),
    )

-- the line of a word and a column
column_bytes : (name : List ℕ) (c : ℕ) → All IsPrintable name → c < 1000 →
    All IsProofByte (bytes_of (column_fields name c))
column_bytes name c h low =
    fields_bytes (column_fields name c) (h, (decimal_printable c (omega arith), tt))

name_printable_of_row : (q : ℕ) (name : RowName) → q ≤ 1000 → IsRowNameBelow q name →
    ArePrintable (row_name_fields name)
name_printable_of_row q Period high below =
    (known (codes "row") refl, (known (codes "period") refl, tt))
name_printable_of_row q F high below = (known (codes "row") refl, (known (codes "f") refl, tt))
name_printable_of_row q (Pair a b) high (a_low, up, b_low) = (
  known (codes "row") refl,
  (decimal_printable a (omega arith), (decimal_printable b (omega arith), tt)),
)

steps_bytes : (columns : List ℕ) → All (λ c. c < 1000) columns →
    All IsProofByte (flat_map reduction_line columns)
steps_bytes columns h =
    All-flat_map IsProofByte reduction_line columns
    (All-weaker (λ c. c < 1000) (λ c. All IsProofByte (reduction_line c))
    (λ c low. column_bytes (codes "reduce") c (known (codes "reduce") refl) low)
    columns h)

group_bytes : (q : ℕ) → q ≤ 1000 → (row : PivotRow) → IsPivotRowBelow q row →
    All IsProofByte (group_text row)
group_bytes q high row h =
    both (group_line row.name ++ flat_map reduction_line row.reduce) (pivot_line row.pivot)
    (both (group_line row.name) (flat_map reduction_line row.reduce)
    (fields_bytes (row_name_fields row.name) (name_printable_of_row q row.name high h.name))
    (steps_bytes row.reduce h.reduce))
    (column_bytes (codes "pivot") row.pivot (known (codes "pivot") refl) h.pivot)

-- ---- the lines of halves

whole_printable : (n : ℤ) → Fits n → All IsPrintable (signed_decimal n)
whole_printable n fits =
    subst (All IsPrintable) (text_of_whole n fits) (fraction_printable (whole n fits))

halves_bytes : (h : Halves) → AreHalvesInBounds h → All IsProofByte (halves_line h)
halves_bytes h in_bounds =
    let order_high = in_bounds.order_high in
    let low = in_bounds.scale_low in
    let high = in_bounds.scale_high in
    let fits : Fits h.scale = scale_fits h.scale low high in
    fields_bytes (halves_fields h.order h.scale) (
      known (codes "halves") refl,
      (decimal_printable h.order order_high, (whole_printable h.scale fits, tt)),
    )
  where
    scale_fits : (s : ℤ) → pos 1 ≤ℤ s → s ≤ℤ pos (2 ^ 124) → Fits s
    scale_fits s low high = omega (arith, ints)

pair_bytes : (x y : ℤ) → Fits x → Fits y → All IsProofByte (pair_line (x, y))
pair_bytes x y x_fits y_fits =
    fields_bytes (pair_fields (x, y))
    (known (codes "pair") refl, (whole_printable x x_fits, (whole_printable y y_fits, tt)))

pairs_bytes : (xs ys : List ℤ) → All Fits xs → All Fits ys →
    All IsProofByte (flat_map pair_line (zip xs ys))
pairs_bytes [] ys h k = All-nil IsProofByte
pairs_bytes (x ∷ xs) [] h k = All-nil IsProofByte
pairs_bytes (x ∷ xs) (y ∷ ys) h k =
    both (pair_line (x, y)) (flat_map pair_line (zip xs ys))
    (pair_bytes x y (All-head Fits x xs h) (All-head Fits y ys k))
    (pairs_bytes xs ys (All-tail Fits x xs h) (All-tail Fits y ys k))

modulus_bytes : All IsProofByte modulus_line
modulus_bytes =
    fields_bytes modulus_fields (
      known (codes "modulus") refl,
      (
        All-weaker IsAsciiDigit IsPrintable (λ b d. number_printable b (inl d)) (decimal modulus)
            (decimal_bytes modulus (omega arith)),
        tt,
      ),
    )

title_bytes : (n : Numbers) → All IsProofByte (bytes_of (title_fields n))
title_bytes Whole = fields_bytes (title_fields Whole)
    (known (codes "gj-proof") refl, (known (codes "1") refl, tt))
title_bytes Residues =
    fields_bytes (title_fields Residues)
    (known (codes "gj-proof") refl, (known (codes "2") refl, tt))

-- ---- all lines of the claim's own

modulus_text_bytes : (n : Numbers) → All IsProofByte (modulus_text n)
modulus_text_bytes Whole = All-nil IsProofByte
modulus_text_bytes Residues = modulus_bytes

extreme_bytes : (n : Numbers) (q : ℕ) (lines : List CoverLine) (rows : List PivotRow) → q ≤ 1000 →
    All (IsCoverLineBelow q) lines →
    All (IsPivotRowBelow q) rows → All IsProofByte (extreme_text n lines rows)
extreme_bytes n q lines rows high h k =
    both (flat_map cover_line lines) (modulus_text n ++ flat_map group_text rows)
    (All-flat_map IsProofByte cover_line lines
    (All-weaker (IsCoverLineBelow q) (λ l. All IsProofByte (cover_line l))
    (λ l below. cover_bytes q l high below) lines h))
    (both (modulus_text n) (flat_map group_text rows) (modulus_text_bytes n)
    (All-flat_map IsProofByte group_text rows
    (All-weaker (IsPivotRowBelow q) (λ row. All IsProofByte (group_text row))
    (group_bytes q high) rows k)))

own_bytes : (c : Claim) → IsBounded c → HasText c → All IsProofByte (own_text c)
own_bytes (Minimal f) within has = All-nil IsProofByte
own_bytes (NotMinimal f v) within has = fields_bytes (violation_fields v) (violation_printable v)
own_bytes (Cut r rows) within has =
    All-flat_map IsProofByte row_text rows
    (All-weaker HasNames (λ l. All IsProofByte (row_text l)) row_text_bytes rows within.1)
own_bytes (Extreme f lines rows) within has =
    extreme_bytes Whole f.order lines rows within.order_high has.1 has.2
own_bytes (ExtremeByResidues f lines rows) within has =
    extreme_bytes Residues f.order lines rows within.order_high has.1 has.2
own_bytes (NotExtreme f h) within has =
    both (halves_line h) (flat_map pair_line (zip h.first h.second)) (halves_bytes h has)
    (pairs_bytes h.first h.second has.first_fit has.second_fit)

pub proof_bytes : (c : Claim) (text : List ℕ) → IsBounded c → IsProofText c text →
    All IsProofByte text
proof_bytes c text within p =
    let title = bytes_of (title_fields (numbers_of c)) in
    let word = bytes_of (claim_fields (claim_word c)) in
    let head = title ++ word in
    let own = own_text c in
    subst (All IsProofByte) (sym p.spelled)
    (both (head ++ p.subject ++ own) (line (codes "end"))
    (both (head ++ p.subject) own
    (both head p.subject
    (both title word (title_bytes (numbers_of c))
    (fields_bytes (claim_fields (claim_word c))
    (known (codes "claim") refl, (claim_word_printable c, tt))))
    (subject_bytes c p.subject within p.are_subject_lines))
    (own_bytes c within p.has_text))
    (line_bytes (codes "end") (known (codes "end") refl)))

pub proof_is_ended : (c : Claim) (text : List ℕ) → IsProofText c text → IsEnded text
proof_is_ended c text p =
    let front = bytes_of (title_fields (numbers_of c)) ++ bytes_of (claim_fields (claim_word c))
    ++ p.subject
    ++ own_text c in
    inr (front ++ codes "end", p.spelled ∙ sym (append_assoc front (codes "end") (10 ∷ [])))
