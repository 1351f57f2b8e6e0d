-- The bytes of a proof text are printable or line feeds, and the last is a line feed.
use Rattle.std.proofs.Common.{◌≡◌, inl, inr, ℕ, zero, suc, ◌≤◌, nat_le, ◌&&◌, Bool, true, List, [], ◌∷◌, ◌++◌, flat_map, codes, decimal}
use Rattle.std.proofs.Common.{refl, sym, subst, ◌∙◌, arith, append_assoc}
use Rattle.std.specs.Char.{IsAsciiDigit}
use Rattle.std.specs.List.{All, list_all}
use Rattle.std.proofs.lemmas.Bool.{and_parts}
use Rattle.std.proofs.lemmas.Bool.Decides.{nat_tests}
use Rattle.std.proofs.lemmas.List.Elements.{All-nil, All-cons, All-append, All-weaker}
use Rattle.std.proofs.lemmas.List.Sums.{AllPass-from_list_all}
use Rattle.gj_lemmas.proofs.Lists.{All-flat_map}
use Rattle.gj_frac.specs.declared.Frac.{Frac}
use Rattle.gj_lex.specs.NumberText.{fraction_text, IsNumberByte}
use Rattle.gj_lex.proofs.WordBytes.{decimal_bytes, fraction_bytes}
use Rattle.gj_forms.specs.LineForms.{Field, word_of, bytes_of, LineForm, line_of}
use Rattle.gj_forms.specs.LineForms.Field.{word, fraction, count, whole}
use Rattle.gj_forms.proofs.FieldWords.{IsGood, AreGood}
use Rattle.gj_forms.proofs.LineLaws.{IsClear}
use Rattle.gj_forms.proofs.PlainWords.{known as known_word}
use Rattle.gj_forms.proofs.WholeNumbers.{whole as over_one, text_of_whole}
use Rattle.gj_shape.specs.FunctionData.{FunctionData, IsWithinBounds}
use Rattle.gj_shape.specs.declared.extremality.CoverLine.{CoverLine}
use Rattle.gj_shape.specs.declared.faces.FaceKind.{FaceKind}
use Rattle.gj_shape.specs.declared.faces.FaceKind.TheVariants.{Vertex, Horizontal, Vertical, Diagonal, Lower, Upper}
use Rattle.gj_shape.specs.declared.points.Point.{Point}
use Rattle.gj_function_lines.specs.FaceLines.{face_word, cover_line}
use Rattle.gj_function_lines.specs.FunctionLines.{line, order_form, order_line, place_form, place_line, PointNumbers, point_form, numbers_of as printed_numbers, point_line, AreFunctionLines}
use Rattle.gj_function_lines.specs.FunctionLines.PointNumbers.{one, three}
use Rattle.gj_function_lines.proofs.ClearLines.{good_point}
use Rattle.gj_limit_system.specs.declared.limit_row.LimitRow.{LimitRow}
use Rattle.gj_limit_system.specs.declared.limit_row.LimitRow.TheVariants.{F, Tight}
use Rattle.gj_proof.specs.ProofGrammar.{cover_form, modulus_form, halves_form}
use Rattle.gj_proof.specs.ProofText.{modulus_text, reduction_line, pivot_line, IsCoverLineBelow}
use Rattle.gj_proof.specs.declared.numbers.Numbers.{Numbers}
use Rattle.gj_proof.specs.declared.numbers.Numbers.TheVariants.{Whole, Residues}
use Rattle.gj_proof.proofs.ClearLines.{cover_is_clear, modulus_is_clear, halves_is_clear}
use Rattle.gj_limit_proof.specs.LimitGrammar.{row_form, pair_form}
use Rattle.gj_limit_proof.specs.LimitText.{greatest_columns, function_of, IsBounded, row_fields, group_line, group_text, pair_fields, pair_line, pairs_of, halves_line, own_text, HasText, IsLimitPivotRowBelow, IsLimitProofText}
use Rattle.gj_limit_proof.specs.PrintedBytes.{IsPrintable, IsTextByte, IsEnded}
use Rattle.gj_limit_proof.specs.Sides.{sides_word}
use Rattle.gj_limit_proof.specs.declared.claim.LimitClaim.{LimitClaim}
use Rattle.gj_limit_proof.specs.declared.claim.LimitClaim.TheVariants.{Extreme, NotExtreme}
use Rattle.gj_limit_proof.specs.declared.claim.LimitPivotRow.{LimitPivotRow}
use Rattle.gj_proof.proofs.ExtremeTexts.{reduce_form, reduce_is_clear}
use Rattle.gj_limit_proof.proofs.GroupTexts.{pivot_form, pivot_is_clear}
use Rattle.gj_limit_proof.proofs.HalvesTexts.{head_of, head_in_bounds, pairs_fit}
use Rattle.gj_limit_proof.proofs.LimitForms.{row_is_clear}
use Rattle.gj_limit_proof.proofs.LimitReadTexts.{title_line, claim_line}
use Rattle.gj_limit_proof.proofs.PairForms.{Pair, pair_is_clear, smooth_fields, jump_fields, by_jump}

-- ---- known texts

abbrev is_printable : ℕ → Bool
is_printable b = nat_le 32 b && nat_le b 126

printable_by_test : (b : ℕ) → is_printable b ≡ true → IsPrintable b
printable_by_test b h =
    let p = and_parts (nat_le 32 b) (nat_le b 126) h in
    let low : nat_le 32 b ≡ true = p.0 in
    let high : nat_le b 126 ≡ true = p.1 in
    (grind (arith, nat_tests), grind (arith, nat_tests))

-- the test of a known text computes
known : (bs : List ℕ) → list_all is_printable bs ≡ true → All IsPrintable bs
known bs h = λ k d within. printable_by_test _ (AllPass-from_list_all is_printable bs h k d within)

-- ---- bytes one behind another

both : (a b : List ℕ) → All IsTextByte a → All IsTextByte b → All IsTextByte (a ++ b)
both = All-append IsTextByte

word_bytes : (w : List ℕ) → All IsPrintable w → All IsTextByte w
word_bytes w h = All-weaker IsPrintable IsTextByte (λ b p. inr p) w h

-- ---- numbers

number_printable : (b : ℕ) → IsNumberByte b → IsPrintable b
number_printable b (inl d) = (omega (arith, d), omega (arith, d))
number_printable b (inr (inl e)) = (omega (arith, e), omega (arith, e))
number_printable b (inr (inr e)) = (omega (arith, e), omega (arith, e))

fraction_printable : (x : Frac) → All IsPrintable (fraction_text x)
fraction_printable x = All-weaker IsNumberByte IsPrintable number_printable (fraction_text x)
    (fraction_bytes x)

-- ---- lines

-- the word, if it is no number, is printable
abbrev IsPrintableWord : Field → Type 0
IsPrintableWord (word w) = All IsPrintable w
IsPrintableWord f = Unit {0}

-- the words that are no numbers are
abbrev pub HavePrintableWords : List Field → Type 0
HavePrintableWords [] = Unit {0}
HavePrintableWords (f ∷ fields) = IsPrintableWord f × HavePrintableWords fields

field_printable : (f : Field) → IsGood f → IsPrintableWord f → All IsPrintable (word_of f)
field_printable (word w) good h = h
field_printable (fraction x) good h = fraction_printable x
field_printable (count n) good h =
    All-weaker IsAsciiDigit IsPrintable (λ b d. number_printable b (inl d)) (decimal n)
    (decimal_bytes n good)
field_printable (whole n) good h =
    subst (All IsPrintable) (text_of_whole n good) (fraction_printable (over_one n good))

ended : (bs : List ℕ) → All IsPrintable bs → All IsTextByte (bs ++ 10 ∷ [])
ended bs h = both bs (10 ∷ []) (word_bytes bs h)
    (All-cons IsTextByte 10 [] (inl refl) (All-nil IsTextByte))

pub fields_bytes : (fields : List Field) → AreGood fields → HavePrintableWords fields →
    All IsTextByte (bytes_of fields)
fields_bytes [] good h = absurd good
fields_bytes (f ∷ []) good h = ended (word_of f) (field_printable f good h.0)
fields_bytes (f ∷ g ∷ fields) good h =
    both (word_of f) (32 ∷ bytes_of (g ∷ fields))
    (word_bytes (word_of f) (field_printable f good.0 h.0))
    (All-cons IsTextByte 32 (bytes_of (g ∷ fields)) (inr (omega arith, omega arith))
    (fields_bytes (g ∷ fields) good.1 h.1))

-- the line of a form
pub form_bytes : {A : Type 0} (form : LineForm A) → IsClear form → (a : A) → form.HasLine a →
    HavePrintableWords (form.fields a) →
    All IsTextByte (line_of form a)
form_bytes form clear a has h = fields_bytes (form.fields a) (clear.good a has) h

-- lines of a form, one behind another
forms_bytes : {A : Type 0} (form : LineForm A) → IsClear form → (items : List A) →
    All form.HasLine items →
    ((a : A) → HavePrintableWords (form.fields a)) → All IsTextByte (flat_map (line_of form) items)
forms_bytes form clear items has h =
    All-flat_map IsTextByte (line_of form) items
    (All-weaker form.HasLine (λ a. All IsTextByte (line_of form a))
    (λ a one. form_bytes form clear a one (h a)) items has)

-- ---- the lines of a function

point_words : (n : PointNumbers) → HavePrintableWords (point_form.fields n)
point_words (one x) = (known (codes "point") refl, (tt, tt))
point_words (three p) = (known (codes "point") refl, (tt, (tt, (tt, tt))))

points_bytes : (ps : List Point) → All IsTextByte (flat_map point_line ps)
points_bytes [] = All-nil IsTextByte
points_bytes (p ∷ ps) =
    let n = printed_numbers p in
    both (point_line p) (flat_map point_line ps)
    (fields_bytes (point_form.fields n) (good_point n) (point_words n)) (points_bytes ps)

pub function_bytes : (f : FunctionData) (text : List ℕ) → IsWithinBounds f →
    AreFunctionLines f text → All IsTextByte text
function_bytes f text within a =
    let high = within.order_high in
    subst (All IsTextByte) (sym a.spelled)
    (both (order_line f.order ++ place_line a.place) (flat_map point_line a.points)
    (both (order_line f.order) (place_line a.place)
    (fields_bytes (order_form.fields f.order) (known_word (codes "order") refl, omega arith)
    (known (codes "order") refl, (tt, tt)))
    (fields_bytes (place_form.fields a.place) (known_word (codes "f") refl, tt)
    (known (codes "f") refl, (tt, tt))))
    (points_bytes a.points))

-- ---- the lines of groups

kind_printable : (kind : FaceKind) → All IsPrintable (face_word kind)
kind_printable Vertex = known (codes "vertex") refl
kind_printable Horizontal = known (codes "horizontal") refl
kind_printable Vertical = known (codes "vertical") refl
kind_printable Diagonal = known (codes "diagonal") refl
kind_printable Lower = known (codes "lower") refl
kind_printable Upper = known (codes "upper") refl

sides_printable : (kind : FaceKind) (corner : ℕ) → All IsPrintable (sides_word kind corner)
sides_printable Vertex corner = known (codes "000") refl
sides_printable Horizontal zero = known (codes "+0+") refl
sides_printable Horizontal (suc corner) = known (codes "-0-") refl
sides_printable Vertical zero = known (codes "0++") refl
sides_printable Vertical (suc corner) = known (codes "0--") refl
sides_printable Diagonal zero = known (codes "-+0") refl
sides_printable Diagonal (suc corner) = known (codes "+-0") refl
sides_printable Lower zero = known (codes "+++") refl
sides_printable Lower (suc zero) = known (codes "-+-") refl
sides_printable Lower (suc (suc corner)) = known (codes "+--") refl
sides_printable Upper zero = known (codes "-++") refl
sides_printable Upper (suc zero) = known (codes "+-+") refl
sides_printable Upper (suc (suc corner)) = known (codes "---") refl

row_words : (row : LimitRow) → HavePrintableWords (row_fields row)
row_words F = (known (codes "row") refl, (known (codes "f") refl, tt))
row_words (Tight Vertex corner a b) = (known (codes "row") refl, (tt, (tt, tt)))
row_words (Tight kind corner a b) =
    (known (codes "row") refl, (tt, (tt, (sides_printable kind corner, tt))))

module _ (q : ℕ) (small : q ≤ 1000) where
  group_bytes : (row : LimitPivotRow) → IsLimitPivotRowBelow q row → All IsTextByte (group_text row)
  group_bytes row h =
      both (group_line row.name ++ flat_map reduction_line row.reduce) (pivot_line row.pivot)
      (both (group_line row.name) (flat_map reduction_line row.reduce)
      (form_bytes (row_form q) (row_is_clear q small) row.name h.name (row_words row.name))
      (forms_bytes (reduce_form greatest_columns) (reduce_is_clear greatest_columns (omega arith))
      row.reduce h.reduce
      (λ c. (known (codes "reduce") refl, (tt, tt)))))
      (form_bytes pivot_form pivot_is_clear row.pivot h.pivot
      (known (codes "pivot") refl, (tt, tt)))

  groups_bytes : (rows : List LimitPivotRow) → All (IsLimitPivotRowBelow q) rows →
      All IsTextByte (flat_map group_text rows)
  groups_bytes rows h =
      All-flat_map IsTextByte group_text rows
      (All-weaker (IsLimitPivotRowBelow q) (λ row. All IsTextByte (group_text row)) group_bytes rows
      h)

  covers_bytes : (lines : List CoverLine) → All (IsCoverLineBelow q) lines →
      All IsTextByte (flat_map cover_line lines)
  covers_bytes lines h =
      forms_bytes (cover_form q) (cover_is_clear q small) lines h
      (λ l. (known (codes "cover") refl, (tt, (tt, (kind_printable l.face.kind, (tt, (tt, tt)))))))

modulus_bytes : (n : Numbers) → All IsTextByte (modulus_text n)
modulus_bytes Whole = All-nil IsTextByte
modulus_bytes Residues =
    form_bytes modulus_form modulus_is_clear tt tt (known (codes "modulus") refl, (tt, tt))

-- ---- the lines of halves

pair_words : (p : Pair) → HavePrintableWords (pair_fields p)
pair_words p =
    let first = known (codes "pair") refl in
    by_jump (HavePrintableWords (pair_fields p)) p
    (λ b. subst HavePrintableWords (sym (smooth_fields p b)) (first, (tt, (tt, tt))))
    (λ b. subst HavePrintableWords (sym (jump_fields p b))
    (first, (tt, (tt, (tt, (tt, (tt, (tt, tt))))))))

-- ---- the text

own_bytes : (c : LimitClaim) → IsBounded c → HasText c → All IsTextByte (own_text c)
own_bytes (Extreme n f lines rows) within has =
    both (flat_map cover_line lines) (modulus_text n ++ flat_map group_text rows)
    (covers_bytes f.order within.order_high lines has.lines_below)
    (both (modulus_text n) (flat_map group_text rows) (modulus_bytes n)
    (groups_bytes f.order within.order_high rows has.rows_below))
own_bytes (NotExtreme f h) within has =
    both (halves_line h) (flat_map pair_line (pairs_of h))
    (form_bytes halves_form halves_is_clear (head_of h) (head_in_bounds h has)
    (known (codes "halves") refl, (tt, (tt, tt))))
    (forms_bytes pair_form pair_is_clear (pairs_of h) (pairs_fit h has) pair_words)

claim_bytes : (c : LimitClaim) → All IsTextByte (claim_line c)
claim_bytes (Extreme n f lines rows) =
    ended (codes "claim extreme") (known (codes "claim extreme") refl)
claim_bytes (NotExtreme f h) =
    ended (codes "claim not-extreme") (known (codes "claim not-extreme") refl)

pub text_bytes : (c : LimitClaim) (text : List ℕ) → IsBounded c → IsLimitProofText c text →
    All IsTextByte text
text_bytes c text within p =
    let head = title_line ++ claim_line c in
    subst (All IsTextByte) (sym p.spelled)
    (both (head ++ p.subject ++ own_text c) (line (codes "end"))
    (both (head ++ p.subject) (own_text c)
    (both head p.subject
    (both title_line (claim_line c) (ended (codes "gj-proof 3") (known (codes "gj-proof 3") refl))
    (claim_bytes c))
    (function_bytes (function_of c) p.subject within p.are_function_lines))
    (own_bytes c within p.has_text))
    (ended (codes "end") (known (codes "end") refl)))

pub text_is_ended : (c : LimitClaim) (text : List ℕ) → IsLimitProofText c text → IsEnded text
text_is_ended c text p =
    let front = title_line ++ claim_line c ++ p.subject ++ own_text c in
    inr (front ++ codes "end", p.spelled ∙ sym (append_assoc front (codes "end") (10 ∷ [])))
