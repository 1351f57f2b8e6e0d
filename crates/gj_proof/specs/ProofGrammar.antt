-- Proof texts as a part of a text: what each line says, and which rule it breaks first (own).
use Rattle.std.specs.Prelude.{ℕ, ℤ, pos, ◌≡◌, ◌≢◌, ◌<◌, ◌≤◌, ◌≤ℤ◌, List, [], ◌∷◌, map, codes}
use Rattle.gj_frac.specs.declared.Frac.{Frac}
use Rattle.gj_frac.specs.Fraction.{Fits}
use Rattle.gj_lex.specs.Name.{IsName}
use Rattle.gj_lex.specs.declared.spelling.Spelling.TheVariants.{Strict}
use Rattle.gj_forms.specs.Parts.{Part, words_rule, line_part, empty_part, then_part, made_part, end_part}
use Rattle.gj_shape.specs.declared.extremality.CoverLine.{CoverLine}
use Rattle.gj_shape.specs.declared.extremality.Halves.{Halves}
use Rattle.gj_shape.specs.declared.extremality.RowName.{RowName}
use Rattle.gj_shape.specs.declared.faces.FaceKind.TheVariants.{Vertex}
use Rattle.gj_shape.specs.declared.violations.Violation.{Violation}
use Rattle.gj_shape.specs.Limits.{greatest_order, greatest_halves_order, greatest_halves_scale}
use Rattle.gj_function_lines.specs.FaceLines.{cover_fields}
use Rattle.gj_function_lines.specs.FunctionGrammar.{function_part}
use Rattle.gj_forms.specs.LineForms.{Field, LineForm, form_of, rule_of}
use Rattle.gj_forms.specs.ListParts.{while_part, until_part, times_part}
use Rattle.gj_proof.specs.ProofText.{title_fields, claim_fields, violation_fields, row_fields, term_fields, modulus_fields, row_name_fields, column_fields, halves_fields, pair_fields, IsCoverLineBelow, IsRowNameBelow, extreme_claim}
use Rattle.gj_forms.specs.Parts.{BeginsWithLine, BeginsWithWord, where_part}
use Rattle.gj_proof.specs.declared.claim.Claim.{Claim}
use Rattle.gj_proof.specs.declared.claim.Claim.TheVariants as claim
use Rattle.gj_proof.specs.declared.claim.ClaimWord.{ClaimWord}
use Rattle.gj_proof.specs.declared.claim.ClaimWord.TheVariants.{Minimal, NotMinimal, Cut, Extreme, NotExtreme}
use Rattle.gj_proof.specs.declared.numbers.Numbers.{Numbers}
use Rattle.gj_proof.specs.declared.numbers.Numbers.TheVariants.{Whole, Residues}
use Rattle.gj_proof.specs.declared.cut.CutRule.{CutRule}
use Rattle.gj_proof.specs.declared.cut.CutRule.TheVariants.{Gmic, Table}
use Rattle.gj_proof.specs.declared.cut.CutLine.{CutLine}
use Rattle.gj_proof.specs.declared.cut.CutLine.TheVariants as cuts
use Rattle.gj_proof.specs.declared.cut.CutTerm.{CutTerm}
use Rattle.gj_proof.specs.declared.pivot.PivotRow.{PivotRow}
use Rattle.gj_proof.specs.declared.cut_rows.RowHead.{RowHead}
use Rattle.gj_proof.specs.declared.cut_rows.RowKind.{RowKind}
use Rattle.gj_proof.specs.declared.halves.HalvesHead.{HalvesHead}
use Rattle.gj_proof.specs.declared.cut_rows.RowKind.TheVariants.{WithCut, Skipped}

-- ---- the lines, each with the things that have words of its form, and those that have a line

abbrev pub title_form : LineForm Numbers
title_form = form_of title_fields

-- the word behind `claim`
abbrev pub claim_word_text : ClaimWord → List ℕ
claim_word_text Minimal = codes "minimal"
claim_word_text NotMinimal = codes "not-minimal"
claim_word_text Cut = codes "cut"
claim_word_text (Extreme numbers) = codes "extreme"
claim_word_text NotExtreme = codes "not-extreme"

-- the numbers of the texts in which a claim of the word stands
abbrev pub numbers_of_word : ClaimWord → Numbers
numbers_of_word Minimal = Whole
numbers_of_word NotMinimal = Whole
numbers_of_word Cut = Whole
numbers_of_word (Extreme numbers) = numbers
numbers_of_word NotExtreme = Whole

-- in a text of these numbers
abbrev pub claim_form : Numbers → LineForm ClaimWord
claim_form numbers = record {
  fields = λ w. claim_fields (claim_word_text w);
  HasForm = λ w. numbers_of_word w ≡ numbers;
  HasLine = λ w. numbers_of_word w ≡ numbers;
}

abbrev pub violation_form : LineForm Violation
violation_form = form_of violation_fields

-- the row of cuts of a first line, with these terms if it has a cut
abbrev pub row_of : RowKind → List ℕ → Frac → List CutTerm → CutLine
row_of WithCut name right terms = cuts.Cut name right terms
row_of (Skipped reason) name right terms = cuts.Skip name right reason

abbrev pub head_fields : RowKind → List ℕ → Frac → List Field
head_fields kind name right = row_fields (row_of kind name right [])

abbrev pub head_form : LineForm RowHead
head_form = record {
  fields = λ h. head_fields h.kind h.name h.right;
  HasForm = λ h. IsName h.name;
  HasLine = λ h. IsName h.name;
}

abbrev pub term_form : LineForm CutTerm
term_form = record {
  fields = term_fields;
  HasForm = λ t. IsName t.name;
  HasLine =
      λ t. IsName t.name;
}

abbrev pub cover_form : ℕ → LineForm CoverLine
cover_form q = record {
  fields = cover_fields;
  HasForm = λ l. l.face.kind ≢ Vertex;
  HasLine =
      IsCoverLineBelow q;
}

abbrev pub modulus_form : LineForm (Unit {0})
modulus_form = form_of (λ t. modulus_fields)

abbrev pub row_name_form : ℕ → LineForm RowName
row_name_form q = record {
  fields = row_name_fields;
  HasForm = λ n. Unit {0};
  HasLine =
      IsRowNameBelow q;
}

-- a word and a column below the limit
abbrev pub column_form : List ℕ → ℕ → LineForm ℕ
column_form w limit = record {
  fields = column_fields w;
  HasForm = λ c. Unit {0};
  HasLine =
      λ c. c < limit;
}

-- the order and the scale are within the limits
pub record IsHeadInBounds (h : HalvesHead) : Type 0 where
  pub order_low : 2 ≤ h.order
  pub order_high : h.order ≤ greatest_halves_order
  pub scale_low : pos 1 ≤ℤ h.scale
  pub scale_high : h.scale ≤ℤ pos greatest_halves_scale

abbrev pub halves_form : LineForm HalvesHead
halves_form = record {
  fields = λ h. halves_fields h.order h.scale;
  HasForm =
      λ h. Unit {0};
  HasLine = IsHeadInBounds;
}

abbrev pub pair_form : LineForm (ℤ × ℤ)
pair_form = record {
  fields = pair_fields;
  HasForm = λ p. Unit {0};
  HasLine = λ p. Fits p.0
      × Fits p.1;
}

-- a line of a form
abbrev pub form_part : {A : Type 0} → LineForm A → Part A
form_part form = line_part Strict (rule_of form)

-- ---- the rule of cuts

-- the line `rule gmic`, if the text begins with it, and else the lines of a function
abbrev pub rule_part : Part CutRule
rule_part =
    where_part (BeginsWithLine Strict (codes "rule" ∷ codes "gmic" ∷ []))
    (made_part (λ t r. r ≡ Gmic) (line_part Strict (words_rule (codes "rule" ∷ codes "gmic" ∷ []))))
    (made_part (λ f r. r ≡ Table f) (function_part Strict))

-- ---- rows

-- terms, as long as lines begin with `term`
abbrev pub terms_part : Part (List CutTerm)
terms_part = while_part (BeginsWithWord Strict (codes "term")) (form_part term_form) []

-- what follows the first line of a row: the terms of its cut, if it has one
abbrev pub behind_head : List ℕ → Frac → RowKind → Part CutLine
behind_head name right WithCut = made_part (λ terms l. l ≡ cuts.Cut name right terms) terms_part
behind_head name right (Skipped reason) = empty_part (cuts.Skip name right reason)

abbrev pub row_part : Part CutLine
row_part = then_part (form_part head_form) (λ h. behind_head h.name h.right h.kind)

-- rows, up to a line `end`
abbrev pub rows_part : Part (List CutLine)
rows_part = until_part (BeginsWithLine Strict (codes "end" ∷ [])) row_part []

-- ---- the lines of an extreme function

-- so many lines of covered intervals
abbrev pub covered_part : ℕ → Part (List CoverLine)
covered_part q = times_part (form_part (cover_form q)) q []

-- by residues the line of the modulus, and else none
abbrev pub modulus_part : Numbers → Part (Unit {0})
modulus_part Whole = empty_part tt
modulus_part Residues = form_part modulus_form

-- steps with columns below the limit, as long as lines begin with `reduce`
abbrev pub steps_part : ℕ → Part (List ℕ)
steps_part limit = while_part (BeginsWithWord Strict (codes "reduce"))
    (form_part (column_form (codes "reduce") limit)) []

abbrev pub group_part : ℕ → Part PivotRow
group_part q =
    then_part (form_part (row_name_form q)) (λ name.
    then_part (steps_part greatest_order) (λ columns.
    made_part (λ c row. row ≡ record { name = name; reduce = columns; pivot = c })
    (form_part (column_form (codes "pivot") greatest_order))))

-- groups, up to a line `end`
abbrev pub groups_part : ℕ → Part (List PivotRow)
groups_part q = until_part (BeginsWithLine Strict (codes "end" ∷ [])) (group_part q) []

-- ---- halves

-- so many pairs of values
abbrev pub pairs_part : ℕ → Part (List (ℤ × ℤ))
pairs_part n = times_part (form_part pair_form) n []

abbrev pub halves_part : Part Halves
halves_part =
    then_part (form_part halves_form) (λ head.
    made_part (λ pairs h. h
    ≡ record {
      order = head.order;
      scale = head.scale;
      first = map (λ p. p.0) pairs;
      second =
          map (λ p. p.1) pairs;
    })
    (pairs_part head.order))

-- ---- the whole text

-- of a claim that a function is extreme, by rows of these numbers: the lines of the function, of
-- covered intervals, of the modulus and of groups
abbrev pub extreme_part : Numbers → Part Claim
extreme_part numbers =
    then_part (function_part Strict) (λ f.
    then_part (covered_part f.order) (λ lines.
    then_part (modulus_part numbers) (λ t.
    made_part (λ rows c. c ≡ extreme_claim numbers f lines rows) (groups_part f.order))))

-- the lines between the word of the claim and `end`: those of its subject and its own
abbrev pub claim_part : ClaimWord → Part Claim
claim_part Minimal = made_part (λ f c. c ≡ claim.Minimal f) (function_part Strict)
claim_part NotMinimal =
    then_part (function_part Strict)
    (λ f. made_part (λ v c. c ≡ claim.NotMinimal f v) (form_part violation_form))
claim_part Cut = then_part rule_part
    (λ rule. made_part (λ rows c. c ≡ claim.Cut rule rows) rows_part)
claim_part (Extreme numbers) = extreme_part numbers
claim_part NotExtreme =
    then_part (function_part Strict) (λ f. made_part (λ h c. c ≡ claim.NotExtreme f h) halves_part)

-- `gj-proof N`, the line `claim W`, those lines, `end`, and nothing more
abbrev pub proof_text : Part Claim
proof_text =
    then_part (form_part title_form) (λ numbers.
    then_part (then_part (form_part (claim_form numbers)) claim_part) (λ c.
    then_part (line_part Strict (words_rule (codes "end" ∷ []))) (λ t. end_part Strict c)))
