-- Proof texts about functions that jump as a part of a text: what each line says, and which rule it
-- breaks first (own).
use Rattle.std.specs.Prelude.{ℕ, ◌≡◌, List, [], ◌∷◌, map, codes}
use Rattle.gj_frac.specs.Fraction.{Fits}
use Rattle.gj_lex.specs.declared.spelling.Spelling.TheVariants.{Strict}
use Rattle.gj_forms.specs.Parts.{LineRule, Part, words_rule, line_part, empty_part, then_part, made_part, end_part, BeginsWithLine, BeginsWithWord, where_part}
use Rattle.gj_forms.specs.LineForms.{LineForm, form_of, rule_of}
use Rattle.gj_forms.specs.SpelledForms.{barred_rule}
use Rattle.gj_forms.specs.ListParts.{until_part, times_part}
use Rattle.gj_shape.specs.declared.extremality.LimitHalves.{LimitHalves}
use Rattle.gj_shape.specs.declared.extremality.SideNumbers.{SideNumbers}
use Rattle.gj_function_lines.specs.FunctionGrammar.{function_part}
use Rattle.gj_limit_system.specs.declared.limit_row.LimitRow.{LimitRow}
use Rattle.gj_proof.specs.ProofGrammar.{column_form, form_part, covered_part, modulus_form, steps_part, halves_form}
use Rattle.gj_proof.specs.declared.numbers.Numbers.{Numbers}
use Rattle.gj_proof.specs.declared.numbers.Numbers.TheVariants.{Whole, Residues}
use Rattle.gj_limit_proof.specs.declared.claim.LimitClaim.{LimitClaim}
use Rattle.gj_limit_proof.specs.declared.claim.LimitClaim.TheVariants as claim
use Rattle.gj_limit_proof.specs.declared.claim.LimitPivotRow.{LimitPivotRow}
use Rattle.gj_limit_proof.specs.declared.triple.Triple.{Triple}
use Rattle.gj_limit_proof.specs.LimitText.{title_fields, row_fields, pair_fields, IsRowWithin, greatest_columns}

-- ---- the lines

abbrev pub title_form : LineForm (Unit {0})
title_form = form_of (λ t. title_fields)

-- a row
abbrev pub row_form : ℕ → LineForm LimitRow
row_form q = record { fields = row_fields; HasForm = λ n. Unit {0}; HasLine = IsRowWithin q }

abbrev pub AllFit : Triple → Type 0
AllFit t = Fits t.left × Fits t.value × Fits t.right

abbrev pub pair_form : LineForm (Triple × Triple)
pair_form = record {
  fields = pair_fields;
  HasForm = λ p. Unit {0};
  HasLine = λ p. AllFit p.0
      × AllFit p.1;
}

-- six words, of which the first three are the same and the last three are
abbrev pub AreTwiceThree : List (List ℕ) → Type 0
AreTwiceThree words = (v w : List ℕ) × (words ≡ codes "pair" ∷ v ∷ v ∷ v ∷ w ∷ w ∷ w ∷ [])

-- such words have not the form: of them one each is printed
abbrev pub pair_rule : LineRule (Triple × Triple)
pair_rule = barred_rule AreTwiceThree (rule_of pair_form)

-- ---- an extreme function

-- the line of the modulus, if the text begins with its word, and else none
abbrev pub numbers_part : Part Numbers
numbers_part =
    where_part (BeginsWithWord Strict (codes "modulus"))
    (made_part (λ t n. n ≡ Residues) (form_part modulus_form))
    (empty_part Whole)

abbrev pub group_part : ℕ → Part LimitPivotRow
group_part q =
    then_part (form_part (row_form q)) (λ name.
    then_part (steps_part greatest_columns) (λ columns.
    made_part (λ c row. row ≡ record { name = name; reduce = columns; pivot = c })
    (form_part (column_form (codes "pivot") greatest_columns))))

-- groups, up to a line `end`
abbrev pub groups_part : ℕ → Part (List LimitPivotRow)
groups_part q = until_part (BeginsWithLine Strict (codes "end" ∷ [])) (group_part q) []

abbrev pub extreme_part : Part LimitClaim
extreme_part =
    then_part (function_part Strict) (λ f.
    then_part (covered_part f.order) (λ lines.
    then_part numbers_part (λ numbers.
    made_part (λ rows c. c ≡ claim.Extreme numbers f lines rows) (groups_part f.order))))

-- ---- halves

abbrev pub pair_part : Part (Triple × Triple)
pair_part = line_part Strict pair_rule

-- so many lines of numbers
abbrev pub pairs_part : ℕ → Part (List (Triple × Triple))
pairs_part n = times_part pair_part n []

-- the function with these numbers at its points
abbrev pub side_numbers_of : List Triple → SideNumbers
side_numbers_of ts =
    record {
      left = map (λ t. t.left) ts;
      value = map (λ t. t.value) ts;
      right =
          map (λ t. t.right) ts;
    }

abbrev pub halves_part : Part LimitHalves
halves_part =
    then_part (form_part halves_form) (λ head.
    made_part (λ pairs h. h ≡ record {
      order = head.order;
      scale = head.scale;
      first = side_numbers_of (map (λ p. p.0) pairs);
      second = side_numbers_of (map (λ p. p.1) pairs);
    })
    (pairs_part head.order))

abbrev pub not_extreme_part : Part LimitClaim
not_extreme_part =
    then_part (function_part Strict) (λ f. made_part (λ h c. c ≡ claim.NotExtreme f h) halves_part)

-- ---- the whole text

-- the word behind `claim`, and what its lines are
abbrev pub claim_part : Part LimitClaim
claim_part =
    where_part (BeginsWithLine Strict (codes "claim" ∷ codes "not-extreme" ∷ []))
    (then_part (line_part Strict (words_rule (codes "claim" ∷ codes "not-extreme" ∷ [])))
    (λ t. not_extreme_part))
    (then_part (line_part Strict (words_rule (codes "claim" ∷ codes "extreme" ∷ [])))
    (λ t. extreme_part))

-- `gj-proof 3`, the line of the claim, its lines, `end`, and nothing more
abbrev pub limit_proof_text : Part LimitClaim
limit_proof_text =
    then_part (form_part title_form) (λ t.
    then_part claim_part (λ c.
    then_part (line_part Strict (words_rule (codes "end" ∷ []))) (λ u. end_part Strict c)))
