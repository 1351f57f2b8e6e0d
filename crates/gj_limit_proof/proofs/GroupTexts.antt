-- The lines of groups, and the line of the modulus before them, are read as what they spell.
use Rattle.std.proofs.Common.{◌≡◌, ◌≢◌, inl, inr, ℕ, ◌<◌, ◌≤◌, List, [], ◌∷◌, ◌++◌, All, length, flat_map, codes, refl, sym, ap, subst, ◌∙◌, arith, length-append}
use Rattle.std.proofs.lemmas.List.{append_assoc}
use Rattle.std.proofs.lemmas.List.Elements.{All-head}
use Rattle.gj_lex.specs.declared.spelling.Spelling.TheVariants.{Strict}
use Rattle.gj_forms.specs.LineForms.{LineForm, rule_of}
use Rattle.gj_forms.specs.ListParts.{IsPrinted}
use Rattle.gj_forms.specs.Parts.{Part, BeginsWithWord, empty_part, then_part, made_part, IsExactPart}
use Rattle.gj_forms.proofs.LineLaws.{IsClear, part_is_exact, line_is_read, line_is_printed, begins_so, begins_not}
use Rattle.gj_forms.proofs.ListLaws.{until_part_is_exact, until_is_printed, then_is_printed}
use Rattle.gj_forms.proofs.ListRead.{printed_as}
use Rattle.gj_forms.proofs.PartLaws.{empty_part_is_exact, then_part_is_exact, made_part_is_exact}
use Rattle.gj_forms.proofs.PlainWords.{known, apart}
use Rattle.gj_forms.proofs.WhereLaws.{where_part_is_exact, shorter_behind_line}
use Rattle.gj_limit_system.specs.declared.limit_row.LimitRow.{LimitRow}
use Rattle.gj_limit_system.specs.declared.limit_row.LimitRow.TheVariants.{F, Tight}
use Rattle.gj_proof.specs.ProofGrammar.{column_form, form_part, modulus_form, steps_part}
use Rattle.gj_proof.specs.ProofText.{reduction_line, pivot_line, modulus_text}
use Rattle.gj_proof.specs.declared.numbers.Numbers.{Numbers}
use Rattle.gj_proof.specs.declared.numbers.Numbers.TheVariants.{Whole, Residues}
use Rattle.gj_proof.proofs.ClearLines.{column_is_clear, modulus_is_clear}
use Rattle.gj_proof.proofs.CutTexts.{BeginsEnd}
use Rattle.gj_proof.proofs.ExtremeTexts.{EndsSteps, steps_are_exact, steps_are_printed}
use Rattle.gj_limit_proof.specs.LimitGrammar.{row_form, numbers_part, group_part, groups_part}
use Rattle.gj_limit_proof.specs.LimitText.{group_line, group_text, greatest_columns, IsRowWithin, IsLimitPivotRowBelow}
use Rattle.gj_limit_proof.specs.declared.claim.LimitPivotRow.{LimitPivotRow}
use Rattle.gj_limit_proof.proofs.LimitForms.{row_is_clear}

abbrev pub BeginsModulus : List ℕ → Type 0
BeginsModulus = BeginsWithWord Strict (codes "modulus")

abbrev pub pivot_form : LineForm ℕ
pivot_form = column_form (codes "pivot") greatest_columns

pub pivot_is_clear : IsClear pivot_form
pivot_is_clear =
    column_is_clear (codes "pivot") greatest_columns (known (codes "pivot") refl) (omega arith)

-- what follows the steps of a group, and what follows its first line
abbrev pub makes_row : LimitRow → List ℕ → ℕ → LimitPivotRow → Type 0
makes_row name columns c row = row ≡ record { name = name; reduce = columns; pivot = c }

abbrev pub behind_steps : LimitRow → List ℕ → Part LimitPivotRow
behind_steps name columns = made_part (makes_row name columns) (form_part pivot_form)

abbrev pub behind_name : LimitRow → Part LimitPivotRow
behind_name name = then_part (steps_part greatest_columns) (behind_steps name)

-- ---- the line of the modulus

abbrev pub makes_residues : Unit {0} → Numbers → Type 0
makes_residues t n = n ≡ Residues

pub numbers_are_exact : IsExactPart numbers_part.Reads numbers_part.Faults
numbers_are_exact =
    where_part_is_exact BeginsModulus (made_part makes_residues (form_part modulus_form))
    (empty_part Whole)
    (made_part_is_exact makes_residues (λ t m n h k. h ∙ sym k) (form_part modulus_form)
    (part_is_exact modulus_form modulus_is_clear))
    (empty_part_is_exact Whole)

pub numbers_are_printed : IsPrinted numbers_part (λ rest. BeginsModulus rest → ⊥) modulus_text
    (λ n. Unit {0})
numbers_are_printed = record { reads = reads; found = found }
  where
    reads : (n : Numbers) (rest : List ℕ) → Unit {0} → (BeginsModulus rest → ⊥) →
        numbers_part.Reads (modulus_text n ++ rest) n rest
    reads Whole rest t other = inr (other, (refl, refl))
    reads Residues rest t other =
        inl (
          begins_so modulus_form modulus_is_clear tt (codes "modulus") _ rest tt refl,
          (tt, line_is_read modulus_form modulus_is_clear tt rest tt, refl),
        )

    found : (text rest : List ℕ) (n : Numbers) → numbers_part.Reads text n rest →
        (text ≡ modulus_text n ++ rest) × Unit {0}
    found text rest n (inl (is, (t, line, n_is))) = (
      ((line_is_printed modulus_form modulus_is_clear).found text rest t line).0
          ∙ ap (λ m. modulus_text m ++ rest) (sym n_is),
      tt,
    )
    found text rest n (inr (not, (n_is, text_is))) =
        (text_is ∙ ap (λ m. modulus_text m ++ rest) (sym n_is), tt)

-- ---- groups are exact

behind_name_is_exact : (name : LimitRow) →
    IsExactPart (behind_name name).Reads (behind_name name).Faults
behind_name_is_exact name =
    then_part_is_exact (steps_part greatest_columns) (behind_steps name)
    (steps_are_exact greatest_columns (omega arith))
    (λ columns. made_part_is_exact (makes_row name columns) (λ c r s h k. h ∙ sym k)
    (form_part pivot_form)
    (part_is_exact pivot_form pivot_is_clear))

group_is_exact : (q : ℕ) → q ≤ 1000 → IsExactPart (group_part q).Reads (group_part q).Faults
group_is_exact q small =
    then_part_is_exact (form_part (row_form q)) behind_name
    (part_is_exact (row_form q) (row_is_clear q small)) behind_name_is_exact

pub groups_are_exact : (q : ℕ) → q ≤ 1000 → IsExactPart (groups_part q).Reads (groups_part q).Faults
groups_are_exact q small = until_part_is_exact BeginsEnd (group_part q) (group_is_exact q small) []

-- less is left behind a group
pub shorter_behind_group : (q : ℕ) (text rest : List ℕ) (row : LimitPivotRow) →
    (group_part q).Reads text row rest → length rest < length text
shorter_behind_group q text rest row (name, middle, first, more) =
    let less = shorter_behind_line Strict (rule_of (row_form q)) text middle name first in
    let ends = (behind_name_is_exact name).rest_ends middle row rest more in
    omega (arith, ap length ends.1, length-append ends.0 rest)

-- ---- groups are read as they are printed

-- what follows the first line of a group of this name
abbrev HasSteps : LimitRow → LimitPivotRow → Type 0
HasSteps name row = (name ≡ row.name) × All (λ c. c < greatest_columns) row.reduce
    × (row.pivot < greatest_columns)

abbrev steps_text : LimitPivotRow → List ℕ
steps_text row = flat_map reduction_line row.reduce ++ pivot_line row.pivot

behind_is_printed : (name : LimitRow) →
    IsPrinted (behind_name name) (λ rest. Unit {0}) steps_text (HasSteps name)
behind_is_printed name =
    then_is_printed (steps_part greatest_columns) (behind_steps name) EndsSteps (λ rest. Unit {0})
    (flat_map reduction_line) (All (λ c. c < greatest_columns))
    (HasSteps name) (λ row. row.reduce) (λ row. pivot_line row.pivot)
    (steps_are_printed greatest_columns (omega arith))
    (λ row h. h.1)
    (λ row rest h t. begins_not pivot_form pivot_is_clear row.pivot (codes "pivot")
    (codes "reduce") _ rest h.2 refl
    (apart (codes "pivot") (codes "reduce") refl))
    reads found
  where
    reads : (row : LimitPivotRow) (rest : List ℕ) → HasSteps name row → Unit {0} →
        (behind_steps name row.reduce).Reads (pivot_line row.pivot ++ rest) row rest
    reads row rest h t = (
      row.pivot,
      (line_is_printed pivot_form pivot_is_clear).reads row.pivot rest h.2 tt,
      λ i. record { name = sym h.0 i; reduce = row.reduce; pivot = row.pivot },
    )

    found : (columns : List ℕ) (text rest : List ℕ) (row : LimitPivotRow) →
        All (λ c. c < greatest_columns) columns →
        (behind_steps name columns).Reads text row rest → (text ≡ pivot_line row.pivot ++ rest)
        × (columns ≡ row.reduce) × HasSteps name row
    found columns text rest row has (c, line, is) =
        let one = (line_is_printed pivot_form pivot_is_clear).found text rest c line in
        let P : LimitPivotRow → Type 0 = λ r. (text ≡ pivot_line r.pivot ++ rest)
        × (columns ≡ r.reduce) × HasSteps name r in
        subst P (sym is) (one.0, refl, (refl, has, one.1))

-- the first word of a row
begins_row : (q : ℕ) → q ≤ 1000 → (row : LimitRow) (v rest : List ℕ) → IsRowWithin q row →
    codes "row" ≢ v →
    BeginsWithWord Strict v (group_line row ++ rest) → ⊥
begins_row q small F v rest h other =
    begins_not (row_form q) (row_is_clear q small) F (codes "row") v _ rest h refl other
begins_row q small (Tight kind corner a b) v rest h other =
    begins_not (row_form q) (row_is_clear q small) (Tight kind corner a b)
    (codes "row") v _ rest h refl other

-- the text of a group, its first line before the others
abbrev text_of_group : LimitPivotRow → List ℕ
text_of_group row = group_line row.name ++ steps_text row

same_text : (row : LimitPivotRow) → text_of_group row ≡ group_text row
same_text row = sym (append_assoc (group_line row.name) (flat_map reduction_line row.reduce)
    (pivot_line row.pivot))

module _ (q : ℕ) (small : q ≤ 1000) where
  group_is_printed : IsPrinted (group_part q) (λ rest. Unit {0}) group_text (IsLimitPivotRowBelow q)
  group_is_printed =
      printed_as (group_part q) (λ rest. Unit {0}) text_of_group group_text (IsLimitPivotRowBelow q)
      (then_is_printed (form_part (row_form q)) behind_name (λ rest. Unit {0})
      (λ rest. Unit {0}) group_line (IsRowWithin q)
      (IsLimitPivotRowBelow q) (λ row. row.name) steps_text
      (line_is_printed (row_form q) (row_is_clear q small)) (λ row h. h.name)
      (λ row rest h t. tt)
      (λ row rest h t. (behind_is_printed row.name).reads row rest (refl, h.reduce, h.pivot) tt)
      (λ name text rest row below reads.
      let one = (behind_is_printed name).found text rest row reads in (
        one.0,
        one.1.0,
        record {
          name = subst (IsRowWithin q) one.1.0 below;
          reduce =
              one.1.1;
          pivot = one.1.2;
        },
      )))
      same_text

  -- a group begins with no other word
  other_than_row : (row : LimitPivotRow) (v rest : List ℕ) → IsLimitPivotRowBelow q row →
      codes "row" ≢ v →
      BeginsWithWord Strict v (group_text row ++ rest) → ⊥
  other_than_row row v rest h other begins =
      begins_row q small row.name v (steps_text row ++ rest) h.name other
      (subst (BeginsWithWord Strict v)
      (ap (λ t. t ++ rest) (sym (same_text row))
      ∙ append_assoc (group_line row.name) (steps_text row) rest) begins)

  pub groups_are_printed : IsPrinted (groups_part q) BeginsEnd (flat_map group_text)
      (All (IsLimitPivotRowBelow q))
  groups_are_printed =
      until_is_printed BeginsEnd (group_part q) (λ rest. Unit {0}) group_text
      (IsLimitPivotRowBelow q) group_is_printed (λ row rest h. tt)
      (λ row rest h e. other_than_row row (codes "end") rest h
      (apart (codes "row") (codes "end") refl) ([], e)) (λ rest e. tt)

  -- no line of the modulus stands before groups
  pub no_modulus_line : (rows : List LimitPivotRow) (rest : List ℕ) →
      All (IsLimitPivotRowBelow q) rows → (BeginsModulus rest → ⊥) →
      BeginsModulus (flat_map group_text rows ++ rest) → ⊥
  no_modulus_line [] rest h other begins = other begins
  no_modulus_line (row ∷ rows) rest h other begins =
      other_than_row row (codes "modulus") (flat_map group_text rows ++ rest)
      (All-head (IsLimitPivotRowBelow q) row rows h)
      (apart (codes "row") (codes "modulus") refl)
      (subst BeginsModulus (append_assoc (group_text row) (flat_map group_text rows) rest) begins)
