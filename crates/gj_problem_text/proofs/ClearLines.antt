-- A line tells one thing: the form of the lines is clear.
use Rattle.std.proofs.Common.{◌≡◌, ℕ, List, [], ◌∷◌, Bool, true, false, map, codes, refl, sym, ap, ap₂}
use Rattle.gj_frac.specs.declared.Frac.{Frac}
use Rattle.gj_forms.specs.Parts.{IsExactRule}
use Rattle.gj_forms.specs.LineForms.{Field, with_numbers, first_of, others_of, words_of}
use Rattle.gj_forms.specs.LineForms.Field.{fraction}
use Rattle.gj_forms.proofs.FieldWords.{AreAlike, head_and_tail}
use Rattle.gj_forms.proofs.PlainWords.{apart}
use Rattle.gj_forms.proofs.SpelledLaws.{IsClearForm}
use Rattle.gj_problem.specs.declared.problem.Sense.{Sense}
use Rattle.gj_problem.specs.declared.problem.Sense.TheVariants.{AtMost, AtLeast, Equal}
use Rattle.gj_problem_text.specs.ProblemLines.{ProblemLine, column, constraint, entry, upper, sum, grid, round, kind_word, sense_word, problem_fields, problem_form, told_rule}
use Rattle.gj_problem_text.proofs.NumberLines.{number_rule_is_exact}

-- the first word of a line
abbrev head : ProblemLine → List ℕ
head (column name is_whole low high) = codes "column"
head (constraint name sense right) = codes "constraint"
head (entry name value) = codes "entry"
head (upper name) = codes "upper"
head (sum multipliers) = codes "sum"
head (grid n) = codes "grid"
head (round n) = codes "round"

-- ---- words that differ in numbers alone

no_words : (v : List ℕ) (vs : List (List ℕ)) → [] ≡ v ∷ vs → ⊥
no_words v vs e = cc

alike_numbers : (xs ys : List Frac) (words : List (List ℕ)) →
    with_numbers (map fraction xs) words ≡ with_numbers (map fraction ys) words →
    AreAlike (map fraction xs) (map fraction ys)
alike_numbers [] [] words e = tt
alike_numbers [] (y ∷ ys) words e = absurd (no_words _ _ e)
alike_numbers (x ∷ xs) [] words e = absurd (no_words _ _ (sym e))
alike_numbers (x ∷ xs) (y ∷ ys) words e =
    alike_numbers xs ys (others_of words) (head_and_tail _ _ _ _ e).1

alike_lines : (a b : ProblemLine) (words : List (List ℕ)) →
    with_numbers (problem_fields a) words ≡ with_numbers (problem_fields b) words →
    AreAlike (problem_fields a) (problem_fields b)
alike_lines (column m j k h) (column n j' k' h') words e = tt
alike_lines (constraint m s x) (constraint n t y) words e = tt
alike_lines (entry m x) (entry n y) words e = tt
alike_lines (upper m) (upper n) words e = tt
alike_lines (sum xs) (sum ys) words e =
    alike_numbers xs ys (others_of words) (head_and_tail _ _ _ _ e).1
alike_lines (grid m) (grid n) words e = tt
alike_lines (round m) (round n) words e = tt
alike_lines a b words e = absurd (apart (head a) (head b) refl (ap first_of e))

-- ---- fields tell the line

one_kind : (j k : Bool) → kind_word j ≡ kind_word k → j ≡ k
one_kind true true e = refl
one_kind false false e = refl
one_kind true false e = absurd (apart (kind_word true) (kind_word false) refl e)
one_kind false true e = absurd (apart (kind_word false) (kind_word true) refl e)

one_sense : (s t : Sense) → sense_word s ≡ sense_word t → s ≡ t
one_sense AtMost AtMost e = refl
one_sense AtLeast AtLeast e = refl
one_sense Equal Equal e = refl
one_sense s t e = absurd (apart (sense_word s) (sense_word t) refl e)

no_field : (f : Field) (fields : List Field) → [] ≡ f ∷ fields → ⊥
no_field f fields e = cc

one_number : (x y : Frac) → fraction x ≡ fraction y → x ≡ y
one_number x y e = cc

one_list : (xs ys : List Frac) → map fraction xs ≡ map fraction ys → xs ≡ ys
one_list [] [] e = refl
one_list [] (y ∷ ys) e = absurd (no_field _ _ e)
one_list (x ∷ xs) [] e = absurd (no_field _ _ (sym e))
one_list (x ∷ xs) (y ∷ ys) e =
    let same = head_and_tail _ _ _ _ e in
    ap₂ (λ z zs. z ∷ zs) (one_number x y same.0) (one_list xs ys same.1)

told_line : (a b : ProblemLine) → problem_fields a ≡ problem_fields b → a ≡ b
told_line (column m j k h) (column n j' k' h') e =
    let name : m ≡ n = cc in
    let kind : kind_word j ≡ kind_word j' = cc in
    let low : k ≡ k' = cc in
    let high : h ≡ h' = cc in
    λ i. column (name i) (one_kind j j' kind i) (low i) (high i)
told_line (constraint m s x) (constraint n t y) e =
    let name : m ≡ n = cc in
    let sense : sense_word s ≡ sense_word t = cc in
    let right : x ≡ y = cc in
    λ i. constraint (name i) (one_sense s t sense i) (right i)
told_line (entry m x) (entry n y) e =
    let name : m ≡ n = cc in
    let value : x ≡ y = cc in
    λ i. entry (name i) (value i)
told_line (upper m) (upper n) e = let name : m ≡ n = cc in ap upper name
told_line (sum xs) (sum ys) e = let numbers : map fraction xs ≡ map fraction ys = cc in
    ap sum (one_list xs ys numbers)
told_line (grid m) (grid n) e = let same : m ≡ n = cc in ap grid same
told_line (round m) (round n) e = let same : m ≡ n = cc in ap round same
told_line a b e = absurd
    (apart (head a) (head b) refl (ap (λ fields. first_of (words_of fields)) e))

problem_form_is_clear : IsClearForm problem_form
problem_form_is_clear = record { of_form = λ a h. tt; alike = alike_lines; tell = told_line }

pub told_rule_is_exact : IsExactRule told_rule.Spells told_rule.Breaks
told_rule_is_exact = number_rule_is_exact problem_form problem_form_is_clear
