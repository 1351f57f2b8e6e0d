-- Forms of one field, and of fields one behind another (own).
use Rattle.std.specs.Prelude.{ℕ, pos, ◌<ℤ◌, ◌≡◌, ◌⊎◌, List, [], ◌∷◌, ◌++◌}
use Rattle.gj_frac.specs.Fraction.{numerator}
use Rattle.gj_frac.specs.declared.Frac.{Frac}
use Rattle.gj_lex.specs.Name.{IsName}
use Rattle.gj_lex.specs.declared.spelling.Spelling.{Spelling}
use Rattle.gj_lex.specs.declared.reason.Reason.{Reason}
use Rattle.gj_lex.specs.declared.reason.Reason.TheVariants as reason
use Rattle.gj_forms.specs.LineForms.{Field, word_of, with_numbers, LineForm, form_of}
use Rattle.gj_forms.specs.LineForms.Field.{word, fraction, count, whole}
use Rattle.gj_forms.specs.SpelledForms.{IsWordOf}
use Rattle.gj_forms.proofs.FieldWords.{IfAlike, AreAlike}

-- ---- one field

-- the fields of things of one type, the things whose word may stand there (else `form`), and those
-- that have a word (else `number`)
pub record FieldForm (A : Type 0) : Type 1 where
  pub field : A → Field
  pub HasForm : A → Type 0
  pub HasWord : A → Type 0

-- a fraction
abbrev pub any_fraction : FieldForm Frac
any_fraction = record { field = fraction; HasForm = λ x. Unit {0}; HasWord = λ x. Unit {0} }

-- a fraction above 0
abbrev pub positive_fraction : FieldForm Frac
positive_fraction = record {
  field = fraction;
  HasForm = λ x. Unit {0};
  HasWord =
      λ x. pos 0 <ℤ numerator x;
}

-- a name
abbrev pub name_word : FieldForm (List ℕ)
name_word = record { field = word; HasForm = IsName; HasWord = IsName }

-- ---- fields one behind another

-- no field
abbrev pub no_form : LineForm (Unit {0})
no_form = form_of (λ t. [])

-- a field, and others behind it
abbrev pub then_form : {A B : Type 0} → FieldForm A → LineForm B → LineForm (A × B)
then_form f g = record {
  fields = λ p. f.field p.0 ∷ g.fields p.1;
  HasForm = λ p. f.HasForm p.0 × g.HasForm p.1;
  HasLine = λ p. f.HasWord p.0 × g.HasLine p.1;
}

-- a known word, and fields behind it
abbrev pub named_form : {A : Type 0} → List ℕ → LineForm A → LineForm A
named_form name g = record {
  fields = λ a. word name ∷ g.fields a;
  HasForm = g.HasForm;
  HasLine =
      g.HasLine;
}

-- the bytes of fields behind a first one: a space before each, and a line feed
abbrev pub tail_of : List Field → List ℕ
tail_of [] = 10 ∷ []
tail_of (f ∷ fields) = 32 ∷ word_of f ++ tail_of fields

-- ---- the rule that a word breaks

-- the word of a field, but for a number the word that stands there
abbrev pub given : Field → List ℕ → List ℕ
given (word v) w = v
given (fraction x) w = w
given (count n) w = w
given (whole n) w = w

-- the word is one of the field, or stands in the place of a number
abbrev pub IsOfField : {A : Type 0} → FieldForm A → List ℕ → Type 0
IsOfField {A} f w = (a : A) × (w ≡ given (f.field a) w) × f.HasForm a

-- the word breaks the form of the field
abbrev pub WordBreaks : {A : Type 0} → Spelling → FieldForm A → List ℕ → Reason → Type 0
WordBreaks {A} s f w e =
    ((e ≡ reason.Form) × (IsOfField f w → ⊥))
    ⊎ ((e ≡ reason.Number) × IsOfField f w × ((a : A) → IsWordOf s (f.field a) w → f.HasWord a → ⊥))

-- ---- what is asked of forms

-- what is asked of the form of a field
pub record IsClearField {A : Type 0} (f : FieldForm A) : Type 0 where
  pub of_form : (a : A) → f.HasWord a → f.HasForm a
  pub alike : (a b : A) (w : List ℕ) → given (f.field a) w ≡ given (f.field b) w →
      IfAlike (f.field a) (f.field b) (Unit {0})
  pub tell : (a b : A) → f.field a ≡ f.field b → a ≡ b

-- what is asked of the form of fields
pub record AreClearFields {A : Type 0} (form : LineForm A) : Type 0 where
  pub of_form : (a : A) → form.HasLine a → form.HasForm a
  pub alike : (a b : A) (words : List (List ℕ)) →
      with_numbers (form.fields a) words ≡ with_numbers (form.fields b) words →
      AreAlike (form.fields a) (form.fields b)
  pub tell : (a b : A) → form.fields a ≡ form.fields b → a ≡ b
