-- Lines of texts, each defined once: one function from a thing to the fields of its line. Words,
-- bytes and the rule by which a line is read are derived from it (own).
use Rattle.std.specs.Prelude.{ℕ, ℤ, ◌≡◌, ◌⊎◌, List, [], ◌∷◌, ◌++◌, decimal}
use Rattle.std.specs.Fmt.{signed_decimal}
use Rattle.gj_frac.specs.declared.Frac.{Frac}
use Rattle.gj_lex.specs.NumberText.{fraction_text}
use Rattle.gj_forms.specs.Parts.{LineRule}
use Rattle.gj_lex.specs.declared.reason.Reason.{Reason}
use Rattle.gj_lex.specs.declared.reason.Reason.TheVariants as reason

-- one field of a line: a word, or a number
pub data Field : Type 0 where
  word : List ℕ → Field
  fraction : Frac → Field
  count : ℕ → Field
  whole : ℤ → Field

-- its word in a line
abbrev pub word_of : Field → List ℕ
word_of (word w) = w
word_of (fraction x) = fraction_text x
word_of (count n) = decimal n
word_of (whole n) = signed_decimal n

-- the words of a line
abbrev pub words_of : List Field → List (List ℕ)
words_of [] = []
words_of (f ∷ fields) = word_of f ∷ words_of fields

-- the first word, and those behind it
abbrev pub first_of : List (List ℕ) → List ℕ
first_of [] = []
first_of (w ∷ words) = w

abbrev pub others_of : List (List ℕ) → List (List ℕ)
others_of [] = []
others_of (w ∷ words) = words

-- the words of the fields, but in the place of a number the word that stands there
abbrev pub with_numbers : List Field → List (List ℕ) → List (List ℕ)
with_numbers [] words = []
with_numbers (word w ∷ fields) words = w ∷ with_numbers fields (others_of words)
with_numbers (fraction x ∷ fields) words = first_of words ∷ with_numbers fields (others_of words)
with_numbers (count n ∷ fields) words = first_of words ∷ with_numbers fields (others_of words)
with_numbers (whole n ∷ fields) words = first_of words ∷ with_numbers fields (others_of words)

-- the lines that tell things of one type: the fields of each thing, the things whose words may
-- stand there (else `form`), and those that have a line (else `number`)
pub record LineForm (A : Type 0) : Type 1 where
  pub fields : A → List Field
  pub HasForm : A → Type 0
  pub HasLine : A → Type 0

-- the bytes of a line: its words, a space between them, and a line feed
abbrev pub bytes_of : List Field → List ℕ
bytes_of [] = 10 ∷ []
bytes_of (f ∷ []) = word_of f ++ 10 ∷ []
bytes_of (f ∷ g ∷ fields) = word_of f ++ 32 ∷ bytes_of (g ∷ fields)

-- the line of a thing
abbrev pub line_of : {A : Type 0} → LineForm A → A → List ℕ
line_of form a = bytes_of (form.fields a)

-- the words are those of a line of the form, but for the words in the places of numbers
abbrev pub AreOfForm : {A : Type 0} → LineForm A → List (List ℕ) → Type 0
AreOfForm {A} form words = (a : A) × (words ≡ with_numbers (form.fields a) words) × form.HasForm a

-- the words are those of the line of a thing
abbrev pub AreLine : {A : Type 0} → LineForm A → List (List ℕ) → A → Type 0
AreLine form words a = (words ≡ words_of (form.fields a)) × form.HasLine a

-- words that are not of the form; words that are, but have no such numbers
abbrev pub BreaksForm : {A : Type 0} → LineForm A → List (List ℕ) → Reason → Type 0
BreaksForm {A} form words e =
    ((e ≡ reason.Form) × (AreOfForm form words → ⊥))
    ⊎ ((e ≡ reason.Number) × AreOfForm form words × ((a : A) → AreLine form words a → ⊥))

-- the rule by which a line of the form is read, in its one spelling
abbrev pub rule_of : {A : Type 0} → LineForm A → LineRule A
rule_of form = record { Spells = AreLine form; Breaks = BreaksForm form }

-- the lines of things that all have one
abbrev pub form_of : {A : Type 0} → (A → List Field) → LineForm A
form_of fields = record { fields = fields; HasForm = λ a. Unit {0}; HasLine = λ a. Unit {0} }
