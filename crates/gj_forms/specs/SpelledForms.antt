-- Lines of a form in either spelling, and things that are made of what a line tells (own).
use Rattle.std.specs.Prelude.{ℕ, ◌≡◌, ◌⊎◌, List, [], ◌∷◌}
use Rattle.std.specs.Fmt.{signed_decimal}
use Rattle.gj_frac.specs.Fraction.{Fits}
use Rattle.gj_lex.specs.SpelledNumbers.{IsCountWord, IsFractionWord}
use Rattle.gj_forms.specs.Parts.{LineRule}
use Rattle.gj_lex.specs.declared.spelling.Spelling.{Spelling}
use Rattle.gj_lex.specs.declared.reason.Reason.{Reason}
use Rattle.gj_lex.specs.declared.reason.Reason.TheVariants as reason
use Rattle.gj_forms.specs.LineForms.{Field, LineForm, AreOfForm}
use Rattle.gj_forms.specs.LineForms.Field.{word, fraction, count, whole}

-- the word spells the field
abbrev pub IsWordOf : Spelling → Field → List ℕ → Type 0
IsWordOf s (word v) w = w ≡ v
IsWordOf s (fraction x) w = IsFractionWord s w x
IsWordOf s (count n) w = IsCountWord s w n
IsWordOf s (whole n) w = (w ≡ signed_decimal n) × Fits n

-- the words spell the fields, one each
abbrev pub SpellFields : Spelling → List Field → List (List ℕ) → Type 0
SpellFields s [] [] = Unit {0}
SpellFields s (f ∷ fields) (w ∷ words) = IsWordOf s f w × SpellFields s fields words
SpellFields s fields words = ⊥

-- the words spell the thing
abbrev pub Spell : {A : Type 0} → Spelling → LineForm A → List (List ℕ) → A → Type 0
Spell s form words a = SpellFields s (form.fields a) words × form.HasLine a

-- the rule by which a line of the form is read, in either spelling
abbrev pub rule_in : {A : Type 0} → Spelling → LineForm A → LineRule A
rule_in {A} s form = record {
  Spells = Spell s form;
  Breaks = λ words e. ((e ≡ reason.Form) × (AreOfForm form words → ⊥))
      ⊎ ((e ≡ reason.Number) × AreOfForm form words × ((a : A) → Spell s form words a → ⊥));
}

-- a line whose thing makes another; a thing that makes none is refused for a reason of its own
abbrev pub made_rule : {A B : Type 0} → (A → B → Type 0) → (A → Reason → Type 0) → LineRule A →
    LineRule B
made_rule {A} Makes Refused rule = record {
  Spells = λ words b. (a : A) × rule.Spells words a × Makes a b;
  Breaks = λ words e. rule.Breaks words e ⊎ ((a : A) × rule.Spells words a × Refused a e);
}

-- a line whose thing makes another, always
abbrev pub turned_rule : {A B : Type 0} → (A → B) → LineRule A → LineRule B
turned_rule make rule = made_rule (λ a b. b ≡ make a) (λ a e. ⊥) rule

-- a line with such words has not the form
abbrev pub barred_rule : {A : Type 0} → (List (List ℕ) → Type 0) → LineRule A → LineRule A
barred_rule AreBarred rule = record {
  Spells = λ words a. (AreBarred words → ⊥) × rule.Spells words a;
  Breaks = λ words e. ((e ≡ reason.Form) × AreBarred words)
      ⊎ ((AreBarred words → ⊥) × rule.Breaks words e);
}
