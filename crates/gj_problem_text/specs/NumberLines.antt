-- Lines with numbers of a problem (own): in lenient spelling, but for the words of fractions.
use Rattle.std.specs.Prelude.{ℕ, ◌≡◌, ◌⊎◌, List, [], ◌∷◌}
use Rattle.gj_lex.specs.declared.reason.Reason.TheVariants as reason
use Rattle.gj_lex.specs.declared.spelling.Spelling.TheVariants.{Lenient}
use Rattle.gj_forms.specs.Parts.{LineRule}
use Rattle.gj_forms.specs.LineForms.{Field, LineForm, AreOfForm}
use Rattle.gj_forms.specs.LineForms.Field.{fraction}
use Rattle.gj_forms.specs.SpelledForms.{IsWordOf}
use Rattle.gj_problem_text.specs.NumberWords.{IsNumberWord}

-- the word spells the field
abbrev pub IsWordFor : Field → List ℕ → Type 0
IsWordFor (fraction x) w = IsNumberWord w x
IsWordFor f w = IsWordOf Lenient f w

-- the words spell the fields, one each
abbrev pub TellFields : List Field → List (List ℕ) → Type 0
TellFields [] [] = Unit {0}
TellFields (f ∷ fields) (w ∷ words) = IsWordFor f w × TellFields fields words
TellFields fields words = ⊥

-- the words spell the thing
abbrev pub Tell : {A : Type 0} → LineForm A → List (List ℕ) → A → Type 0
Tell form words a = TellFields (form.fields a) words × form.HasLine a

-- the rule by which a line of the form is read
abbrev pub number_rule : {A : Type 0} → LineForm A → LineRule A
number_rule {A} form = record {
  Spells = Tell form;
  Breaks = λ words e. ((e ≡ reason.Form) × (AreOfForm form words → ⊥))
      ⊎ ((e ≡ reason.Number) × AreOfForm form words × ((a : A) → Tell form words a → ⊥));
}
