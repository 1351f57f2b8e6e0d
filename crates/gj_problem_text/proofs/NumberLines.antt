-- Lines with numbers of a problem tell one thing; and what is printed, and all that is spelled in
-- lenient spelling, is told.
use Rattle.std.proofs.Common.{◌≡◌, inl, inr, ℕ, List, [], ◌∷◌, refl, sym, ap, ◌∙◌}
use Rattle.gj_lex.specs.declared.reason.Reason.{Reason}
use Rattle.gj_lex.specs.declared.spelling.Spelling.TheVariants.{Lenient}
use Rattle.gj_lex.proofs.SpelledWords.{one_count}
use Rattle.gj_forms.specs.Parts.{IsExactRule}
use Rattle.gj_forms.specs.LineForms.{Field, words_of, with_numbers, LineForm}
use Rattle.gj_forms.specs.LineForms.Field.{word, fraction, count, whole}
use Rattle.gj_forms.specs.SpelledForms.{IsWordOf, SpellFields, Spell}
use Rattle.gj_forms.proofs.FieldWords.{AreGood, IfAlike, AreAlike}
use Rattle.gj_forms.proofs.SpelledLaws.{IsClearForm}
use Rattle.gj_forms.proofs.SpelledLines.{spells_its_thing}
use Rattle.gj_forms.proofs.WholeNumbers.{same_from_whole}
use Rattle.gj_problem_text.specs.NumberLines.{IsWordFor, TellFields, Tell, number_rule}
use Rattle.gj_problem_text.proofs.OneNumber.{one_number_word}

-- ---- lenient words

lenient_word : (f : Field) (w : List ℕ) → IsWordOf Lenient f w → IsWordFor f w
lenient_word (word v) w h = h
lenient_word (fraction x) w h = inl h
lenient_word (count n) w h = h
lenient_word (whole n) w h = h

lenient_fields : (fs : List Field) (words : List (List ℕ)) → SpellFields Lenient fs words →
    TellFields fs words
lenient_fields [] [] h = tt
lenient_fields [] (w ∷ words) h = absurd h
lenient_fields (f ∷ fs) [] h = absurd h
lenient_fields (f ∷ fs) (w ∷ words) h = (lenient_word f w h.0, lenient_fields fs words h.1)

-- what lenient words spell they tell
pub lenient_tells : {A : Type 0} (form : LineForm A) (words : List (List ℕ)) (a : A) →
    Spell Lenient form words a → Tell form words a
lenient_tells form words a h = (lenient_fields (form.fields a) words h.0, h.1)

-- so the words of the line of a thing tell it
pub tells_its_thing : {A : Type 0} (form : LineForm A) (a : A) → AreGood (form.fields a) →
    form.HasLine a →
    Tell form (words_of (form.fields a)) a
tells_its_thing form a good has = lenient_tells form (words_of (form.fields a)) a
    (spells_its_thing Lenient form a good has)

-- ---- one thing

told_word : (f : Field) (fs : List Field) (w : List ℕ) (words : List (List ℕ)) → IsWordFor f w →
    words ≡ with_numbers fs words →
    w ∷ words ≡ with_numbers (f ∷ fs) (w ∷ words)
told_word (word v) fs w words h e = λ i. h i ∷ e i
told_word (fraction x) fs w words h e = ap (λ ws. w ∷ ws) e
told_word (count n) fs w words h e = ap (λ ws. w ∷ ws) e
told_word (whole n) fs w words h e = ap (λ ws. w ∷ ws) e

-- words that tell fields are those of the fields, but for the words in the places of numbers
told_words : (fs : List Field) (words : List (List ℕ)) → TellFields fs words →
    words ≡ with_numbers fs words
told_words [] [] h = refl
told_words [] (w ∷ words) h = absurd h
told_words (f ∷ fs) [] h = absurd h
told_words (f ∷ fs) (w ∷ words) h = told_word f fs w words h.0 (told_words fs words h.1)

one_field : (f g : Field) (w : List ℕ) (P : Type 0) → IfAlike f g P → IsWordFor f w →
    IsWordFor g w → (f ≡ g) × P
one_field (word u) (word v) w P k h i = (ap word (sym h ∙ i), k)
one_field (fraction x) (fraction y) w P k h i = (ap fraction (one_number_word w x y h i), k)
one_field (count m) (count n) w P k h i = (ap count (one_count Lenient w m n h i), k)
one_field (whole m) (whole n) w P k h i =
    (ap whole (same_from_whole m n h.1 i.1 (sym h.0 ∙ i.0)), k)
one_field f g w P k h i = absurd k

told_once : (fs gs : List Field) (words : List (List ℕ)) → AreAlike fs gs → TellFields fs words →
    TellFields gs words → fs ≡ gs
told_once [] [] words k h i = refl
told_once (f ∷ fs) (g ∷ gs) (w ∷ words) k h i =
    let first = one_field f g w (AreAlike fs gs) k h.0 i.0 in
    let rest = told_once fs gs words first.1 h.1 i.1 in
    λ j. first.0 j ∷ rest j
told_once (f ∷ fs) gs [] k h i = absurd h
told_once fs gs words k h i = absurd k

module _ {A : Type 0} (form : LineForm A) (clear : IsClearForm form) where
  one : (words : List (List ℕ)) (a b : A) → Tell form words a → Tell form words b → a ≡ b
  one words a b h k =
      let same = sym (told_words (form.fields a) words h.0) ∙ told_words
      (form.fields b) words k.0 in
      clear.tell a b (told_once (form.fields a) (form.fields b) words
      (clear.alike a b words same) h.0 k.0)

  reason_of : (words : List (List ℕ)) (e d : Reason) → (number_rule form).Breaks words e →
      (number_rule form).Breaks words d → e ≡ d
  reason_of words e d (inl h) (inl k) = h.0 ∙ sym k.0
  reason_of words e d (inl h) (inr k) = absurd (h.1 k.1)
  reason_of words e d (inr h) (inl k) = absurd (k.1 h.1)
  reason_of words e d (inr h) (inr k) = h.0 ∙ sym k.0

  unbroken : (words : List (List ℕ)) (a : A) (e : Reason) → Tell form words a →
      (number_rule form).Breaks words e → ⊥
  unbroken words a e h (inl k) = k.1 (a, told_words (form.fields a) words h.0, clear.of_form a h.1)
  unbroken words a e h (inr k) = k.2 a h

  pub number_rule_is_exact : IsExactRule (number_rule form).Spells (number_rule form).Breaks
  number_rule_is_exact = record { one_thing = one; one_reason = reason_of; not_both = unbroken }
