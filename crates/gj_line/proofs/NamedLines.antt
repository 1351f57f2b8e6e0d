-- Lines whose first word is known, behind which fields stand: their bytes, and what their words tell.
use Rattle.std.proofs.Common.{◌≡◌, ℕ, List, [], ◌∷◌, ◌++◌, refl, sym, ap, subst, ◌∙◌}
use Rattle.std.proofs.lemmas.List.{append_assoc}
use Rattle.gj_lex.specs.declared.spelling.Spelling.{Spelling}
use Rattle.gj_forms.specs.LineForms.{Field, word_of, others_of, bytes_of, LineForm, line_of}
use Rattle.gj_forms.specs.LineForms.Field.{word}
use Rattle.gj_forms.specs.SpelledForms.{Spell}
use Rattle.gj_forms.proofs.FieldWords.{head_and_tail}
use Rattle.gj_forms.proofs.SpelledLaws.{IsClearForm}
use Rattle.gj_line.specs.FieldForms.{named_form, tail_of, AreClearFields}

-- ---- bytes

-- the word of the first field, and those behind it
pub tail_bytes : (f : Field) (fs : List Field) → bytes_of (f ∷ fs) ≡ word_of f ++ tail_of fs
tail_bytes f [] = refl
tail_bytes f (g ∷ fs) = ap (λ t. word_of f ++ 32 ∷ t) (tail_bytes g fs)

module _ {A : Type 0} (name : List ℕ) (by : LineForm A) where
  -- the bytes of the line of a thing
  pub line_is : (a : A) → line_of (named_form name by) a ≡ name ++ tail_of (by.fields a)
  line_is a = tail_bytes (word name) (by.fields a)

  -- what is appended is the line of a thing
  pub is_pushed : (a : A) (w old mid new : List ℕ) → w ≡ name → mid ≡ old ++ w →
      new ≡ mid ++ tail_of (by.fields a) →
      new ≡ old ++ line_of (named_form name by) a
  is_pushed a w old mid new first begins ends =
      ends ∙ ap (λ u. u ++ tail_of (by.fields a)) (begins ∙ ap (λ v. old ++ v) first)
      ∙ append_assoc old name (tail_of (by.fields a)) ∙ ap (λ u. old ++ u) (sym (line_is a))

-- ---- words

module _ {A : Type 0} (s : Spelling) (name : List ℕ) (by : LineForm A) where
  -- the fields behind the name spell a thing
  pub line_spells : (words : List (List ℕ)) (w : List ℕ) (ws : List (List ℕ)) (a : A) → w ≡ name →
      words ≡ w ∷ ws →
      Spell s by ws a → Spell s (named_form name by) words a
  line_spells words w ws a first begins h =
      subst (λ v. Spell s (named_form name by) v a) (sym (begins ∙ ap (λ v. v ∷ ws) first))
      ((refl, h.0), h.1)

-- ---- the form is clear

tail_fields : (name : List ℕ) (fs gs : List Field) → word name ∷ fs ≡ word name ∷ gs → fs ≡ gs
tail_fields name fs gs e = cc

-- words spell one thing, or break the form for one reason, and not both
pub line_is_clear : {A : Type 0} (name : List ℕ) (by : LineForm A) → AreClearFields by →
    IsClearForm (named_form name by)
line_is_clear name by clear = record {
  of_form = clear.of_form;
  alike = λ a b words e. clear.alike a b (others_of words) (head_and_tail _ _ _ _ e).1;
  tell = λ a b e. clear.tell a b (tail_fields name (by.fields a) (by.fields b) e);
}
