-- Lines of a form in either spelling are exact, and so are things made of them.
use Rattle.std.proofs.Common.{◌≡◌, inl, inr, ℕ, List, [], ◌∷◌, refl, sym, ap, subst, ◌∙◌}
use Rattle.gj_forms.specs.Parts.{LineRule, IsExactRule}
use Rattle.gj_lex.specs.declared.spelling.Spelling.{Spelling}
use Rattle.gj_lex.specs.declared.reason.Reason.{Reason}
use Rattle.gj_lex.proofs.SpelledWords.{one_fraction, one_count}
use Rattle.gj_forms.specs.LineForms.{Field, with_numbers, LineForm}
use Rattle.gj_forms.specs.LineForms.Field.{word, fraction, count, whole}
use Rattle.gj_forms.specs.SpelledForms.{IsWordOf, SpellFields, Spell, rule_in, made_rule}
use Rattle.gj_forms.proofs.FieldWords.{IfAlike, AreAlike}
use Rattle.gj_forms.proofs.WholeNumbers.{same_from_whole}

-- words that spell fields are those of the fields, but for the words in the places of numbers
spelled_word : (s : Spelling) (f : Field) (fs : List Field) (w : List ℕ) (words : List (List ℕ)) →
    IsWordOf s f w → words ≡ with_numbers fs words →
    w ∷ words ≡ with_numbers (f ∷ fs) (w ∷ words)
spelled_word s (word v) fs w words h e = λ i. h i ∷ e i
spelled_word s (fraction x) fs w words h e = ap (λ ws. w ∷ ws) e
spelled_word s (count n) fs w words h e = ap (λ ws. w ∷ ws) e
spelled_word s (whole n) fs w words h e = ap (λ ws. w ∷ ws) e

pub spelled_words : (s : Spelling) (fs : List Field) (words : List (List ℕ)) →
    SpellFields s fs words → words ≡ with_numbers fs words
spelled_words s [] [] h = refl
spelled_words s [] (w ∷ words) h = absurd h
spelled_words s (f ∷ fs) [] h = absurd h
spelled_words s (f ∷ fs) (w ∷ words) h =
    spelled_word s f fs w words h.0 (spelled_words s fs words h.1)

-- a word spells one field of a kind
one_field : (s : Spelling) (f g : Field) (w : List ℕ) (P : Type 0) → IfAlike f g P →
    IsWordOf s f w → IsWordOf s g w → (f ≡ g) × P
one_field s (word u) (word v) w P k h i = (ap word (sym h ∙ i), k)
one_field s (fraction x) (fraction y) w P k h i = (ap fraction (one_fraction s w x y h i), k)
one_field s (count m) (count n) w P k h i = (ap count (one_count s w m n h i), k)
one_field s (whole m) (whole n) w P k h i =
    (ap whole (same_from_whole m n h.1 i.1 (sym h.0 ∙ i.0)), k)
one_field s f g w P k h i = absurd k

-- words spell the fields of one kind in one way
pub spelled_once : (s : Spelling) (fs gs : List Field) (words : List (List ℕ)) → AreAlike fs gs →
    SpellFields s fs words →
    SpellFields s gs words → fs ≡ gs
spelled_once s [] [] words k h i = refl
spelled_once s (f ∷ fs) (g ∷ gs) (w ∷ words) k h i =
    let first = one_field s f g w (AreAlike fs gs) k h.0 i.0 in
    let rest = spelled_once s fs gs words first.1 h.1 i.1 in
    λ j. first.0 j ∷ rest j
spelled_once s (f ∷ fs) gs [] k h i = absurd h
spelled_once s fs gs words k h i = absurd k

-- a thing with a line has words of the form; two things whose words differ in numbers alone are
-- alike; and the fields tell the thing
pub record IsClearForm {A : Type 0} (form : LineForm A) : Type 0 where
  pub of_form : (a : A) → form.HasLine a → form.HasForm a
  pub alike : (a b : A) (words : List (List ℕ)) →
      with_numbers (form.fields a) words ≡ with_numbers (form.fields b) words →
      AreAlike (form.fields a) (form.fields b)
  pub tell : (a b : A) → form.fields a ≡ form.fields b → a ≡ b

module _ {A : Type 0} (s : Spelling) (form : LineForm A) (clear : IsClearForm form) where
  one : (words : List (List ℕ)) (a b : A) → Spell s form words a → Spell s form words b → a ≡ b
  one words a b h k =
      let same = sym (spelled_words s (form.fields a) words h.0)
      ∙ spelled_words s (form.fields b) words k.0 in
      clear.tell a b (spelled_once s (form.fields a) (form.fields b) words
      (clear.alike a b words same) h.0 k.0)

  reason_of : (words : List (List ℕ)) (e d : Reason) → (rule_in s form).Breaks words e →
      (rule_in s form).Breaks words d → e ≡ d
  reason_of words e d (inl h) (inl k) = h.0 ∙ sym k.0
  reason_of words e d (inl h) (inr k) = absurd (h.1 k.1)
  reason_of words e d (inr h) (inl k) = absurd (k.1 h.1)
  reason_of words e d (inr h) (inr k) = h.0 ∙ sym k.0

  unbroken : (words : List (List ℕ)) (a : A) (e : Reason) → Spell s form words a →
      (rule_in s form).Breaks words e → ⊥
  unbroken words a e h (inl k) =
      k.1 (a, spelled_words s (form.fields a) words h.0, clear.of_form a h.1)
  unbroken words a e h (inr k) = k.2 a h

  pub rule_in_is_exact : IsExactRule (rule_in s form).Spells (rule_in s form).Breaks
  rule_in_is_exact = record { one_thing = one; one_reason = reason_of; not_both = unbroken }

module _ {A B : Type 0} (Makes : A → B → Type 0) (Refused : A → Reason → Type 0) (rule : LineRule A)
    (exact : IsExactRule rule.Spells rule.Breaks) (one_made : (a : A) (b c : B) → Makes a b →
    Makes a c → b ≡ c)
    (one_refused : (a : A) (e d : Reason) → Refused a e → Refused a d → e ≡ d)
    (not_refused : (a : A) (b : B) (e : Reason) → Makes a b → Refused a e → ⊥) where
  made_thing : (words : List (List ℕ)) (b c : B) → (made_rule Makes Refused rule).Spells words b →
      (made_rule Makes Refused rule).Spells words c → b ≡ c
  made_thing words b c (a, h, m) (a', h', m') =
      one_made a' b c (subst (λ (x : A). Makes x b) (exact.one_thing words a a' h h') m) m'

  made_reason : (words : List (List ℕ)) (e d : Reason) →
      (made_rule Makes Refused rule).Breaks words e →
      (made_rule Makes Refused rule).Breaks words d → e ≡ d
  made_reason words e d (inl h) (inl k) = exact.one_reason words e d h k
  made_reason words e d (inl h) (inr (a, k, r)) = absurd (exact.not_both words a e k h)
  made_reason words e d (inr (a, h, r)) (inl k) = absurd (exact.not_both words a d h k)
  made_reason words e d (inr (a, h, r)) (inr (a', h', r')) =
      one_refused a' e d (subst (λ (x : A). Refused x e) (exact.one_thing words a a' h h') r) r'

  made_unbroken : (words : List (List ℕ)) (b : B) (e : Reason) →
      (made_rule Makes Refused rule).Spells words b →
      (made_rule Makes Refused rule).Breaks words e → ⊥
  made_unbroken words b e (a, h, m) (inl k) = exact.not_both words a e h k
  made_unbroken words b e (a, h, m) (inr (a', h', r)) =
      not_refused a' b e (subst (λ (x : A). Makes x b) (exact.one_thing words a a' h h') m) r

  pub made_rule_is_exact : IsExactRule (made_rule Makes Refused rule).Spells
      (made_rule Makes Refused rule).Breaks
  made_rule_is_exact =
      record { one_thing = made_thing; one_reason = made_reason; not_both = made_unbroken }
