-- Words of a field and of others behind it, and which rule they break.
use Rattle.std.proofs.Common.{◌≡◌, inl, inr, ℕ, List, ◌∷◌, refl, sym, subst, ◌∙◌}
use Rattle.gj_lex.specs.declared.spelling.Spelling.{Spelling}
use Rattle.gj_lex.specs.declared.reason.Reason.{Reason}
use Rattle.gj_lex.specs.declared.reason.Reason.TheVariants.{Form}
use Rattle.gj_forms.specs.LineForms.{Field, LineForm, AreOfForm}
use Rattle.gj_forms.specs.LineForms.Field.{word, fraction, count, whole}
use Rattle.gj_forms.specs.SpelledForms.{IsWordOf, Spell, rule_in}
use Rattle.gj_forms.proofs.FieldWords.{head_and_tail}
use Rattle.gj_forms.proofs.SpelledLaws.{spelled_words}
use Rattle.gj_line.specs.FieldForms.{FieldForm, then_form, given, IsOfField, WordBreaks, IsClearField, AreClearFields}
use Rattle.gj_line.specs.FieldLaws.{with_first}

pub own_given : (s : Spelling) (f : Field) (w : List ℕ) → IsWordOf s f w → w ≡ given f w
own_given s (word v) w h = h
own_given s (fraction x) w h = refl
own_given s (count n) w h = refl
own_given s (whole n) w h = refl

module _ {A B : Type 0} (s : Spelling) (f : FieldForm A) (g : LineForm B) where
  of_then : (w : List ℕ) (ws : List (List ℕ)) → IsOfField f w → AreOfForm g ws →
      AreOfForm (then_form f g) (w ∷ ws)
  of_then w ws (a, e, h) (b, k, i) =
      ((a, b), (λ j. e j ∷ k j) ∙ sym (with_first (f.field a) (g.fields b) (w ∷ ws)), (h, i))

  then_of : (w : List ℕ) (ws : List (List ℕ)) → AreOfForm (then_form f g) (w ∷ ws) →
      IsOfField f w × AreOfForm g ws
  then_of w ws (p, e, h) =
      let both = head_and_tail _ _ _ _ (e ∙ with_first (f.field p.0) (g.fields p.1) (w ∷ ws)) in
      ((p.0, both.0, h.0), (p.1, both.1, h.1))

  first_at : (w : List ℕ) (ws : List (List ℕ)) (e : Reason) → AreOfForm g ws → WordBreaks s f w e →
      (rule_in s (then_form f g)).Breaks (w ∷ ws) e
  first_at w ws e of (inl h) = inl (h.0, λ k. h.1 (then_of w ws k).0)
  first_at w ws e of (inr h) = inr (h.0, of_then w ws h.1 of, λ p k. h.2 p.0 k.0.0 k.1.0)

  others_at : (w : List ℕ) (ws : List (List ℕ)) (e : Reason) → IsOfField f w →
      (rule_in s g).Breaks ws e →
      (rule_in s (then_form f g)).Breaks (w ∷ ws) e
  others_at w ws e of (inl h) = inl (h.0, λ k. h.1 (then_of w ws k).1)
  others_at w ws e of (inr h) = inr (h.0, of_then w ws of h.1, λ p k. h.2 p.1 (k.0.1, k.1.1))

  both_at : (w : List ℕ) (ws : List (List ℕ)) (e d c : Reason) → WordBreaks s f w e →
      (rule_in s g).Breaks ws d →
      (e ≡ Form → c ≡ Form) → ((e ≡ Form → ⊥) → c ≡ d) →
      (rule_in s (then_form f g)).Breaks (w ∷ ws) c
  both_at w ws e d c (inl h) k form other = inl (form h.0, λ i. h.1 (then_of w ws i).0)
  both_at w ws e d c (inr h) k form other =
      subst (λ r. (rule_in s (then_form f g)).Breaks (w ∷ ws) r)
      (sym (other (λ is. let no = sym h.0 ∙ is in cc)))
      (others_at w ws d h.1 k)

  -- the first field breaks its form
  pub first_breaks : (words : List (List ℕ)) (w : List ℕ) (ws : List (List ℕ)) (e : Reason)
      (b : B) → AreClearFields g → words ≡ w ∷ ws →
      WordBreaks s f w e → Spell s g ws b → (rule_in s (then_form f g)).Breaks words e
  first_breaks words w ws e b clear is h k =
      subst (λ v. (rule_in s (then_form f g)).Breaks v e) (sym is)
      (first_at w ws e (b, spelled_words s (g.fields b) ws k.0, clear.of_form b k.1) h)

  -- those behind it do
  pub others_break : (words : List (List ℕ)) (w : List ℕ) (ws : List (List ℕ)) (e : Reason)
      (a : A) → IsClearField f → words ≡ w ∷ ws →
      IsWordOf s (f.field a) w × f.HasWord a → (rule_in s g).Breaks ws e →
      (rule_in s (then_form f g)).Breaks words e
  others_break words w ws e a clear is h k =
      subst (λ v. (rule_in s (then_form f g)).Breaks v e) (sym is)
      (others_at w ws e (a, own_given s (f.field a) w h.0, clear.of_form a h.1) k)

  -- both do
  pub both_break : (words : List (List ℕ)) (w : List ℕ) (ws : List (List ℕ)) (e d c : Reason) →
      words ≡ w ∷ ws →
      WordBreaks s f w e → (rule_in s g).Breaks ws d → (e ≡ Form → c ≡ Form) →
      ((e ≡ Form → ⊥) → c ≡ d) →
      (rule_in s (then_form f g)).Breaks words c
  both_break words w ws e d c is h k form other =
      subst (λ v. (rule_in s (then_form f g)).Breaks v c) (sym is)
      (both_at w ws e d c h k form other)
