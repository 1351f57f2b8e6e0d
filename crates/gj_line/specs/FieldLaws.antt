-- Fields one behind another are clear if each is.
use Rattle.std.proofs.Common.{◌≡◌, ℕ, List, ◌∷◌, refl, sym, ◌∙◌}
use Rattle.gj_frac.specs.declared.Frac.{Frac}
use Rattle.gj_forms.specs.LineForms.{Field, with_numbers, first_of, others_of, LineForm}
use Rattle.gj_forms.specs.LineForms.Field.{word, fraction, count, whole}
use Rattle.gj_forms.proofs.FieldWords.{IfAlike, AreAlike, head_and_tail}
use Rattle.gj_line.specs.FieldForms.{FieldForm, any_fraction, positive_fraction, name_word, no_form, then_form, given, IsClearField, AreClearFields}

pub no_form_is_clear : AreClearFields no_form
no_form_is_clear = record {
  of_form = λ a h. tt;
  alike = λ a b ws h. tt;
  tell =
      λ a b h. refl;
}

-- the words of fields, but for those in the places of numbers, one by one
pub with_first : (f : Field) (fs : List Field) (words : List (List ℕ)) →
    with_numbers (f ∷ fs) words ≡ given f (first_of words) ∷ with_numbers fs (others_of words)
with_first (word v) fs words = refl
with_first (fraction x) fs words = refl
with_first (count n) fs words = refl
with_first (whole n) fs words = refl

all_alike : (f g : Field) (P : Type 0) → IfAlike f g (Unit {0}) → P → IfAlike f g P
all_alike (word v) (word w) P h k = k
all_alike (fraction x) (fraction y) P h k = k
all_alike (count m) (count n) P h k = k
all_alike (whole m) (whole n) P h k = k
all_alike f g P h k = absurd h

-- equal lists of fields have equal heads and equal tails
field_and_fields : (f g : Field) (fs gs : List Field) → f ∷ fs ≡ g ∷ gs → (f ≡ g) × (fs ≡ gs)
field_and_fields f g fs gs e = (cc, cc)

module _ {A B : Type 0} (f : FieldForm A) (g : LineForm B) (first : IsClearField f)
    (others : AreClearFields g) where
  alike : (a b : A × B) (words : List (List ℕ)) → with_numbers ((then_form f g).fields a) words
      ≡ with_numbers ((then_form f g).fields b) words →
      AreAlike ((then_form f g).fields a) ((then_form f g).fields b)
  alike a b words e =
      let both =
      head_and_tail _ _ _ _
      (sym (with_first (f.field a.0) (g.fields a.1) words) ∙ e
      ∙ with_first (f.field b.0) (g.fields b.1) words) in
      all_alike (f.field a.0) (f.field b.0) (AreAlike (g.fields a.1) (g.fields b.1))
      (first.alike a.0 b.0 (first_of words) both.0)
      (others.alike a.1 b.1 (others_of words) both.1)

  tell : (a b : A × B) → (then_form f g).fields a ≡ (then_form f g).fields b → a ≡ b
  tell a b e =
      let both = field_and_fields (f.field a.0) (f.field b.0) (g.fields a.1) (g.fields b.1) e in
      let x = first.tell a.0 b.0 both.0 in
      let y = others.tell a.1 b.1 both.1 in
      λ i. (x i, y i)

  pub then_is_clear : AreClearFields (then_form f g)
  then_is_clear = record {
    of_form = λ a h. (first.of_form a.0 h.0, others.of_form a.1 h.1);
    alike = alike;
    tell = tell;
  }

-- ---- the fields

pub same_word : (v w : List ℕ) → word v ≡ word w → v ≡ w
same_word v w e = cc

same_fraction : (x y : Frac) → fraction x ≡ fraction y → x ≡ y
same_fraction x y e = cc

pub fraction_is_clear : IsClearField any_fraction
fraction_is_clear = record {
  of_form = λ a h. tt;
  alike = λ a b w h. tt;
  tell =
      same_fraction;
}

pub positive_is_clear : IsClearField positive_fraction
positive_is_clear = record {
  of_form = λ a h. tt;
  alike = λ a b w h. tt;
  tell =
      same_fraction;
}

pub name_is_clear : IsClearField name_word
name_is_clear = record {
  of_form = λ a h. h;
  alike = λ a b w h. tt;
  tell =
      same_word;
}
