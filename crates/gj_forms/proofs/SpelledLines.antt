-- Lines of a form in either spelling: what is printed is read again, and what is read in strict
-- spelling is what is printed.
use Rattle.std.proofs.Common.{◌≡◌, ◌≢◌, inl, inr, ℕ, List, [], ◌∷◌, ◌++◌, get_or, refl, sym, ap, ◌∙◌}
use Rattle.std.specs.List.{join_with_byte}
use Rattle.std.proofs.lemmas.List.{append_assoc}
use Rattle.gj_forms.specs.Parts.{LineRule, line_part, IsExactRule}
use Rattle.gj_forms.specs.TextLines.{HasLine}
use Rattle.gj_lex.specs.declared.spelling.Spelling.{Spelling}
use Rattle.gj_lex.specs.declared.spelling.Spelling.TheVariants.{Strict}
use Rattle.gj_lex.specs.declared.reason.Reason.{Reason}
use Rattle.gj_forms.proofs.CanonicalLines.{line_in}
use Rattle.gj_lex.proofs.SpelledWords.{canonical_fraction, canonical_count}
use Rattle.gj_forms.specs.LineForms.{Field, word_of, words_of, first_of, with_numbers, bytes_of, LineForm, line_of, form_of}
use Rattle.gj_forms.specs.LineForms.Field.{word, fraction, count, whole}
use Rattle.gj_forms.specs.SpelledForms.{IsWordOf, SpellFields, Spell, rule_in, turned_rule, barred_rule}
use Rattle.gj_forms.proofs.FieldWords.{IsGood, AreGood, AreAlike, words_are_plain, joined_words}
use Rattle.gj_forms.proofs.PlainWords.{word_of_count}
use Rattle.gj_forms.proofs.SpelledLaws.{IsClearForm, made_rule_is_exact}

-- ---- the words of a line spell its fields

own_word : (s : Spelling) (f : Field) → IsGood f → IsWordOf s f (word_of f)
own_word s (word w) good = refl
own_word s (fraction x) good = canonical_fraction s x
own_word s (count n) good = canonical_count s n good
own_word s (whole n) good = (refl, good)

own_words : (s : Spelling) (fs : List Field) → AreGood fs → SpellFields s fs (words_of fs)
own_words s [] good = absurd good
own_words s (f ∷ []) good = (own_word s f good, tt)
own_words s (f ∷ g ∷ fs) good = (own_word s f good.0, own_words s (g ∷ fs) good.1)

pub spells_its_thing : {A : Type 0} (s : Spelling) (form : LineForm A) (a : A) →
    AreGood (form.fields a) → form.HasLine a →
    Spell s form (words_of (form.fields a)) a
spells_its_thing s form a good has = (own_words s (form.fields a) good, has)

-- and in strict spelling no other words do
strict_word : (f : Field) (w : List ℕ) → IsGood f → IsWordOf Strict f w → w ≡ word_of f
strict_word (word v) w good h = h
strict_word (fraction x) w good h = h
strict_word (count n) w good h = word_of_count w n good h
strict_word (whole n) w good h = h.0

strict_words : (fs : List Field) (words : List (List ℕ)) → AreGood fs →
    SpellFields Strict fs words → words ≡ words_of fs
strict_words [] words good h = absurd good
strict_words (f ∷ fs) [] good h = absurd h
strict_words (f ∷ []) (w ∷ []) good h = ap (λ v. v ∷ []) (strict_word f w good h.0)
strict_words (f ∷ []) (w ∷ v ∷ words) good h = absurd h.1
strict_words (f ∷ g ∷ fs) (w ∷ words) good h =
    let first = strict_word f w good.0 h.0 in
    let rest = strict_words (g ∷ fs) words good.1 h.1 in
    λ i. first i ∷ rest i

pub strict_words_are : {A : Type 0} (form : LineForm A) (words : List (List ℕ)) (a : A) →
    AreGood (form.fields a) → Spell Strict form words a →
    words ≡ words_of (form.fields a)
strict_words_are form words a good h = strict_words (form.fields a) words good h.0

-- ---- lines

line_is_joined : (fs : List Field) (rest : List ℕ) →
    bytes_of fs ++ rest ≡ join_with_byte 32 (words_of fs) ++ 10 ∷ rest
line_is_joined fs rest =
    ap (λ t. t ++ rest) (joined_words fs)
    ∙ append_assoc (join_with_byte 32 (words_of fs)) (10 ∷ []) rest

-- a text that begins with the bytes has a line of the words there, unless they begin with `#`
pub has_its_line : (s : Spelling) (fs : List Field) (text rest : List ℕ) → AreGood fs →
    get_or (first_of (words_of fs)) 0 0 ≢ 35 →
    text ≡ bytes_of fs ++ rest → HasLine s text text (words_of fs) rest
has_its_line s [] text rest good other is = absurd good
has_its_line s (f ∷ fs) text rest good other is =
    line_in s _ (words_of fs) text rest (words_are_plain (f ∷ fs) good) other
    (is ∙ line_is_joined (f ∷ fs) rest)

module _ {A : Type 0} (s : Spelling) (form : LineForm A) where
  -- the line of a thing is read as the thing
  pub line_is_spelled : (a : A) (text rest : List ℕ) → AreGood (form.fields a) → form.HasLine a →
      get_or (first_of (words_of (form.fields a))) 0 0 ≢ 35 → text ≡ line_of form a ++ rest →
      (line_part s (rule_in s form)).Reads text a rest
  line_is_spelled a text rest good has other is = (
    text,
    words_of (form.fields a),
    has_its_line s (form.fields a) text rest good other is,
    spells_its_thing s form a good has,
  )

-- what is read in strict spelling is the line of its thing
pub strict_bytes : {A : Type 0} (form : LineForm A) (text : List ℕ) (words : List (List ℕ)) (a : A)
    (rest : List ℕ) →
    AreGood (form.fields a) → text ≡ join_with_byte 32 words ++ 10 ∷ rest →
    Spell Strict form words a → text ≡ line_of form a ++ rest
strict_bytes form text words a rest good is h =
    is ∙ ap (λ ws. join_with_byte 32 ws ++ 10 ∷ rest) (strict_words_are form words a good h)
    ∙ sym (line_is_joined (form.fields a) rest)

-- ---- rules

-- a form whose things all have a line is clear if words of one kind have one kind of fields, and
-- these tell the thing
pub clear_form : {A : Type 0} (fields : A → List Field) →
    ((a b : A) (words : List (List ℕ)) →
    with_numbers (fields a) words ≡ with_numbers (fields b) words →
    AreAlike (fields a) (fields b)) →
    ((a b : A) → fields a ≡ fields b → a ≡ b) → IsClearForm (form_of fields)
clear_form fields alike tell = record { of_form = λ a h. tt; alike = alike; tell = tell }

pub turned_rule_is_exact : {A B : Type 0} (make : A → B) (rule : LineRule A) →
    IsExactRule rule.Spells rule.Breaks →
    IsExactRule (turned_rule make rule).Spells (turned_rule make rule).Breaks
turned_rule_is_exact {A} {B} make rule exact =
    made_rule_is_exact (λ (a : A) (b : B). b ≡ make a) (λ (a : A) (e : Reason). ⊥) rule exact
    (λ a b c h k. h ∙ sym k) (λ a e d h k. absurd h)
    (λ a b e h k. k)

module _ {A : Type 0} (AreBarred : List (List ℕ) → Type 0) (rule : LineRule A)
    (exact : IsExactRule rule.Spells rule.Breaks) where
  barred_reason : (words : List (List ℕ)) (e d : Reason) →
      (barred_rule AreBarred rule).Breaks words e →
      (barred_rule AreBarred rule).Breaks words d → e ≡ d
  barred_reason words e d (inl h) (inl k) = h.0 ∙ sym k.0
  barred_reason words e d (inl h) (inr k) = absurd (k.0 h.1)
  barred_reason words e d (inr h) (inl k) = absurd (h.0 k.1)
  barred_reason words e d (inr h) (inr k) = exact.one_reason words e d h.1 k.1

  barred_unbroken : (words : List (List ℕ)) (a : A) (e : Reason) →
      (barred_rule AreBarred rule).Spells words a →
      (barred_rule AreBarred rule).Breaks words e → ⊥
  barred_unbroken words a e h (inl k) = h.0 k.1
  barred_unbroken words a e h (inr k) = exact.not_both words a e h.1 k.1

  pub barred_rule_is_exact : IsExactRule (barred_rule AreBarred rule).Spells
      (barred_rule AreBarred rule).Breaks
  barred_rule_is_exact = record {
    one_thing = λ words a b h k. exact.one_thing words a b h.1 k.1;
    one_reason = barred_reason;
    not_both = barred_unbroken;
  }
