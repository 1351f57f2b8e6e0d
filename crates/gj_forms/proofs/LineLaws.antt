-- The lines of a form: the words of a line spell one thing or break the form for one reason, and
-- what is printed is read again as the same.
use Rattle.std.proofs.Common.{◌≡◌, ◌≢◌, inl, inr, ℕ, List, [], ◌∷◌, ◌++◌, All, length, flat_map, refl, sym, ap, ap₂, subst, ◌∙◌, arith}
use Rattle.std.specs.List.{join_with_byte}
use Rattle.std.proofs.lemmas.List.{append_assoc, length-append}
use Rattle.std.proofs.lemmas.List.Elements.{All-head, All-tail}
use Rattle.gj_lex.specs.declared.spelling.Spelling.TheVariants.{Strict}
use Rattle.gj_lex.specs.declared.reason.Reason.{Reason}
use Rattle.gj_lex.specs.declared.reason.Reason.TheVariants as reason
use Rattle.gj_forms.specs.TextLines.{HasStrictLine}
use Rattle.gj_forms.specs.Parts.{BeginsWithWord, line_part, IsExactRule, IsExactPart}
use Rattle.gj_forms.proofs.PartLaws.{line_part_is_exact}
use Rattle.gj_forms.proofs.StrictLines.{one_strict_line, plain_line}
use Rattle.gj_forms.specs.LineForms.{Field, words_of, with_numbers, bytes_of, LineForm, line_of, AreOfForm, BreaksForm, rule_of}
use Rattle.gj_forms.proofs.WhereLaws.{other_word}
use Rattle.gj_forms.specs.ListParts.{IsPrinted}
use Rattle.gj_forms.proofs.FieldWords.{AreGood, words_are_plain, own_numbers, joined_words}

-- what is asked of a form: a thing that has a line has words of the form, they are plain, and are
-- those of no other thing
pub record IsClear {A : Type 0} (form : LineForm A) : Type 0 where
  pub of_form : (a : A) → form.HasLine a → form.HasForm a
  pub good : (a : A) → form.HasLine a → AreGood (form.fields a)
  pub one : (a b : A) → form.HasLine a → form.HasLine b →
      words_of (form.fields a) ≡ words_of (form.fields b) → a ≡ b

-- words of the form of a thing, with no such numbers
pub no_such_numbers : {A : Type 0} (form : LineForm A) (words known : List (List ℕ)) (a : A)
    (e : Reason) → words ≡ known →
    known ≡ with_numbers (form.fields a) known → form.HasForm a → e ≡ reason.Number →
    ((b : A) → known ≡ words_of (form.fields b) → form.HasLine b → ⊥) → BreaksForm form words e
no_such_numbers {A} form words known a e is of has number none =
    let P : List (List ℕ) → Type 0 = λ ws. ws ≡ with_numbers (form.fields a) ws in
    inr (number, (a, subst P (sym is) of, has), λ b h. none b (sym is ∙ h.0) h.1)

module _ {A : Type 0} (form : LineForm A) (clear : IsClear form) where
  one_reason : (words : List (List ℕ)) (e d : Reason) → BreaksForm form words e →
      BreaksForm form words d → e ≡ d
  one_reason words e d (inl h) (inl k) = h.0 ∙ sym k.0
  one_reason words e d (inl h) (inr k) = absurd (h.1 k.1)
  one_reason words e d (inr h) (inl k) = absurd (k.1 h.1)
  one_reason words e d (inr h) (inr k) = h.0 ∙ sym k.0

  own_form : (words : List (List ℕ)) (a : A) → words ≡ words_of (form.fields a) → form.HasLine a →
      AreOfForm form words
  own_form words a is has =
      let P : List (List ℕ) → Type 0 = λ ws. ws ≡ with_numbers (form.fields a) ws in
      (a, subst P (sym is) (own_numbers (form.fields a)), clear.of_form a has)

  unbroken : (words : List (List ℕ)) (a : A) (e : Reason) → words ≡ words_of (form.fields a) →
      form.HasLine a →
      BreaksForm form words e → ⊥
  unbroken words a e is has (inl h) = h.1 (own_form words a is has)
  unbroken words a e is has (inr h) = h.2 a (is, has)

  -- words are those of one thing, or break the form for one reason, and not both
  pub rule_is_exact : IsExactRule (rule_of form).Spells (rule_of form).Breaks
  rule_is_exact = record {
    one_thing = λ words a b h k. clear.one a b h.1 k.1 (sym h.0 ∙ k.0);
    one_reason = one_reason;
    not_both = λ words a e h k. unbroken words a e h.0 h.1 k;
  }

  pub part_is_exact : IsExactPart (line_part Strict (rule_of form)).Reads
      (line_part Strict (rule_of form)).Faults
  part_is_exact = line_part_is_exact Strict (rule_of form) rule_is_exact

  joined : (fs : List Field) (rest : List ℕ) →
      bytes_of fs ++ rest ≡ join_with_byte 32 (words_of fs) ++ 10 ∷ rest
  joined fs rest =
      ap (λ t. t ++ rest) (joined_words fs)
      ∙ append_assoc (join_with_byte 32 (words_of fs)) (10 ∷ []) rest

  strict_fields : (fs : List Field) (rest : List ℕ) → AreGood fs →
      HasStrictLine (bytes_of fs ++ rest) (words_of fs) rest
  strict_fields [] rest good = absurd good
  strict_fields (f ∷ fs) rest good =
      subst (λ t. HasStrictLine t (words_of (f ∷ fs)) rest) (sym (joined (f ∷ fs) rest))
      (plain_line _ (words_of fs) rest (words_are_plain (f ∷ fs) good))

  -- the line of a thing is a strict line of its words
  pub strict_line : (a : A) (rest : List ℕ) → form.HasLine a →
      HasStrictLine (line_of form a ++ rest) (words_of (form.fields a)) rest
  strict_line a rest has = strict_fields (form.fields a) rest (clear.good a has)

  no_bytes : (a : A) (rest : List ℕ) → form.HasLine a → [] ≡ line_of form a ++ rest → ⊥
  no_bytes a rest has e =
      let spelled = e ∙ (strict_line a rest has).spelled in
      omega (
        arith,
        ap length spelled,
        length-append (join_with_byte 32 (words_of (form.fields a)))
            (10 ∷ rest),
      )

  -- things whose lines have the same bytes are the same
  pub same_lines : (ls ms : List A) → All form.HasLine ls → All form.HasLine ms →
      flat_map (line_of form) ls ≡ flat_map (line_of form) ms → ls ≡ ms
  same_lines [] [] g h e = refl
  same_lines [] (m ∷ ms) g h e =
      absurd (no_bytes m (flat_map (line_of form) ms) (All-head form.HasLine m ms h) e)
  same_lines (l ∷ ls) [] g h e =
      absurd (no_bytes l (flat_map (line_of form) ls) (All-head form.HasLine l ls g) (sym e))
  same_lines (l ∷ ls) (m ∷ ms) g h e =
      let has = All-head form.HasLine l ls g in
      let also = All-head form.HasLine m ms h in
      let more = flat_map (line_of form) ls in
      let others = flat_map (line_of form) ms in
      let both = one_strict_line (line_of form l ++ more) (words_of (form.fields l))
      (words_of (form.fields m)) more others
      (strict_line l more has)
      (subst (λ t. HasStrictLine t (words_of (form.fields m)) others) (sym e)
      (strict_line m others also)) in
      ap₂ (λ k ks. k ∷ ks) (clear.one l m has also both.0)
      (same_lines ls ms (All-tail form.HasLine l ls g) (All-tail form.HasLine m ms h) both.1)

  -- it is read as the thing
  pub line_is_read : (a : A) (rest : List ℕ) → form.HasLine a →
      (line_part Strict (rule_of form)).Reads (line_of form a ++ rest) a rest
  line_is_read a rest has = (
    line_of form a ++ rest,
    words_of (form.fields a),
    (refl, strict_line a rest has),
    (refl, has),
  )

  -- and no other line is
  pub only_line : (text rest : List ℕ) (a : A) →
      (line_part Strict (rule_of form)).Reads text a rest →
      (text ≡ line_of form a ++ rest) × form.HasLine a
  only_line text rest a (start, words, (at, strict), (is, has)) = (
    strict.spelled ∙ ap (λ ws. join_with_byte 32 ws ++ 10 ∷ rest) is
        ∙ sym (joined (form.fields a) rest),
    has,
  )

  -- the line of a form is printed
  pub line_is_printed : IsPrinted (line_part Strict (rule_of form)) (λ rest. Unit {0})
      (line_of form) form.HasLine
  line_is_printed = record {
    reads = λ a rest has t. line_is_read a rest has;
    found =
        λ text rest a h. only_line text rest a h;
  }

  -- the text begins with the first word of the line, and with no other
  pub begins_so : (a : A) (w : List ℕ) (more : List (List ℕ)) (rest : List ℕ) → form.HasLine a →
      words_of (form.fields a) ≡ w ∷ more →
      BeginsWithWord Strict w (line_of form a ++ rest)
  begins_so a w more rest has is = (
    more,
    (
      line_of form a ++ rest,
      rest,
      (
        refl,
        subst (λ ws. HasStrictLine (line_of form a ++ rest) ws rest) is
            (strict_line a rest has),
      ),
    ),
  )

  pub begins_not : (a : A) (w v : List ℕ) (more : List (List ℕ)) (rest : List ℕ) → form.HasLine a →
      words_of (form.fields a) ≡ w ∷ more →
      w ≢ v → BeginsWithWord Strict v (line_of form a ++ rest) → ⊥
  begins_not a w v more rest has is other =
      other_word Strict (line_of form a ++ rest) (line_of form a ++ rest)
      (words_of (form.fields a)) v rest (refl, strict_line a rest has)
      (λ others e. other (let both : w ∷ more ≡ v ∷ others = sym is ∙ e in cc))
