-- The lines behind the first of a step: each tells one thing, told apart by its first word.
use Rattle.std.proofs.Common.{◌≡◌, inl, inr, ℕ, pos, ◌<ℤ◌, List, [], ◌∷◌, codes, refl, sym, ap, ◌∙◌, arith}
use Rattle.std.proofs.lemmas.Int.{ints}
use Rattle.gj_frac.specs.declared.Frac.{Frac}
use Rattle.gj_frac.specs.Fraction.{numerator}
use Rattle.gj_lex.specs.Name.{IsName}
use Rattle.gj_lex.specs.declared.reason.Reason.{Reason}
use Rattle.gj_lex.specs.declared.reason.Reason.TheVariants.{Form, Number}
use Rattle.gj_forms.specs.Parts.{IsExactRule}
use Rattle.gj_forms.specs.LineForms.{first_of, others_of, with_numbers, words_of, AreOfForm}
use Rattle.gj_forms.proofs.FieldWords.{AreAlike}
use Rattle.gj_forms.proofs.PlainWords.{apart}
use Rattle.gj_forms.proofs.WholeNumbers.{whole}
use Rattle.gj_problem_text.specs.NumberLines.{Tell, number_rule}
use Rattle.gj_problem_text.specs.NumberWords.{IsNumberWord}
use Rattle.gj_problem_text.proofs.NumberLines.{number_rule_is_exact}
use Rattle.gj_derivation_text.specs.StepLines.{StepLine, by, upper, times, claim, term, line_fields, HasLineForm, HasStepLine, line_form}

-- the first word of a line
abbrev pub head : StepLine → List ℕ
head (by name value) = codes "by"
head (upper name) = codes "upper"
head (times factor) = codes "times"
head (claim right) = codes "claim"
head (term name value) = codes "term"

-- ---- a line tells one thing

alike_lines : (a b : StepLine) (words : List (List ℕ)) →
    with_numbers (line_fields a) words ≡ with_numbers (line_fields b) words →
    AreAlike (line_fields a) (line_fields b)
alike_lines (by m x) (by n y) words e = tt
alike_lines (upper m) (upper n) words e = tt
alike_lines (times x) (times y) words e = tt
alike_lines (claim m) (claim n) words e = tt
alike_lines (term m x) (term n y) words e = tt
alike_lines a b words e = absurd (apart (head a) (head b) refl (ap first_of e))

told_line : (a b : StepLine) → line_fields a ≡ line_fields b → a ≡ b
told_line (by m x) (by n y) e =
    let name : m ≡ n = cc in
    let value : x ≡ y = cc in
    λ i. by (name i) (value i)
told_line (upper m) (upper n) e = let name : m ≡ n = cc in ap upper name
told_line (times x) (times y) e = let factor : x ≡ y = cc in ap times factor
told_line (claim m) (claim n) e = let right : m ≡ n = cc in ap claim right
told_line (term m x) (term n y) e =
    let name : m ≡ n = cc in
    let value : x ≡ y = cc in
    λ i. term (name i) (value i)
told_line a b e = absurd
    (apart (head a) (head b) refl (ap (λ fields. first_of (words_of fields)) e))

of_line_form : (a : StepLine) → HasStepLine a → HasLineForm a
of_line_form (by name value) h = h
of_line_form (upper name) h = h
of_line_form (times factor) h = tt
of_line_form (claim right) h = tt
of_line_form (term name value) h = h

pub line_rule_is_exact : IsExactRule (number_rule line_form).Spells (number_rule line_form).Breaks
line_rule_is_exact =
    number_rule_is_exact line_form
    (record { of_form = of_line_form; alike = alike_lines; tell = told_line })

-- ---- words that tell nothing

-- words that begin otherwise
pub other_first : (w : List ℕ) (ws : List (List ℕ)) → ((b : StepLine) → w ≡ head b → ⊥) →
    (number_rule line_form).Breaks (w ∷ ws) Form
other_first w ws other = inl (refl, deny)
  where
    deny : AreOfForm line_form (w ∷ ws) → ⊥
    deny (by name value, e, h) = other (by name value) (ap first_of e)
    deny (upper name, e, h) = other (upper name) (ap first_of e)
    deny (times factor, e, h) = other (times factor) (ap first_of e)
    deny (claim right, e, h) = other (claim right) (ap first_of e)
    deny (term name value, e, h) = other (term name value) (ap first_of e)

-- a number for a word that spells none
zero : Frac
zero = whole (pos 0) (omega (arith, ints))

-- no line with such words has a number
pub no_multiplier : (name w : List ℕ) → IsName name → ((x : Frac) → IsNumberWord w x → ⊥) →
    (number_rule line_form).Breaks (codes "by" ∷ name ∷ w ∷ []) Number
no_multiplier name w is_name none = inr (refl, (by name zero, refl, is_name), other)
  where
    other : (a : StepLine) → Tell line_form (codes "by" ∷ name ∷ w ∷ []) a → ⊥
    other (by v x) h = none x h.0.1.1.0
    other (upper v) h = apart (codes "by") (codes "upper") refl h.0.0
    other (times x) h = apart (codes "by") (codes "times") refl h.0.0
    other (claim v) h = apart (codes "by") (codes "claim") refl h.0.0
    other (term v x) h = apart (codes "by") (codes "term") refl h.0.0

pub no_value : (name w : List ℕ) → IsName name → ((x : Frac) → IsNumberWord w x → ⊥) →
    (number_rule line_form).Breaks (codes "term" ∷ name ∷ w ∷ []) Number
no_value name w is_name none = inr (refl, (term name zero, refl, is_name), other)
  where
    other : (a : StepLine) → Tell line_form (codes "term" ∷ name ∷ w ∷ []) a → ⊥
    other (term v x) h = none x h.0.1.1.0
    other (by v x) h = apart (codes "term") (codes "by") refl h.0.0
    other (upper v) h = apart (codes "term") (codes "upper") refl h.0.0
    other (times x) h = apart (codes "term") (codes "times") refl h.0.0
    other (claim v) h = apart (codes "term") (codes "claim") refl h.0.0

pub no_factor : (w : List ℕ) → ((x : Frac) → IsNumberWord w x → pos 0 <ℤ numerator x → ⊥) →
    (number_rule line_form).Breaks (codes "times" ∷ w ∷ []) Number
no_factor w none = inr (refl, (times zero, refl, tt), other)
  where
    other : (a : StepLine) → Tell line_form (codes "times" ∷ w ∷ []) a → ⊥
    other (times x) h = none x h.0.1.0 h.1
    other (by v x) h = apart (codes "times") (codes "by") refl h.0.0
    other (upper v) h = apart (codes "times") (codes "upper") refl h.0.0
    other (claim v) h = apart (codes "times") (codes "claim") refl h.0.0
    other (term v x) h = apart (codes "times") (codes "term") refl h.0.0

-- words behind `by`, or `term`, that are not a name and a word
pub no_name_by : (ws : List (List ℕ)) →
    ((name w : List ℕ) → ws ≡ name ∷ w ∷ [] → IsName name → ⊥) →
    (number_rule line_form).Breaks (codes "by" ∷ ws) Form
no_name_by ws none = inl (refl, deny)
  where
    deny : AreOfForm line_form (codes "by" ∷ ws) → ⊥
    deny (by name value, e, h) = none name _ (ap others_of e) h
    deny (upper name, e, h) = apart (codes "by") (codes "upper") refl (ap first_of e)
    deny (times factor, e, h) = apart (codes "by") (codes "times") refl (ap first_of e)
    deny (claim right, e, h) = apart (codes "by") (codes "claim") refl (ap first_of e)
    deny (term name value, e, h) = apart (codes "by") (codes "term") refl (ap first_of e)

pub no_name_term : (ws : List (List ℕ)) →
    ((name w : List ℕ) → ws ≡ name ∷ w ∷ [] → IsName name → ⊥) →
    (number_rule line_form).Breaks (codes "term" ∷ ws) Form
no_name_term ws none = inl (refl, deny)
  where
    deny : AreOfForm line_form (codes "term" ∷ ws) → ⊥
    deny (term name value, e, h) = none name _ (ap others_of e) h
    deny (by name value, e, h) = apart (codes "term") (codes "by") refl (ap first_of e)
    deny (upper name, e, h) = apart (codes "term") (codes "upper") refl (ap first_of e)
    deny (times factor, e, h) = apart (codes "term") (codes "times") refl (ap first_of e)
    deny (claim right, e, h) = apart (codes "term") (codes "claim") refl (ap first_of e)
