-- How the words that were read name a function of a family, or none.
use Rattle.std.proofs.Common.{◌≡◌, inl, inr, ℕ, pos, List, [], ◌∷◌, Bool, true, false, All, get_or, refl, sym, subst, ◌∙◌, arith, codes}
use Rattle.std.proofs.lemmas.List.Elements.{All-map}
use Rattle.gj_lex.specs.declared.spelling.Spelling.TheVariants.{Lenient}
use Rattle.std.proofs.lemmas.Int.{ints}
use Rattle.gj_frac.specs.declared.Frac.{Frac}
use Rattle.gj_forms.specs.LineFaults.{IsRefusedFor}
use Rattle.gj_forms.specs.declared.line_fault.LineFault.{LineFault}
use Rattle.gj_forms.proofs.PartLaws.{refused_for}
use Rattle.gj_lex.specs.SpelledNumbers.{IsCountWord, IsFractionWord}
use Rattle.gj_lex.specs.declared.reason.Reason.TheVariants as reason
use Rattle.gj_forms.specs.LineForms.{AreOfForm}
use Rattle.gj_forms.specs.SpelledForms.{rule_in}
use Rattle.gj_forms.proofs.FieldWords.{head_and_tail}
use Rattle.gj_forms.proofs.PlainWords.{apart}
use Rattle.gj_forms.proofs.WholeNumbers.{whole}
use Rattle.gj_shape.specs.FunctionData.{FunctionData, IsWithinBounds}
use Rattle.gj_family.specs.Families.{IsTwoSlope}
use Rattle.gj_family.specs.Faults.{HasTwoSlopeFault, HasNoTwoSlopeFault}
use Rattle.gj_family.specs.declared.faults.FamilyFault.{FamilyFault}
use Rattle.gj_family.specs.declared.faults.FamilyFault.TheVariants as fault
use Rattle.gj_function_text.specs.FamilyLine.{Family, gmic, half, two_slope, family_form, sign_byte, AreSigns, IsFaultOfFamily, IsReasonOf, family_rule}
use Rattle.gj_function_text.specs.FamilyRead.{gmic_words, half_words, two_slope_words, IsSign, IsCut}

-- ---- words

-- a number for a word that spells none
zero : Frac
zero = whole (pos 0) (omega (arith, ints))

-- a line of no family
pub no_line_words : (line rest : List (List ℕ)) → line ≡ codes "family" ∷ rest →
    ((v : List ℕ) → rest ≡ codes "gmic" ∷ v ∷ [] → ⊥) →
    ((v : List ℕ) → rest ≡ codes "half" ∷ v ∷ [] → ⊥) →
    ((v w : List ℕ) → rest ≡ codes "two-slope" ∷ v ∷ w ∷ [] → ⊥) →
    AreOfForm family_form line → ⊥
no_line_words line rest e no_gmic no_half no_slopes (gmic f, is, t) =
    no_gmic _ (head_and_tail _ _ _ _ (sym e ∙ is)).1
no_line_words line rest e no_gmic no_half no_slopes (half f, is, t) =
    no_half _ (head_and_tail _ _ _ _ (sym e ∙ is)).1
no_line_words line rest e no_gmic no_half no_slopes (two_slope k w, is, t) =
    no_slopes _ _ (head_and_tail _ _ _ _ (sym e ∙ is)).1

-- what words spell
pub gmic_spelled : (w : List ℕ) (f : Frac) → IsFractionWord Lenient w f →
    (rule_in Lenient family_form).Spells (gmic_words w) (gmic f)
gmic_spelled w f h = ((refl, (refl, (h, tt))), tt)

pub half_spelled : (w : List ℕ) (f : Frac) → IsFractionWord Lenient w f →
    (rule_in Lenient family_form).Spells (half_words w) (half f)
half_spelled w f h = ((refl, (refl, (h, tt))), tt)

slopes_spelled : (v w : List ℕ) (n : ℕ) → IsCountWord Lenient v n →
    (rule_in Lenient family_form).Spells (two_slope_words v w) (two_slope n w)
slopes_spelled v w n h = ((refl, (refl, (h, (refl, tt)))), tt)

-- and which spell no number
pub no_gmic_number : (w : List ℕ) → ((f : Frac) → IsFractionWord Lenient w f → ⊥) →
    family_rule.Breaks (gmic_words w) reason.Number
no_gmic_number w none = inl (inr (refl, (gmic zero, refl, tt), no_family))
  where
    no_family : (a : Family) → (rule_in Lenient family_form).Spells (gmic_words w) a → ⊥
    no_family (gmic f) h = none f h.0.1.1.0
    no_family (half f) h = apart (codes "gmic") (codes "half") refl h.0.1.0
    no_family (two_slope k v) h = h.0.1.1.1

pub no_half_number : (w : List ℕ) → ((f : Frac) → IsFractionWord Lenient w f → ⊥) →
    family_rule.Breaks (half_words w) reason.Number
no_half_number w none = inl (inr (refl, (half zero, refl, tt), no_family))
  where
    no_family : (a : Family) → (rule_in Lenient family_form).Spells (half_words w) a → ⊥
    no_family (half f) h = none f h.0.1.1.0
    no_family (gmic f) h = apart (codes "half") (codes "gmic") refl h.0.1.0
    no_family (two_slope k v) h = h.0.1.1.1

pub no_slopes_count : (v w : List ℕ) → ((n : ℕ) → IsCountWord Lenient v n → ⊥) →
    family_rule.Breaks (two_slope_words v w) reason.Number
no_slopes_count v w none = inl (inr (refl, (two_slope 0 w, refl, tt), no_family))
  where
    no_family : (a : Family) → (rule_in Lenient family_form).Spells (two_slope_words v w) a → ⊥
    no_family (two_slope k u) h = none k h.0.1.1.0
    no_family (gmic f) h = h.0.1.1.1
    no_family (half f) h = h.0.1.1.1

pub no_slopes_signs : (v w : List ℕ) (n : ℕ) → IsCountWord Lenient v n →
    ((signs : List Bool) → AreSigns w signs → ⊥) →
    family_rule.Breaks (two_slope_words v w) reason.Signs
no_slopes_signs v w n counted none =
    inr (two_slope n w, slopes_spelled v w n counted, inl (refl, none))

-- ---- signs

-- what spells signs has no other byte
pub only_signs : (word : List ℕ) (signs : List Bool) → AreSigns word signs → All IsSign word
only_signs word signs e =
    subst (All IsSign) (sym e)
    (All-map IsSign sign_byte signs (λ k d h. is_sign (get_or signs k d)))
  where
    is_sign : (sign : Bool) → IsSign (sign_byte sign)
    is_sign true = inl refl
    is_sign false = inr refl

-- ---- refusals

-- the family that the words spell has a fault
pub family_refused : (words : List (List ℕ)) (a : Family) (x : FamilyFault) (e : LineFault) →
    (rule_in Lenient family_form).Spells words a → IsFaultOfFamily a x →
    IsRefusedFor (IsReasonOf x) e →
    IsRefusedFor (family_rule.Breaks words) e
family_refused words a x e spelled h is =
    refused_for (IsReasonOf x) (family_rule.Breaks words) e
    (λ d why. inr (a, spelled, inr (x, h, why))) is

-- ---- a place that was cut

-- no function with two slopes has a place so high: if the cut place has a fault, so has the place
pub cut_fault : (n k : ℕ) (signs : List Bool) (x : FamilyFault) → IsCut n k →
    HasTwoSlopeFault k signs x → HasTwoSlopeFault n signs x
cut_fault n k signs x (inl is) h = subst (λ m. HasTwoSlopeFault m signs x) is.0 h
cut_fault n k signs fault.TooManyPieces (inr is) h = h
cut_fault n k signs fault.BadSigns (inr is) h = h
cut_fault n k signs fault.BadF (inr is) h =
    (h.0, h.1, λ place. let few = h.1 in let high = place.1 in let cut = is.1 in omega arith)
cut_fault n k signs fault.NoSlopes (inr is) h =
    let few = h.1 in
    let high = h.2.1 in
    let cut = is.0 in
    absurd (omega arith)
cut_fault n k signs (fault.Memory a) (inr is) h = tt

-- and if it has none it was not cut
pub not_cut : (n k : ℕ) (signs : List Bool) → IsCut n k → HasNoTwoSlopeFault k signs → k ≡ n
not_cut n k signs (inl is) h = is.0
not_cut n k signs (inr is) h =
    let few = h.1 in
    let high = h.2.1 in
    let cut = is.0 in
    absurd (omega arith)

pub two_slope_named : (count word : List ℕ) (n k : ℕ) (signs : List Bool) (g : FunctionData) →
    IsCountWord Lenient count n →
    AreSigns word signs → IsCut n k → HasNoTwoSlopeFault k signs → IsTwoSlope k signs g →
    IsWithinBounds g →
    family_rule.Spells (two_slope_words count word) g
two_slope_named count word n k signs g counted spelled cut none is within =
    let same = not_cut n k signs cut none in (
      two_slope n word,
      slopes_spelled count word n counted,
      (
        (
          signs,
          spelled,
          subst (λ m. HasNoTwoSlopeFault m signs) same none,
          subst
              (λ m. IsTwoSlope m signs g) same is,
        ),
        within,
      ),
    )

pub two_slope_refused : (count word : List ℕ) (n k : ℕ) (signs : List Bool) (x : FamilyFault)
    (e : LineFault) →
    IsCountWord Lenient count n → AreSigns word signs → IsCut n k → HasTwoSlopeFault k signs x →
    IsRefusedFor (IsReasonOf x) e →
    IsRefusedFor (family_rule.Breaks (two_slope_words count word)) e
two_slope_refused count word n k signs x e counted spelled cut h is =
    family_refused (two_slope_words count word) (two_slope n word) x e
    (slopes_spelled count word n counted)
    (signs, spelled, cut_fault n k signs x cut h) is
