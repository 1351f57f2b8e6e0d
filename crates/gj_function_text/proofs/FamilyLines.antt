-- A line names one function of a family, or none for one reason.
use Rattle.std.proofs.Common.{◌≡◌, ◌⊎◌, inl, inr, ℕ, List, [], ◌∷◌, Bool, true, false, map, codes, refl, sym, ap, ap₂, subst, ◌∙◌, arith}
use Rattle.gj_frac.specs.declared.Frac.{Frac}
use Rattle.gj_lex.specs.declared.reason.Reason.{Reason}
use Rattle.gj_lex.specs.declared.spelling.Spelling.TheVariants.{Lenient}
use Rattle.gj_forms.specs.Parts.{IsExactRule, IsExactPart}
use Rattle.gj_forms.proofs.PartLaws.{line_part_is_exact}
use Rattle.gj_lex.specs.declared.reason.Reason.TheVariants as reason
use Rattle.gj_forms.specs.LineForms.{with_numbers}
use Rattle.gj_forms.specs.SpelledForms.{rule_in}
use Rattle.gj_forms.proofs.FieldWords.{AreAlike, head_and_tail}
use Rattle.gj_forms.proofs.PlainWords.{apart}
use Rattle.gj_forms.proofs.SpelledLaws.{rule_in_is_exact, made_rule_is_exact}
use Rattle.gj_forms.proofs.SpelledLines.{clear_form}
use Rattle.gj_family.specs.Families.{IsTwoSlope}
use Rattle.gj_shape.specs.FunctionData.{FunctionData, IsWithinBounds}
use Rattle.gj_family.specs.Faults.{HasFamilyFault, HasNoFamilyFault, HasTwoSlopeFault, HasNoTwoSlopeFault}
use Rattle.gj_family.specs.declared.faults.FamilyFault.{FamilyFault}
use Rattle.gj_family.specs.declared.faults.FamilyFault.TheVariants as fault
use Rattle.gj_family.proofs.OneFunction.{one_gmic, one_half_function, one_two_slope}
use Rattle.gj_function_text.specs.FamilyLine.{Family, gmic, half, two_slope, family_fields, family_form, sign_byte, IsOfFamily, HasNoSigns, IsFaultOfFamily, IsReasonOf, family_rule}
use Rattle.gj_function_text.specs.FunctionText.{family_part}

-- ---- signs

no_byte : (a : ℕ) (v : List ℕ) → [] ≡ a ∷ v → ⊥
no_byte a v e = cc

one_sign : (x y : Bool) → sign_byte x ≡ sign_byte y → x ≡ y
one_sign true true e = refl
one_sign true false e = absurd (omega arith)
one_sign false true e = absurd (omega arith)
one_sign false false e = refl

-- bytes spell one list of signs
one_signs : (a b : List Bool) → map sign_byte a ≡ map sign_byte b → a ≡ b
one_signs [] [] e = refl
one_signs [] (y ∷ b) e = absurd (no_byte (sign_byte y) (map sign_byte b) e)
one_signs (x ∷ a) [] e = absurd (no_byte (sign_byte x) (map sign_byte a) (sym e))
one_signs (x ∷ a) (y ∷ b) e =
    let same = head_and_tail (sign_byte x) (sign_byte y) (map sign_byte a) (map sign_byte b) e in
    ap₂ (λ sign signs. sign ∷ signs) (one_sign x y same.0) (one_signs a b same.1)

-- ---- the form

second_words : (a b c : List ℕ) (v w : List (List ℕ)) → c ∷ a ∷ v ≡ c ∷ b ∷ w → a ≡ b
second_words a b c v w e = cc

gmic_or_half : codes "gmic" ≡ codes "half" → ⊥
gmic_or_half = apart (codes "gmic") (codes "half") refl

alike_families : (a b : Family) (words : List (List ℕ)) →
    with_numbers (family_fields a) words ≡ with_numbers (family_fields b) words →
    AreAlike (family_fields a) (family_fields b)
alike_families (gmic f) (gmic g) words e = tt
alike_families (half f) (half g) words e = tt
alike_families (two_slope m v) (two_slope n w) words e = tt
alike_families (gmic f) (half g) words e = absurd (gmic_or_half (second_words _ _ _ _ _ e))
alike_families (half f) (gmic g) words e = absurd (gmic_or_half (sym (second_words _ _ _ _ _ e)))
alike_families a b words e = absurd cc

told_family : (a b : Family) → family_fields a ≡ family_fields b → a ≡ b
told_family (gmic f) (gmic g) e = let same : f ≡ g = cc in ap gmic same
told_family (half f) (half g) e = let same : f ≡ g = cc in ap half same
told_family (two_slope m v) (two_slope n w) e =
    let place : m ≡ n = cc in
    let signs : v ≡ w = cc in
    λ i. two_slope (place i) (signs i)
told_family (gmic f) (half g) e = absurd (gmic_or_half cc)
told_family (half f) (gmic g) e = absurd (gmic_or_half cc)
told_family a b e = absurd cc

-- ---- functions and faults of a family

one_of_family : (a : Family) (f g : FunctionData) → IsOfFamily a f → IsOfFamily a g →
    IsWithinBounds f → IsWithinBounds g → f ≡ g
one_of_family (gmic x) f g h k in_f in_g = one_gmic _ _ f g h.1 k.1 in_f in_g
one_of_family (half x) f g h k in_f in_g = one_half_function _ _ f g h.1 k.1 in_f in_g
one_of_family (two_slope n w) f g (s, are, none, is) (t, are', none', is') in_f in_g =
    one_two_slope n t f g none'.3.2
    (subst (λ signs. IsTwoSlope n signs f) (one_signs s t (sym are ∙ are')) is) is' in_f in_g

-- no test fails if there is a function
no_family_fault : (f : Frac) (x : FamilyFault) (e : Reason) → HasNoFamilyFault f →
    HasFamilyFault f x → IsReasonOf x e → ⊥
no_family_fault f fault.TooManyPieces e none h is = let low = none.1 in let high = h.1 in
    omega arith
no_family_fault f fault.BadSigns e none h is = h
no_family_fault f fault.BadF e none h is = h none.0
no_family_fault f fault.NoSlopes e none h is = h
no_family_fault f (fault.Memory a) e none h is = is

no_two_slope_fault : (k : ℕ) (s : List Bool) (x : FamilyFault) (e : Reason) →
    HasNoTwoSlopeFault k s → HasTwoSlopeFault k s x →
    IsReasonOf x e → ⊥
no_two_slope_fault k s fault.TooManyPieces e none h is = let few = none.1 in omega arith
no_two_slope_fault k s fault.BadSigns e none h is = let some = none.0 in omega arith
no_two_slope_fault k s fault.BadF e none h is = h.2 none.2
no_two_slope_fault k s fault.NoSlopes e none h is = h.3 none.3
no_two_slope_fault k s (fault.Memory a) e none h is = is

no_fault : (a : Family) (g : FunctionData) (x : FamilyFault) (e : Reason) → IsOfFamily a g →
    IsFaultOfFamily a x → IsReasonOf x e → ⊥
no_fault (gmic f) g x e of h is = no_family_fault f x e of.0 h is
no_fault (half f) g x e of h is = no_family_fault f x e of.0 h is
no_fault (two_slope k w) g x e (s, are, none, of) (t, are', h) is =
    no_two_slope_fault k t x e (subst (HasNoTwoSlopeFault k) (one_signs s t (sym are ∙ are')) none)
    h is

-- one test fails first
one_family_reason : (f : Frac) (x y : FamilyFault) (e d : Reason) → HasFamilyFault f x →
    HasFamilyFault f y → IsReasonOf x e →
    IsReasonOf y d → e ≡ d
one_family_reason f fault.TooManyPieces fault.TooManyPieces e d h k is is' = is ∙ sym is'
one_family_reason f fault.TooManyPieces fault.BadF e d h k is is' = absurd (k h.0)
one_family_reason f fault.TooManyPieces fault.BadSigns e d h k is is' = absurd k
one_family_reason f fault.TooManyPieces fault.NoSlopes e d h k is is' = absurd k
one_family_reason f fault.TooManyPieces (fault.Memory a) e d h k is is' = absurd is'
one_family_reason f fault.BadF fault.TooManyPieces e d h k is is' = absurd (h k.0)
one_family_reason f fault.BadF fault.BadF e d h k is is' = is ∙ sym is'
one_family_reason f fault.BadF fault.BadSigns e d h k is is' = absurd k
one_family_reason f fault.BadF fault.NoSlopes e d h k is is' = absurd k
one_family_reason f fault.BadF (fault.Memory a) e d h k is is' = absurd is'
one_family_reason f fault.BadSigns y e d h k is is' = absurd h
one_family_reason f fault.NoSlopes y e d h k is is' = absurd h
one_family_reason f (fault.Memory a) y e d h k is is' = absurd is

one_two_slope_reason : (n : ℕ) (s : List Bool) (x y : FamilyFault) (e d : Reason) →
    HasTwoSlopeFault n s x → HasTwoSlopeFault n s y →
    IsReasonOf x e → IsReasonOf y d → e ≡ d
one_two_slope_reason n s fault.TooManyPieces fault.TooManyPieces e d h k is is' = is ∙ sym is'
one_two_slope_reason n s fault.TooManyPieces fault.BadSigns e d h k is is' = absurd (omega arith)
one_two_slope_reason n s fault.TooManyPieces fault.BadF e d h k is is' =
    absurd (let few = k.1 in omega arith)
one_two_slope_reason n s fault.TooManyPieces fault.NoSlopes e d h k is is' =
    absurd (let few = k.1 in omega arith)
one_two_slope_reason n s fault.TooManyPieces (fault.Memory a) e d h k is is' = absurd is'
one_two_slope_reason n s fault.BadSigns fault.TooManyPieces e d h k is is' = absurd (omega arith)
one_two_slope_reason n s fault.BadSigns fault.BadSigns e d h k is is' = is ∙ sym is'
one_two_slope_reason n s fault.BadSigns fault.BadF e d h k is is' =
    absurd (let some = k.0 in omega arith)
one_two_slope_reason n s fault.BadSigns fault.NoSlopes e d h k is is' =
    absurd (let some = k.0 in omega arith)
one_two_slope_reason n s fault.BadSigns (fault.Memory a) e d h k is is' = absurd is'
one_two_slope_reason n s fault.BadF fault.TooManyPieces e d h k is is' =
    absurd (let few = h.1 in omega arith)
one_two_slope_reason n s fault.BadF fault.BadSigns e d h k is is' =
    absurd (let some = h.0 in omega arith)
one_two_slope_reason n s fault.BadF fault.BadF e d h k is is' = is ∙ sym is'
one_two_slope_reason n s fault.BadF fault.NoSlopes e d h k is is' = absurd (h.2 k.2)
one_two_slope_reason n s fault.BadF (fault.Memory a) e d h k is is' = absurd is'
one_two_slope_reason n s fault.NoSlopes fault.TooManyPieces e d h k is is' =
    absurd (let few = h.1 in omega arith)
one_two_slope_reason n s fault.NoSlopes fault.BadSigns e d h k is is' =
    absurd (let some = h.0 in omega arith)
one_two_slope_reason n s fault.NoSlopes fault.BadF e d h k is is' = absurd (k.2 h.2)
one_two_slope_reason n s fault.NoSlopes fault.NoSlopes e d h k is is' = is ∙ sym is'
one_two_slope_reason n s fault.NoSlopes (fault.Memory a) e d h k is is' = absurd is'
one_two_slope_reason n s (fault.Memory a) y e d h k is is' = absurd is

one_fault_reason : (a : Family) (x y : FamilyFault) (e d : Reason) → IsFaultOfFamily a x →
    IsFaultOfFamily a y → IsReasonOf x e → IsReasonOf y d → e ≡ d
one_fault_reason (gmic f) x y e d h k is is' = one_family_reason f x y e d h k is is'
one_fault_reason (half f) x y e d h k is is' = one_family_reason f x y e d h k is is'
one_fault_reason (two_slope n w) x y e d (s, are, h) (t, are', k) is is' =
    one_two_slope_reason n t x y e d
    (subst (λ signs. HasTwoSlopeFault n signs x) (one_signs s t (sym are ∙ are')) h) k is is'

-- a family without signs has no function, and no fault but that
no_signs_no_function : (a : Family) (g : FunctionData) → HasNoSigns a → IsOfFamily a g → ⊥
no_signs_no_function (gmic f) g none of = none
no_signs_no_function (half f) g none of = none
no_signs_no_function (two_slope k w) g none (s, are, no_fault, of) = none s are

no_signs_no_fault : (a : Family) (x : FamilyFault) → HasNoSigns a → IsFaultOfFamily a x → ⊥
no_signs_no_fault (gmic f) x none h = none
no_signs_no_fault (half f) x none h = none
no_signs_no_fault (two_slope k w) x none (s, are, h) = none s are

-- ---- the rule

pub family_rule_is_exact : IsExactRule family_rule.Spells family_rule.Breaks
family_rule_is_exact =
    made_rule_is_exact (λ family g. IsOfFamily family g × IsWithinBounds g) Refused
    (rule_in Lenient family_form)
    (rule_in_is_exact Lenient family_form (clear_form family_fields alike_families told_family))
    (λ a f g h k. one_of_family a f g h.0 k.0 h.1 k.1) one_reason not_both
  where
    Refused : Family → Reason → Type 0
    Refused a e = ((e ≡ reason.Signs) × HasNoSigns a)
        ⊎ ((x : FamilyFault) × IsFaultOfFamily a x × IsReasonOf x e)

    one_reason : (a : Family) (e d : Reason) → Refused a e → Refused a d → e ≡ d
    one_reason a e d (inl h) (inl k) = h.0 ∙ sym k.0
    one_reason a e d (inl h) (inr (y, k, is)) = absurd (no_signs_no_fault a y h.1 k)
    one_reason a e d (inr (x, h, is)) (inl k) = absurd (no_signs_no_fault a x k.1 h)
    one_reason a e d (inr (x, h, is)) (inr (y, k, is')) = one_fault_reason a x y e d h k is is'

    not_both : (a : Family) (g : FunctionData) (e : Reason) → IsOfFamily a g × IsWithinBounds g →
        Refused a e → ⊥
    not_both a g e h (inl k) = no_signs_no_function a g k.1 h.0
    not_both a g e h (inr (x, k, is)) = no_fault a g x e h.0 k is

pub family_part_is_exact : IsExactPart family_part.Reads family_part.Faults
family_part_is_exact = line_part_is_exact Lenient family_rule family_rule_is_exact
