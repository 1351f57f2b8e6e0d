-- The line that names a function of a family, and why a line names none (own).
use Rattle.std.specs.Prelude.{ℕ, ◌≡◌, ◌⊎◌, List, [], ◌∷◌, Bool, true, false, map, codes}
use Rattle.gj_frac.specs.declared.Frac.{Frac}
use Rattle.gj_forms.specs.Parts.{LineRule}
use Rattle.gj_lex.specs.declared.spelling.Spelling.TheVariants.{Lenient}
use Rattle.gj_lex.specs.declared.reason.Reason.{Reason}
use Rattle.gj_lex.specs.declared.reason.Reason.TheVariants as reason
use Rattle.gj_forms.specs.LineForms.{Field, LineForm, form_of}
use Rattle.gj_forms.specs.LineForms.Field.{word, fraction, count}
use Rattle.gj_forms.specs.SpelledForms.{rule_in, made_rule}
use Rattle.gj_shape.specs.FunctionData.{FunctionData, IsWithinBounds}
use Rattle.gj_family.specs.Families.{IsGmic, IsHalf, IsTwoSlope}
use Rattle.gj_family.specs.Faults.{order_of, place_of, HasFamilyFault, HasNoFamilyFault, HasTwoSlopeFault, HasNoTwoSlopeFault}
use Rattle.gj_family.specs.declared.faults.FamilyFault.{FamilyFault}
use Rattle.gj_family.specs.declared.faults.FamilyFault.TheVariants as fault

-- a family with what its line tells: f, or the place of f and the word of the signs
pub data Family : Type 0 where
  gmic : Frac → Family
  half : Frac → Family
  two_slope : ℕ → List ℕ → Family

-- `family gmic F`, `family half F` or `family two-slope K SIGNS`
abbrev pub family_fields : Family → List Field
family_fields (gmic f) = word (codes "family") ∷ word (codes "gmic") ∷ fraction f ∷ []
family_fields (half f) = word (codes "family") ∷ word (codes "half") ∷ fraction f ∷ []
family_fields (two_slope k signs) = word (codes "family") ∷ word (codes "two-slope") ∷ count k
    ∷ word signs ∷ []

abbrev pub family_form : LineForm Family
family_form = form_of family_fields

-- `+` for a rise and `-` for a fall
abbrev pub sign_byte : Bool → ℕ
sign_byte true = 43
sign_byte false = 45

abbrev pub AreSigns : List ℕ → List Bool → Type 0
AreSigns bytes signs = bytes ≡ map sign_byte signs

-- the function is that of the family, which has one
abbrev pub IsOfFamily : Family → FunctionData → Type 0
IsOfFamily (gmic f) g = HasNoFamilyFault f × IsGmic (order_of f) (place_of f) g
IsOfFamily (half f) g = HasNoFamilyFault f × IsHalf (order_of f) (place_of f) g
IsOfFamily (two_slope k bytes) g = (signs : List Bool) × AreSigns bytes signs
    × HasNoTwoSlopeFault k signs × IsTwoSlope k signs g

-- its signs are none
abbrev pub HasNoSigns : Family → Type 0
HasNoSigns (two_slope k bytes) = (signs : List Bool) → AreSigns bytes signs → ⊥
HasNoSigns family = ⊥

-- the family has no function: the first test that fails
abbrev pub IsFaultOfFamily : Family → FamilyFault → Type 0
IsFaultOfFamily (gmic f) x = HasFamilyFault f x
IsFaultOfFamily (half f) x = HasFamilyFault f x
IsFaultOfFamily (two_slope k bytes) x = (signs : List Bool) × AreSigns bytes signs
    × HasTwoSlopeFault k signs x

-- how a line is refused for it
abbrev pub IsReasonOf : FamilyFault → Reason → Type 0
IsReasonOf fault.TooManyPieces e = e ≡ reason.Pieces
IsReasonOf fault.BadSigns e = e ≡ reason.Signs
IsReasonOf fault.BadF e = e ≡ reason.BadF
IsReasonOf fault.NoSlopes e = e ≡ reason.Slopes
IsReasonOf (fault.Memory error) e = ⊥

-- the line names a function of a family, or is refused: its signs are none, or its family has no
-- function
abbrev pub family_rule : LineRule FunctionData
family_rule =
    made_rule (λ family g. IsOfFamily family g × IsWithinBounds g)
    (λ family e. ((e ≡ reason.Signs) × HasNoSigns family)
    ⊎ ((x : FamilyFault) × IsFaultOfFamily family x × IsReasonOf x e))
    (rule_in Lenient family_form)
