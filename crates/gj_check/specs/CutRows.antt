-- The rules on a row of a claim about cuts: whether all hold, and which is the first that fails
-- (own).
use Rattle.std.specs.Prelude.{ℕ, ◌≡◌, ◌≢◌, ◌+◌, ◌<◌, pos, List, [], ◌∷◌, All, map, length}
use Rattle.std.specs.declared.option.Option.{Option}
use Rattle.std.specs.declared.option.Option.TheVariants.{Some, None}
use Rattle.gj_frac.specs.declared.Frac.{Frac}
use Rattle.gj_frac.specs.Floor.{HasFractionalPart}
use Rattle.gj_frac.specs.Fraction.{IsWhole}
use Rattle.gj_proof.specs.declared.cut.CutRule.{CutRule}
use Rattle.gj_proof.specs.declared.cut.CutRule.TheVariants.{Gmic, Table}
use Rattle.gj_proof.specs.declared.cut.CutLine.{CutLine}
use Rattle.gj_proof.specs.declared.cut.CutLine.TheVariants.{Cut}
use Rattle.gj_proof.specs.declared.cut.CutTerm.{CutTerm}
use Rattle.gj_proof.specs.Rules.{AtIndex, IfCut, MeetsFraction, MeetsLimit, MeetsName, MeetsValue}
use Rattle.gj_check.specs.declared.rules.CheckRule.{CheckRule}
use Rattle.gj_check.specs.declared.rules.CheckRule.TheVariants.{Fraction, Limit, Name, Value}
use Rattle.gj_check.specs.declared.cut_rows.RowFailure.{RowFailure}

-- ---- a term

-- its rules hold: within the limits of its row, of a new name, and with the rule's value as its
-- coefficient
pub record MeetsTerm (rule : CutRule) (basic : List ℕ) (right : Frac) (before : List CutTerm)
    (t : CutTerm) : Type 0 where
  pub limit : MeetsLimit (right ∷ map (λ u. u.entry) before) t.entry
  pub name : MeetsName basic before t
  pub value : MeetsValue rule right t

-- the first of its rules that fails
abbrev pub FailsTerm : CutRule → List ℕ → Frac → CheckRule → List CutTerm → CutTerm → Type 0
FailsTerm rule basic right Limit before t = MeetsLimit (right ∷ map (λ u. u.entry) before) t.entry →
    ⊥
FailsTerm rule basic right Name before t =
    MeetsLimit (right ∷ map (λ u. u.entry) before) t.entry × (MeetsName basic before t → ⊥)
FailsTerm rule basic right Value before t =
    MeetsLimit (right ∷ map (λ u. u.entry) before) t.entry × MeetsName basic before t
    × (MeetsValue rule right t → ⊥)
FailsTerm rule basic right _ before t = ⊥

-- the names of the terms differ
abbrev pub HaveDifferentNames : List CutTerm → Type 0
HaveDifferentNames terms = (j : ℕ) → AtIndex terms j (λ before t. All (λ u. u.name ≢ t.name) before)

-- the rules of all terms hold
abbrev pub MeetTerms : CutRule → List ℕ → Frac → List CutTerm → Type 0
MeetTerms rule basic right terms = (j : ℕ) → AtIndex terms j (MeetsTerm rule basic right)

-- those of the terms before the j-th hold, and the first rule of the j-th that fails is this one
pub record FailsInCutRow (rule : CutRule) (basic : List ℕ) (right : Frac) (terms : List CutTerm)
    (j : ℕ) (failed : CheckRule) : Type 0 where
  pub within : j < length terms
  pub before : (i : ℕ) → i < j → AtIndex terms i (MeetsTerm rule basic right)
  pub here : AtIndex terms j (FailsTerm rule basic right failed)

-- the first failure in the terms of a row, on the j-th line below that of the row
pub record FailTerms (rule : CutRule) (basic : List ℕ) (right : Frac) (terms : List CutTerm)
    (f : RowFailure) : Type 0 where
  pub index : ℕ
  pub below : f.below ≡ index + 1
  pub fails : FailsInCutRow rule basic right terms index f.rule

abbrev pub IsTermsOutcome : CutRule → List ℕ → Frac → List CutTerm → Option RowFailure → Type 0
IsTermsOutcome rule basic right terms None = MeetTerms rule basic right terms
IsTermsOutcome rule basic right terms (Some f) = FailTerms rule basic right terms f

-- ---- a row

-- a right side with which the rule gives a cut
abbrev pub GivesCut : CutRule → Frac → Type 0
GivesCut (Table f) right = HasFractionalPart right (pos f.place) (pos f.order)
GivesCut Gmic right = IsWhole right → ⊥

-- a right side of another fractional part than the function's, which is not whole; the
-- mixed-integer cut has none such
abbrev pub GivesNoCut : CutRule → Frac → Type 0
GivesNoCut (Table f) right = (IsWhole right → ⊥)
    × (HasFractionalPart right (pos f.place) (pos f.order) → ⊥)
GivesNoCut Gmic right = ⊥

-- all rules hold
pub record MeetsCutRow (rule : CutRule) (l : CutLine) : Type 0 where
  pub fraction : MeetsFraction rule l
  pub cut : IfCut l (λ basic right terms. MeetsLimit [] right × MeetTerms rule basic right terms)

-- the first that fails, and how many lines below that of the row: on the row's line `fraction` or
-- `limit`, or one of a term
pub data FailsRow (rule : CutRule) (l : CutLine) (f : RowFailure) : Type 0 where
  at_fraction : f.below ≡ 0 → f.rule ≡ Fraction → (MeetsFraction rule l → ⊥) → FailsRow rule l f
  at_limit : (basic : List ℕ) (right : Frac) (terms : List CutTerm) → l ≡ Cut basic right terms →
      f.below ≡ 0 → f.rule ≡ Limit →
      MeetsFraction rule l → (MeetsLimit [] right → ⊥) → FailsRow rule l f
  at_term : (basic : List ℕ) (right : Frac) (terms : List CutTerm) → l ≡ Cut basic right terms →
      MeetsFraction rule l → MeetsLimit [] right → FailTerms rule basic right terms f →
      FailsRow rule l f

abbrev pub IsRowOutcome : CutRule → CutLine → Option RowFailure → Type 0
IsRowOutcome rule l None = MeetsCutRow rule l
IsRowOutcome rule l (Some f) = FailsRow rule l f
