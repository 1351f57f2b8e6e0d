-- The cut of a row with whole and continuous columns by a rule and slopes (Gomory and Johnson
-- 1972).
use Rattle.std.specs.Prelude.{◌≡◌, Bool, false, not, List, [], map, filter, slice_index_or}
use Rattle.std.specs.List.{AllZip}
use Rattle.gj_frac.specs.declared.Frac.{Frac}
use Rattle.gj_frac.specs.Fraction.{IsWhole}
use Rattle.gj_rule.specs.Kept.{KeptRule}
use Rattle.gj_rule.specs.declared.kind.RuleKind.{RuleKind}
use Rattle.gj_rule.specs.declared.kind.RuleKind.TheVariants.{Gmic}
use Rattle.gj_row.specs.declared.tableau.Entry.{Entry}
use Rattle.gj_row.specs.declared.tableau.Row.{Row}
use Rattle.gj_cut.specs.RowCuts.{HasPart, IsTermOfKind, IsTermOf}
use Rattle.gj_cut.specs.declared.cut.RowCut.{RowCut}
use Rattle.gj_cut.specs.declared.cut.RowCut.TheVariants as row_cut
use Rattle.gj_cut.specs.declared.cut.Term.{Term}
use Rattle.gj_mixed.specs.MixedRows.{MixedCutHolds}
use Rattle.gj_mixed.specs.Slopes.{IsWeight, AreGmicSlopes, KeptSlopes}
use Rattle.gj_mixed.specs.declared.cut.MixedCut.{MixedCut}
use Rattle.gj_mixed.specs.declared.cut.MixedCut.TheVariants.{Cut, Integral, OtherFraction}

-- the entry is in a continuous column
abbrev pub is_continuous : List Bool → Entry → Bool
is_continuous continuous entry = slice_index_or continuous entry.column false

-- the entries in whole columns
abbrev pub whole_entries : List Bool → List Entry → List Entry
whole_entries continuous entries = filter (λ e. not (is_continuous continuous e)) entries

-- the entries in continuous columns
abbrev pub continuous_entries : List Bool → List Entry → List Entry
continuous_entries continuous entries = filter (is_continuous continuous) entries

-- the term of an entry in a continuous column: its coefficient is the weight
pub record IsWeightTerm (up down : Frac) (entry : Entry) (term : Term) : Type 0 where
  pub column_is : term.column ≡ entry.column
  pub entry_is : term.entry ≡ entry.value
  pub weight_is : IsWeight up down entry.value term.cut

-- and one that the kept evaluator answers there
pub record IsWeightTermOf {G : Type 0} (answers : G → Frac → Frac → Type 0) (slopes : KeptSlopes G)
    (entry : Entry) (term : Term) : Type 0 where
  pub of_slopes : IsWeightTerm slopes.up slopes.down entry term
  pub answered : answers slopes.weigh entry.value term.cut

-- the cut of a row with terms of whole columns, of which P says which they are, and of continuous
-- columns, of which Q does so, each in the order of the row's entries, or why there is none
abbrev pub IsMixedCutWith : (Entry → Term → Type 0) → (Entry → Term → Type 0) → RuleKind →
    List Bool → Row → MixedCut → Type 0
IsMixedCutWith P Q kind continuous row (Cut terms weights) = (IsWhole row.rhs → ⊥)
    × HasPart kind row.rhs
    × AllZip P (whole_entries continuous row.entries) terms
    × AllZip Q (continuous_entries continuous row.entries) weights
IsMixedCutWith P Q kind continuous row Integral = IsWhole row.rhs
IsMixedCutWith P Q kind continuous row OtherFraction = (IsWhole row.rhs → ⊥)
    × (HasPart kind row.rhs → ⊥)

-- the cut of the row by the rule and the slopes
abbrev pub IsMixedCutOf : {E G : Type 0} → (E → Frac → Frac → Type 0) → (G → Frac → Frac → Type 0) →
    KeptRule E → KeptSlopes G →
    List Bool → Row → MixedCut → Type 0
IsMixedCutOf answers weighs rule slopes =
    IsMixedCutWith (IsTermOf answers rule) (IsWeightTermOf weighs slopes) rule.kind

-- the cut of the row by any rule of the kind and any evaluator of the weights by these slopes
abbrev pub IsMixedCutOfKind : RuleKind → Frac → Frac → List Bool → Row → MixedCut → Type 0
IsMixedCutOfKind kind up down = IsMixedCutWith (IsTermOfKind kind) (IsWeightTerm up down) kind

-- the mixed-integer cut of the row for the fractional part f of its right side, or the right side
-- is whole
abbrev pub IsGmicMixedCutOf : List Bool → Row → MixedCut → Type 0
IsGmicMixedCutOf continuous row (Cut terms weights) =
    (f : Frac) × (up : Frac) × (down : Frac) × AreGmicSlopes f up down
    × IsMixedCutOfKind (Gmic f) up down continuous row (Cut terms weights)
IsGmicMixedCutOf continuous row Integral = IsWhole row.rhs
IsGmicMixedCutOf continuous row OtherFraction = ⊥

-- the cut of a row whose columns are all whole has no weights
abbrev pub without_weights : RowCut → MixedCut
without_weights (row_cut.Cut terms) = Cut terms []
without_weights row_cut.Integral = Integral
without_weights row_cut.OtherFraction = OtherFraction

-- the cut, if there is one, holds at each solution of the row
abbrev pub MixedHoldsFor : Row → MixedCut → Type 0
MixedHoldsFor row (Cut terms weights) =
    MixedCutHolds (map (λ t. t.entry) terms) (map (λ t. t.entry) weights) row.rhs
    (map (λ t. t.cut) terms) (map (λ t. t.cut) weights)
MixedHoldsFor row Integral = Unit {0}
MixedHoldsFor row OtherFraction = Unit {0}
