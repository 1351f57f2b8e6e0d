-- The cut of a row by a rule (Gomory and Johnson 1972).
use Rattle.std.specs.Prelude.{pos, ◌≡◌, map}
use Rattle.std.specs.List.{AllZip}
use Rattle.gj_frac.specs.declared.Frac.{Frac}
use Rattle.gj_frac.specs.Fraction.{numerator, denominator, IsWhole}
use Rattle.gj_shape.specs.RowCut.{CutHolds}
use Rattle.gj_frac.specs.Floor.{HasFractionalPart}
use Rattle.gj_rule.specs.Kept.{KeptRule}
use Rattle.gj_rule.specs.Kind.{IsKindValue}
use Rattle.gj_rule.specs.declared.kind.RuleKind.{RuleKind}
use Rattle.gj_rule.specs.declared.kind.RuleKind.TheVariants.{Gmic, Table}
use Rattle.gj_row.specs.declared.tableau.Entry.{Entry}
use Rattle.gj_row.specs.declared.tableau.Row.{Row}
use Rattle.gj_cut.specs.declared.cut.Term.{Term}
use Rattle.gj_cut.specs.declared.cut.RowCut.{RowCut}
use Rattle.gj_cut.specs.declared.cut.RowCut.TheVariants.{Cut, Integral, OtherFraction}
use Rattle.gj_cut.specs.declared.right_sides.RightSide.{RightSide}
use Rattle.gj_cut.specs.declared.right_sides.RightSide.TheVariants as side

-- the fractional part of x is the kind's f
abbrev pub HasPart : RuleKind → Frac → Type 0
HasPart (Gmic f) x = HasFractionalPart x (numerator f) (denominator f)
HasPart (Table shape) x = HasFractionalPart x (pos shape.place) (pos shape.order)

-- what a right side is to the kind
abbrev pub IsRightSide : RuleKind → Frac → RightSide → Type 0
IsRightSide kind x side.Whole = IsWhole x
IsRightSide kind x side.AtPlace = (IsWhole x → ⊥) × HasPart kind x
IsRightSide kind x side.OtherFraction = (IsWhole x → ⊥) × (HasPart kind x → ⊥)

-- the term of an entry: the coefficient is the kind's value at the entry
pub record IsTermOfKind (kind : RuleKind) (entry : Entry) (term : Term) : Type 0 where
  pub column_is : term.column ≡ entry.column
  pub entry_is : term.entry ≡ entry.value
  pub value_is : IsKindValue kind entry.value term.cut

-- and one that the kept evaluator answers there
pub record IsTermOf {E : Type 0} (answers : E → Frac → Frac → Type 0) (rule : KeptRule E)
    (entry : Entry) (term : Term) : Type 0 where
  pub of_kind : IsTermOfKind rule.kind entry term
  pub answered : answers rule.eval entry.value term.cut

-- the cut of a row with these terms, or why there is none
abbrev pub IsCutWith : (Entry → Term → Type 0) → RuleKind → Row → RowCut → Type 0
IsCutWith P kind row (Cut terms) = (IsWhole row.rhs → ⊥) × HasPart kind row.rhs
    × AllZip P row.entries terms
IsCutWith P kind row Integral = IsWhole row.rhs
IsCutWith P kind row OtherFraction = (IsWhole row.rhs → ⊥) × (HasPart kind row.rhs → ⊥)

-- the cut of the row by the rule
abbrev pub IsCutOf : {E : Type 0} → (E → Frac → Frac → Type 0) → KeptRule E → Row → RowCut → Type 0
IsCutOf answers rule = IsCutWith (IsTermOf answers rule) rule.kind

-- the cut of the row by any rule of the kind
abbrev pub IsCutOfKind : RuleKind → Row → RowCut → Type 0
IsCutOfKind kind = IsCutWith (IsTermOfKind kind) kind

-- the mixed-integer cut of the row for the fractional part f of its right side, or the right side
-- is whole
abbrev pub IsGmicCutOf : Row → RowCut → Type 0
IsGmicCutOf row (Cut terms) = (f : Frac) × IsCutOfKind (Gmic f) row (Cut terms)
IsGmicCutOf row Integral = IsWhole row.rhs
IsGmicCutOf row OtherFraction = ⊥

-- the cut, if there is one, holds at each solution of the row
abbrev pub HoldsFor : Row → RowCut → Type 0
HoldsFor row (Cut terms) = CutHolds (map (λ t. t.entry) terms) row.rhs (map (λ t. t.cut) terms)
HoldsFor row Integral = Unit {0}
HoldsFor row OtherFraction = Unit {0}
