-- Cuts of problems by multipliers and a rule, in the columns of the problem
-- (Gomory 1960; Gomory and Johnson 1972; Cook, Dash, Fukasawa and Goycoolea 2009).
use Rattle.std.specs.Prelude.{◌≡◌, ◌⊎◌, ◌<◌, ◌^◌, ℕ, pos, Bool, true, false, List, ◌∷◌, ◌++◌, length}
use Rattle.std.specs.List.{AllZip}
use Rattle.gj_frac.specs.declared.Frac.{Frac}
use Rattle.gj_frac.specs.Fraction.{IsWhole, HasDenominatorBelow}
use Rattle.gj_shape.specs.FunctionData.{FunctionData}
use Rattle.gj_shape.specs.Limits.{denominator_bound}
use Rattle.gj_theory.specs.Cuts.{IsGmicValue}
use Rattle.gj_rule.specs.Kind.{IsKindValue}
use Rattle.gj_rule.specs.declared.kind.RuleKind.{RuleKind}
use Rattle.gj_rule.specs.declared.kind.RuleKind.TheVariants.{Gmic, Table}
use Rattle.gj_cut.specs.RowCuts.{HasPart}
use Rattle.gj_mixed.specs.Slopes.{IsWeight, AreGmicSlopes, AreSlopesAtZero}
use Rattle.gj_problem.specs.declared.problem.Inequality.{Inequality}
use Rattle.gj_problem.specs.declared.problem.Problem.{Problem}
use Rattle.gj_problem.specs.declared.pieces.Piece.{Piece}
use Rattle.gj_fields.specs.Rational.{Rational, whole, rational, ◌-ℚ◌}
use Rattle.gj_problem.specs.Problems.{Holds, HasTerms, AreTermsWithin}
use Rattle.gj_problem.specs.Rows.{dot}
use Rattle.gj_problem.specs.Aggregates.{combined_at, IsRow, IsFirstFree, IsTurnedBack}
use Rattle.gj_problem.specs.Steps.{IsWideAt, IsWideWithin}
use Rattle.gj_problem.specs.WideRows.{IsWideRow}
use Rattle.gj_safe_cut.specs.declared.cut.SafeCut.{SafeCut}
use Rattle.gj_safe_cut.specs.declared.cut.SafeCut.TheVariants.{Cut, Integral, OtherFraction, Free, Wide}

-- the coefficient of a piece: the value at its entry or, if its surplus need not be whole, the
-- weight by the slopes
pub record IsCoefficient (IsValue : Frac → Frac → Type 0) (up down : Frac) (s : Piece) (k : Frac) :
    Type 0 where
  pub whole : s.is_whole ≡ true → IsValue s.entry k
  pub continuous : s.is_whole ≡ false → IsWeight up down s.entry k

-- the inequality is the cut over the pieces in the n columns of the problem
abbrev pub IsCutOfPieces : (Frac → Frac → Type 0) → Frac → Frac → ℕ → List Piece → Inequality →
    Type 0
IsCutOfPieces IsValue up down n pieces q = (coefficients : List Frac)
    × AllZip (IsCoefficient IsValue up down) pieces coefficients
    × IsTurnedBack pieces coefficients q × AreTermsWithin 0 n q.entries

-- ---- when a number does not fit

-- no fraction that fits is the value at x
abbrev pub HasNoValue : (Frac → Frac → Type 0) → Frac → Type 0
HasNoValue IsValue x = (y : Frac) → IsValue x y → ⊥

-- x has a denominator of 2^31 or more: a rule is asked for no value there
abbrev pub IsTooFine : Frac → Type 0
IsTooFine x = HasDenominatorBelow denominator_bound x → ⊥

-- the piece has no coefficient: its entry has no value, or its weight does not fit
pub record HasNoCoefficient (IsOut : Frac → Type 0) (up down : Frac) (s : Piece) : Type 0 where
  pub whole : s.is_whole ≡ true → IsOut s.entry
  pub continuous : s.is_whole ≡ false → HasNoValue (IsWeight up down) s.entry

-- the piece has no coefficient, or its inequality times that cannot be added to this one
abbrev pub IsWideTerm : (Frac → Frac → Type 0) → (Frac → Type 0) → Frac → Frac → List Frac → Frac →
    Piece → Type 0
IsWideTerm IsValue IsOut up down sum right s = HasNoCoefficient IsOut up down s
    ⊎ ((k : Frac) × IsCoefficient IsValue up down s k
    × (IsWideWithin sum k s.inequality.entries ⊎ IsWideAt right k s.inequality.right))

-- so it is at some piece, when those before it have been added
pub record IsWideSumOfTerms (IsValue : Frac → Frac → Type 0) (IsOut : Frac → Type 0)
    (up down : Frac) (n : ℕ) (pieces : List Piece) : Type 0 where
  pub before : List Piece
  pub next : Piece
  pub after : List Piece
  pub place : pieces ≡ before ++ next ∷ after
  pub coefficients : List Frac
  pub given : AllZip (IsCoefficient IsValue up down) before coefficients
  pub sum : List Frac
  pub right : Frac
  pub count : length sum ≡ n
  pub adds : (point : List Rational) →
      dot sum point -ℚ rational right ≡ combined_at point coefficients before -ℚ whole (pos 1)
  pub wide : IsWideTerm IsValue IsOut up down sum right next

-- that, or the problem has more than 2^32 columns
abbrev pub IsWideCut : (Frac → Frac → Type 0) → (Frac → Type 0) → Frac → Frac → ℕ → List Piece →
    Type 0
IsWideCut IsValue IsOut up down n pieces = IsWideSumOfTerms IsValue IsOut up down n pieces
    ⊎ (2 ^ 32 < n)

-- ---- cuts of rows

-- what the row with these pieces and this right side gives in n columns
abbrev pub IsCutOfRow : RuleKind → Frac → Frac → ℕ → List Piece → Frac → SafeCut → Type 0
IsCutOfRow kind up down n pieces right (Cut q) =
    (IsWhole right → ⊥) × HasPart kind right × IsCutOfPieces (IsKindValue kind) up down n pieces q
IsCutOfRow kind up down n pieces right Integral = IsWhole right
IsCutOfRow kind up down n pieces right OtherFraction = (IsWhole right → ⊥)
    × (HasPart kind right → ⊥)
IsCutOfRow kind up down n pieces right (Free j) = ⊥
IsCutOfRow kind up down n pieces right Wide =
    (IsWhole right → ⊥) × HasPart kind right
    × IsWideCut (IsKindValue kind) IsTooFine up down n pieces

-- what the row of the multipliers gives, its first free column, or a number that does not fit
abbrev pub IsOfProblem : (ℕ → List Piece → Frac → SafeCut → Type 0) → Problem → List Frac →
    List Bool → SafeCut → Type 0
IsOfProblem IsOfRow p multipliers at_upper (Free j) = IsFirstFree p multipliers at_upper j
IsOfProblem IsOfRow p multipliers at_upper Wide = IsWideRow p multipliers at_upper
    ⊎ ((pieces : List Piece) × (right : Frac) × IsRow p multipliers at_upper pieces right
    × IsOfRow (length p.columns) pieces right Wide)
IsOfProblem IsOfRow p multipliers at_upper cut =
    (pieces : List Piece) × (right : Frac) × IsRow p multipliers at_upper pieces right
    × IsOfRow (length p.columns) pieces right cut

-- the cut of the problem by the multipliers and the rule with these slopes
abbrev pub IsSafeCutOf : RuleKind → Frac → Frac → Problem → List Frac → List Bool → SafeCut → Type 0
IsSafeCutOf kind up down = IsOfProblem (IsCutOfRow kind up down)

-- the cut of the problem by the multipliers and the function, with its slopes at 0
abbrev pub IsFunctionSafeCutOf : FunctionData → Problem → List Frac → List Bool → SafeCut → Type 0
IsFunctionSafeCutOf f p multipliers at_upper cut = (up : Frac) × (down : Frac)
    × AreSlopesAtZero f up down × IsSafeCutOf (Table f) up down p multipliers at_upper cut

-- the mixed-integer cut of a row for the fractional part f of its right side, or the right side is
-- whole
abbrev pub IsGmicCutOfRow : ℕ → List Piece → Frac → SafeCut → Type 0
IsGmicCutOfRow n pieces right (Cut q) =
    (f : Frac) × (up : Frac) × (down : Frac) × AreGmicSlopes f up down
    × IsCutOfRow (Gmic f) up down n pieces right (Cut q)
IsGmicCutOfRow n pieces right Integral = IsWhole right
IsGmicCutOfRow n pieces right OtherFraction = ⊥
IsGmicCutOfRow n pieces right (Free j) = ⊥
IsGmicCutOfRow n pieces right Wide = (f : Frac) × (up : Frac) × (down : Frac)
    × AreGmicSlopes f up down
    × (IsWhole right → ⊥) × HasPart (Gmic f) right
    × IsWideCut (IsGmicValue f) (HasNoValue (IsGmicValue f)) up down n pieces

-- the mixed-integer cut of the problem by the multipliers
abbrev pub IsGmicSafeCutOf : Problem → List Frac → List Bool → SafeCut → Type 0
IsGmicSafeCutOf = IsOfProblem IsGmicCutOfRow

-- the answer is `Wide` if a number does not fit
abbrev pub TellsWide : (SafeCut → Type 0) → SafeCut → Type 0
TellsWide Is cut = Is Wide → cut ≡ Wide

-- the answer is the cut q, or `Wide`
abbrev pub IsSameCut : Inequality → SafeCut → Type 0
IsSameCut q (Cut r) = r ≡ q
IsSameCut q Wide = Unit {0}
IsSameCut q Integral = ⊥
IsSameCut q OtherFraction = ⊥
IsSameCut q (Free j) = ⊥

-- the cut, if there is one, holds at all feasible points
abbrev pub SafeCutHolds : Problem → SafeCut → Type 0
SafeCutHolds p (Cut q) = Holds p q
SafeCutHolds p Integral = Unit {0}
SafeCutHolds p OtherFraction = Unit {0}
SafeCutHolds p (Free j) = Unit {0}
SafeCutHolds p Wide = Unit {0}

-- its entries, if there is one, are not 0, and their columns ascend
abbrev pub SafeCutHasTerms : Problem → SafeCut → Type 0
SafeCutHasTerms p (Cut q) = HasTerms p q
SafeCutHasTerms p Integral = Unit {0}
SafeCutHasTerms p OtherFraction = Unit {0}
SafeCutHasTerms p (Free j) = Unit {0}
SafeCutHasTerms p Wide = Unit {0}
