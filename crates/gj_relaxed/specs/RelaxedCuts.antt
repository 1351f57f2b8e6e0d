-- Cuts of problems whose data and rows are taken to the grid of all k/n (own).
use Rattle.std.specs.Prelude.{◌⊎◌, ℕ, Bool, List}
use Rattle.std.specs.List.{AllZip}
use Rattle.gj_frac.specs.declared.Frac.{Frac}
use Rattle.gj_shape.specs.FunctionData.{FunctionData}
use Rattle.gj_rule.specs.declared.kind.RuleKind.TheVariants.{Table}
use Rattle.gj_mixed.specs.Slopes.{AreSlopesAtZero}
use Rattle.gj_problem.specs.declared.problem.Problem.{Problem}
use Rattle.gj_problem.specs.declared.pieces.Piece.{Piece}
use Rattle.gj_safe_cut.specs.declared.cut.SafeCut.{SafeCut}
use Rattle.gj_safe_cut.specs.declared.cut.SafeCut.TheVariants.{Free, Wide}
use Rattle.gj_safe_cut.specs.SafeCuts.{IsCutOfRow, IsGmicCutOfRow, IsOfProblem}
use Rattle.gj_relaxed.specs.RelaxedProblems.{IsRelaxedProblem, IsFirstFreeSide, IsWideRelaxing}
use Rattle.gj_relaxed.specs.declared.rows.RightMove.{RightMove}
use Rattle.gj_relaxed.specs.declared.rows.RightMove.TheVariants.{Down, Kept}
use Rattle.gj_relaxed.specs.RelaxedRows.{IsRelaxedRow, IsWideRelaxedRow}
use Rattle.gj_relaxed.specs.LoosePieces.{IsLoosened}

-- the cut of the row on the grid, or a number that does not fit
abbrev pub IsOfRaisedRow : RightMove → ℕ → (ℕ → List Piece → Frac → SafeCut → Type 0) → ℕ →
    List Piece → Frac → SafeCut → Type 0
IsOfRaisedRow move n IsOfRow columns pieces right Wide =
    IsWideRelaxedRow move n columns pieces right
    ⊎ ((relaxed : List Piece) × (right' : Frac)
    × IsRelaxedRow move n columns pieces right relaxed right'
    × IsOfRow columns relaxed right' Wide)
IsOfRaisedRow move n IsOfRow columns pieces right cut =
    (relaxed : List Piece) × (right' : Frac)
    × IsRelaxedRow move n columns pieces right relaxed right'
    × IsOfRow columns relaxed right' cut

-- whole pieces with small entries are taken as continuous ones before
abbrev pub IsOfRelaxedRow : RightMove → ℕ → (ℕ → List Piece → Frac → SafeCut → Type 0) → ℕ →
    List Piece → Frac → SafeCut → Type 0
IsOfRelaxedRow move n IsOfRow columns pieces right cut =
    (loose : List Piece) × AllZip (IsLoosened n) pieces loose
    × IsOfRaisedRow move n IsOfRow columns loose right cut

-- the cut of the problem on the grid, a column that keeps a constraint from it, or a number that
-- does not fit
abbrev pub IsRelaxedCutOf : ℕ → (Problem → List Frac → List Bool → SafeCut → Type 0) → Problem →
    List Frac → List Bool → SafeCut → Type 0
IsRelaxedCutOf n IsCut p multipliers at_upper (Free j) = IsFirstFreeSide n p multipliers j
    ⊎ ((p' : Problem) × (multipliers' : List Frac)
    × IsRelaxedProblem n p multipliers p' multipliers'
    × IsCut p' multipliers' at_upper (Free j))
IsRelaxedCutOf n IsCut p multipliers at_upper Wide = IsWideRelaxing n p multipliers
    ⊎ ((p' : Problem) × (multipliers' : List Frac)
    × IsRelaxedProblem n p multipliers p' multipliers' × IsCut p' multipliers' at_upper Wide)
IsRelaxedCutOf n IsCut p multipliers at_upper cut =
    (p' : Problem) × (multipliers' : List Frac) × IsRelaxedProblem n p multipliers p' multipliers'
    × IsCut p' multipliers' at_upper cut

-- the mixed-integer cut of the problem by the multipliers, all on the grid
abbrev pub IsGmicRelaxedCutOf : ℕ → Problem → List Frac → List Bool → SafeCut → Type 0
IsGmicRelaxedCutOf n = IsRelaxedCutOf n (IsOfProblem (IsOfRelaxedRow Down n IsGmicCutOfRow))

-- the cut by the function, with its slopes at 0; the right side stays, since its fractional part
-- is the function's f
abbrev pub IsFunctionRelaxedCutOf : FunctionData → ℕ → Problem → List Frac → List Bool → SafeCut →
    Type 0
IsFunctionRelaxedCutOf f n p multipliers at_upper cut = (up : Frac) × (down : Frac)
    × AreSlopesAtZero f up down
    × IsRelaxedCutOf n (IsOfProblem (IsOfRelaxedRow Kept n (IsCutOfRow (Table f) up down))) p
    multipliers at_upper cut
