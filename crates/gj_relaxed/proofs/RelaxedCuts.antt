-- The cut of a problem on the grid holds at the feasible points of the problem.
use Rattle.std.proofs.Common.{◌≡◌, inr, ℕ, Bool, List, All, length, sym, subst, ◌∙◌}
use Rattle.std.specs.List.{AllZip}
use Rattle.gj_frac.specs.declared.Frac.{Frac}
use Rattle.gj_shape.specs.FunctionData.{FunctionData, IsContinuous, IsWithinBounds}
use Rattle.gj_shape.specs.Table.{IsMinimal}
use Rattle.gj_rule.specs.Kind.{IsKindValue, IsMinimalKind}
use Rattle.gj_rule.specs.declared.kind.RuleKind.{RuleKind}
use Rattle.gj_rule.specs.declared.kind.RuleKind.TheVariants.{Gmic, Table}
use Rattle.gj_cut.proofs.RightSides.{part_inside}
use Rattle.gj_mixed.specs.Slopes.{AreSlopesOfKind}
use Rattle.gj_fields.specs.Rational.{Rational}
use Rattle.gj_problem.specs.declared.problem.Inequality.{Inequality}
use Rattle.gj_problem.specs.declared.problem.Problem.{Problem}
use Rattle.gj_problem.specs.declared.pieces.Piece.{Piece}
use Rattle.gj_problem.specs.Problems.{IsFeasible, Holds, AreTermsWithin}
use Rattle.gj_problem.specs.Aggregates.{IsSound, AddsUpAt}
use Rattle.gj_problem.proofs.HeldInequalities.{turned_back_holds}
use Rattle.gj_problem.proofs.RowsAtPoints.{sound_pieces, row_at}
use Rattle.gj_safe_cut.specs.declared.cut.SafeCut.{SafeCut}
use Rattle.gj_safe_cut.specs.declared.cut.SafeCut.TheVariants.{Cut, Integral, OtherFraction, Free, Wide}
use Rattle.gj_safe_cut.specs.SafeCuts.{IsCutOfRow, IsGmicCutOfRow, IsCutOfPieces, IsOfProblem, SafeCutHolds, SafeCutHasTerms}
use Rattle.gj_safe_cut.proofs.HeldCuts.{IsUsable, cuts_held}
use Rattle.gj_safe_cut.proofs.PointCuts.{AreCutsHeld, cut_over}
use Rattle.gj_relaxed.specs.declared.rows.RightMove.{RightMove}
use Rattle.gj_relaxed.specs.declared.rows.RightMove.TheVariants.{Down, Kept}
use Rattle.gj_relaxed.specs.RelaxedProblems.{IsRelaxedProblem}
use Rattle.gj_relaxed.specs.RelaxedRows.{IsRelaxedRow}
use Rattle.gj_relaxed.specs.LoosePieces.{IsLoosened}
use Rattle.gj_relaxed.specs.RelaxedCuts.{IsOfRaisedRow, IsOfRelaxedRow, IsRelaxedCutOf, IsGmicRelaxedCutOf, IsFunctionRelaxedCutOf}
use Rattle.gj_relaxed.proofs.LoosePieces.{loosened_sound, loosened_adds_up}
use Rattle.gj_relaxed.proofs.RelaxedProblems.{as_many_columns, holds_from_grid}
use Rattle.gj_relaxed.proofs.RelaxedRows.{relaxed_sound, relaxed_adds_up}

-- what a row gives in so many columns
abbrev RowCut : Type 1
RowCut = ℕ → List Piece → Frac → SafeCut → Type 0

-- ---- it holds

-- the cuts of rows whose pieces hold, and which add up at each feasible point, hold
abbrev HoldsOfRows : RowCut → Type 0
HoldsOfRows IsOfRow = (p : Problem) (columns : ℕ) (pieces : List Piece) (right : Frac)
    (q : Inequality) → All (IsSound p) pieces →
    ((point : List Rational) → IsFeasible p point → AddsUpAt point pieces right) →
    IsOfRow columns pieces right (Cut q) → Holds p q

over_pieces : (kind : RuleKind) (up down right : Frac) (p : Problem) (columns : ℕ)
    (pieces : List Piece) (q : Inequality) → All (IsSound p) pieces →
    ((point : List Rational) → IsFeasible p point → AddsUpAt point pieces right) →
    AreCutsHeld (IsKindValue kind) up down right →
    IsCutOfPieces (IsKindValue kind) up down columns pieces q → Holds p q
over_pieces kind up down right p columns pieces q sound adds held made =
    turned_back_holds p pieces made.0 q
    (cut_over (IsKindValue kind) up down right p pieces made.0 held made.1 sound adds) made.2

gmic_holds : HoldsOfRows IsGmicCutOfRow
gmic_holds p columns pieces right q sound adds (f, up, down, slopes, (not_whole, part, made)) =
    over_pieces (Gmic f) up down right p columns pieces q sound adds
    (cuts_held (Gmic f) up down right (part_inside right f part not_whole) tt slopes part) made

rule_holds : (kind : RuleKind) (up down : Frac) → IsUsable kind → IsMinimalKind kind →
    AreSlopesOfKind kind up down →
    HoldsOfRows (IsCutOfRow kind up down)
rule_holds kind up down usable minimal slopes p columns pieces right q sound adds
    (not_whole, part, made) =
    over_pieces kind up down right p columns pieces q sound adds
    (cuts_held kind up down right usable minimal slopes part) made

relaxed_holds : (move : RightMove) (n : ℕ) (IsOfRow : RowCut) → HoldsOfRows IsOfRow →
    HoldsOfRows (IsOfRelaxedRow move n IsOfRow)
relaxed_holds move n IsOfRow held p columns pieces right q sound adds
    (loose, are, (relaxed, right', row, is)) =
    held p columns relaxed right' q
    (relaxed_sound move n columns p loose relaxed right right' row
    (loosened_sound n p pieces loose are sound))
    (λ point feasible.
    relaxed_adds_up move n columns point loose relaxed right right' row
    (loosened_adds_up n point pieces loose right are (adds point feasible)))
    is

on_grid_holds : (n : ℕ) (IsOfRow : RowCut) → HoldsOfRows IsOfRow →
    (p : Problem) (ms : List Frac) (ups : List Bool) (cut : SafeCut) →
    length ups ≡ length p.columns → IsRelaxedCutOf n (IsOfProblem IsOfRow) p ms ups cut →
    SafeCutHolds p cut
on_grid_holds n IsOfRow held p ms ups (Cut q) count (p', ms', relaxed, (pieces, right, row, is)) =
    holds_from_grid n p p' ms ms' q relaxed
    (held p' (length p'.columns) pieces right q (sound_pieces p' ms' ups pieces right row)
    (row_at p' ms' ups pieces right row (count ∙ sym (as_many_columns n p p' ms ms' relaxed))) is)
on_grid_holds n IsOfRow held p ms ups Integral count h = tt
on_grid_holds n IsOfRow held p ms ups OtherFraction count h = tt
on_grid_holds n IsOfRow held p ms ups (Free j) count h = tt
on_grid_holds n IsOfRow held p ms ups Wide count h = tt

pub gmic_relaxed_holds : (n : ℕ) (p : Problem) (ms : List Frac) (ups : List Bool) (cut : SafeCut) →
    length ups ≡ length p.columns →
    IsGmicRelaxedCutOf n p ms ups cut → SafeCutHolds p cut
gmic_relaxed_holds n = on_grid_holds n (IsOfRelaxedRow Down n IsGmicCutOfRow)
    (relaxed_holds Down n IsGmicCutOfRow gmic_holds)

pub function_relaxed_holds : (f : FunctionData) (n : ℕ) (p : Problem) (ms : List Frac)
    (ups : List Bool) (cut : SafeCut) → IsWithinBounds f →
    IsMinimal f → IsContinuous f → length ups ≡ length p.columns →
    IsFunctionRelaxedCutOf f n p ms ups cut → SafeCutHolds p cut
function_relaxed_holds f n p ms ups cut within minimal continuous count (up, down, slopes, is) =
    on_grid_holds n (IsOfRelaxedRow Kept n (IsCutOfRow (Table f) up down))
    (relaxed_holds Kept n (IsCutOfRow (Table f) up down)
    (rule_holds (Table f) up down within minimal (continuous, slopes)))
    p ms ups cut count is

-- ---- its terms

-- the cuts of rows have terms in so many columns
abbrev HasRowTerms : RowCut → Type 0
HasRowTerms IsOfRow = (columns : ℕ) (pieces : List Piece) (right : Frac) (q : Inequality) →
    IsOfRow columns pieces right (Cut q) →
    AreTermsWithin 0 columns q.entries

gmic_has_terms : HasRowTerms IsGmicCutOfRow
gmic_has_terms columns pieces right q (f, up, down, slopes, (not_whole, part, made)) = made.3

rule_has_terms : (kind : RuleKind) (up down : Frac) → HasRowTerms (IsCutOfRow kind up down)
rule_has_terms kind up down columns pieces right q (not_whole, part, made) = made.3

on_grid_terms : (move : RightMove) (n : ℕ) (IsOfRow : RowCut) → HasRowTerms IsOfRow →
    (p : Problem) (ms : List Frac) (ups : List Bool)
    (cut : SafeCut) → IsRelaxedCutOf n (IsOfProblem (IsOfRelaxedRow move n IsOfRow)) p ms ups cut →
    SafeCutHasTerms p cut
on_grid_terms move n IsOfRow terms p ms ups (Cut q)
    (p', ms', relaxed, (pieces, right, row, (loose, are, (rs, right', is_relaxed, is)))) =
    subst (λ (k : ℕ). AreTermsWithin 0 k q.entries) (as_many_columns n p p' ms ms' relaxed)
    (terms (length p'.columns) rs right' q is)
on_grid_terms move n IsOfRow terms p ms ups Integral h = tt
on_grid_terms move n IsOfRow terms p ms ups OtherFraction h = tt
on_grid_terms move n IsOfRow terms p ms ups (Free j) h = tt
on_grid_terms move n IsOfRow terms p ms ups Wide h = tt

pub gmic_relaxed_terms : (n : ℕ) (p : Problem) (ms : List Frac) (ups : List Bool) (cut : SafeCut) →
    IsGmicRelaxedCutOf n p ms ups cut →
    SafeCutHasTerms p cut
gmic_relaxed_terms n = on_grid_terms Down n IsGmicCutOfRow gmic_has_terms

pub function_relaxed_terms : (f : FunctionData) (n : ℕ) (p : Problem) (ms : List Frac)
    (ups : List Bool) (cut : SafeCut) →
    IsFunctionRelaxedCutOf f n p ms ups cut → SafeCutHasTerms p cut
function_relaxed_terms f n p ms ups cut (up, down, slopes, is) =
    on_grid_terms Kept n (IsCutOfRow (Table f) up down) (rule_has_terms (Table f) up down) p ms ups
    cut is

-- ---- what the row and the problem on the grid give

pub of_raised_row : (move : RightMove) (n : ℕ) (IsOfRow : RowCut) (columns : ℕ)
    (pieces relaxed : List Piece) (right right' : Frac) →
    IsRelaxedRow move n columns pieces right relaxed right' → (cut : SafeCut) →
    IsOfRow columns relaxed right' cut →
    IsOfRaisedRow move n IsOfRow columns pieces right cut
of_raised_row move n IsOfRow columns pieces relaxed right right' row (Cut q) h =
    (relaxed, right', row, h)
of_raised_row move n IsOfRow columns pieces relaxed right right' row Integral h =
    (relaxed, right', row, h)
of_raised_row move n IsOfRow columns pieces relaxed right right' row OtherFraction h =
    (relaxed, right', row, h)
of_raised_row move n IsOfRow columns pieces relaxed right right' row (Free j) h =
    (relaxed, right', row, h)
of_raised_row move n IsOfRow columns pieces relaxed right right' row Wide h =
    inr (relaxed, right', row, h)

pub of_loosened_row : (move : RightMove) (n : ℕ) (IsOfRow : RowCut) (columns : ℕ)
    (pieces loose : List Piece) (right right' : Frac) →
    AllZip (IsLoosened n) pieces loose → right' ≡ right → (cut : SafeCut) →
    IsOfRaisedRow move n IsOfRow columns loose right' cut →
    IsOfRelaxedRow move n IsOfRow columns pieces right cut
of_loosened_row move n IsOfRow columns pieces loose right right' are same cut h =
    (loose, are, subst (λ (x : Frac). IsOfRaisedRow move n IsOfRow columns loose x cut) same h)

pub of_relaxed_problem : (n : ℕ) (IsCut : Problem → List Frac → List Bool → SafeCut → Type 0)
    (p p' : Problem) (ms ms' : List Frac) (ups : List Bool) →
    IsRelaxedProblem n p ms p' ms' → (cut : SafeCut) → IsCut p' ms' ups cut →
    IsRelaxedCutOf n IsCut p ms ups cut
of_relaxed_problem n IsCut p p' ms ms' ups is (Cut q) h = (p', ms', is, h)
of_relaxed_problem n IsCut p p' ms ms' ups is Integral h = (p', ms', is, h)
of_relaxed_problem n IsCut p p' ms ms' ups is OtherFraction h = (p', ms', is, h)
of_relaxed_problem n IsCut p p' ms ms' ups is (Free j) h = inr (p', ms', is, h)
of_relaxed_problem n IsCut p p' ms ms' ups is Wide h = inr (p', ms', is, h)
