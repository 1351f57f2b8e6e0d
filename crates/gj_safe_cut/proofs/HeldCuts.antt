-- The cut of a problem holds at its feasible points.
use Rattle.std.proofs.Common.{◌≡◌, Bool, List, length, refl}
use Rattle.gj_frac.specs.declared.Frac.{Frac}
use Rattle.gj_frac.specs.Fraction.{IsInside}
use Rattle.gj_shape.specs.FunctionData.{IsWithinBounds}
use Rattle.gj_rule.specs.Kind.{IsKindValue, IsKindWithinBounds, IsMinimalKind}
use Rattle.gj_rule.specs.declared.kind.RuleKind.{RuleKind}
use Rattle.gj_rule.specs.declared.kind.RuleKind.TheVariants.{Gmic, Table}
use Rattle.gj_cut.specs.RowCuts.{HasPart}
use Rattle.gj_cut.proofs.RightSides.{part_inside}
use Rattle.gj_mixed.specs.Slopes.{AreSlopesOfKind}
use Rattle.gj_mixed.proofs.HeldCuts.{mixed_by_function, mixed_by_gmic}
use Rattle.gj_problem.specs.declared.problem.Inequality.{Inequality}
use Rattle.gj_problem.specs.declared.problem.Problem.{Problem}
use Rattle.gj_problem.specs.declared.pieces.Piece.{Piece}
use Rattle.gj_problem.specs.Problems.{Holds}
use Rattle.gj_problem.specs.Aggregates.{IsRow}
use Rattle.gj_problem.proofs.HeldInequalities.{turned_back_holds}
use Rattle.gj_problem.proofs.RowsAtPoints.{sound_pieces, row_at}
use Rattle.gj_safe_cut.specs.declared.cut.SafeCut.{SafeCut}
use Rattle.gj_safe_cut.specs.declared.cut.SafeCut.TheVariants.{Cut, Integral, OtherFraction, Free, Wide}
use Rattle.gj_safe_cut.specs.SafeCuts.{IsCutOfPieces, IsSafeCutOf, IsGmicSafeCutOf, SafeCutHolds, SafeCutHasTerms}
use Rattle.gj_safe_cut.proofs.PointCuts.{AreCutsHeld, cut_over}

-- ---- the cuts of rows

-- f is between 0 and 1, or the function is within its bounds
abbrev pub IsUsable : RuleKind → Type 0
IsUsable (Gmic f) = IsInside f
IsUsable (Table shape) = IsWithinBounds shape

pub cuts_held : (kind : RuleKind) (up down right : Frac) → IsUsable kind → IsMinimalKind kind →
    AreSlopesOfKind kind up down → HasPart kind right →
    AreCutsHeld (IsKindValue kind) up down right
cuts_held (Gmic f) up down right usable minimal slopes part entries columns coefficients weights
    values are_weights =
    mixed_by_gmic f up down entries columns right coefficients weights usable slopes part values
    are_weights
cuts_held (Table shape) up down right usable minimal slopes part entries columns coefficients
    weights values are_weights =
    mixed_by_function shape up down entries columns right coefficients weights usable slopes.0
    minimal slopes.1 part values are_weights

pub usable_from : (kind : RuleKind) → IsKindWithinBounds kind → IsUsable kind
usable_from (Gmic f) h = h.0
usable_from (Table shape) h = h

-- ---- the cuts of problems

row_cut_holds : (kind : RuleKind) (up down : Frac) (p : Problem) (ms : List Frac) (ups : List Bool)
    (pieces : List Piece) (right : Frac)
    (q : Inequality) → length ups ≡ length p.columns → IsRow p ms ups pieces right →
    AreCutsHeld (IsKindValue kind) up down right →
    IsCutOfPieces (IsKindValue kind) up down (length p.columns) pieces q → Holds p q
row_cut_holds kind up down p ms ups pieces right q count row held made =
    turned_back_holds p pieces made.0 q
    (cut_over (IsKindValue kind) up down right p pieces made.0 held made.1
    (sound_pieces p ms ups pieces right row)
    (row_at p ms ups pieces right row count))
    made.2

pub holds_by_rule : (kind : RuleKind) (up down : Frac) (p : Problem) (ms : List Frac)
    (ups : List Bool) (cut : SafeCut) →
    length ups ≡ length p.columns → ((q : Inequality) → cut ≡ Cut q → IsKindWithinBounds kind) →
    IsMinimalKind kind →
    AreSlopesOfKind kind up down → IsSafeCutOf kind up down p ms ups cut → SafeCutHolds p cut
holds_by_rule kind up down p ms ups (Cut q) count bounds minimal slopes
    (pieces, right, row, (not_whole, part, made)) =
    row_cut_holds kind up down p ms ups pieces right q count row
    (cuts_held kind up down right (usable_from kind (bounds q refl)) minimal slopes part) made
holds_by_rule kind up down p ms ups Integral count bounds minimal slopes h = tt
holds_by_rule kind up down p ms ups OtherFraction count bounds minimal slopes h = tt
holds_by_rule kind up down p ms ups (Free j) count bounds minimal slopes h = tt
holds_by_rule kind up down p ms ups Wide count bounds minimal slopes h = tt

pub holds_by_gmic : (p : Problem) (ms : List Frac) (ups : List Bool) (cut : SafeCut) →
    length ups ≡ length p.columns →
    IsGmicSafeCutOf p ms ups cut → SafeCutHolds p cut
holds_by_gmic p ms ups (Cut q) count
    (pieces, right, row, (f, up, down, slopes, (not_whole, part, made))) =
    row_cut_holds (Gmic f) up down p ms ups pieces right q count row
    (cuts_held (Gmic f) up down right (part_inside right f part not_whole) tt slopes part) made
holds_by_gmic p ms ups Integral count h = tt
holds_by_gmic p ms ups OtherFraction count h = tt
holds_by_gmic p ms ups (Free j) count h = tt
holds_by_gmic p ms ups Wide count h = tt

-- ---- the terms of the cuts

pub rule_terms : (kind : RuleKind) (up down : Frac) (p : Problem) (ms : List Frac) (ups : List Bool)
    (cut : SafeCut) →
    IsSafeCutOf kind up down p ms ups cut → SafeCutHasTerms p cut
rule_terms kind up down p ms ups (Cut q) (pieces, right, row, (not_whole, part, made)) = made.3
rule_terms kind up down p ms ups Integral h = tt
rule_terms kind up down p ms ups OtherFraction h = tt
rule_terms kind up down p ms ups (Free j) h = tt
rule_terms kind up down p ms ups Wide h = tt

pub gmic_terms : (p : Problem) (ms : List Frac) (ups : List Bool) (cut : SafeCut) →
    IsGmicSafeCutOf p ms ups cut → SafeCutHasTerms p cut
gmic_terms p ms ups (Cut q) (pieces, right, row, (f, up, down, slopes, (not_whole, part, made))) =
    made.3
gmic_terms p ms ups Integral h = tt
gmic_terms p ms ups OtherFraction h = tt
gmic_terms p ms ups (Free j) h = tt
gmic_terms p ms ups Wide h = tt
