-- What the row of a problem gives, the problem gives; so it is with a number that does not fit.
use Rattle.std.proofs.Common.{⊎_elim, inr, ℕ, List, length, Bool, subst₂}
use Rattle.gj_frac.specs.declared.Frac.{Frac}
use Rattle.gj_problem.specs.declared.problem.Problem.{Problem}
use Rattle.gj_problem.specs.declared.pieces.Piece.{Piece}
use Rattle.gj_problem.specs.Aggregates.{IsRow, IsFirstFree}
use Rattle.gj_problem.specs.WideRows.{IsWideRow}
use Rattle.gj_problem.proofs.OnePieces.{one_pieces}
use Rattle.gj_problem.proofs.OneRow.{one_right, no_free}
use Rattle.gj_safe_cut.specs.declared.cut.SafeCut.{SafeCut}
use Rattle.gj_safe_cut.specs.declared.cut.SafeCut.TheVariants.{Cut, Integral, OtherFraction, Free, Wide}
use Rattle.gj_safe_cut.specs.SafeCuts.{IsOfProblem}

pub of_row : (IsOfRow : ℕ → List Piece → Frac → SafeCut → Type 0) (p : Problem) (ms : List Frac)
    (ups : List Bool) (pieces : List Piece)
    (right : Frac) → IsRow p ms ups pieces right →
    ((j : ℕ) → IsOfRow (length p.columns) pieces right (Free j) → ⊥) →
    (cut : SafeCut) → IsOfRow (length p.columns) pieces right cut → IsOfProblem IsOfRow p ms ups cut
of_row IsOfRow p ms ups pieces right row none (Cut q) h = (pieces, right, row, h)
of_row IsOfRow p ms ups pieces right row none Integral h = (pieces, right, row, h)
of_row IsOfRow p ms ups pieces right row none OtherFraction h = (pieces, right, row, h)
of_row IsOfRow p ms ups pieces right row none (Free j) h = absurd (none j h)
of_row IsOfRow p ms ups pieces right row none Wide h = inr (pieces, right, row, h)

module _ (IsOfRow : ℕ → List Piece → Frac → SafeCut → Type 0) (p : Problem) (ms : List Frac)
    (ups : List Bool) (narrow : IsWideRow p ms ups → ⊥) where
  pub narrow_of_row : (pieces : List Piece) (right : Frac) → IsRow p ms ups pieces right →
      (IsOfRow (length p.columns) pieces right Wide → ⊥) →
      IsOfProblem IsOfRow p ms ups Wide → ⊥
  narrow_of_row pieces right row fits =
      ⊎_elim narrow
      (λ (k : (qs : List Piece) × (r : Frac) × IsRow p ms ups qs r × IsOfRow (length p.columns) qs r Wide).
      fits (subst₂ (λ (qs : List Piece) (r : Frac). IsOfRow (length p.columns) qs r Wide)
      (one_pieces p ms ups k.0 pieces k.1 right k.2 row)
      (one_right p ms ups k.0 pieces k.1 right k.2 row) k.3))

  pub narrow_of_free : (j : ℕ) → IsFirstFree p ms ups j → IsOfProblem IsOfRow p ms ups Wide → ⊥
  narrow_of_free j free =
      ⊎_elim narrow
      (λ (k : (qs : List Piece) × (r : Frac) × IsRow p ms ups qs r × IsOfRow (length p.columns) qs r Wide).
      no_free p ms ups k.0 k.1 j k.2 free)
