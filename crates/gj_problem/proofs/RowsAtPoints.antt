-- The row of a problem by multipliers: its pieces hold, and it adds up at each feasible point.
use Rattle.std.proofs.Common.{◌≡◌, ◌+◌, List, [], ◌∷◌, length, All, Bool, pos, refl, sym, ap, subst, ◌∙◌, arith}
use Rattle.std.proofs.lemmas.List.Elements.{All-append}
use Rattle.gj_frac.specs.declared.Frac.{Frac}
use Rattle.gj_fields.specs.Rational.{Rational, whole, rational, ◌+ℚ◌, ◌-ℚ◌}
use Rattle.gj_fields.proofs.RationalLaws.{zero_add_q}
use Rattle.gj_fields.proofs.RationalRing.{by_ring_q, ring_q}
use Rattle.gj_problem.specs.declared.problem.Problem.{Problem}
use Rattle.gj_problem.specs.declared.pieces.Piece.{Piece}
use Rattle.gj_problem.specs.Problems.{IsFeasible, value_at, MeetsConstraint}
use Rattle.gj_problem.specs.Rows.{dot}
use Rattle.gj_problem.specs.Aggregates.{pieces_at, Weighted, weighted, aggregate_at, HasNoSlack, IsSlack, held, IsLeftOut, IsTurned, IsRow, IsSound, AddsUpAt}
use Rattle.gj_problem.proofs.MadePieces.{made_all, pieces_joined}
use Rattle.gj_problem.proofs.ConstraintSlacks.{slacks_at, slack_holds, slack_whole, all_met, IsMet}
use Rattle.gj_problem.proofs.TurnedColumns.{bounds_at, IsOf, all_columns_of, turned_holds, turned_whole}

-- ---- pieces hold

pub sound_pieces : (p : Problem) (ms : List Frac) (ups : List Bool) (pieces : List Piece)
    (right : Frac) → IsRow p ms ups pieces right →
    All (IsSound p) pieces
sound_pieces p ms ups pieces right row =
    subst (All (IsSound p)) (sym row.pieces_are)
    (All-append (IsSound p) row.slacks row.bounds
    (made_all HasNoSlack (IsSlack p) (λ (w : Weighted). IsMet p w.constraint) (IsSound p)
    (weighted ms p.constraints) row.slacks row.slacks_are
    (all_met p ms) (λ w s met h. record {
      holds = slack_holds p w s met h;
      is_whole =
          slack_whole p w s h;
    }))
    (made_all IsLeftOut IsTurned (IsOf p) (IsSound p) (held 0 p.columns row.coefficients ups)
    row.bounds row.bounds_are
    (all_columns_of p row.coefficients ups)
    (λ h s of k. record {
      holds = turned_holds p h s of k;
      is_whole =
          turned_whole p h s of k;
    })))

-- ---- the row

row_total : (s b b0 z d r g : Rational) → g +ℚ s ≡ whole (pos 0) → d -ℚ r ≡ g → d ≡ z +ℚ (b -ℚ b0) →
    (s +ℚ b) +ℚ z ≡ r +ℚ b0
row_total s b b0 z d r g slacks sum taken =
    turned s b b0 z r ∙ ap (λ w. ((w -ℚ r) +ℚ s) +ℚ (r +ℚ b0)) (sym taken)
    ∙ ap (λ w. (w +ℚ s) +ℚ (r +ℚ b0)) sum ∙ ap (λ w. w +ℚ (r +ℚ b0)) slacks ∙ zero_add_q (r +ℚ b0)
  where
    turned : (s b b0 z r : Rational) → (s +ℚ b) +ℚ z ≡ (((z +ℚ (b -ℚ b0)) -ℚ r) +ℚ s) +ℚ (r +ℚ b0)
    turned s b b0 z r = by_ring_q (s ∷ b ∷ b0 ∷ z ∷ r ∷ []) (search ring_q depth 60 fits 3000) refl

pub row_at : (p : Problem) (ms : List Frac) (ups : List Bool) (pieces : List Piece) (right : Frac) →
    IsRow p ms ups pieces right →
    length ups ≡ length p.columns → (point : List Rational) → IsFeasible p point →
    AddsUpAt point pieces right
row_at p ms ups pieces right row count point feasible =
    let ws = weighted ms p.constraints in
    let met : All (λ (w : Weighted). MeetsConstraint point w.constraint) ws =
    λ k d below. all_met p ms k d below point feasible in
    let slacks = slacks_at p point ws row.slacks row.slacks_are met in
    let taken = bounds_at point 0 p.columns row.coefficients ups point row.bounds row.bounds_are
    feasible.columns row.sum.count count
    (λ k. let e : 0 + k ≡ k = omega arith in ap (value_at point) e) in (
      taken.0,
      ap (λ (qs : List Piece). pieces_at point qs +ℚ whole taken.0) row.pieces_are
          ∙ ap (λ w. w +ℚ whole taken.0) (pieces_joined point row.slacks row.bounds)
          ∙ row_total (pieces_at point row.slacks) (pieces_at point row.bounds)
          (pieces_at [] row.bounds) (whole taken.0)
          (dot row.coefficients point) (rational row.against) (aggregate_at point ws) slacks
          (row.sum.adds point) taken.1
          ∙ sym row.right_is,
    )
