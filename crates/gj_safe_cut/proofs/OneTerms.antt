-- A piece has one coefficient, and pieces give one cut.
use Rattle.std.proofs.Common.{◌≡◌, ℕ, Bool, true, false, List, pos, refl, sym, ap, ◌∙◌}
use Rattle.std.specs.List.{AllZip}
use Rattle.gj_frac.specs.declared.Frac.{Frac}
use Rattle.gj_mixed.proofs.OneSlopes.{one_weight}
use Rattle.gj_fields.specs.Rational.{Rational, whole, ◌-ℚ◌}
use Rattle.gj_problem.specs.declared.problem.Inequality.{Inequality}
use Rattle.gj_problem.specs.declared.pieces.Piece.{Piece}
use Rattle.gj_problem.specs.Problems.{surplus_at}
use Rattle.gj_problem.specs.Aggregates.{combined_at}
use Rattle.gj_problem.proofs.MadePieces.{zip_one}
use Rattle.gj_problem.proofs.OneTerms.{one_inequality}
use Rattle.gj_safe_cut.specs.SafeCuts.{IsCoefficient, IsCutOfPieces}
use Rattle.gj_safe_cut.specs.AddedTerms.{HasOneValue}

module _ (IsValue : Frac → Frac → Type 0) (up down : Frac) (one : HasOneValue IsValue) where
  pub one_coefficient : (s : Piece) (k l : Frac) → IsCoefficient IsValue up down s k →
      IsCoefficient IsValue up down s l → k ≡ l
  one_coefficient s k l a b = by_kind s.is_whole refl
    where
      by_kind : (w : Bool) → s.is_whole ≡ w → k ≡ l
      by_kind true e = one s.entry k l (a.whole e) (b.whole e)
      by_kind false e = one_weight up down s.entry k l (a.continuous e) (b.continuous e)

  pub one_list : (ps : List Piece) (ks ls : List Frac) →
      AllZip (IsCoefficient IsValue up down) ps ks → AllZip (IsCoefficient IsValue up down) ps ls →
      ks ≡ ls
  one_list ps ks ls h k = zip_one (IsCoefficient IsValue up down) one_coefficient ps ks ls h k

  same_surplus : (n m : ℕ) (ps : List Piece) (q r : Inequality) →
      IsCutOfPieces IsValue up down n ps q → IsCutOfPieces IsValue up down m ps r →
      (point : List Rational) → surplus_at point q ≡ surplus_at point r
  same_surplus n m ps q r h k point =
      h.2 point ∙ ap (λ (ks : List Frac). combined_at point ks ps -ℚ whole (pos 1))
      (one_list ps h.0 k.0 h.1 k.1) ∙ sym (k.2 point)

  pub one_cut_of_pieces : (n : ℕ) (ps : List Piece) (q r : Inequality) →
      IsCutOfPieces IsValue up down n ps q → IsCutOfPieces IsValue up down n ps r →
      q ≡ r
  one_cut_of_pieces n ps q r h k = one_inequality n q r h.3 k.3 (same_surplus n n ps q r h k)
