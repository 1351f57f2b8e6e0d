-- Constraints on the grid, where those with multiplier 0 are passed over.
use Rattle.std.proofs.Common.{◌≡◌, inl, ℕ, ◌+◌, ◌<◌, ◌≤◌, List, [], ◌∷◌, ◌++◌, length, get_or, refl}
use Rattle.gj_frac.specs.declared.Frac.{Frac}
use Rattle.gj_problem.specs.declared.problem.Constraint.{Constraint}
use Rattle.gj_problem.specs.declared.problem.Problem.{Problem}
use Rattle.gj_problem.specs.declared.sparse.Run.{Run}
use Rattle.gj_problem.specs.Aggregates.{Weighted, weighted}
use Rattle.gj_problem.specs.Steps.{IsMadeNext}
use Rattle.gj_problem.proofs.Prefixes.{made_next}
use Rattle.gj_problem.proofs.Runs.{IsReached, IsBefore, before_kept, at_end}
use Rattle.gj_problem.proofs.WeightedRuns.{StaysAtZero, passes_zero}
use Rattle.gj_relaxed.specs.RelaxedProblems.{IsUnnamed, IsRelaxedConstraint, AreRelaxed, IsWideSide}
use Rattle.gj_relaxed.proofs.NarrowRelaxing.{HasWideSide, narrow_side_with}

module _ (p : Problem) (n : ℕ) where
  -- these constraints are relaxed to those, and all numbers fit
  pub record AreSides (made ws : List Weighted) : Type 0 where
    pub are : AreRelaxed p n ws made
    pub narrow : HasWideSide p n ws → ⊥

  pub sides_more : (old new ws vs : List Weighted) (w : Weighted) → vs ≡ ws ++ w ∷ [] →
      IsMadeNext (IsUnnamed w) (IsRelaxedConstraint p n w) old new → (IsWideSide p n w → ⊥) →
      AreSides old ws → AreSides new vs
  sides_more old new ws vs w vs_are next narrow h = record {
    are = made_next IsUnnamed (IsRelaxedConstraint p n) ws vs w old new vs_are h.are next;
    narrow = narrow_side_with p n ws vs w vs_are h.narrow narrow;
  }

  sides_at_zero : (made : List Weighted) → StaysAtZero (AreSides made)
  sides_at_zero made ws w none h =
      sides_more made made ws (ws ++ w ∷ []) w refl (inl (none, refl))
      (λ wide. wide.named none) h

  module _ (made : List Weighted) (ms : List Frac) (ks : List Constraint) (rs : List Run) where
    -- so are those whose multipliers these are
    abbrev pub AreSidesOf : List Frac → Type 0
    AreSidesOf front = AreSides made (weighted front ks)

    pub before_side : (i place : ℕ) (run : Run) → length ms ≤ length ks → i < length rs →
        run ≡ get_or rs i run → IsReached AreSidesOf ms rs i place →
        IsBefore AreSidesOf ms rs i (place + run.zeros) run.value
    before_side i place run few =
        before_kept AreSidesOf (length ks) ms rs i place run
        (passes_zero (AreSides made) ks (sides_at_zero made)) few

    pub all_sides : (i place : ℕ) → length ms ≤ length ks → length rs ≤ i →
        IsReached AreSidesOf ms rs i place → AreSidesOf ms
    all_sides i place few =
        at_end AreSidesOf (length ks) ms rs i place
        (passes_zero (AreSides made) ks (sides_at_zero made)) few
