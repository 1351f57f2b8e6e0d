-- Constraints with their multipliers, where those with multiplier 0 are passed over.
use Rattle.std.proofs.Common.{◌≡◌, inl, ℕ, zero, suc, ◌<◌, ◌≤◌, pos, List, [], ◌∷◌, ◌++◌, ◌+◌, length, get_or, drop, refl, sym, ap, subst, ◌∙◌, arith}
use Rattle.gj_frac.specs.declared.Frac.{Frac}
use Rattle.gj_problem.specs.declared.pieces.Piece.{Piece}
use Rattle.gj_problem.specs.declared.problem.Constraint.{Constraint}
use Rattle.gj_problem.specs.declared.problem.Problem.{Problem}
use Rattle.gj_problem.specs.declared.sparse.Run.{Run}
use Rattle.gj_problem.specs.Aggregates.{AreMadeOf, IsAggregate, Weighted, weighted, HasNoSlack, IsSlack}
use Rattle.gj_problem.specs.Combinations.{IsConstraintAdded}
use Rattle.gj_problem.specs.Sparse.{no_fraction}
use Rattle.gj_problem.specs.Steps.{IsMadeNext}
use Rattle.gj_problem.specs.WideRows.{IsWideSum}
use Rattle.gj_problem.proofs.Combinations.{aggregate_with, constraint_left_out}
use Rattle.gj_problem.proofs.NarrowRows.{narrow_sum_with}
use Rattle.gj_problem.proofs.Prefixes.{made_next}
use Rattle.gj_problem.proofs.Runs.{IsReached, IsBefore, PassesZero, before_kept, at_end}

-- ---- one constraint

abbrev with_multiplier : Frac → Constraint → Weighted
with_multiplier m k = record { multiplier = m; constraint = k }

-- the constraints before one, it, and those behind it
pub weighted_around : (front : List Frac) (m : Frac) (rest : List Frac) (ks : List Constraint)
    (k : Constraint) → length front < length ks → k ≡ get_or ks (length front) k →
    weighted (front ++ m ∷ rest) ks
    ≡ weighted front ks ++ record { multiplier = m; constraint = k } ∷ weighted rest
    (drop (suc (length front)) ks)
weighted_around front m rest [] k below here = absurd (omega arith)
weighted_around [] m rest (j ∷ ks) k below here =
    ap (λ (i : Constraint). with_multiplier m i ∷ weighted rest ks) (sym here)
weighted_around (n ∷ front) m rest (j ∷ ks) k below here =
    ap (λ (ws : List Weighted). with_multiplier n j ∷ ws)
    (weighted_around front m rest ks k (omega arith) here)

none_weighted : (ks : List Constraint) → weighted [] ks ≡ []
none_weighted ks = refl

pub weighted_more : (front : List Frac) (m : Frac) (ks : List Constraint) (k : Constraint) →
    length front < length ks → k ≡ get_or ks (length front) k →
    weighted (front ++ m ∷ []) ks
    ≡ weighted front ks ++ record { multiplier = m; constraint = k } ∷ []
weighted_more front m ks k below here = weighted_around front m [] ks k below here

constraint_at : (ks : List Constraint) (i : ℕ) → i < length ks →
    (k : Constraint) × (k ≡ get_or ks i k)
constraint_at [] i below = absurd (omega arith)
constraint_at (k ∷ ks) zero below = (k, refl)
constraint_at (k ∷ ks) (suc i) below = constraint_at ks i (omega arith)

-- what stays where a constraint with multiplier 0 follows
abbrev pub StaysAtZero : (List Weighted → Type 0) → Type 0
StaysAtZero P = (ws : List Weighted) (w : Weighted) → w.multiplier.num ≡ pos 0 → P ws →
    P (ws ++ w ∷ [])

pub passes_zero : (P : List Weighted → Type 0) (ks : List Constraint) → StaysAtZero P →
    PassesZero (λ front. P (weighted front ks)) (length ks)
passes_zero P ks stays front below h =
    let (k, here) = constraint_at ks (length front) below in
    subst P (sym (weighted_more front no_fraction ks k below here))
    (stays (weighted front ks) (with_multiplier no_fraction k) refl h)

-- ---- the sum and the slacks

-- the constraints add up to these coefficients against this right side, and have these slacks
pub record IsAddedUp (p : Problem) (cs : List Frac) (r : Frac) (slacks : List Piece)
    (ws : List Weighted) : Type 0 where
  pub sum : IsAggregate p ws cs r
  pub made : AreMadeOf HasNoSlack (IsSlack p) ws slacks
  pub narrow : IsWideSum p ws → ⊥

pub added_more : (p : Problem) (cs ds : List Frac) (r s : Frac) (old new : List Piece)
    (ws vs : List Weighted) (w : Weighted) → vs ≡ ws ++ w ∷ [] → IsConstraintAdded p cs r w ds s →
    IsMadeNext (HasNoSlack w) (IsSlack p w) old new → IsAddedUp p cs r old ws →
    IsAddedUp p ds s new vs
added_more p cs ds r s old new ws vs w vs_are added next h = record {
  sum = aggregate_with p ws vs w cs ds r s vs_are h.sum added;
  made = made_next HasNoSlack (IsSlack p) ws vs w old new vs_are h.made next;
  narrow = narrow_sum_with p ws vs w cs r vs_are h.sum h.narrow added.fits;
}

pub added_at_zero : (p : Problem) (cs : List Frac) (r : Frac) (slacks : List Piece) →
    StaysAtZero (IsAddedUp p cs r slacks)
added_at_zero p cs r slacks ws w none h =
    added_more p cs cs r r slacks slacks ws (ws ++ w ∷ []) w refl
    (constraint_left_out p cs r w none) (inl (inl none, refl)) h

module _ (p : Problem) (cs : List Frac) (r : Frac) (slacks : List Piece) (ms : List Frac)
    (ks : List Constraint) (rs : List Run) where
  -- so they do and have, those whose multipliers these are
  abbrev pub AreAddedUp : List Frac → Type 0
  AreAddedUp front = IsAddedUp p cs r slacks (weighted front ks)

  pub before_added : (i place : ℕ) (run : Run) → length ms ≤ length ks → i < length rs →
      run ≡ get_or rs i run → IsReached AreAddedUp ms rs i place →
      IsBefore AreAddedUp ms rs i (place + run.zeros) run.value
  before_added i place run few =
      before_kept AreAddedUp (length ks) ms rs i place run
      (passes_zero (IsAddedUp p cs r slacks) ks (added_at_zero p cs r slacks)) few

  pub all_added : (i place : ℕ) → length ms ≤ length ks → length rs ≤ i →
      IsReached AreAddedUp ms rs i place → AreAddedUp ms
  all_added i place few =
      at_end AreAddedUp (length ks) ms rs i place
      (passes_zero (IsAddedUp p cs r slacks) ks (added_at_zero p cs r slacks)) few

-- the constraint of a multiplier that is kept
pub kept_constraint : (P : List Frac → Type 0) (ms : List Frac) (rs : List Run) (i index : ℕ)
    (m : Frac) (ks : List Constraint) (k : Constraint) (h : IsBefore P ms rs i index m) →
    length ms ≤ length ks → k ≡ get_or ks index k →
    (length h.front < length ks) × (k ≡ get_or ks (length h.front) k)
kept_constraint P ms rs i index m ks k h few here = (
  omega (arith, h.below, h.index_is, few),
  here ∙ ap (λ (j : ℕ). get_or ks j k) h.index_is,
)
