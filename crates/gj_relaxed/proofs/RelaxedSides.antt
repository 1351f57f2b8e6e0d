-- A constraint that is rounded, and the list of those that are made.
use Rattle.std.proofs.Common.{◌≡◌, inr, ℕ, List, [], ◌∷◌, ◌++◌, length, map, All, refl, ap, ◌∙◌, arith}
use Rattle.std.proofs.lemmas.List.Elements.{All-nil, All-cons, All-head, All-tail}
use Rattle.gj_frac.specs.declared.Frac.{Frac}
use Rattle.gj_fields.specs.Rational.{whole, rational, ◌*ℚ◌}
use Rattle.gj_problem.specs.declared.problem.Constraint.{Constraint}
use Rattle.gj_problem.specs.declared.problem.Inequality.{Inequality}
use Rattle.gj_problem.specs.declared.problem.Problem.{Problem}
use Rattle.gj_problem.specs.Aggregates.{Weighted, weighted}
use Rattle.gj_relaxed.specs.RelaxedProblems.{IsOnGrid, side, IsSide, IsUnnamed}
use Rattle.gj_relaxed.specs.RelaxedSteps.{IsRoundedSide, IsRelaxedOrFree}
use Rattle.gj_relaxed.specs.declared.sides.Side.{Side}
use Rattle.gj_relaxed.specs.declared.sides.Side.TheVariants.{Made, Free}

-- what is true of all that f makes of a list is true of what it makes of each item
pub unmapped : {A B : Type 0} (P : B → Type 0) (f : A → B) (xs : List A) → All P (map f xs) →
    All (λ x. P (f x)) xs
unmapped {A} P f [] h = All-nil (λ (x : A). P (f x))
unmapped {A} P f (x ∷ xs) h =
    All-cons (λ (y : A). P (f y)) x xs (All-head P (f x) (map f xs) h)
    (unmapped P f xs (All-tail P (f x) (map f xs) h))

-- a constraint that is rounded is relaxed
pub side_made : (p : Problem) (n : ℕ) (w : Weighted) (given : Inequality) (multiplier : Frac)
    (s : Side) → (IsUnnamed w → ⊥) →
    (IsOnGrid n w.constraint → ⊥) → IsSide w given →
    rational multiplier ≡ whole (side w) *ℚ rational w.multiplier →
    IsRoundedSide p n given multiplier s → IsRelaxedOrFree p n w s
side_made p n w given multiplier (Made c m) named off_grid given_is m_is h =
    inr (record {
      off_grid = off_grid;
      given = given;
      given_is = given_is;
      rounded = h.0;
      rounded_is = h.1;
      constraint_is = h.2;
      multiplier_is = ap rational h.3 ∙ m_is;
    })
side_made p n w given multiplier (Free j) named off_grid given_is m_is h =
    record { named = named; off_grid = off_grid; given = given; given_is = given_is; free = h }

-- one more constraint
pub weighted_added : (ms : List Frac) (cs : List Constraint) (m : Frac) (c : Constraint) →
    length ms ≡ length cs →
    weighted (ms ++ m ∷ []) (cs ++ c ∷ [])
    ≡ weighted ms cs ++ record { multiplier = m; constraint = c } ∷ []
weighted_added [] [] m c count = refl
weighted_added [] (d ∷ cs) m c count = absurd (omega arith)
weighted_added (k ∷ ms) [] m c count = absurd (omega arith)
weighted_added (k ∷ ms) (d ∷ cs) m c count =
    ap (λ (ws : List Weighted). record { multiplier = k; constraint = d } ∷ ws)
    (weighted_added ms cs m c (omega arith))
