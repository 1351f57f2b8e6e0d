-- Each feasible point of a problem is feasible for the problem on the grid.
use Rattle.std.proofs.Common.{◌≡◌, ⊎_elim, ℕ, ℤ, Bool, true, false, Option, Some, None, IfSome, List, [], ◌∷◌, length, All, refl, sym, subst, arith}
use Rattle.std.specs.List.{AllZip}
use Rattle.std.proofs.lemmas.Int.{ints}
use Rattle.std.proofs.lemmas.List.Elements.{All-nil, All-cons, All-head, All-tail}
use Rattle.std.proofs.lemmas.Slice.Zip.{AllZip-long}
use Rattle.gj_frac.specs.declared.Frac.{Frac}
use Rattle.gj_fields.specs.Rational.{Rational, rational, whole, ◌≤ℚ◌}
use Rattle.gj_fields.proofs.RationalOrder.{IsNonnegativeQ, at_most_trans, at_most_turned}
use Rattle.gj_problem.specs.declared.problem.Column.{Column}
use Rattle.gj_problem.specs.declared.problem.Constraint.{Constraint}
use Rattle.gj_problem.specs.declared.problem.Inequality.{Inequality}
use Rattle.gj_problem.specs.declared.problem.Problem.{Problem}
use Rattle.gj_problem.specs.declared.problem.Sense.{Sense}
use Rattle.gj_problem.specs.declared.problem.Sense.TheVariants.{AtMost, AtLeast, Equal}
use Rattle.gj_problem.specs.declared.rounding.RoundedCut.TheVariants.{Cut}
use Rattle.gj_problem.specs.Problems.{sum_at, MeetsColumn, IsFeasible, Holds}
use Rattle.gj_problem.specs.Rows.{IsSignFor}
use Rattle.gj_problem.specs.Aggregates.{Weighted, weighted}
use Rattle.gj_problem.proofs.OneColumn.{multiple_surplus}
use Rattle.gj_problem.proofs.HeldInequalities.{from_surplus, multiple_low}
use Rattle.gj_problem.proofs.MovedEntries.{rounded_of_holds}
use Rattle.gj_problem.proofs.MadePieces.{made_all}
use Rattle.gj_problem.proofs.ConstraintSlacks.{IsMet, all_met}
use Rattle.gj_relaxed.specs.RelaxedProblems.{IsLowered, IsLifted, IsRelaxedColumn, side_of, side, IsSide, IsRelaxedSide, IsRelaxedConstraint, IsUnnamed, IsOnGrid, IsRelaxedProblem}

-- ---- columns

lower_met : (n : ℕ) (l l' : Option Frac) (x : Rational) → IsLowered n l l' →
    IfSome l (λ b. rational b ≤ℚ x) → IfSome l' (λ b. rational b ≤ℚ x)
lower_met n None l' x h met = subst (λ (o : Option Frac). IfSome o (λ b. rational b ≤ℚ x))
    (sym h) tt
lower_met n (Some l) l' x h met =
    subst (λ (o : Option Frac). IfSome o (λ b. rational b ≤ℚ x)) (sym h.1)
    (at_most_trans (rational h.0) (rational l) x h.2.at_most met)

upper_met : (n : ℕ) (u u' : Option Frac) (x : Rational) → IsLifted n u u' →
    IfSome u (λ b. x ≤ℚ rational b) → IfSome u' (λ b. x ≤ℚ rational b)
upper_met n None u' x h met = subst (λ (o : Option Frac). IfSome o (λ b. x ≤ℚ rational b))
    (sym h) tt
upper_met n (Some u) u' x h met =
    subst (λ (o : Option Frac). IfSome o (λ b. x ≤ℚ rational b)) (sym h.1)
    (at_most_trans x (rational u) (rational h.0) met
    (at_most_turned (rational u) (rational h.0) h.2.at_most))

column_met : (n : ℕ) (c c' : Column) (x : Rational) → IsRelaxedColumn n c c' → MeetsColumn c x →
    MeetsColumn c' x
column_met n c c' x h met = by_flag c.is_whole refl
  where
    by_flag : (b : Bool) → c.is_whole ≡ b → MeetsColumn c' x
    by_flag true flag = subst (λ (d : Column). MeetsColumn d x) (sym (h.is_whole flag)) met
    by_flag false flag = record {
      is_whole = λ whole. let same : c'.is_whole ≡ false = h.continuous flag in absurd (cc);
      lower = lower_met n c.lower c'.lower x (h.lower flag) met.lower;
      upper = upper_met n c.upper c'.upper x (h.upper flag) met.upper;
    }

columns_met : (n : ℕ) (cs cs' : List Column) (point : List Rational) →
    AllZip (IsRelaxedColumn n) cs cs' → AllZip MeetsColumn cs point →
    AllZip MeetsColumn cs' point
columns_met n [] [] point h met = met
columns_met n [] (c' ∷ cs') point h met = absurd h
columns_met n (c ∷ cs) [] point h met = absurd h
columns_met n (c ∷ cs) (c' ∷ cs') [] h met = absurd met
columns_met n (c ∷ cs) (c' ∷ cs') (x ∷ point) h met =
    (column_met n c c' x h.0 met.0, columns_met n cs cs' point h.1 met.1)

-- the problem on the grid has as many columns
pub as_many_columns : (n : ℕ) (p p' : Problem) (multipliers multipliers' : List Frac) →
    IsRelaxedProblem n p multipliers p' multipliers' →
    length p'.columns ≡ length p.columns
as_many_columns n p p' multipliers multipliers' h =
    AllZip-long (IsRelaxedColumn n) p.columns p'.columns h.columns

-- ---- constraints

sign_for : (sense : Sense) (m : ℤ) → IsSignFor sense (side_of sense m)
sign_for AtMost m = omega (arith, ints)
sign_for AtLeast m = omega (arith, ints)
sign_for Equal m = tt

-- a constraint with the sign that makes "at least" of it holds
pub side_holds : (p : Problem) (w : Weighted) (q : Inequality) → IsMet p w.constraint → IsSide w q →
    Holds p q
side_holds p w q met h =
    let c = w.constraint in
    from_surplus p q
    (λ (point : List Rational) (feasible : IsFeasible p point).
    subst IsNonnegativeQ (sym (multiple_surplus point (whole (side w)) c.entries c.right q h))
    (multiple_low c.sense (side w) (sum_at point c.entries) (rational c.right)
    (sign_for c.sense w.multiplier.num) (met point feasible)))

constraint_met : (p : Problem) (n : ℕ) (w w' : Weighted) → IsMet p w.constraint →
    IsRelaxedConstraint p n w w' → IsMet p w'.constraint
constraint_met p n w w' met =
    ⊎_elim
    (λ (h : IsOnGrid n w.constraint × (w' ≡ w)). subst (λ (v : Weighted). IsMet p v.constraint)
    (sym h.1) met)
    (λ (h : IsRelaxedSide p n w w').
    subst (IsMet p) (sym h.constraint_is)
    (rounded_of_holds p n h.given (Cut h.rounded) h.rounded_is
    (side_holds p w h.given met h.given_is)))

unweighted : (R : Constraint → Type 0) (ms : List Frac) (cs : List Constraint) →
    length ms ≡ length cs → All (λ w. R w.constraint) (weighted ms cs) →
    All R cs
unweighted R [] [] count h = All-nil R
unweighted R [] (c ∷ cs) count h = absurd (omega arith)
unweighted R (m ∷ ms) [] count h = absurd (omega arith)
unweighted R (m ∷ ms) (c ∷ cs) count h =
    let w : Weighted = record { multiplier = m; constraint = c } in
    All-cons R c cs (All-head (λ (v : Weighted). R v.constraint) w (weighted ms cs) h)
    (unweighted R ms cs (omega arith)
    (All-tail (λ (v : Weighted). R v.constraint) w (weighted ms cs) h))

-- the constraints on the grid are met at all feasible points of the problem
constraints_met : (n : ℕ) (p p' : Problem) (multipliers multipliers' : List Frac) →
    IsRelaxedProblem n p multipliers p' multipliers' →
    All (IsMet p) p'.constraints
constraints_met n p p' multipliers multipliers' h =
    unweighted (IsMet p) multipliers' p'.constraints h.count
    (made_all IsUnnamed (IsRelaxedConstraint p n) (λ (w : Weighted). IsMet p w.constraint)
    (λ (w : Weighted). IsMet p w.constraint)
    (weighted multipliers p.constraints) (weighted multipliers' p'.constraints) h.constraints
    (all_met p multipliers)
    (λ w w' met made. constraint_met p n w w' met made))

-- ---- points

pub feasible_on_grid : (n : ℕ) (p p' : Problem) (multipliers multipliers' : List Frac)
    (point : List Rational) →
    IsRelaxedProblem n p multipliers p' multipliers' → IsFeasible p point → IsFeasible p' point
feasible_on_grid n p p' multipliers multipliers' point h feasible =
    let met = constraints_met n p p' multipliers multipliers' h in
    record {
      columns = columns_met n p.columns p'.columns point h.columns feasible.columns;
      constraints = λ k d below. met k d below point feasible;
    }

pub holds_from_grid : (n : ℕ) (p p' : Problem) (multipliers multipliers' : List Frac)
    (q : Inequality) →
    IsRelaxedProblem n p multipliers p' multipliers' → Holds p' q → Holds p q
holds_from_grid n p p' multipliers multipliers' q h holds =
    λ (point : List Rational) (feasible : IsFeasible p point).
    holds point (feasible_on_grid n p p' multipliers multipliers' point h feasible)
