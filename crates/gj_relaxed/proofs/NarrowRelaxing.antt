-- Where all numbers of a problem on the grid and of its cut fit, none is said not to.
use Rattle.std.proofs.Common.{◌≡◌, ⊎_elim, ℕ, ◌+◌, ◌<◌, Bool, List, [], ◌∷◌, ◌++◌, length, get_or, take, sym, subst, subst₂}
use Rattle.std.specs.List.{AllZip}
use Rattle.gj_frac.specs.declared.Frac.{Frac}
use Rattle.gj_problem.specs.declared.problem.Column.{Column}
use Rattle.gj_problem.specs.declared.problem.Inequality.{Inequality}
use Rattle.gj_problem.specs.declared.problem.Problem.{Problem}
use Rattle.gj_problem.specs.declared.pieces.Piece.{Piece}
use Rattle.gj_problem.specs.RoundedCuts.{IsWideRounding}
use Rattle.gj_problem.specs.Aggregates.{Weighted, weighted}
use Rattle.gj_problem.proofs.Failing.{Fails, true_at, none_around, none_at_first, none_next, none_with}
use Rattle.gj_safe_cut.specs.declared.cut.SafeCut.{SafeCut}
use Rattle.gj_safe_cut.specs.declared.cut.SafeCut.TheVariants.{Wide}
use Rattle.gj_relaxed.specs.declared.rows.RightMove.{RightMove}
use Rattle.gj_relaxed.specs.RelaxedProblems.{IsSide, AreRelaxed, IsRelaxedProblem, IsFreeSide, IsFirstFreeSide, IsWideColumn, IsWideSide, AreWideColumns, AreWideSides, IsWideRelaxing}
use Rattle.gj_relaxed.specs.RelaxedRows.{IsRelaxedRow, IsWideRelaxedRow}
use Rattle.gj_relaxed.specs.LoosePieces.{IsLoosened}
use Rattle.gj_relaxed.specs.RelaxedCuts.{IsOfRaisedRow, IsOfRelaxedRow, IsRelaxedCutOf}
use Rattle.gj_relaxed.proofs.LoosePieces.{one_loosened_list}
use Rattle.gj_relaxed.proofs.OneRelaxing.{IsHeldSide, one_side, one_relaxed_row, one_relaxed_problem, none_free_sides, no_free_side}

-- ---- columns

module _ (n : ℕ) where
  abbrev IsWideHere : List Column → Column → Type 0
  IsWideHere before c = IsWideColumn n c

  fails_at_column : (cs : List Column) → AreWideColumns n cs → Fails IsWideHere cs
  fails_at_column cs w =
      record { before = w.before; next = w.next; after = w.after; place = w.place; fails = w.wide }

  column_fails : (cs : List Column) → Fails IsWideHere cs → AreWideColumns n cs
  column_fails cs f = record {
    before = f.before;
    next = f.next;
    after = f.after;
    place =
        f.place;
    wide = f.fails;
  }

  pub narrow_no_column : AreWideColumns n [] → ⊥
  narrow_no_column w = none_at_first IsWideHere (fails_at_column [] w)

  pub narrow_next_column : (cs : List Column) (i : ℕ) (c : Column) → i < length cs →
      c ≡ get_or cs i c → (AreWideColumns n (take i cs) → ⊥) →
      (IsWideColumn n c → ⊥) → AreWideColumns n (take (i + 1) cs) → ⊥
  narrow_next_column cs i c below here none narrow w =
      none_next IsWideHere cs i c below here (λ f. none (column_fails (take i cs) f)) narrow
      (fails_at_column (take (i + 1) cs) w)

-- ---- constraints

module _ (p : Problem) (n : ℕ) where
  pub narrow_side : (w : Weighted) (given : Inequality) → IsSide w given →
      (IsWideRounding p n given → ⊥) → IsWideSide p n w → ⊥
  narrow_side w given given_is narrow wide =
      narrow (subst (IsWideRounding p n) (one_side w wide.given given wide.given_is given_is)
      wide.wide)

  -- the constraints before it have been relaxed, and then it is at this constraint
  abbrev IsWideNow : List Weighted → Weighted → Type 0
  IsWideNow before w = (made : List Weighted) × AreRelaxed p n before made × IsWideSide p n w

  -- so it is at one of these constraints
  abbrev pub HasWideSide : List Weighted → Type 0
  HasWideSide ws = Fails IsWideNow ws

  pub wide_at_side : (ms : List Frac) → AreWideSides n p ms →
      HasWideSide (weighted ms p.constraints)
  wide_at_side ms w = record {
    before = w.before;
    next = w.next;
    after = w.after;
    place = w.place;
    fails = (w.made, w.made_are, w.wide);
  }

  pub narrow_no_side : HasWideSide [] → ⊥
  narrow_no_side = none_at_first IsWideNow

  pub narrow_side_with : (ws vs : List Weighted) (w : Weighted) → vs ≡ ws ++ w ∷ [] →
      (HasWideSide ws → ⊥) → (IsWideSide p n w → ⊥) →
      HasWideSide vs → ⊥
  narrow_side_with ws vs w vs_are none narrow f =
      none_with IsWideNow ws w none (λ (k : IsWideNow ws w). narrow k.2)
      (subst HasWideSide vs_are f)

  -- behind a constraint that a column keeps from the grid none is relaxed
  pub narrow_sides_to_free : (ms : List Frac) (front back : List Weighted) (w : Weighted) (j : ℕ) →
      weighted ms p.constraints ≡ front ++ w ∷ back →
      (HasWideSide front → ⊥) → (IsWideSide p n w → ⊥) → IsFreeSide p n w j → AreWideSides n p ms →
      ⊥
  narrow_sides_to_free ms front back w j place none narrow free wide =
      none_around IsWideNow (weighted ms p.constraints) front back w place none
      (λ (k : IsWideNow front w). narrow k.2)
      (λ before rest after next is split k. true_at (IsHeldSide p n) before front rest w is
      (none_free_sides p n before k.0 k.1) j free)
      (wide_at_side ms wide)

-- ---- rows

pub narrow_of_raised_row : (move : RightMove) (n : ℕ) (IsOfRow : ℕ → List Piece → Frac → SafeCut →
    Type 0) (columns : ℕ)
    (pieces relaxed : List Piece) (right right' : Frac) →
    (IsWideRelaxedRow move n columns pieces right → ⊥) →
    IsRelaxedRow move n columns pieces right relaxed right' →
    (IsOfRow columns relaxed right' Wide → ⊥) →
    IsOfRaisedRow move n IsOfRow columns pieces right Wide → ⊥
narrow_of_raised_row move n IsOfRow columns pieces relaxed right right' narrow row fits =
    ⊎_elim narrow
    (λ (k : (rs : List Piece) × (r : Frac) × IsRelaxedRow move n columns pieces right rs r × IsOfRow columns rs r Wide).
    let same = one_relaxed_row move n columns pieces k.0 relaxed right k.1 right' k.2 row in
    fits (subst₂ (λ (rs : List Piece) (r : Frac). IsOfRow columns rs r Wide) same.0 same.1 k.3))

pub narrow_of_loosened_row : (move : RightMove) (n : ℕ) (IsOfRow : ℕ → List Piece → Frac → SafeCut →
    Type 0) (columns : ℕ)
    (pieces loose : List Piece) (right right' : Frac) → AllZip (IsLoosened n) pieces loose →
    right' ≡ right →
    (IsOfRaisedRow move n IsOfRow columns loose right' Wide → ⊥) →
    IsOfRelaxedRow move n IsOfRow columns pieces right Wide → ⊥
narrow_of_loosened_row move n IsOfRow columns pieces loose right right' are same fits
    (others, others_are, wide) =
    fits (subst₂ (λ (ls : List Piece) (x : Frac). IsOfRaisedRow move n IsOfRow columns ls x Wide)
    (one_loosened_list n pieces others loose others_are are) (sym same) wide)

-- ---- problems

module _ (n : ℕ) (IsCut : Problem → List Frac → List Bool → SafeCut → Type 0) (p : Problem)
    (ms : List Frac) (ups : List Bool)
    (narrow : IsWideRelaxing n p ms → ⊥) where
  abbrev FromProblem : Type 0
  FromProblem = (p' : Problem) × (ms' : List Frac) × IsRelaxedProblem n p ms p' ms'
      × IsCut p' ms' ups Wide

  pub narrow_of_relaxed_problem : (p' : Problem) (ms' : List Frac) →
      IsRelaxedProblem n p ms p' ms' → (IsCut p' ms' ups Wide → ⊥) →
      IsRelaxedCutOf n IsCut p ms ups Wide → ⊥
  narrow_of_relaxed_problem p' ms' relaxed fits =
      ⊎_elim narrow
      (λ (k : FromProblem).
      let same = one_relaxed_problem n p k.0 p' ms k.1 ms' k.2 relaxed in
      fits (subst₂ (λ (q : Problem) (ks : List Frac). IsCut q ks ups Wide) same.0 same.1 k.3))

  pub narrow_of_free_side : (j : ℕ) → IsFirstFreeSide n p ms j →
      IsRelaxedCutOf n IsCut p ms ups Wide → ⊥
  narrow_of_free_side j free =
      ⊎_elim narrow (λ (k : FromProblem). no_free_side n p k.0 ms k.1 j k.2 free)
