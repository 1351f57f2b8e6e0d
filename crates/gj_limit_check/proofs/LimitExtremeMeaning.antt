-- If the rules of a claim that a function that may jump is extreme hold, it is.
use Rattle.std.proofs.Common.{◌≡◌, ℕ, ◌⊎◌, ◌+◌, ◌<◌, ◌≤◌, ℤ, pos, List, [], ◌∷◌, ◌++◌, All, length, map, get_or, refl, sym, ap, subst, ◌∙◌, append_assoc, arith}
use Rattle.std.specs.List.{range_with_len}
use Rattle.std.proofs.lemmas.Bool.{cases_lt}
use Rattle.std.proofs.lemmas.List.{length-append, length_push}
use Rattle.std.proofs.lemmas.List.FromFn.{length-map-range_with_len, get_or-map-range_with_len}
use Rattle.std.proofs.lemmas.List.Elements.{All-nil, All-cons, All-head, All-tail, All-get_or}
use Rattle.gj_lemmas.proofs.Lists.{All-front, All-back, made_has}
use Rattle.gj_shape.specs.Additive.{IsTight}
use Rattle.gj_shape.specs.Cover.{components_in}
use Rattle.gj_shape.specs.Elimination.{KeptRow}
use Rattle.gj_shape.specs.FirstViolation.Test.{zero_at_zero}
use Rattle.gj_shape.specs.FunctionData.{FunctionData, IsWithinBounds, at}
use Rattle.gj_shape.specs.Table.{IsMinimal}
use Rattle.gj_shape.specs.declared.extremality.CoverLine.{CoverLine}
use Rattle.gj_shape.proofs.TableLemmas.{pieces_of}
use Rattle.gj_theory.specs.TriangularRows.{Solves}
use Rattle.gj_theory.proofs.CoverSteps.{number_below}
use Rattle.gj_theory.proofs.LineComponents.{component_of_line}
use Rattle.gj_theory.proofs.LineIntervals.{line_for_each}
use Rattle.gj_theory.proofs.MinimalFromTests.{minimal_by_tests}
use Rattle.gj_jumps.specs.LimitSystem.{Limits}
use Rattle.gj_jumps.specs.WholeLimits.{SolvesWholeLimits}
use Rattle.gj_limit_averages.specs.Averages.{IsExtremeFunction}
use Rattle.gj_limit_averages.proofs.FromConditions.{extreme_from_conditions}
use Rattle.gj_limit_system.specs.Unknowns.{columns_for}
use Rattle.gj_proof.specs.declared.numbers.Numbers.{Numbers}
use Rattle.gj_proof.specs.PresentRows.{arithmetic_of, AreNumbersOf}
use Rattle.gj_proof.specs.Rules.{Demand, step_demands_by}
use Rattle.gj_limit_proof.specs.declared.claim.LimitClaim.TheVariants.{Extreme}
use Rattle.gj_limit_proof.specs.declared.claim.LimitPivotRow.{LimitPivotRow}
use Rattle.gj_limit_proof.specs.LimitRowsKept.{named_row, row_kept_by, rows_behind_by, rows_before_by}
use Rattle.gj_limit_proof.specs.LimitRules.{MeetsLimitRow, group_demands_by, DemandHolds, MeetsLimitRules}
use Rattle.gj_limit_proof.specs.LimitText.{AreLimitExtremeLines, IsLimitPivotRowBelow}
use Rattle.gj_limit_check.proofs.KeptGroups.{HavePivots, rows_of, groups_leave_zero}
use Rattle.gj_limit_proof.proofs.LinearRows.{linear_same, row_linear, named_products}
use Rattle.gj_limit_check.proofs.LineCovers.{covered_by_line}
use Rattle.gj_limit_check.proofs.PlainRules.{zero_function, MeetLimitCovers, plain_rules}
use Rattle.gj_limit_check.proofs.SolutionNumbers.{number, row_solved, solution_zero}
use Rattle.gj_check.proofs.ExtremeMeaning.{number_of, number_is}

-- ---- the numbers of components

-- ---- the groups of a claim

-- each names a row that may be named, of a limit that is 0
record MeetsGroupRow (f : FunctionData) (group : LimitPivotRow) : Type 0 where
  below : IsLimitPivotRowBelow f.order group
  row : MeetsLimitRow f group.name

record MeetGroups (numbers : Numbers) (f : FunctionData) (component : ℕ → ℕ) (n : ℕ)
    (kept : List KeptRow) (groups : List LimitPivotRow) :
    Type 0 where
  rows : All (MeetsGroupRow f) groups
  pivots : HavePivots f component n numbers kept groups

-- the rows that one more group keeps
rows_behind_push : (numbers : Numbers) (f : FunctionData) (component : ℕ → ℕ) (n : ℕ)
    (kept : List KeptRow) (front : List LimitPivotRow)
    (one : LimitPivotRow) →
    rows_behind_by (arithmetic_of numbers) f component n kept (front ++ one ∷ [])
    ≡ rows_behind_by (arithmetic_of numbers) f component n kept front
    ++ row_kept_by (arithmetic_of numbers) f component n
    (rows_behind_by (arithmetic_of numbers) f component n kept front) one ∷ []
rows_behind_push numbers f component n kept [] one = refl
rows_behind_push numbers f component n kept (group ∷ front) one =
    rows_behind_push numbers f component n
    (kept ++ row_kept_by (arithmetic_of numbers) f component n kept group ∷ []) front one

module _ (numbers : Numbers) (f : FunctionData) (lines : List CoverLine) (rows : List LimitPivotRow)
    (component : ℕ → ℕ)
    (are : AreNumbersOf f lines component) (below : All (IsLimitPivotRowBelow f.order) rows) where
  abbrev P : Demand → Type 0
  P = DemandHolds (Extreme numbers f lines rows)

  abbrev n : ℕ
  n = columns_for f.order (components_in lines)

  abbrev kept_before : List LimitPivotRow → List KeptRow
  kept_before front = rows_before_by (arithmetic_of numbers) f component n front

  groups_meet : (front rest : List LimitPivotRow) → rows ≡ front ++ rest →
      All P (group_demands_by numbers (length front) rest) →
      MeetGroups numbers f component n (kept_before front) rest
  groups_meet front [] place h = record { rows = All-nil (MeetsGroupRow f); pivots = tt }
  groups_meet front (one ∷ rest) place h =
      let g = length front in
      let steps = step_demands_by numbers g 0 one.reduce in
      let later = group_demands_by numbers (g + 1) rest in
      let behind = All-back P steps (Demand.pivot g ∷ later)
      (All-tail P (Demand.row g) (steps ++ Demand.pivot g ∷ later) h) in
      let tight : MeetsLimitRow f one.name =
      All-head P (Demand.row g) (steps ++ Demand.pivot g ∷ later) h front one rest place refl in
      let pivot = All-head P (Demand.pivot g) later behind component are front one rest place
      refl in
      let within : IsLimitPivotRowBelow f.order one =
      All-head (IsLimitPivotRowBelow f.order) one rest
      (All-back (IsLimitPivotRowBelow f.order) front (one ∷ rest)
      (subst (All (IsLimitPivotRowBelow f.order)) place below)) in
      let long : g + 1 ≡ length (front ++ one ∷ []) = sym (length_push front one) in
      let more = groups_meet (front ++ one ∷ []) rest
      (place ∙ sym (append_assoc front (one ∷ []) rest))
      (subst (λ (k : ℕ). All P (group_demands_by numbers k rest)) long
      (All-tail P (Demand.pivot g) later behind)) in
      record {
        rows = All-cons (MeetsGroupRow f) one rest (record { below = within; row = tight })
            more.rows;
        pivots = (
          pivot,
          subst (λ (kept : List KeptRow). HavePivots f component n numbers kept rest)
              (rows_behind_push numbers f component n [] front one)
              more.pivots,
        );
      }

-- ---- only 0 solves the system

module _ (numbers : Numbers) (f : FunctionData) (lines : List CoverLine) (rows : List LimitPivotRow)
    (component : ℕ → ℕ)
    (bounds : IsWithinBounds f) (zero_value : at f.value 0 ≡ pos 0)
    (rules : MeetLimitCovers f lines)
    (are : AreNumbersOf f lines component)
    (meets : MeetGroups numbers f component (columns_for f.order (components_in lines)) [] rows)
    (full : length rows ≡ columns_for f.order (components_in lines)) (w : Limits ℤ)
    (solves : SolvesWholeLimits f w) where
  abbrev columns : ℕ
  columns = columns_for f.order (components_in lines)

  some : 0 < f.order
  some = omega (arith, bounds.order_low)

  few : (i : ℕ) → i < f.order → component i < components_in lines
  few i low = number_below lines (component i) i (are i low)

  abbrev x : ℕ → ℤ
  x = number f lines component bounds zero_value rules are w solves

  -- the solution as a list of numbers for the columns
  abbrev xs : List ℤ
  xs = map x (range_with_len 0 columns)

  read : (c : ℕ) → c < columns → get_or xs c (pos 0) ≡ x c
  read c low = get_or-map-range_with_len x 0 columns c c (pos 0) low (omega arith)

  each_solved : (groups : List LimitPivotRow) → All (MeetsGroupRow f) groups →
      All (Solves xs) (rows_of f component columns groups)
  each_solved [] h = All-nil (Solves xs)
  each_solved (group ∷ more) h =
      let here = All-head (MeetsGroupRow f) group more h in
      let len = length-map-range_with_len x 0 columns in
      All-cons (Solves xs) (named_row f component columns group.name)
      (rows_of f component columns more)
      (named_products f component (components_in lines) some few group.name xs len
      ∙ linear_same columns _ (λ c. get_or xs c (pos 0)) x
      (row_linear f component (components_in lines) some few group.name) read
      ∙ row_solved f lines component bounds zero_value rules are w solves group.name here.below.name
      here.row)
      (each_solved more (All-tail (MeetsGroupRow f) group more h))

  none : (c : ℕ) → c < columns → x c ≡ pos 0
  none c low =
      let len = length-map-range_with_len x 0 columns in
      let zeros = groups_leave_zero f component columns numbers rows xs meets.pivots full len
      (each_solved rows meets.rows) in
      sym (read c low) ∙ All-get_or (λ y. y ≡ pos 0) xs c (pos 0) (omega (arith, low, len)) zeros

  only_zero : (i : ℕ) → (w.left i ≡ pos 0) × (w.value i ≡ pos 0) × (w.right i ≡ pos 0)
  only_zero = solution_zero f lines component bounds zero_value rules are w solves
      (components_in lines) few none

-- ---- from the demands

pub extreme_meaning : (numbers : Numbers) (f : FunctionData) (lines : List CoverLine)
    (rows : List LimitPivotRow) → IsWithinBounds f →
    AreLimitExtremeLines f lines rows → MeetsLimitRules (Extreme numbers f lines rows) →
    IsExtremeFunction f
extreme_meaning numbers f lines rows b text asked =
    let P : Demand → Type 0 = DemandHolds (Extreme numbers f lines rows) in
    let covers = map Demand.cover (range_with_len 0 (length lines)) in
    let groups = group_demands_by numbers 0 rows in
    let behind = All-tail P Demand.minimal (covers ++ groups ++ Demand.rank ∷ []) asked in
    let early = All-front P (covers ++ groups) (Demand.rank ∷ []) behind in
    let rules : MeetLimitCovers f lines = λ before l after place.
    let long = ap length place ∙ length-append before (l ∷ after) in
    made_has P Demand.cover (length before) (length lines) (omega arith)
    (All-front P covers groups early) before l after place refl in
    let plain = plain_rules f lines rules in
    let has = λ (i : ℕ) (low : i < f.order).
    component_of_line f.order (IsTight (zero_function f.order)) lines i plain
    (line_for_each f.order (IsTight (zero_function f.order)) lines plain
    (λ k d k_low. (text.lines_below k d k_low).interval) text.count i low) in
    let component = λ (i : ℕ). number_of lines f.order has i (cases_lt i f.order) in
    let are : AreNumbersOf f lines component =
    λ i low. number_is lines f.order has i (cases_lt i f.order) low in
    let meets = groups_meet numbers f lines rows component are text.rows_below [] rows refl
    (All-back P covers groups early) in
    let full = All-head P Demand.rank []
    (All-back P (covers ++ groups) (Demand.rank ∷ []) behind) in
    let passes = All-head P Demand.minimal (covers ++ groups ++ Demand.rank ∷ []) asked in
    let minimal : IsMinimal f = minimal_by_tests f (pieces_of b) passes in
    extreme_from_conditions f b (record {
      minimal = minimal;
      covered = λ i low. covered_by_line f lines rules (component i) i (are i low);
      only_zero = λ w solves. only_zero numbers f lines rows component b
          (passes 0 zero_at_zero (omega arith)) rules are meets full w solves;
    })
