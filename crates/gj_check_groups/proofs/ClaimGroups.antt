-- The demands on the groups of a claim that a function is extreme, by those on the groups alone.
use Rattle.std.proofs.Common.{◌≡◌, ◌↔◌, ℕ, zero, suc, ◌+◌, ◌%◌, ◌<◌, ◌≤◌, ℤ, pos, ◌+ℤ◌, ◌-ℤ◌, List, [], ◌∷◌, ◌++◌, All, length, map, get_or, cond, eqb, add-one, refl, sym, ap, ap₂, subst, subst₂, ◌∙◌, append_assoc, arith}
use Rattle.std.specs.List.{range_with_len}
use Rattle.std.proofs.lemmas.Nat.{mod_below}
use Rattle.std.proofs.lemmas.List.{length-append}
use Rattle.std.proofs.lemmas.List.Elements.{All-nil, All-cons, All-append, All-head, All-tail}
use Rattle.std.proofs.lemmas.List.FromFn.{length-map-range_with_len}
use Rattle.gj_shape.specs.Cover.{components_in}
use Rattle.gj_lemmas.specs.FirstThatFails.{IsFirstFailing}
use Rattle.gj_lemmas.proofs.Lists.{All-front, All-back}
use Rattle.gj_shape.specs.Elimination.{KeptRow}
use Rattle.gj_shape.specs.FunctionData.{FunctionData, IsWithinBounds}
use Rattle.gj_shape.specs.SlopeRows.{rises, row_entry}
use Rattle.gj_shape.specs.declared.extremality.CoverLine.{CoverLine}
use Rattle.gj_shape.specs.declared.extremality.RowName.{RowName}
use Rattle.gj_shape.specs.declared.extremality.RowName.TheVariants.{Period, F, Pair}
use Rattle.gj_proof.specs.declared.numbers.Numbers.{Numbers}
use Rattle.gj_proof.specs.declared.numbers.Numbers.TheVariants.{Whole, Residues}
use Rattle.gj_proof.specs.declared.claim.Claim.TheVariants.{Extreme, ExtremeByResidues}
use Rattle.gj_proof.specs.declared.pivot.PivotRow.{PivotRow}
use Rattle.gj_proof.specs.PresentRows.{arithmetic_of, AreNumbersOf, begun_row, entries_or_none, row_kept_by, rows_behind_by, rows_before_by}
use Rattle.gj_proof.specs.ProofText.{IsRowNameBelow, IsPivotRowBelow, OwnLine, extreme_claim, covered_lines, modulus_lines, extreme_lines, subject_lines, HasNumber}
use Rattle.gj_proof.specs.ProofText.Subject.{function}
use Rattle.gj_proof.specs.ProofText.ProofLine.{point}
use Rattle.gj_proof.specs.Rules.{Demand, AtIndex, MeetsRow, MeetsReduce, MeetsSize, MeetsPivotBy, size_demands, step_demands_by, group_demands_by, line_of_demand, DemandHolds}
use Rattle.gj_proof.specs.Rules.Demand.{row, reduce, size, pivot}
use Rattle.gj_proof.proofs.LineCounts.{length-covered}
use Rattle.gj_proof.proofs.LineNumbers.{number_of_own}
use Rattle.gj_theory.proofs.RiseCounts.{rises_more}
use Rattle.gj_check_groups.specs.declared.failure.GroupFailure.{GroupFailure}
use Rattle.gj_check_groups.specs.GroupOutcomes.{stepped}
use Rattle.gj_check_groups.specs.Groups.{IfGroupOf, GroupHolds, IsRuleOf, IsFirstGroupFailure}

-- ---- numbers of components that agree below the order

-- both number the intervals below the order alike
abbrev pub Agree : ℕ → (ℕ → ℕ) → (ℕ → ℕ) → Type 0
Agree q one other = (i : ℕ) → i < q → one i ≡ other i

rises_agree : (one other : ℕ → ℕ) (q i c : ℕ) → Agree q one other → i ≤ q →
    rises one i c ≡ rises other i c
rises_agree one other q zero c same high = refl
rises_agree one other q (suc i) c same high =
    ap (λ k. rises one k c) (sym (add-one i)) ∙ rises_more one i c
    ∙ ap₂ (λ m x. m + cond (eqb x c) 1 0) (rises_agree one other q i c same (omega arith))
    (same i (omega arith))
    ∙ sym (rises_more other i c) ∙ ap (λ k. rises other k c) (add-one i)

entry_agrees : (one other : ℕ → ℕ) (q k : ℕ) (name : RowName) (c : ℕ) → Agree q one other → k ≤ q →
    0 < q → IsRowNameBelow q name →
    row_entry one q k name c ≡ row_entry other q k name c
entry_agrees one other q k Period c same place some below =
    ap pos (rises_agree one other q q c same (omega arith))
entry_agrees one other q k F c same place some below =
    ap pos (rises_agree one other q k c same place)
entry_agrees one other q k (Pair a b) c same place some below =
    let order : a ≤ b = below.1 in
    let within : b < q = below.2 in
    let rest = mod_below (a + b) q some in
    let sum = ap₂ (λ m n. pos m +ℤ pos n) (rises_agree one other q a c same (omega arith))
    (rises_agree one other q b c same (omega arith)) in
    ap₂ (λ x m. x -ℤ pos m) sum (rises_agree one other q ((a + b) % q) c same (omega arith))

row_agrees : (one other : ℕ → ℕ) (q k : ℕ) (name : RowName) (a n : ℕ) → Agree q one other → k ≤ q →
    0 < q → IsRowNameBelow q name →
    map (row_entry one q k name) (range_with_len a n) ≡ map (row_entry other q k name)
    (range_with_len a n)
row_agrees one other q k name a zero same place some below = refl
row_agrees one other q k name a (suc n) same place some below =
    ap₂ (λ x xs. x ∷ xs) (entry_agrees one other q k name a same place some below)
    (row_agrees one other q k name (a + 1) n same place some below)

-- the row that a group begins with
begun_agrees : (numbers : Numbers) (f : FunctionData) (one other : ℕ → ℕ) (n : ℕ) (name : RowName) →
    IsWithinBounds f → Agree f.order one other →
    IsRowNameBelow f.order name → begun_row (arithmetic_of numbers) f one n name
    ≡ begun_row (arithmetic_of numbers) f other n name
begun_agrees numbers f one other n name l same below =
    ap (arithmetic_of numbers).read
    (row_agrees one other f.order f.place name 0 n same (omega (arith, l.place_high))
    (omega (arith, l.order_low)) below)

-- the rows that groups keep
kept_agree : (numbers : Numbers) (f : FunctionData) (one other : ℕ → ℕ) (n : ℕ)
    (kept : List KeptRow) (rows : List PivotRow) → IsWithinBounds f →
    Agree f.order one other → All (IsPivotRowBelow f.order) rows →
    rows_behind_by (arithmetic_of numbers) f one n kept rows
    ≡ rows_behind_by (arithmetic_of numbers) f other n kept rows
kept_agree numbers f one other n kept [] l same below = refl
kept_agree numbers f one other n kept (g ∷ rows) l same below =
    let here : IsPivotRowBelow f.order g = All-head (IsPivotRowBelow f.order) g rows below in
    let first : row_kept_by (arithmetic_of numbers) f one n kept g
    ≡ row_kept_by (arithmetic_of numbers) f other n kept g =
    ap (λ begun. let k : KeptRow = record {
      number = length kept;
      reduce = g.reduce;
      pivot = g.pivot;
      entries = entries_or_none
          ((arithmetic_of numbers).keep (stepped numbers kept begun g.reduce) g.pivot);
    } in k) (begun_agrees numbers f one other n g.name l same here.name) in
    ap (λ k. rows_behind_by (arithmetic_of numbers) f one n (kept ++ k ∷ []) rows) first
    ∙ kept_agree numbers f one other n
    (kept ++ row_kept_by (arithmetic_of numbers) f other n kept g ∷ []) rows l same
    (All-tail (IsPivotRowBelow f.order) g rows below)

-- ---- the claim

-- the numbers are those of the components, below n, and no other numbers are
pub record IsNumbering (f : FunctionData) (lines : List CoverLine) (component : ℕ → ℕ) (n : ℕ) :
    Type 0 where
  pub numbers : AreNumbersOf f lines component
  pub only : (other : ℕ → ℕ) → AreNumbersOf f lines other → (i : ℕ) → i < f.order →
      other i ≡ component i
  pub count : n ≡ components_in lines

-- what the claim has by any numbers
abbrev pub InClaim : Numbers → FunctionData → List CoverLine → List PivotRow → ℕ →
    (ℕ → List KeptRow → List ℤ → PivotRow → Type 0) → Type 0
InClaim numbers f lines rows g P =
    AtIndex rows g (λ before one. (component : ℕ → ℕ) → AreNumbersOf f lines component →
    P (components_in lines)
    (rows_before_by (arithmetic_of numbers) f component (components_in lines) before)
    (begun_row (arithmetic_of numbers) f component (components_in lines) one.name) one)

to_claim : (numbers : Numbers) (f : FunctionData) (lines : List CoverLine) (component : ℕ → ℕ)
    (n : ℕ) (rows : List PivotRow) (g : ℕ) →
    IsNumbering f lines component n → IsWithinBounds f → All (IsPivotRowBelow f.order) rows →
    (P : ℕ → List KeptRow → List ℤ → PivotRow → Type 0) →
    IfGroupOf numbers f component n rows g (P n) → InClaim numbers f lines rows g P
to_claim numbers f lines component n rows g are l below P h before one after place index other
    others =
    let same : Agree f.order component other = λ i low. sym (are.only other others i low) in
    let all : All (IsPivotRowBelow f.order) (before ++ one ∷ after) =
    subst (All (IsPivotRowBelow f.order)) place below in
    let front = All-front (IsPivotRowBelow f.order) before (one ∷ after) all in
    let here : IsPivotRowBelow f.order one =
    All-head (IsPivotRowBelow f.order) one after
    (All-back (IsPivotRowBelow f.order) before (one ∷ after) all) in
    subst (λ (m : ℕ). P m (rows_before_by (arithmetic_of numbers) f other m before)
    (begun_row (arithmetic_of numbers) f other m one.name) one) are.count
    (subst₂ (λ (ks : List KeptRow) (xs : List ℤ). P n ks xs one)
    (kept_agree numbers f component other n [] before l same front)
    (begun_agrees numbers f component other n one.name l same here.name)
    (h before one after place index))

from_claim : (numbers : Numbers) (f : FunctionData) (lines : List CoverLine) (component : ℕ → ℕ)
    (n : ℕ) (rows : List PivotRow) (g : ℕ) →
    IsNumbering f lines component n → (P : ℕ → List KeptRow → List ℤ → PivotRow → Type 0) →
    InClaim numbers f lines rows g P →
    IfGroupOf numbers f component n rows g (P n)
from_claim numbers f lines component n rows g are P h before one after place index =
    subst (λ (m : ℕ). P m (rows_before_by (arithmetic_of numbers) f component m before)
    (begun_row (arithmetic_of numbers) f component m one.name) one) (sym are.count)
    (h before one after place index component are.numbers)

-- ---- demand by demand

-- the demand is one on groups
abbrev pub IsOnGroups : Demand → Type 0
IsOnGroups (row g) = Unit {0}
IsOnGroups (reduce g r) = Unit {0}
IsOnGroups (size g r) = Unit {0}
IsOnGroups (pivot g) = Unit {0}
IsOnGroups _ = ⊥

sizes_on_groups : (numbers : Numbers) (g r : ℕ) → All IsOnGroups (size_demands numbers g r)
sizes_on_groups Whole g r = All-cons IsOnGroups (size g r) [] tt (All-nil IsOnGroups)
sizes_on_groups Residues g r = All-nil IsOnGroups

pub steps_on_groups : (numbers : Numbers) (g r : ℕ) (columns : List ℕ) →
    All IsOnGroups (step_demands_by numbers g r columns)
steps_on_groups numbers g r [] = All-nil IsOnGroups
steps_on_groups numbers g r (c ∷ columns) =
    All-cons IsOnGroups (reduce g r)
    (size_demands numbers g r ++ step_demands_by numbers g (r + 1) columns) tt
    (All-append IsOnGroups (size_demands numbers g r) (step_demands_by numbers g (r + 1) columns)
    (sizes_on_groups numbers g r)
    (steps_on_groups numbers g (r + 1) columns))

on_groups : (numbers : Numbers) (g : ℕ) (rows : List PivotRow) →
    All IsOnGroups (group_demands_by numbers g rows)
on_groups numbers g [] = All-nil IsOnGroups
on_groups numbers g (one ∷ rows) =
    All-cons IsOnGroups (row g)
    (step_demands_by numbers g 0 one.reduce ++ pivot g ∷ group_demands_by numbers (g + 1) rows)
    tt
    (All-append IsOnGroups (step_demands_by numbers g 0 one.reduce)
    (pivot g ∷ group_demands_by numbers (g + 1) rows) (steps_on_groups numbers g 0 one.reduce)
    (All-cons IsOnGroups (pivot g) (group_demands_by numbers (g + 1) rows) tt
    (on_groups numbers (g + 1) rows)))

-- a rule on the r-th step
abbrev pub OnStep : Numbers → ℕ → (List KeptRow → List ℤ → ℕ → Type 0) → ℕ → List KeptRow → List ℤ →
    PivotRow → Type 0
OnStep numbers r P n kept begun one =
    AtIndex one.reduce r (λ steps c. P kept (stepped numbers kept begun steps) c)

-- the rule on the pivot
abbrev pub OnPivot : Numbers → ℕ → List KeptRow → List ℤ → PivotRow → Type 0
OnPivot numbers n kept begun one =
    MeetsPivotBy numbers n kept (stepped numbers kept begun one.reduce) one.pivot

-- what a demand on groups says of the claim
abbrev pub SaysInClaim : Numbers → FunctionData → List CoverLine → List PivotRow → Demand → Type 0
SaysInClaim numbers f lines rows (row g) = AtIndex rows g (λ before one. MeetsRow f one.name)
SaysInClaim numbers f lines rows (reduce g r) =
    InClaim numbers f lines rows g (OnStep numbers r MeetsReduce)
SaysInClaim numbers f lines rows (size g r) =
    InClaim numbers f lines rows g (OnStep numbers r MeetsSize)
SaysInClaim numbers f lines rows (pivot g) = InClaim numbers f lines rows g (OnPivot numbers)
SaysInClaim numbers f lines rows _ = Unit {0}

pub says : (numbers : Numbers) (f : FunctionData) (lines : List CoverLine) (rows : List PivotRow)
    (d : Demand) → IsOnGroups d →
    SaysInClaim numbers f lines rows d ↔ DemandHolds (extreme_claim numbers f lines rows) d
says Whole f lines rows (row g) on = (λ h. h, λ h. h)
says Whole f lines rows (reduce g r) on = (λ h. h, λ h. h)
says Whole f lines rows (size g r) on = (λ h. h, λ h. h)
says Whole f lines rows (pivot g) on = (λ h. h, λ h. h)
says Residues f lines rows (row g) on = (λ h. h, λ h. h)
says Residues f lines rows (reduce g r) on = (λ h. h, λ h. h)
says Residues f lines rows (size g r) on = (λ h. h, λ h. h)
says Residues f lines rows (pivot g) on = (λ h. h, λ h. h)
says numbers f lines rows _ on = absurd on

in_groups : (numbers : Numbers) (f : FunctionData) (lines : List CoverLine) (component : ℕ → ℕ)
    (n : ℕ) (rows : List PivotRow) →
    IsNumbering f lines component n → IsWithinBounds f → All (IsPivotRowBelow f.order) rows →
    (d : Demand) → IsOnGroups d →
    GroupHolds numbers f component n rows d ↔ SaysInClaim numbers f lines rows d
in_groups numbers f lines component n rows are l below (row g) on = (λ h. h, λ h. h)
in_groups numbers f lines component n rows are l below (reduce g r) on = (
  to_claim numbers f lines component n rows g are l below (OnStep numbers r MeetsReduce),
  from_claim numbers f lines component n rows g are (OnStep numbers r MeetsReduce),
)
in_groups numbers f lines component n rows are l below (size g r) on = (
  to_claim numbers f lines component n rows g are l below (OnStep numbers r MeetsSize),
  from_claim numbers f lines component n rows g are (OnStep numbers r MeetsSize),
)
in_groups numbers f lines component n rows are l below (pivot g) on = (
  to_claim numbers f lines component n rows g are l below (OnPivot numbers),
  from_claim numbers f lines component n rows g are (OnPivot numbers),
)
in_groups numbers f lines component n rows are l below _ on = absurd on

-- a demand says the same of the claim and of its groups
pub demand_on_groups : (numbers : Numbers) (f : FunctionData) (lines : List CoverLine)
    (component : ℕ → ℕ) (n : ℕ) (rows : List PivotRow) →
    IsNumbering f lines component n → IsWithinBounds f → All (IsPivotRowBelow f.order) rows →
    (d : Demand) → IsOnGroups d →
    GroupHolds numbers f component n rows d ↔ DemandHolds (extreme_claim numbers f lines rows) d
demand_on_groups numbers f lines component n rows are l below d on =
    let groups = in_groups numbers f lines component n rows are l below d on in
    let claim = says numbers f lines rows d on in
    (λ h. claim.0 (groups.0 h), λ h. groups.1 (claim.1 h))

-- ---- all demands, and the first that fails

-- if all demands on the groups hold, they hold of the claim
pub groups_hold : (numbers : Numbers) (f : FunctionData) (lines : List CoverLine) (component : ℕ →
    ℕ) (n : ℕ) (rows : List PivotRow) →
    IsNumbering f lines component n → IsWithinBounds f → All (IsPivotRowBelow f.order) rows →
    All (GroupHolds numbers f component n rows) (group_demands_by numbers 0 rows) →
    All (DemandHolds (extreme_claim numbers f lines rows)) (group_demands_by numbers 0 rows)
groups_hold numbers f lines component n rows are l below h k d low =
    (demand_on_groups numbers f lines component n rows are l below
    (get_or (group_demands_by numbers 0 rows) k d) (on_groups numbers 0 rows k d low)).0
    (h k d low)

-- the first demand on the groups of a claim that fails, its rule, and the number of its line
pub record FirstGroupFails (numbers : Numbers) (f : FunctionData) (lines : List CoverLine)
    (rows : List PivotRow) (failure : GroupFailure) : Type 0 where
  pub before : List Demand
  pub demand : Demand
  pub first : IsFirstFailing (All (DemandHolds (extreme_claim numbers f lines rows)))
      (group_demands_by numbers 0 rows) before demand
  pub rule_is : IsRuleOf failure.rule demand
  pub number : HasNumber (extreme_claim numbers f lines rows) (line_of_demand demand)
      (f.order + length lines + 5 + length (modulus_lines numbers) + failure.below)

-- the number of a line of the claim's own
pub number_in_extreme : (numbers : Numbers) (f : FunctionData) (lines : List CoverLine)
    (rows : List PivotRow) (a b : List OwnLine)
    (l : OwnLine) → extreme_lines numbers lines rows ≡ a ++ l ∷ b →
    HasNumber (extreme_claim numbers f lines rows) l.name
    (length (subject_lines (function f)) + length a + 3)
number_in_extreme Whole f lines rows a b l is = number_of_own (Extreme f lines rows) a b l is
number_in_extreme Residues f lines rows a b l is =
    number_of_own (ExtremeByResidues f lines rows) a b l is

pub groups_fail : (numbers : Numbers) (f : FunctionData) (lines : List CoverLine) (component : ℕ →
    ℕ) (n : ℕ) (rows : List PivotRow) (failure : GroupFailure) →
    IsNumbering f lines component n → IsWithinBounds f → All (IsPivotRowBelow f.order) rows →
    IsFirstGroupFailure numbers f component n rows failure →
    FirstGroupFails numbers f lines rows failure
groups_fail numbers f lines component n rows failure are l below h =
    let H = GroupHolds numbers f component n rows in
    let C = DemandHolds (extreme_claim numbers f lines rows) in
    let demands = group_demands_by numbers 0 rows in
    let split : demands ≡ (h.before ++ h.demand ∷ []) ++ h.first.after =
    h.first.place ∙ sym (append_assoc h.before (h.demand ∷ []) h.first.after) in
    let on : All IsOnGroups (h.before ++ h.demand ∷ []) =
    All-front IsOnGroups (h.before ++ h.demand ∷ []) h.first.after
    (subst (All IsOnGroups) split (on_groups numbers 0 rows)) in
    let on_before = All-front IsOnGroups h.before (h.demand ∷ []) on in
    let same = demand_on_groups numbers f lines component n rows are l below in
    let covered = covered_lines 0 lines in
    let points : length (map point (range_with_len 0 f.order)) ≡ f.order =
    length-map-range_with_len point 0 f.order in
    let long = length-covered 0 lines in
    let modulus = modulus_lines numbers in
    let both = length-append covered (modulus ++ h.above) in
    let more = length-append modulus h.above in
    let below_is : failure.below ≡ length h.above = h.below in
    let number : length (subject_lines (function f)) + length (covered ++ (modulus ++ h.above)) + 3
    ≡ f.order + length lines + 5 + length modulus + failure.below =
    omega arith in
    record {
      before = h.before;
      demand = h.demand;
      first = record {
        after = h.first.after;
        place = h.first.place;
        good = λ k d low. (same (get_or h.before k d) (on_before k d low)).0 (h.first.good k d low);
        bad = λ all. h.first.bad
            (λ k d low. (same (get_or (h.before ++ h.demand ∷ []) k d) (on k d low)).1
            (all k d low));
      };
      rule_is = h.rule_is;
      number = subst₂ (HasNumber (extreme_claim numbers f lines rows)) h.line_is number
          (number_in_extreme numbers f lines rows (covered ++ (modulus ++ h.above)) h.under h.line
          (ap (λ ls. covered ++ (modulus ++ ls)) h.place
          ∙ regroup covered modulus h.above (h.line ∷ h.under)));
    }
  where
    regroup : (a b c d : List OwnLine) → a ++ (b ++ (c ++ d)) ≡ (a ++ (b ++ c)) ++ d
    regroup a b c d = simp append_assoc
