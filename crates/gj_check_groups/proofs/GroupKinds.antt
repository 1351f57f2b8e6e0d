-- The demands on groups of a kind: when all hold, and which is the first that fails.
use Rattle.std.proofs.Common.{◌≡◌, ℕ, suc, ◌+◌, ◌<◌, ◌≤◌, ◌⊎◌, ◌↔◌, inl, inr, ℤ, List, [], ◌∷◌, ◌++◌, All, length, take, drop, get_or, refl, sym, ap, subst, ◌∙◌, append_assoc, arith}
use Rattle.std.proofs.Math.Seq.{split_at}
use Rattle.std.proofs.lemmas.Bool.{cases_lt}
use Rattle.std.proofs.lemmas.List.{length-append, length-take-le}
use Rattle.std.proofs.lemmas.List.Elements.{All-nil, All-cons, All-append}
use Rattle.gj_shape.specs.Elimination.{KeptRow}
use Rattle.gj_proof.specs.declared.numbers.Numbers.{Numbers}
use Rattle.gj_proof.specs.declared.numbers.Numbers.TheVariants.{Whole, Residues}
use Rattle.gj_lemmas.specs.FirstThatFails.{IsFirstFailing}
use Rattle.gj_lemmas.proofs.FirstThatFails.{first_failing, first_failing_in_front, first_failing_in_back}
use Rattle.gj_proof.specs.ProofText.{OwnLine, reduction_line, pivot_line, reduction_lines}
use Rattle.gj_proof.specs.ProofText.ProofLine.{group, reduction, group_pivot}
use Rattle.gj_proof.specs.Rules.{Demand, AtIndex, MeetsReduce, MeetsSize, MeetsPivotBy, size_demands, step_demands_by, line_of_demand}
use Rattle.gj_proof.specs.Rules.Demand.{row, reduce, size, pivot}
use Rattle.gj_check_groups.specs.declared.failure.GroupRule.{GroupRule}
use Rattle.gj_check_groups.specs.declared.failure.GroupRule.TheVariants.{Reduce, Size}
use Rattle.gj_check_groups.specs.declared.failure.GroupFailure.{GroupFailure}
use Rattle.gj_check_groups.specs.Groups.{IsRuleOf}
use Rattle.gj_check_groups.specs.GroupOutcomes.{stepped, HasSize, FailsStep, MeetsStepBehind, MeetsGroupBy, FailsGroupBy}
use Rattle.gj_check_groups.specs.GroupOutcomes.FailsGroupBy.{at_row, at_step, at_pivot}
use Rattle.gj_proof.proofs.AtPlaces.{at_index, split_there}
use Rattle.gj_proof.proofs.LineCounts.{length-reductions}
use Rattle.gj_check_groups.proofs.GroupsInTurn.{count_by}

-- ---- the first of some demands that fails

-- the demand is the first that fails
record FailsFirst (H : Demand → Type 0) (demands : List Demand) (d : Demand) : Type 0 where
  pub before : List Demand
  pub first : IsFirstFailing (All H) demands before d

fails_here : (H : Demand → Type 0) (d : Demand) (more : List Demand) → (H d → ⊥) →
    FailsFirst H (d ∷ more) d
fails_here H d more fails =
    record { before = []; first = first_failing H (d ∷ more) [] more d refl (All-nil H) fails }

fails_behind : (H : Demand → Type 0) (xs ys : List Demand) (d : Demand) → All H xs →
    FailsFirst H ys d → FailsFirst H (xs ++ ys) d
fails_behind H xs ys d all h =
    record { before = xs ++ h.before; first = first_failing_in_back H xs ys h.before d all h.first }

fails_next : (H : Demand → Type 0) (e : Demand) (ys : List Demand) (d : Demand) → H e →
    FailsFirst H ys d → FailsFirst H (e ∷ ys) d
fails_next H e ys d holds h = fails_behind H (e ∷ []) ys d (All-cons H e [] holds (All-nil H)) h

fails_in_front : (H : Demand → Type 0) (xs ys : List Demand) (d : Demand) → FailsFirst H xs d →
    FailsFirst H (xs ++ ys) d
fails_in_front H xs ys d h =
    record { before = h.before; first = first_failing_in_front (All H) xs ys h.before d h.first }

-- ---- steps

-- the demand on the size of its numbers holds; of residues there is none
abbrev SizeHolds : Numbers → (Demand → Type 0) → ℕ → ℕ → Type 0
SizeHolds Whole H g r = H (size g r)
SizeHolds Residues H g r = Unit {0}

-- or it fails
abbrev SizeFails : Numbers → (Demand → Type 0) → ℕ → ℕ → Demand → Type 0
SizeFails Whole H g r d = (d ≡ size g r) × (H (size g r) → ⊥)
SizeFails Residues H g r d = ⊥

-- the demands on the r-th step of the g-th group hold
record StepHolds (numbers : Numbers) (H : Demand → Type 0) (g r : ℕ) : Type 0 where
  pub reduces : H (reduce g r)
  pub fits : SizeHolds numbers H g r

-- this is the first of them that fails
abbrev StepFails : Numbers → (Demand → Type 0) → ℕ → ℕ → Demand → Type 0
StepFails numbers H g r d =
    ((d ≡ reduce g r) × (H (reduce g r) → ⊥)) ⊎ (H (reduce g r) × SizeFails numbers H g r d)

sizes_hold : (numbers : Numbers) (H : Demand → Type 0) (g r : ℕ) → SizeHolds numbers H g r →
    All H (size_demands numbers g r)
sizes_hold Whole H g r h = All-cons H (size g r) [] h (All-nil H)
sizes_hold Residues H g r h = All-nil H

size_fails : (numbers : Numbers) (H : Demand → Type 0) (g r : ℕ) (d : Demand) →
    SizeFails numbers H g r d →
    FailsFirst H (size_demands numbers g r) d
size_fails Whole H g r d h =
    subst (FailsFirst H (size g r ∷ [])) (sym h.0) (fails_here H (size g r) [] h.1)
size_fails Residues H g r d h = absurd h

steps_hold : (numbers : Numbers) (H : Demand → Type 0) (g r : ℕ) (columns : List ℕ) →
    ((j : ℕ) → StepHolds numbers H g j) →
    All H (step_demands_by numbers g r columns)
steps_hold numbers H g r [] h = All-nil H
steps_hold numbers H g r (c ∷ columns) h =
    All-cons H (reduce g r) (size_demands numbers g r ++ step_demands_by numbers g (r + 1) columns)
    (h r).reduces
    (All-append H (size_demands numbers g r) (step_demands_by numbers g (r + 1) columns)
    (sizes_hold numbers H g r (h r).fits)
    (steps_hold numbers H g (r + 1) columns h))

step_fails : (numbers : Numbers) (H : Demand → Type 0) (g r : ℕ) (more : List Demand) (d : Demand) →
    StepFails numbers H g r d →
    FailsFirst H (reduce g r ∷ (size_demands numbers g r ++ more)) d
step_fails numbers H g r more d (inl h) =
    subst (FailsFirst H (reduce g r ∷ (size_demands numbers g r ++ more))) (sym h.0)
    (fails_here H (reduce g r) (size_demands numbers g r ++ more) h.1)
step_fails numbers H g r more d (inr h) =
    fails_next H (reduce g r) (size_demands numbers g r ++ more) d h.0
    (fails_in_front H (size_demands numbers g r) more d (size_fails numbers H g r d h.1))

steps_fail : (numbers : Numbers) (H : Demand → Type 0) (g r m : ℕ) (columns : List ℕ)
    (d : Demand) → r ≤ m → m < r + length columns →
    ((j : ℕ) → j < m → StepHolds numbers H g j) → StepFails numbers H g m d →
    FailsFirst H (step_demands_by numbers g r columns) d
steps_fail numbers H g r m [] d low high h fails = absurd (omega arith)
steps_fail numbers H g r m (c ∷ columns) d low high h fails =
    by_place (cases_lt r m)
    (λ later. steps_fail numbers H g (r + 1) m columns d (omega arith) (omega arith) h fails)
  where
    by_place : (r < m) ⊎ (m ≤ r) →
        (r < m → FailsFirst H (step_demands_by numbers g (r + 1) columns) d) →
        FailsFirst H (reduce g r
        ∷ (size_demands numbers g r ++ step_demands_by numbers g (r + 1) columns)) d
    by_place (inl before) later =
        fails_next H (reduce g r)
        (size_demands numbers g r ++ step_demands_by numbers g (r + 1) columns) d
        (h r before).reduces
        (fails_behind H (size_demands numbers g r) (step_demands_by numbers g (r + 1) columns) d
        (sizes_hold numbers H g r (h r before).fits) (later before))
    by_place (inr here) later =
        let same : m ≡ r = omega arith in
        step_fails numbers H g r (step_demands_by numbers g (r + 1) columns) d
        (subst (λ (k : ℕ). StepFails numbers H g k d) same fails)

-- ---- a group

-- the demands on the g-th group hold
record AllHoldAt (numbers : Numbers) (H : Demand → Type 0) (g : ℕ) : Type 0 where
  pub row_holds : H (row g)
  steps_hold : (r : ℕ) → StepHolds numbers H g r
  pub pivot_holds : H (pivot g)

-- this is the first of them that fails
data FailsAt (numbers : Numbers) (H : Demand → Type 0) (g : ℕ) (columns : List ℕ) (d : Demand) :
    Type 0 where
  row_fails : d ≡ row g → (H (row g) → ⊥) → FailsAt numbers H g columns d
  some_step_fails : H (row g) → FailsFirst H (step_demands_by numbers g 0 columns) d →
      FailsAt numbers H g columns d
  pivot_fails : d ≡ pivot g → H (row g) → All H (step_demands_by numbers g 0 columns) →
      (H (pivot g) → ⊥) → FailsAt numbers H g columns d

-- ---- groups of a kind

-- of a group the columns of its steps, the column of its pivot, the text of its first line, the row
-- that it begins with, and what the rule on that row says; and the rows that groups keep
pub record GroupKind (R : Type 0) : Type 1 where
  pub steps_of : R → List ℕ
  pub pivot_of : R → ℕ
  pub text_of : R → List ℕ
  pub begun : R → List ℤ
  pub meets : R → Type 0
  pub kept : List R → List KeptRow

-- the demands on groups, from the g-th on
abbrev pub kind_demands : {R : Type 0} → GroupKind R → Numbers → ℕ → List R → List Demand
kind_demands K numbers g [] = []
kind_demands K numbers g (one ∷ more) =
    row g ∷ step_demands_by numbers g 0 (K.steps_of one) ++ pivot g
    ∷ kind_demands K numbers (g + 1) more

-- those on the first of some groups, behind that on its row
abbrev demands_on : {R : Type 0} → GroupKind R → Numbers → ℕ → R → List R → List Demand
demands_on K numbers g one more = step_demands_by numbers g 0 (K.steps_of one) ++ pivot g
    ∷ kind_demands K numbers (g + 1) more

groups_hold : {R : Type 0} (K : GroupKind R) (numbers : Numbers) (H : Demand → Type 0) (g : ℕ)
    (rows : List R) → ((j : ℕ) → AllHoldAt numbers H j) → All H (kind_demands K numbers g rows)
groups_hold K numbers H g [] h = All-nil H
groups_hold K numbers H g (one ∷ more) h =
    All-cons H (row g) (demands_on K numbers g one more) (h g).row_holds
    (All-append H (step_demands_by numbers g 0 (K.steps_of one))
    (pivot g ∷ kind_demands K numbers (g + 1) more)
    (steps_hold numbers H g 0 (K.steps_of one) (h g).steps_hold)
    (All-cons H (pivot g) (kind_demands K numbers (g + 1) more) (h g).pivot_holds
    (groups_hold K numbers H (g + 1) more h)))

group_fails : {R : Type 0} (K : GroupKind R) (numbers : Numbers) (H : Demand → Type 0) (g : ℕ)
    (one : R) (more : List R) (d : Demand) → FailsAt numbers H g (K.steps_of one) d →
    FailsFirst H (row g ∷ demands_on K numbers g one more) d
group_fails K numbers H g one more d (row_fails is fails) =
    subst (FailsFirst H (row g ∷ demands_on K numbers g one more)) (sym is)
    (fails_here H (row g) (demands_on K numbers g one more) fails)
group_fails K numbers H g one more d (some_step_fails holds fails) =
    fails_next H (row g) (demands_on K numbers g one more) d holds
    (fails_in_front H (step_demands_by numbers g 0 (K.steps_of one))
    (pivot g ∷ kind_demands K numbers (g + 1) more) d fails)
group_fails K numbers H g one more d (pivot_fails is holds all fails) =
    subst (FailsFirst H (row g ∷ demands_on K numbers g one more)) (sym is)
    (fails_next H (row g) (demands_on K numbers g one more) (pivot g) holds
    (fails_behind H (step_demands_by numbers g 0 (K.steps_of one))
    (pivot g ∷ kind_demands K numbers (g + 1) more) (pivot g) all
    (fails_here H (pivot g) (kind_demands K numbers (g + 1) more) fails)))

groups_fail : {R : Type 0} (K : GroupKind R) (numbers : Numbers) (H : Demand → Type 0) (g m : ℕ)
    (front : List R) (one : R) (back : List R) (d : Demand) →
    m ≡ g + length front → ((j : ℕ) → j < m → AllHoldAt numbers H j) →
    FailsAt numbers H m (K.steps_of one) d →
    FailsFirst H (kind_demands K numbers g (front ++ one ∷ back)) d
groups_fail K numbers H g m [] one back d count h fails =
    let same : m ≡ g = omega arith in
    group_fails K numbers H g one back d
    (subst (λ (k : ℕ). FailsAt numbers H k (K.steps_of one) d) same fails)
groups_fail K numbers H g m (first ∷ front) one back d count h fails =
    let here = h g (omega arith) in
    let rest = front ++ one ∷ back in
    fails_next H (row g) (demands_on K numbers g first rest) d here.row_holds
    (fails_behind H (step_demands_by numbers g 0 (K.steps_of first))
    (pivot g ∷ kind_demands K numbers (g + 1) rest) d
    (steps_hold numbers H g 0 (K.steps_of first) here.steps_hold)
    (fails_next H (pivot g) (kind_demands K numbers (g + 1) rest) d here.pivot_holds
    (groups_fail K numbers H (g + 1) m front one back d (omega arith) h fails)))

-- ---- what the rules on a group say

-- a rule holds of a step of a group behind others
abbrev pub OnStep : {R : Type 0} → GroupKind R → Numbers → (List KeptRow → List ℤ → ℕ → Type 0) →
    List R → R → List ℕ → ℕ → Type 0
OnStep K numbers P before one steps c =
    P (K.kept before) (stepped numbers (K.kept before) (K.begun one) steps) c

-- of the r-th
abbrev pub OnStepAt : {R : Type 0} → GroupKind R → Numbers → ℕ →
    (List KeptRow → List ℤ → ℕ → Type 0) → List R → R → Type 0
OnStepAt K numbers r P before one = AtIndex (K.steps_of one) r (OnStep K numbers P before one)

-- the rules of a group hold behind others
abbrev pub MeetsAs : {R : Type 0} → GroupKind R → Numbers → ℕ → List R → R → Type 0
MeetsAs K numbers n before one =
    MeetsGroupBy numbers (K.meets one) n (K.kept before) (K.begun one) (K.steps_of one)
    (K.pivot_of one)

-- the demands on groups say that the rules hold of them
pub record AreDemandsOn {R : Type 0} (K : GroupKind R) (numbers : Numbers) (n : ℕ) (rows : List R)
    (H : Demand → Type 0) : Type 0 where
  pub on_row : (g : ℕ) → (AtIndex rows g (λ before one. K.meets one) ↔ H (row g))
  pub on_step : (g r : ℕ) → (AtIndex rows g (OnStepAt K numbers r MeetsReduce) ↔ H (reduce g r))
  pub on_size : (g r : ℕ) → (AtIndex rows g (OnStepAt K numbers r MeetsSize) ↔ H (size g r))
  pub on_pivot : (g : ℕ) →
      (AtIndex rows g (λ before one. MeetsPivotBy numbers n (K.kept before)
      (stepped numbers (K.kept before) (K.begun one) (K.steps_of one)) (K.pivot_of one))
      ↔ H (pivot g))

-- the demand on the size of a step's numbers, if there is one
sizes_of : {R : Type 0} (K : GroupKind R) (numbers : Numbers) (n : ℕ) (rows : List R)
    (H : Demand → Type 0) → AreDemandsOn K numbers n rows H → (g r : ℕ) →
    AtIndex rows g (OnStepAt K numbers r (HasSize numbers)) → SizeHolds numbers H g r
sizes_of K Whole n rows H are g r h = (are.on_size g r).0 h
sizes_of K Residues n rows H are g r h = tt

-- all demands on the group
all_hold_at : {R : Type 0} (K : GroupKind R) (numbers : Numbers) (n : ℕ) (rows : List R)
    (H : Demand → Type 0) → AreDemandsOn K numbers n rows H → (g : ℕ) →
    AtIndex rows g (MeetsAs K numbers n) → AllHoldAt numbers H g
all_hold_at K numbers n rows H are g h = record {
  row_holds = (are.on_row g).0 (λ before one after place index.
      (h before one after place index).row);
  steps_hold = λ r. record {
    reduces = (are.on_step g r).0 (λ before one after place index front c back split at.
        ((h before one after place index).steps r front c back split at).reduce);
    fits = sizes_of K numbers n rows H are g r
        (λ before one after place index front c back split at.
        ((h before one after place index).steps r front c back split at).size);
  };
  pivot_holds = (are.on_pivot g).0 (λ before one after place index.
      (h before one after place index).pivot);
}

pub all_demands_hold : {R : Type 0} (K : GroupKind R) (numbers : Numbers) (n : ℕ) (rows : List R)
    (H : Demand → Type 0) → AreDemandsOn K numbers n rows H →
    ((g : ℕ) → AtIndex rows g (MeetsAs K numbers n)) → All H (kind_demands K numbers 0 rows)
all_demands_hold K numbers n rows H are h =
    groups_hold K numbers H 0 rows (λ g. all_hold_at K numbers n rows H are g (h g))

-- ---- the lines of groups

reductions_split : (g r m : ℕ) (front : List ℕ) (c : ℕ) (back : List ℕ) → m ≡ r + length front →
    reduction_lines g r (front ++ c ∷ back)
    ≡ reduction_lines g r front ++ record { name = reduction g m; bytes = reduction_line c }
    ∷ reduction_lines g (m + 1) back
reductions_split g r m [] c back count =
    let same : r ≡ m = omega arith in
    ap (λ k. let l : OwnLine = record { name = reduction g k; bytes = reduction_line c } in
    l ∷ reduction_lines g (k + 1) back) same
reductions_split g r m (d ∷ front) c back count =
    ap (λ ls. let l : OwnLine = record { name = reduction g r; bytes = reduction_line d } in l ∷ ls)
    (reductions_split g (r + 1) m front c back (omega arith))

-- the first line of a group, and its last
abbrev first_line : {R : Type 0} → GroupKind R → ℕ → R → OwnLine
first_line K g one = record { name = group g; bytes = K.text_of one }

abbrev last_line : {R : Type 0} → GroupKind R → ℕ → R → OwnLine
last_line K g one = record { name = group_pivot g; bytes = pivot_line (K.pivot_of one) }

-- all lines, from the g-th group on
abbrev pub kind_lines : {R : Type 0} → GroupKind R → ℕ → List R → List OwnLine
kind_lines K g [] = []
kind_lines K g (one ∷ more) =
    first_line K g one ∷ reduction_lines g 0 (K.steps_of one) ++ last_line K g one
    ∷ kind_lines K (g + 1) more

length-groups : {R : Type 0} (K : GroupKind R) (g : ℕ) (rows : List R) →
    length (kind_lines K g rows) ≡ count_by K.steps_of rows
length-groups K g [] = refl
length-groups K g (one ∷ rows) =
    let steps = length-reductions g 0 (K.steps_of one) in
    let more = length-groups K (g + 1) rows in
    let both = length-append (reduction_lines g 0 (K.steps_of one))
    (last_line K g one ∷ kind_lines K (g + 1) rows) in
    omega arith

groups_split : {R : Type 0} (K : GroupKind R) (g m : ℕ) (front rest : List R) →
    m ≡ g + length front →
    kind_lines K g (front ++ rest) ≡ kind_lines K g front ++ kind_lines K m rest
groups_split K g m [] rest count =
    let same : g ≡ m = omega arith in ap (λ k. kind_lines K k rest) same
groups_split K g m (one ∷ front) rest count =
    let steps = reduction_lines g 0 (K.steps_of one) in
    ap (λ ls. first_line K g one ∷ (steps ++ last_line K g one ∷ ls))
    (groups_split K (g + 1) m front rest (omega arith))
    ∙ ap (λ ls. first_line K g one ∷ ls)
    (sym (append_assoc steps (last_line K g one ∷ kind_lines K (g + 1) front)
    (kind_lines K m rest)))

-- ---- a group that fails

-- the group stands behind others
record IsGroup {R : Type 0} (rows : List R) (g : ℕ) (front : List R) (one : R) (back : List R) :
    Type 0 where
  pub place : rows ≡ front ++ one ∷ back
  pub index : length front ≡ g

-- what a group has behind those before it, the group with its number has
of_group : {R : Type 0} (rows : List R) (g : ℕ) (front : List R) (one : R) (back : List R) →
    IsGroup rows g front one back → (P : List R → R → Type 0) → P front one → AtIndex rows g P
of_group rows g front one back at P h =
    subst (λ (k : ℕ). AtIndex rows k P) at.index (at_index rows P front one back at.place h)

-- the demands on a step of the group hold if its rules do
step_holds : {R : Type 0} (K : GroupKind R) (numbers : Numbers) (n : ℕ) (rows : List R)
    (H : Demand → Type 0) → AreDemandsOn K numbers n rows H → (g : ℕ) (front : List R) (one : R)
    (back : List R) → IsGroup rows g front one back → (r : ℕ) →
    AtIndex (K.steps_of one) r (MeetsStepBehind numbers (K.kept front) (K.begun one)) →
    StepHolds numbers H g r
step_holds K numbers n rows H are g front one back at r h = record {
  reduces = (are.on_step g r).0
      (of_group rows g front one back at (OnStepAt K numbers r MeetsReduce)
      (λ steps c more split index. (h steps c more split index).reduce));
  fits = sizes_of K numbers n rows H are g r
      (of_group rows g front one back at (OnStepAt K numbers r (HasSize numbers))
      (λ steps c more split index. (h steps c more split index).size));
}

-- the demand on a step that fails, and its line
record StepFailsAs (numbers : Numbers) (H : Demand → Type 0) (g r : ℕ) (rule : GroupRule) :
    Type 0 where
  pub demand : Demand
  pub fails : StepFails numbers H g r demand
  pub rule_is : IsRuleOf rule demand
  pub line_is : line_of_demand demand ≡ reduction g r

size_fails_at : {R : Type 0} (K : GroupKind R) (numbers : Numbers) (n : ℕ) (rows : List R)
    (H : Demand → Type 0) → AreDemandsOn K numbers n rows H → (g : ℕ) (front : List R) (one : R)
    (back : List R) → IsGroup rows g front one back → (r : ℕ) (steps : List ℕ) (c : ℕ)
    (more : List ℕ) → K.steps_of one ≡ steps ++ c ∷ more → length steps ≡ r →
    (OnStep K numbers (HasSize numbers) front one steps c → ⊥) →
    SizeFails numbers H g r (size g r)
size_fails_at K Whole n rows H are g front one back at r steps c more split index fails = (
  refl,
  λ holds. fails
      ((are.on_size g r).1 holds front one back at.place at.index steps c more split index),
)
size_fails_at K Residues n rows H are g front one back at r steps c more split index fails =
    absurd (fails (λ (i, x, low, is, at). absurd (omega (arith, low))))

step_fails_as : {R : Type 0} (K : GroupKind R) (numbers : Numbers) (n : ℕ) (rows : List R)
    (H : Demand → Type 0) → AreDemandsOn K numbers n rows H → (g : ℕ) (front : List R) (one : R)
    (back : List R) → IsGroup rows g front one back →
    (r : ℕ) (rule : GroupRule) (steps : List ℕ) (c : ℕ) (more : List ℕ) →
    K.steps_of one ≡ steps ++ c ∷ more → length steps ≡ r →
    OnStep K numbers (FailsStep numbers rule) front one steps c → StepFailsAs numbers H g r rule
step_fails_as K numbers n rows H are g front one back at r Reduce steps c more split index h =
    record {
      demand = reduce g r;
      fails = inl (
        refl,
        λ holds. h ((are.on_step g r).1 holds front one back at.place at.index steps c more split
            index),
      );
      rule_is = refl;
      line_is = refl;
    }
step_fails_as K numbers n rows H are g front one back at r Size steps c more split index h =
    record {
      demand = size g r;
      fails = inr (
        (are.on_step g r).0 (of_group rows g front one back at (OnStepAt K numbers r MeetsReduce)
            (subst (λ (k : ℕ). AtIndex (K.steps_of one) k
            (OnStep K numbers MeetsReduce front one)) index
            (at_index (K.steps_of one) (OnStep K numbers MeetsReduce front one) steps c more
            split h.0))),
        size_fails_at K numbers n rows H are g front one back at r steps c more split index h.1,
      );
      rule_is = refl;
      line_is = refl;
    }
step_fails_as K numbers n rows H are g front one back at r _ steps c more split index h = absurd h

-- the demand on the group that fails, and its line
record GroupFailsAs {R : Type 0} (K : GroupKind R) (numbers : Numbers) (H : Demand → Type 0)
    (g : ℕ) (one : R) (back : List R) (failure : GroupFailure) : Type 0 where
  pub demand : Demand
  pub fails : FailsAt numbers H g (K.steps_of one) demand
  pub rule_is : IsRuleOf failure.rule demand
  pub above : List OwnLine
  pub line : OwnLine
  pub under : List OwnLine
  pub place : kind_lines K g (one ∷ back) ≡ above ++ line ∷ under
  pub line_is : line.name ≡ line_of_demand demand
  pub below : failure.below ≡ length above

-- the first rule on a group that fails
abbrev pub FailsAs : {R : Type 0} → GroupKind R → Numbers → ℕ → List R → R → GroupFailure → Type 0
FailsAs K numbers n before one failure =
    FailsGroupBy numbers (K.meets one) n (K.kept before) (K.begun one) (K.steps_of one)
    (K.pivot_of one) failure

group_fails_as : {R : Type 0} (K : GroupKind R) (numbers : Numbers) (n : ℕ) (rows : List R)
    (H : Demand → Type 0) → AreDemandsOn K numbers n rows H → (g : ℕ) (front : List R) (one : R)
    (back : List R) (failure : GroupFailure) → IsGroup rows g front one back →
    FailsAs K numbers n front one failure → GroupFailsAs K numbers H g one back failure
group_fails_as K numbers n rows H are g front one back failure at (at_row below rule fails) =
    record {
      demand = row g;
      fails = row_fails refl
          (λ holds. fails ((are.on_row g).1 holds front one back at.place at.index));
      rule_is = rule;
      above = [];
      line = first_line K g one;
      under = reduction_lines g 0 (K.steps_of one) ++ last_line K g one ∷ kind_lines K (g + 1) back;
      place = refl;
      line_is = refl;
      below = below;
    }
group_fails_as K numbers n rows H are g front one back failure at (at_step meets h) =
    let r = h.index in
    let split = split_there (K.steps_of one) r h.fails.within in
    let step = step_fails_as K numbers n rows H are g front one back at r failure.rule
    split.before split.item split.after
    split.place split.index
    (h.fails.here split.before split.item split.after split.place split.index) in
    let steps = reduction_lines g 0 split.before in
    let behind = reduction_lines g (r + 1) split.after in
    let here : OwnLine = record { name = reduction g r; bytes = reduction_line split.item } in
    let more = last_line K g one ∷ kind_lines K (g + 1) back in
    let index : length split.before ≡ r = split.index in
    let long = length-reductions g 0 split.before in
    let lines : reduction_lines g 0 (K.steps_of one) ≡ steps ++ here ∷ behind =
    ap (reduction_lines g 0) split.place
    ∙ reductions_split g 0 r split.before split.item split.after (omega arith) in
    let at_line : failure.below ≡ r + 1 = h.below in
    record {
      demand = step.demand;
      fails = some_step_fails
          ((are.on_row g).0 (of_group rows g front one back at (λ before x. K.meets x) meets))
          (steps_fail numbers H g 0 r (K.steps_of one) step.demand (omega arith)
          (omega (arith, h.fails.within))
          (λ j before. step_holds K numbers n rows H are g front one back at j
          (h.fails.before j before)) step.fails);
      rule_is = step.rule_is;
      above = first_line K g one ∷ steps;
      line = here;
      under = behind ++ more;
      place = ap (λ ls. first_line K g one ∷ (ls ++ more)) lines
          ∙ ap (λ ls. first_line K g one ∷ ls) (append_assoc steps (here ∷ behind) more);
      line_is = sym step.line_is;
      below = omega arith;
    }
group_fails_as K numbers n rows H are g front one back failure at
    (at_pivot below rule meets steps fails) =
    let long = length-reductions g 0 (K.steps_of one) in
    record {
      demand = pivot g;
      fails = pivot_fails refl
          ((are.on_row g).0 (of_group rows g front one back at (λ before x. K.meets x) meets))
          (steps_hold numbers H g 0 (K.steps_of one)
          (λ r. step_holds K numbers n rows H are g front one back at r (steps r)))
          (λ holds. fails ((are.on_pivot g).1 holds front one back at.place at.index));
      rule_is = rule;
      above = first_line K g one ∷ reduction_lines g 0 (K.steps_of one);
      line = last_line K g one;
      under = kind_lines K (g + 1) back;
      place = refl;
      line_is = refl;
      below = omega arith;
    }

-- ---- the first failure

-- a line in the rest of some lines
line_in_rest : (all front rest above : List OwnLine) (line : OwnLine) (under : List OwnLine) →
    all ≡ front ++ rest →
    rest ≡ above ++ line ∷ under → all ≡ (front ++ above) ++ line ∷ under
line_in_rest all front rest above line under first second =
    first ∙ ap (λ ls. front ++ ls) second ∙ sym (append_assoc front above (line ∷ under))

-- the first demand on the groups that fails has this rule, and is written with the line that stands
-- so many below their first
pub record IsFirstFailure {R : Type 0} (K : GroupKind R) (numbers : Numbers) (rows : List R)
    (H : Demand → Type 0) (failure : GroupFailure) : Type 0 where
  pub before : List Demand
  pub demand : Demand
  pub first : IsFirstFailing (All H) (kind_demands K numbers 0 rows) before demand
  pub rule_is : IsRuleOf failure.rule demand
  pub above : List OwnLine
  pub line : OwnLine
  pub under : List OwnLine
  pub place : kind_lines K 0 rows ≡ above ++ line ∷ under
  pub line_is : line.name ≡ line_of_demand demand
  pub below : failure.below ≡ length above

pub first_failure : {R : Type 0} (K : GroupKind R) (numbers : Numbers) (n : ℕ) (rows : List R)
    (H : Demand → Type 0) → AreDemandsOn K numbers n rows H → (g above below : ℕ) (one : R)
    (failure : GroupFailure) →
    ((i : ℕ) → i < g → AtIndex rows i (MeetsAs K numbers n)) →
    above ≡ count_by K.steps_of (take g rows) → g < length rows → one ≡ get_or rows g one →
    FailsAs K numbers n (take g rows) one failure → below ≡ above + failure.below →
    IsFirstFailure K numbers rows H (record { below = below; rule = failure.rule })
first_failure K numbers n rows H are g above below one failure meet above_is within is fails
    below_is =
    let front = take g rows in
    let back = drop (suc g) rows in
    let place : rows ≡ front ++ one ∷ back = split_at rows g one within
    ∙ ap (λ x. front ++ x ∷ back) (sym is) in
    let index : length front ≡ g = length-take-le g rows (omega arith) in
    let here = group_fails_as K numbers n rows H are g front one back failure
    (record { place = place; index = index }) fails in
    let first : FailsFirst H (kind_demands K numbers 0 rows) here.demand =
    subst (λ xs. FailsFirst H (kind_demands K numbers 0 xs) here.demand)
    (sym place)
    (groups_fail K numbers H 0 g front one back here.demand (omega arith)
    (λ j before. all_hold_at K numbers n rows H are j (meet j before)) here.fails) in
    let lines = kind_lines K 0 front in
    let split : kind_lines K 0 rows ≡ lines ++ kind_lines K g (one ∷ back) =
    ap (kind_lines K 0) place ∙ groups_split K 0 g front (one ∷ back) (omega arith) in
    let counted = length-groups K 0 front in
    let both = length-append lines here.above in
    let at_line : failure.below ≡ length here.above = here.below in
    record {
      before = first.before;
      demand = here.demand;
      first = first.first;
      rule_is = here.rule_is;
      above = lines ++ here.above;
      line = here.line;
      under = here.under;
      place = line_in_rest (kind_lines K 0 rows) lines (kind_lines K g (one ∷ back)) here.above
          here.line here.under split here.place;
      line_is = here.line_is;
      below = omega arith;
    }
