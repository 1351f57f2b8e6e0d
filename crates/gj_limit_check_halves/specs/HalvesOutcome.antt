-- The rules on halves in turn: whether all hold, and which is the first that fails (own).
use Rattle.std.specs.Prelude.{ℕ, ℤ, pos, ◌≡◌, ◌*◌, ◌<◌, ◌≤◌, ◌≤ℤ◌, List, length}
use Rattle.std.specs.declared.option.Option.{Option}
use Rattle.std.specs.declared.option.Option.TheVariants.{Some, None}
use Rattle.gj_shape.specs.FunctionData.{FunctionData, at}
use Rattle.gj_shape.specs.Limits.{greatest_halves_order, greatest_halves_scale}
use Rattle.gj_shape.specs.declared.extremality.LimitHalves.{LimitHalves}
use Rattle.gj_shape.specs.declared.extremality.SideNumbers.{SideNumbers}
use Rattle.gj_limit_proof.specs.LimitRules.{AreWithinScale, MeetsLimitScale, MeetsLimitRange, MeetsLimitAverage, PassesAsHalf, MeetsLimitSame}
use Rattle.gj_limit_proof.specs.LimitText.{triple_at}
use Rattle.gj_limit_check_halves.specs.declared.failure.HalvesFailure.{HalvesFailure}
use Rattle.gj_limit_check_halves.specs.declared.failure.HalvesFailure.TheVariants.{Scale, Range, Average, First, Second, Same}
use Rattle.gj_check.specs.declared.halves.Refinement.{Refinement}
use Rattle.gj_check.specs.HalvesRules.{IsRefinement}

-- the order and the scale of the halves are so many times those of the function
abbrev pub IsHalvesRefinement : FunctionData → LimitHalves → Refinement → Type 0
IsHalvesRefinement f h = IsRefinement f h.order h.scale

-- the index is one of a point of the grid of the halves, and the refinement is within the limits
pub record IsPointOf (f : FunctionData) (r : Refinement) (i : ℕ) : Type 0 where
  pub some : 0 < r.times
  pub few : r.times ≤ greatest_halves_order
  pub factor : r.factor ≤ greatest_halves_scale
  pub within : i < f.order * r.times

-- the list has a number at the index, from 0 to 2^124
pub record HasNumberAt (xs : List ℤ) (i : ℕ) : Type 0 where
  pub within : i < length xs
  pub low : pos 0 ≤ℤ at xs i
  pub high : at xs i ≤ℤ pos greatest_halves_scale

-- so many numbers on each side, and all lie from 0 to the scale
pub record AreSideNumbersInRange (n : ℕ) (scale : ℤ) (s : SideNumbers) : Type 0 where
  pub left_length : length s.left ≡ n
  pub value_length : length s.value ≡ n
  pub right_length : length s.right ≡ n
  pub within : (i : ℕ) → i < n → AreWithinScale scale (triple_at s i)

-- ---- pairs

-- the rule `range` holds at all points
abbrev pub AreWithinRange : LimitHalves → Type 0
AreWithinRange h = (i : ℕ) → i < h.order → MeetsLimitRange h i

-- the rules on the numbers of both halves at the i-th point hold
pub record MeetsLimitPair (f : FunctionData) (h : LimitHalves) (i : ℕ) : Type 0 where
  pub range : MeetsLimitRange h i
  pub average : MeetsLimitAverage f h i

-- those at the points before it do, and a rule at this one fails
pub record FailsAtPair (f : FunctionData) (h : LimitHalves) (i : ℕ) (fails : Type 0) : Type 0 where
  pub within : i < h.order
  pub before : (j : ℕ) → j < i → MeetsLimitPair f h j
  pub here : fails

-- at all points
abbrev pub MeetLimitPairs : FunctionData → LimitHalves → Type 0
MeetLimitPairs f h = (i : ℕ) → i < h.order → MeetsLimitPair f h i

-- the first failure at a point
abbrev pub FailsPairs : FunctionData → LimitHalves → HalvesFailure → Type 0
FailsPairs f h (Range i) = FailsAtPair f h i (MeetsLimitRange h i → ⊥)
FailsPairs f h (Average i) = FailsAtPair f h i (MeetsLimitRange h i × (MeetsLimitAverage f h i → ⊥))
FailsPairs f h _ = ⊥

-- the rules at all points hold, or this is the first failure
abbrev pub IsPairsOutcome : FunctionData → LimitHalves → Option HalvesFailure → Type 0
IsPairsOutcome f h None = MeetLimitPairs f h
IsPairsOutcome f h (Some failure) = FailsPairs f h failure

-- ---- the halves as functions

-- the first of the last three rules that fails
abbrev pub FailsLast : FunctionData → LimitHalves → HalvesFailure → Type 0
FailsLast f h First = PassesAsHalf f h h.first → ⊥
FailsLast f h Second = PassesAsHalf f h h.first × (PassesAsHalf f h h.second → ⊥)
FailsLast f h Same = PassesAsHalf f h h.first × PassesAsHalf f h h.second × (MeetsLimitSame h → ⊥)
FailsLast f h _ = ⊥

-- these three hold
pub record MeetLast (f : FunctionData) (h : LimitHalves) : Type 0 where
  pub first : PassesAsHalf f h h.first
  pub second : PassesAsHalf f h h.second
  pub same : MeetsLimitSame h

abbrev pub IsLastOutcome : FunctionData → LimitHalves → Option HalvesFailure → Type 0
IsLastOutcome f h None = MeetLast f h
IsLastOutcome f h (Some failure) = FailsLast f h failure

-- ---- all rules

-- all hold
pub record MeetHalvesRules (f : FunctionData) (h : LimitHalves) : Type 0 where
  pub scale : MeetsLimitScale f h
  pub pairs : MeetLimitPairs f h
  pub last : MeetLast f h

-- the first that fails, behind those that hold
pub data FailsHalves (f : FunctionData) (h : LimitHalves) (failure : HalvesFailure) : Type 0 where
  at_scale : failure ≡ Scale → (MeetsLimitScale f h → ⊥) → FailsHalves f h failure
  at_pair : MeetsLimitScale f h → FailsPairs f h failure → FailsHalves f h failure
  at_last : MeetsLimitScale f h → MeetLimitPairs f h → FailsLast f h failure →
      FailsHalves f h failure

abbrev pub IsHalvesOutcome : FunctionData → LimitHalves → Option HalvesFailure → Type 0
IsHalvesOutcome f h None = MeetHalvesRules f h
IsHalvesOutcome f h (Some failure) = FailsHalves f h failure
