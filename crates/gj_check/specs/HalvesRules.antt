-- The rules on halves in turn: whether all hold, and which is the first that fails (own).
use Rattle.std.specs.Prelude.{ℕ, ℤ, pos, ◌≡◌, ◌≢◌, ◌*◌, ◌<◌, ◌≤ℤ◌, List}
use Rattle.std.specs.declared.option.Option.{Option}
use Rattle.std.specs.declared.option.Option.TheVariants.{Some, None}
use Rattle.gj_shape.specs.FunctionData.{FunctionData, at}
use Rattle.gj_shape.specs.declared.extremality.Halves.{Halves}
use Rattle.gj_proof.specs.Rules.{MeetsRange, MeetsAverage}
use Rattle.gj_check.specs.declared.rules.CheckRule.{CheckRule}
use Rattle.gj_check.specs.declared.rules.CheckRule.TheVariants.{Range, Average}
use Rattle.gj_check.specs.declared.halves.Refinement.{Refinement}
use Rattle.gj_check.specs.declared.halves.PairFailure.{PairFailure}

-- the order is so many times the function's, and the scale so many times that multiple of the
-- function's
pub record IsRefinement (f : FunctionData) (n : ℕ) (s : ℤ) (r : Refinement) : Type 0 where
  pub order : n ≡ f.order * r.times
  pub scale : s ≡ pos (r.factor * (f.scale * r.times))

-- some number of times
abbrev pub HasRefinement : FunctionData → ℕ → ℤ → Type 0
HasRefinement f n s = (m : ℕ) × (c : ℕ) × (n ≡ f.order * m) × (s ≡ pos (c * (f.scale * m)))

-- those of halves
abbrev pub IsHalvesRefinement : FunctionData → Halves → Refinement → Type 0
IsHalvesRefinement f h = IsRefinement f h.order h.scale

-- the number lies from 0 to the scale
abbrev pub IsBetween : ℤ → ℤ → Type 0
IsBetween x scale = (pos 0 ≤ℤ x) × (x ≤ℤ scale)

-- the rules on the i-th pair hold
pub record MeetsPair (f : FunctionData) (h : Halves) (i : ℕ) : Type 0 where
  pub range : MeetsRange h i
  pub average : MeetsAverage f h i

-- the first of them that fails
abbrev pub FailsPair : FunctionData → Halves → ℕ → CheckRule → Type 0
FailsPair f h i Range = MeetsRange h i → ⊥
FailsPair f h i Average = MeetsRange h i × (MeetsAverage f h i → ⊥)
FailsPair f h i _ = ⊥

-- those of the pairs before hold, and the first that fails at this one is this
pub record FailsPairs (f : FunctionData) (h : Halves) (failure : PairFailure) : Type 0 where
  pub within : failure.index < h.order
  pub before : (i : ℕ) → i < failure.index → MeetsPair f h i
  pub here : FailsPair f h failure.index failure.rule

-- the rules of all pairs hold, or this is the first failure
abbrev pub IsPairsOutcome : FunctionData → Halves → Option PairFailure → Type 0
IsPairsOutcome f h None = (i : ℕ) → i < h.order → MeetsPair f h i
IsPairsOutcome f h (Some failure) = FailsPairs f h failure

-- the lists differ at some index
abbrev pub AreDifferent : List ℤ → List ℤ → Type 0
AreDifferent xs ys = (i : ℕ) × (at xs i ≢ at ys i)
