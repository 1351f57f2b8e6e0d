use Rattle.std.proofs.Common.{take}
use Rattle.gj_derivation.specs.Derivations.{AreMultipliers}
use Rattle.gj_derivation.specs.Checks.{IsWideNamed}
use Rattle.gj_derivation.proofs.base.multipliers_of.Given as goal

abbrev pub invariant-loop-multiplier : goal.invariant-loop-multiplier
invariant-loop-multiplier l = record {
  are : AreMultipliers l.problem (take l.multiplier-index l.named) l.multipliers.items;
  narrow : IsWideNamed (take l.multiplier-index l.named) → ⊥;
}
