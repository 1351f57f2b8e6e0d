use Rattle.std.proofs.Common.{take}
use Rattle.gj_derivation.proofs.DerivedSteps.{ArePlacedAt}
use Rattle.gj_derivation.proofs.derive.placed.Given as goal

abbrev pub invariant-loop-multiplier : goal.invariant-loop-multiplier
invariant-loop-multiplier l = ArePlacedAt l.reached (take l.multiplier-index l.multiplier-items)
    l.multipliers.items
