use Rattle.std.proofs.Common.{take}
use Rattle.gj_derivation.specs.Derivations.{AreSigned}
use Rattle.gj_derivation.proofs.base.first_unsigned.Given as goal

abbrev pub invariant-loop-multiplier : goal.invariant-loop-multiplier
invariant-loop-multiplier l = AreSigned l.rule l.problem (take l.multiplier-index l.multipliers)
