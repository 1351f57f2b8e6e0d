use Rattle.std.proofs.Common.{take}
use Rattle.gj_derivation.specs.Derivations.{AreAtUpper}
use Rattle.gj_derivation.proofs.base.flags_of.Given as goal

abbrev pub invariant-loop-column : goal.invariant-loop-column
invariant-loop-column l = AreAtUpper l.problem (take l.column-index l.named) l.flags.items
