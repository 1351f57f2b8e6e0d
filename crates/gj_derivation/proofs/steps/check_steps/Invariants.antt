use Rattle.std.proofs.Common.{take}
use Rattle.std.specs.Option.{option_copied}
use Rattle.gj_derivation.proofs.CheckedDerivations.{AreAdded, AreNarrowTo}
use Rattle.gj_derivation.proofs.steps.check_steps.Given as goal

abbrev pub invariant-loop-i : goal.invariant-loop-i
invariant-loop-i l = record {
  added : AreAdded (option_copied l.function) l.fn.problem l.grown (take l.i l.steps);
  narrow : AreNarrowTo (option_copied l.function) l.fn.problem l.steps l.i;
}
