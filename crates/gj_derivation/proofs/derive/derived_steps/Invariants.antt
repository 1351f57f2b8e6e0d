use Rattle.std.proofs.Common.{take}
use Rattle.std.specs.Option.{option_copied}
use Rattle.gj_derivation.specs.Drafts.{begun, TellWide}
use Rattle.gj_derivation.proofs.DerivedSteps.{AreShownTo}
use Rattle.gj_derivation.proofs.derive.derived_steps.Given as goal

abbrev pub invariant-loop-i : goal.invariant-loop-i
invariant-loop-i l = record {
  shown : AreShownTo (option_copied l.function) l.grid l.fn.problem (take l.i l.drafts)
      l.shown.items l.reached;
  told : TellWide (option_copied l.function) l.grid (begun l.fn.problem) (take l.i l.drafts)
      l.shown.items;
}
