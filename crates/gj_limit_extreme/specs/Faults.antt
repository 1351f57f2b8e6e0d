-- Faults of the decision by those of its parts.
use Rattle.gj_elim.specs.declared.faults.ElimFault.{ElimFault}
use Rattle.gj_elim.specs.declared.faults.ElimFault.TheVariants as elimination
use Rattle.gj_perturb.specs.declared.faults.SplitFault.{SplitFault}
use Rattle.gj_perturb.specs.declared.faults.SplitFault.TheVariants as split
use Rattle.gj_residue.specs.declared.settling.SettleFault.{SettleFault}
use Rattle.gj_residue.specs.declared.settling.SettleFault.TheVariants as settling
use Rattle.gj_limit_extreme.specs.declared.faults.LimitDecideFault.{LimitDecideFault}
use Rattle.gj_limit_extreme.specs.declared.faults.LimitDecideFault.TheVariants.{Wide, Memory}

-- the fault by that of the elimination
abbrev pub of_elimination : ElimFault → LimitDecideFault
of_elimination elimination.Wide = Wide
of_elimination (elimination.Memory e) = Memory e

-- the fault by that of the halves
abbrev pub of_split : SplitFault → LimitDecideFault
of_split split.Wide = Wide
of_split (split.Memory e) = Memory e

-- the fault by that of the decision on rows
abbrev pub of_settling : SettleFault → LimitDecideFault
of_settling settling.Wide = Wide
of_settling (settling.Memory e) = Memory e

-- memory was wanting
abbrev pub IsMemoryFault : LimitDecideFault → Type 0
IsMemoryFault Wide = ⊥
IsMemoryFault (Memory e) = Unit {0}
