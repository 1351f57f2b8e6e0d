-- The faults of the parts of a decision, as those of the decision (own).
use Rattle.gj_perturb.specs.declared.faults.SplitFault.{SplitFault}
use Rattle.gj_perturb.specs.declared.faults.SplitFault.TheVariants as split
use Rattle.gj_residue.specs.declared.settling.SettleFault.{SettleFault}
use Rattle.gj_residue.specs.declared.settling.SettleFault.TheVariants as settle
use Rattle.gj_group.specs.declared.faults.GroupFault.{GroupFault}
use Rattle.gj_group.specs.declared.faults.GroupFault.TheVariants.{Wide, Memory}

abbrev pub of_settling : SettleFault → GroupFault
of_settling settle.Wide = Wide
of_settling (settle.Memory error) = Memory error

abbrev pub of_split : SplitFault → GroupFault
of_split split.Wide = Wide
of_split (split.Memory error) = Memory error
