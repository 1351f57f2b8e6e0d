use Rattle.gj_theory.proofs.ValidTables.{zero_dominated, pair_dominated, asymmetry_dominated, minimal_or_dominated, neither}
use Rattle.gj_theory.proofs.valid.broken_rules_are_dominated.Goals as goal

pub returns-clause-zero : goal.returns-clause-zero
returns-clause-zero c = zero_dominated

pub returns-clause-subadditivity : goal.returns-clause-subadditivity
returns-clause-subadditivity c = pair_dominated

pub returns-clause-symmetry : goal.returns-clause-symmetry
returns-clause-symmetry c = asymmetry_dominated

pub returns-clause-each : goal.returns-clause-each
returns-clause-each c = minimal_or_dominated

pub returns-clause-neither : goal.returns-clause-neither
returns-clause-neither c = neither
