use Rattle.gj_theory.proofs.ValidTables.{function_minimal, function_only_minimal, function_extreme, function_only_extreme}
use Rattle.gj_theory.proofs.valid.functions_among_valid.Goals as goal

pub returns-clause-minimal : goal.returns-clause-minimal
returns-clause-minimal c = function_minimal

pub returns-clause-only_minimal : goal.returns-clause-only_minimal
returns-clause-only_minimal c = function_only_minimal

pub returns-clause-extreme : goal.returns-clause-extreme
returns-clause-extreme c = function_extreme

pub returns-clause-only_extreme : goal.returns-clause-only_extreme
returns-clause-only_extreme c = function_only_extreme
