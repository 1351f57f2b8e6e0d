use Rattle.gj_group.proofs.GroupSolutions.{perturbation_from_rows, rows_from_perturbation, rows_from_minimal, zero_from_extreme, extreme_from_zero, function_zero, function_extreme, own_perturbation}
use Rattle.gj_group.proofs.tables.group_rows_decide_tables.Goals as goal

pub returns-clause-solved : goal.returns-clause-solved
returns-clause-solved c = λ t n k w some low period len. (
  perturbation_from_rows t n k w some low period len,
  λ h. rows_from_perturbation t n k w some low len h.0 h.1,
)

pub returns-clause-perturbation : goal.returns-clause-perturbation
returns-clause-perturbation c = λ t n k s w some low minimal len. (
  λ solved. (perturbation_from_rows t n k w some low minimal.has_period len solved).1,
  rows_from_minimal t n k s w some low minimal len,
)

pub returns-clause-extreme : goal.returns-clause-extreme
returns-clause-extreme c =
    λ t n k s some low minimal.
    (zero_from_extreme t n k s some low, extreme_from_zero t n k s some low minimal)

pub returns-clause-function : goal.returns-clause-function
returns-clause-function c = λ f l minimal. (function_zero f l, function_extreme f l minimal)

pub returns-clause-own_grid : goal.returns-clause-own_grid
returns-clause-own_grid c = own_perturbation
