use Rattle.gj_fill.proofs.FillIns.{lesser, at_place, filled_period, filled_finer}
use Rattle.gj_fill.proofs.laws.fill_in_is_one_function.Goals as goal

pub returns-clause-lesser : goal.returns-clause-lesser
returns-clause-lesser c = lesser

pub returns-clause-value : goal.returns-clause-value
returns-clause-value c = at_place

pub returns-clause-period : goal.returns-clause-period
returns-clause-period c = filled_period

pub returns-clause-finer : goal.returns-clause-finer
returns-clause-finer c = filled_finer
