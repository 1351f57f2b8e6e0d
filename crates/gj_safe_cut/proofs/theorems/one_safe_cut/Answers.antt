use Rattle.gj_safe_cut.proofs.OneCut.{one_gmic_cut, one_function_cut, one_gmic_answer, one_function_answer}
use Rattle.gj_safe_cut.proofs.theorems.one_safe_cut.Goals as goal

pub returns-clause-by_gmic : goal.returns-clause-by_gmic
returns-clause-by_gmic c = one_gmic_cut

pub returns-clause-by_function : goal.returns-clause-by_function
returns-clause-by_function c = one_function_cut

pub returns-clause-answer_by_gmic : goal.returns-clause-answer_by_gmic
returns-clause-answer_by_gmic c = one_gmic_answer

pub returns-clause-answer_by_function : goal.returns-clause-answer_by_function
returns-clause-answer_by_function c = one_function_answer
