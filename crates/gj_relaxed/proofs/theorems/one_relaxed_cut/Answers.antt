use Rattle.gj_relaxed.proofs.OneRelaxedCut.{one_gmic_relaxed_cut, one_function_relaxed_cut, one_gmic_relaxed_answer, one_function_relaxed_answer}
use Rattle.gj_relaxed.proofs.theorems.one_relaxed_cut.Goals as goal

pub returns-clause-by_gmic : goal.returns-clause-by_gmic
returns-clause-by_gmic c = one_gmic_relaxed_cut

pub returns-clause-by_function : goal.returns-clause-by_function
returns-clause-by_function c = one_function_relaxed_cut

pub returns-clause-answer_by_gmic : goal.returns-clause-answer_by_gmic
returns-clause-answer_by_gmic c = one_gmic_relaxed_answer

pub returns-clause-answer_by_function : goal.returns-clause-answer_by_function
returns-clause-answer_by_function c = one_function_relaxed_answer
