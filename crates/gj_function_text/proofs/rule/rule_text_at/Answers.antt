use Rattle.std.proofs.lemmas.Result.{err_from_is_err_and}
use Rattle.gj_function_text.proofs.RuleTexts.{fault_in_name, fault_in_last}
use Rattle.gj_function_text.proofs.rule.rule_text_at.Goals as goal

pub returns-in_err-rest-2-clause-passed : goal.returns-in_err-rest-2-clause-passed
returns-in_err-rest-2-clause-passed c =
    let p = err_from_is_err_and c.from_residual-in_err-rest-2.result
    c.from_residual-in_err-rest-2.ensures.1 in
    rw (p.1, p.2)
    (fault_in_name _ _ _ c.in_ok-rest.ensures.passed c.in_err-rest-2.ensures.passed)

pub returns-in_err-rest-3-clause-passed : goal.returns-in_err-rest-3-clause-passed
returns-in_err-rest-3-clause-passed c =
    let p = err_from_is_err_and c.from_residual-in_err-rest-3.result
    c.from_residual-in_err-rest-3.ensures.1 in
    rw (p.1, p.2)
    (fault_in_last _ _ _ _ c.in_ok-rest.ensures.passed c.in_ok-rest-2.ensures.passed
    c.in_err-rest-3.ensures.passed)
