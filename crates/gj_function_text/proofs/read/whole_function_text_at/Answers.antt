use Rattle.std.proofs.lemmas.Result.{err_from_is_err_and}
use Rattle.gj_lex.specs.declared.spelling.Spelling.TheVariants.{Lenient}
use Rattle.gj_forms.specs.Parts.{IsFaultOf, end_part}
use Rattle.gj_forms.proofs.PartLaws.{passed_on, fault_in_first, fault_in_next, tail_refused}
use Rattle.gj_function_text.specs.FunctionText.{function_text, whole_function_text}
use Rattle.gj_function_text.proofs.FunctionTexts.{whole_text}
use Rattle.gj_function_text.proofs.read.whole_function_text_at.Goals as goal

pub returns-clause-found : goal.returns-clause-found
returns-clause-found c =
    whole_text c.args.text.now c.in_ok-shape.rest.now c.in_ok-shape.shape
    c.in_ok-shape.ensures c.in_ok-end_at.ensures.ended

pub returns-in_err-shape-clause-fault : goal.returns-in_err-shape-clause-fault
returns-in_err-shape-clause-fault c =
    let p = err_from_is_err_and c.from_residual.result c.from_residual.ensures.1 in
    passed_on (IsFaultOf whole_function_text c.args.text.now) _ _ _ p.1 p.2
    (fault_in_first function_text (λ f. end_part Lenient f) c.args.text.now _
    c.in_err-shape.ensures)

pub returns-in_err-end_at-clause-fault : goal.returns-in_err-end_at-clause-fault
returns-in_err-end_at-clause-fault c =
    let p = err_from_is_err_and c.from_residual-in_err-end_at.result
    c.from_residual-in_err-end_at.ensures.1 in
    passed_on (IsFaultOf whole_function_text c.args.text.now) _ _ _ p.1 p.2
    (fault_in_next function_text (λ f. end_part Lenient f) c.args.text.now c.in_ok-shape.shape
    c.in_ok-shape.rest.now _ c.in_ok-shape.ensures
    (tail_refused Lenient c.in_ok-shape.shape c.in_ok-shape.rest.now _
    c.in_err-end_at.ensures.fault))
