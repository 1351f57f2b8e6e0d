use Rattle.gj_row.proofs.NumberFields.{number_alone, number_first}
use Rattle.gj_row.proofs.numbers.first_ratio.Goals as goal

pub returns-in-None : goal.returns-in-None
returns-in-None c = number_alone c.args.line.now c.in_ok-x.rest.now c.in_ok-x.x
    c.in_ok-x.ensures.found c.in-None.ensures.cases

pub returns-in-Some-eq44-default : goal.returns-in-Some-eq44-default
returns-in-Some-eq44-default c =
    number_first c.args.line.now c.in_ok-x.rest.now _ _ c.in_ok-x.x c.in_ok-x.ensures.found
    c.in-Some-eq44-default.ensures.cases.0
    c.in-Some-eq44-default.field-0-0-test
