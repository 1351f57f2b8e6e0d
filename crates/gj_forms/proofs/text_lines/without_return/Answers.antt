use Rattle.gj_forms.proofs.LenientLines.{return_dropped}
use Rattle.gj_forms.proofs.text_lines.without_return.Goals as goal

pub returns-in-Some-eq13-default : goal.returns-in-Some-eq13-default
returns-in-Some-eq13-default c =
    let last = c.in-Some-eq13-default.ensures.cases.0 in
    return_dropped c.args.line.now c.in-Some-eq13-default.front.now _ last
    c.in-Some-eq13-default.field-0-0-test
