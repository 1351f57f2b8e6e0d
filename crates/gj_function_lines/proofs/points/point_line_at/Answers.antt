use Rattle.std.proofs.Common.{inl}
use Rattle.gj_forms.proofs.PartLaws.{line_refused}
use Rattle.gj_function_lines.specs.FunctionGrammar.{point_rule}
use Rattle.gj_function_lines.proofs.points.point_line_at.Goals as goal

pub returns-in-Err-clause-fault : goal.returns-in-Err-clause-fault
returns-in-Err-clause-fault c = λ points.
    line_refused c.args.spelling (point_rule c.args.spelling points) _ _ _ _ _ _
    c.in_ok-line.ensures.found
    (inl c.in-Err.ensures.broken) c.at.ensures
