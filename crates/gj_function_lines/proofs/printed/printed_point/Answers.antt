use Rattle.std.proofs.Common.{codes, ap, ◌∙◌, ◌++◌}
use Rattle.gj_function_lines.proofs.PrintedPoints.{even_printed}
use Rattle.gj_function_lines.proofs.printed.printed_point.Goals as goal

pub returns-in-Some : goal.returns-in-Some
returns-in-Some c = even_printed _ _ _ _ c.in_ok-first.first c.in_ok-behind_text.ensures.found
    c.in_ok-first.ensures.found c.in-Some.ensures.found

pub returns-in-None : goal.returns-in-None
returns-in-None c = rw (c.in_ok-behind_text.ensures.found
    ∙ ap (λ t. codes "point " ++ t) c.in_ok-first.ensures.found) c.printed_jump.ensures
