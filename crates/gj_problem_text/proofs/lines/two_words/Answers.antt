use Rattle.std.proofs.Common.{◌∷◌, ap, ◌∙◌}
use Rattle.gj_problem_text.proofs.lines.two_words.Goals as goal

pub returns-clause-found : goal.returns-clause-found
returns-clause-found c =
    c.in_ok-first.ensures.found
    ∙ ap (λ ws. c.in_ok-first.first.now ∷ ws) c.in_ok-second.ensures.found
