use Rattle.std.proofs.Common.{◌∷◌, refl, ap, ◌∙◌}
use Rattle.gj_function_lines.proofs.points.fractions_in.Goals as goal

pub returns-clause-found : goal.returns-clause-found
returns-clause-found c =
    c.in_ok-first.ensures.found
    ∙ ap (λ ws. c.in_ok-first.first.now ∷ ws) (c.in-Some.ensures.found
    ∙ ap (λ ws. c.in-Some.second.now ∷ ws) (c.in_ok-third.ensures.found
    ∙ ap (λ ws. c.in_ok-third.third.now ∷ ws) (c.if-not-has_no_word.ensures.0 refl)))
