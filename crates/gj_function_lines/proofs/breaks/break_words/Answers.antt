use Rattle.std.proofs.Common.{◌∷◌, codes, ap, ◌∙◌}
use Rattle.gj_function_lines.proofs.breaks.break_words.Goals as goal

pub returns-clause-found : goal.returns-clause-found
returns-clause-found c =
    c.in_ok-behind_name.ensures.found
    ∙ ap (λ ws. codes "point" ∷ ws) (c.in_ok-place.ensures.found
    ∙ ap (λ ws. c.in_ok-place.place.now ∷ ws) c.in_ok-fractions_in.ensures.found)
