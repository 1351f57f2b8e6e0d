use Rattle.std.proofs.Common.{◌∷◌, ap, ◌∙◌}
use Rattle.gj_lex.specs.Words.{word_texts}
use Rattle.gj_problem_text.specs.ProblemLines.{sense_word}
use Rattle.gj_problem_text.proofs.lines.constraint_words.Goals as goal

pub returns-clause-found : goal.returns-clause-found
returns-clause-found c =
    c.in_ok-name.ensures.found
    ∙ ap (λ ws. c.in_ok-name.name.now ∷ ws) (c.in_ok-word.ensures.found
    ∙ ap (λ w. w ∷ word_texts c.in_ok-word.rest.now) c.in_ok-sense.ensures.found
    ∙ ap (λ ws. sense_word c.in_ok-sense.sense ∷ ws) c.in_ok-right.ensures.found)
