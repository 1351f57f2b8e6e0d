use Rattle.std.proofs.Common.{◌∷◌, ap, ◌∙◌}
use Rattle.gj_lex.specs.Words.{word_texts}
use Rattle.gj_problem_text.specs.ProblemLines.{kind_word}
use Rattle.gj_problem_text.proofs.lines.column_words.Goals as goal

pub returns-clause-found : goal.returns-clause-found
returns-clause-found c =
    c.in_ok-name.ensures.found
    ∙ ap (λ ws. c.in_ok-name.name.now ∷ ws) (c.in_ok-kind.ensures.found
    ∙ ap (λ w. w ∷ word_texts c.in_ok-kind.rest.now) c.in_ok-is_whole.ensures.found
    ∙ ap (λ ws. kind_word c.in_ok-is_whole.is_whole ∷ ws) (c.in_ok-lower.ensures.found
    ∙ ap (λ ws. c.in_ok-lower.lower.now ∷ ws) c.in_ok-upper.ensures.found))
