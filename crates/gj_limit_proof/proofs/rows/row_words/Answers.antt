use Rattle.std.proofs.Common.{◌≡◌, [], ◌∷◌, codes, refl, ap, ◌∙◌}
use Rattle.gj_lex.specs.Words.{word_texts}
use Rattle.gj_limit_proof.proofs.BrokenRows.{no_sides}
use Rattle.gj_limit_proof.proofs.rows.row_words.Goals as goal

pub returns-in_err-kind-clause-none : goal.returns-in_err-kind-clause-none
returns-in_err-kind-clause-none c =
    let words = c.in_ok-words.words in
    let none : word_texts c.in_ok-words.rest.now ≡ [] = c.if-not-has_no_word.ensures.0 refl in
    let all : word_texts c.args.line.now ≡ codes "row" ∷ words.first.now ∷ words.second.now
    ∷ words.third.now ∷ [] =
    c.in_ok-behind_name.ensures.found ∙ ap (λ ws. codes "row" ∷ ws) c.in_ok-words.ensures.found
    ∙ ap (λ ws. codes "row" ∷ words.first.now ∷ words.second.now ∷ words.third.now ∷ ws) none in
    rw c.from_residual-in_err-kind.ensures (no_sides _ _ _ _ all c.in_err-kind.ensures.none)
