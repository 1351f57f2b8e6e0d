use Rattle.std.proofs.Common.{inl, refl}
use Rattle.std.proofs.lemmas.Bool.{false≢true}
use Rattle.gj_lex.specs.Words.{word_texts}
use Rattle.gj_limit_proof.proofs.read.behind_title.Goals as goal

pub returns-then-not-has_words : goal.returns-then-not-has_words
returns-then-not-has_words c =
    let line = c.in_ok-line.line in
    rw c.at.ensures (
      line.start.now,
      refl,
      inl (
        word_texts line.bytes.now,
        line.rest.now,
        c.in_ok-line.ensures.found,
        inl (refl, λ (t, is, u). false≢true (c.if-not-has_words.ensures.1 is)),
      ),
    )
