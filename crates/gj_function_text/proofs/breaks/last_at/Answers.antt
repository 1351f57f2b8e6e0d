use Rattle.std.proofs.Common.{inl, refl}
use Rattle.std.proofs.lemmas.Bool.{false≢true}
use Rattle.gj_lex.specs.declared.spelling.Spelling.TheVariants.{Lenient}
use Rattle.gj_forms.proofs.PartLaws.{line_refused}
use Rattle.gj_function_text.specs.BreaksText.{end_rule}
use Rattle.gj_function_text.proofs.BreaksRead.{end_refused}
use Rattle.gj_function_text.proofs.breaks.last_at.Goals as goal

pub returns-then-not-has_words : goal.returns-then-not-has_words
returns-then-not-has_words c =
    line_refused Lenient (end_rule c.args.breaks.now) _ _ _ _ _ _ c.in_ok-line.ensures.found
    (inl (refl, λ is. false≢true (c.if-not-has_words.ensures.1 is))) c.at.ensures

pub returns-in-Err : goal.returns-in-Err
returns-in-Err c =
    rw c.end_refusal.ensures
    (end_refused _ _ _ _ c.args.breaks.now _ c.in_ok-line.ensures.found
    (c.if-not-has_words.ensures.0 refl) c.in-Err.ensures.fault)
