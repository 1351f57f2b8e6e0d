use Rattle.std.proofs.Common.{◌+◌, ◌∙◌, ap, subst, drop, length}
use Rattle.memchr.specs.Find.{is_byte}
use Rattle.memchr.proofs.lemmas.CallerLemmas.{length-places}
use Rattle.gj_forms.specs.TextLines.{IsLineNumber}
use Rattle.gj_forms.proofs.LineNumbers.{number_of_cut}
use Rattle.gj_forms.proofs.text_lines.line_number.Goals as goal

pub returns : goal.returns
returns c =
    let text = c.args.text.now in
    subst (λ k. IsLineNumber text (drop k text) (c.count.result + 1)) c.saturating_sub.ensures
    (number_of_cut text _ _
    (ap (λ n. n + 1) (c.count.ensures ∙ ap length c.memchr_iter.ensures.value
    ∙ length-places (is_byte 10) _)))
