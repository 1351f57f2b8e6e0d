use Rattle.std.proofs.Common.{refl, sym, subst}
use Rattle.gj_forms.specs.TextLines.{IsSkipped}
use Rattle.gj_forms.proofs.LineWords.{no_words, skipped_by_first}
use Rattle.gj_forms.proofs.text_lines.is_skipped.Goals as goal

pub returns-in-Some : goal.returns-in-Some
returns-in-Some c = skipped_by_first c.args.bytes.now c.in-Some.place (sym c.in-Some.ensures)

pub returns-in-None : goal.returns-in-None
returns-in-None c =
    (λ h. subst IsSkipped (sym (no_words c.args.bytes.now (sym c.in-None.ensures))) tt, λ h. refl)
