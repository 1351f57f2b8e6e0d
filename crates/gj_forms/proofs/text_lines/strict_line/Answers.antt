use Rattle.std.proofs.Common.{refl, sym, ◌∙◌, ◌+◌, ◌++◌, ◌∷◌, ap, take}
use Rattle.std.proofs.lemmas.Bool.{false≢true}
use Rattle.std.proofs.lemmas.List.{take_rest}
use Rattle.gj_forms.proofs.LenientLines.{cut_at_feed}
use Rattle.gj_forms.proofs.StrictLines.{none_without_feed, none_in_line, strict_found}
use Rattle.gj_forms.proofs.text_lines.strict_line.Goals as goal

pub returns-in_err-end-clause-none : goal.returns-in_err-end-clause-none
returns-in_err-end-clause-none c =
    rw c.from_residual.ensures (none_without_feed c.args.text.now (sym c.in_err-end.ensures))

pub returns-then-not-is_strict-clause-none : goal.returns-then-not-is_strict-clause-none
returns-then-not-is_strict-clause-none c =
    let text = c.args.text.now in
    let end = c.in_ok-end.end in
    let cut = cut_at_feed text end (sym c.in_ok-end.ensures) in
    none_in_line text (take end text) _ cut.0 cut.1
    (λ h. false≢true (c.if-not-is_strict.ensures.1 h))

pub returns-clause-found : goal.returns-clause-found
returns-clause-found c =
    let text = c.args.text.now in
    let end = c.in_ok-end.end in
    let cut = cut_at_feed text end (sym c.in_ok-end.ensures) in
    let strict = c.if-not-is_strict.ensures.0 refl in (
      refl,
      strict_found text (take end text) _
          (cut.1 ∙ ap (λ t. take end text ++ 10 ∷ t) (sym (take_rest text (end + 1)))) strict.0
          strict.1,
    )
