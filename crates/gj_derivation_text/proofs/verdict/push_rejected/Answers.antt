use Rattle.std.proofs.Common.{ℕ, List, ◌++◌, ◌∷◌, codes, decimal, ap, ◌∙◌}
use Rattle.gj_derivation_text.specs.VerdictLines.{cause_fields}
use Rattle.gj_derivation_text.proofs.PrintedSteps.{rejected_is, three}
use Rattle.gj_derivation_text.proofs.verdict.push_rejected.Goals as goal

pub returns : goal.returns
returns c =
    three _ _ _ _ (codes "rejected line")
    (32 ∷ decimal c.args.at_line) _ _ c.in_ok-extend_from_slice.ensures.items
    (c.in_ok-push.ensures ∙ ap (λ (w : List ℕ). c.extend_from_slice.new.self.items ++ 32 ∷ w)
    (c.as_bytes.ensures.value ∙ c.format.ensures.text))
    c.in_ok-push_cause.ensures
    (rejected_is c.args.at_line
    (cause_fields c.args.columns.now c.args.lines.now c.args.verdict))
