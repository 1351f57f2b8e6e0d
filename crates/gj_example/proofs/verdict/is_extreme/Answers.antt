use Rattle.std.proofs.Common.{◌∙◌, sym, subst, refl, rules}
use Rattle.gj_example.proofs.Said.{SaysExtreme, extreme_if_said, said_if_extreme, no_extreme_claim, same_fault}
use Rattle.gj_example.proofs.verdict.is_extreme.Goals as goal

pub returns-in-Extreme-clause-answer : goal.returns-in-Extreme-clause-answer
returns-in-Extreme-clause-answer c =
    let e = sym c.claim.ensures.claim ∙ c.in-Extreme.is in (
      λ told. extreme_if_said _ _ c.in_ok-proof.ensures.decided c.in_ok-proof.ensures.holds
          (subst SaysExtreme (sym e) tt),
      λ extreme. refl,
    )

pub returns-in-ExtremeByResidues-clause-answer : goal.returns-in-ExtremeByResidues-clause-answer
returns-in-ExtremeByResidues-clause-answer c =
    let e = sym c.claim.ensures.claim ∙ c.in-ExtremeByResidues.is in (
      λ told. extreme_if_said _ _ c.in_ok-proof.ensures.decided c.in_ok-proof.ensures.holds
          (subst SaysExtreme (sym e) tt),
      λ extreme. refl,
    )

pub returns-clause-answer : goal.returns-clause-answer
returns-clause-answer c = (
  λ told. search rules,
  λ extreme. absurd
      (no_extreme_claim _ (λ g lines rows e. c.in_default.not-Extreme g lines rows
      (c.claim.ensures.claim ∙ e))
      (λ g lines rows e. c.in_default.not-ExtremeByResidues g lines rows
      (c.claim.ensures.claim ∙ e))
      (said_if_extreme _ _ c.in_ok-proof.ensures.decided c.in_ok-proof.ensures.bounded
      c.in_ok-proof.ensures.holds
      c.in_ok-proof.ensures.by_table extreme)),
)

pub returns-in_err-proof-clause-not_continuous : goal.returns-in_err-proof-clause-not_continuous
returns-in_err-proof-clause-not_continuous c = λ i e.
    c.in_err-proof.ensures.not_continuous i
    (same_fault c.from_residual.result c.in_err-proof.field-0.0 _ c.from_residual.ensures.0
    c.from_residual.ensures.1 e)

pub returns-in_err-proof-clause-wide : goal.returns-in_err-proof-clause-wide
returns-in_err-proof-clause-wide c = λ e.
    c.in_err-proof.ensures.wide
    (same_fault c.from_residual.result c.in_err-proof.field-0.0 _ c.from_residual.ensures.0
    c.from_residual.ensures.1 e)
