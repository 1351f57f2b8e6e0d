use Rattle.gj_proof.specs.ProofText.{IsProofText}
use Rattle.gj_top.specs.Extreme.{IsDecisionText}
use Rattle.gj_top.proofs.OneReport.{told}
use Rattle.gj_top.proofs.extreme.verdict_on.Goals as goal

pub jump_text-requires : goal.jump_text-requires
jump_text-requires c =
    (c.in-Err-NotContinuous.ensures.not_continuous c.in-Err-NotContinuous.index
    (cc (c.in-Err-NotContinuous.field-0-is))).1

pub returns-in_ok-proof_text-in-Ok : goal.returns-in_ok-proof_text-in-Ok
returns-in_ok-proof_text-in-Ok c =
    told c.args.json (IsProofText c.in-Ok.proof) (IsDecisionText c.args.shape.now)
    (λ text spelled. record {
      claim = c.in-Ok.proof;
      decided = c.in-Ok.ensures.decided;
      rules = c.in-Ok.ensures.rules;
      holds = c.in-Ok.ensures.holds;
      spelled = spelled;
    })
    c.in_ok-proof_text-in-Ok.field-0.items c.in_ok-proof_text-in-Ok.ensures

pub returns-in_ok-jump_text-in-Err-NotContinuous : goal.returns-in_ok-jump_text-in-Err-NotContinuous
returns-in_ok-jump_text-in-Err-NotContinuous c = (
  (c.in-Err-NotContinuous.ensures.not_continuous c.in-Err-NotContinuous.index
      (cc (c.in-Err-NotContinuous.field-0-is))).0,
  c.in_ok-jump_text-in-Err-NotContinuous.ensures,
)

pub returns-in_ok-wide_text-in-Err-Wide : goal.returns-in_ok-wide_text-in-Err-Wide
returns-in_ok-wide_text-in-Err-Wide c =
    let wide = c.in-Err-Wide.ensures.wide (cc (c.in-Err-Wide.field-0-is)) in
    (wide.0, wide.1, wide.2, c.in_ok-wide_text-in-Err-Wide.ensures)
