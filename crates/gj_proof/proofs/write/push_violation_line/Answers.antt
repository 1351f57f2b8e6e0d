use Rattle.gj_proof.proofs.ProofWritten.{points_pushed}
use Rattle.gj_proof.proofs.write.push_violation_line.Goals as goal

pub returns-in_ok-push-in-Superadditive-2 : goal.returns-in_ok-push-in-Superadditive-2
returns-in_ok-push-in-Superadditive-2 c =
    points_pushed _ _ _ _ _ _ _ _ _ c.in-Superadditive.is
    c.in_ok-extend_from_slice-in-Superadditive.ensures.items
    c.in_ok-print_frac-in-Superadditive.ensures.ok c.in_ok-push-in-Superadditive.ensures.items
    c.in_ok-print_frac-in-Superadditive-2.ensures.ok c.in_ok-push-in-Superadditive-2.ensures.items
