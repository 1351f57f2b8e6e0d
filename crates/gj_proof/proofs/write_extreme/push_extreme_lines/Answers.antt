use Rattle.gj_proof.proofs.ExtremeWritten.{extreme_pushed}
use Rattle.gj_proof.proofs.write_extreme.push_extreme_lines.Goals as goal

pub returns : goal.returns
returns c =
    extreme_pushed c.push_groups.result c.args.numbers _ _ _ _ _ _ c.in_ok-push_cover_lines.ensures
    c.in_ok-push_modulus.ensures
    c.push_groups.ensures
