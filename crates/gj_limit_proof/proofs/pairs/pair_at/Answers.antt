use Rattle.gj_limit_proof.proofs.PairForms.{pair_is_read}
use Rattle.gj_limit_proof.proofs.pairs.pair_at.Goals as goal

pub returns-in-Some : goal.returns-in-Some
returns-in-Some c =
    let printed = c.in-Some.ensures in
    rw printed.0 (pair_is_read c.in-Some.pair _ (printed.1, printed.2))
