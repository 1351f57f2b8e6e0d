use Rattle.gj_top.proofs.Accepted.{accepted, accepted_reply, written_is_good, written_is_short}
use Rattle.gj_top.proofs.laws.written_proofs_are_accepted.Goals as goal

pub returns-clause-reply : goal.returns-clause-reply
returns-clause-reply c = λ input text answer e written. accepted_reply text answer e
    (written_is_good input text written)

pub returns-clause-answer : goal.returns-clause-answer
returns-clause-answer c = λ input text answer s written short. accepted text answer s short
    (written_is_good input text written)

pub returns-clause-short : goal.returns-clause-short
returns-clause-short c = written_is_short
