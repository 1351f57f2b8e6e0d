use Rattle.gj_top.proofs.Accepted.{accepted, accepted_reply}
use Rattle.gj_top.proofs.DerivedAccepted.{derived_is_good}
use Rattle.gj_top.proofs.laws.derived_texts_are_accepted.Goals as goal

pub returns-clause-reply : goal.returns-clause-reply
returns-clause-reply c = λ input text answer e derived. accepted_reply text answer e
    (derived_is_good input text derived)

pub returns-clause-answer : goal.returns-clause-answer
returns-clause-answer c = λ input text answer s derived short. accepted text answer s short
    (derived_is_good input text derived)
