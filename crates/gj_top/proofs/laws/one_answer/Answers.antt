use Rattle.std.proofs.Common.{refl}
use Rattle.gj_top.specs.declared.reply.End.TheVariants as end
use Rattle.gj_top.specs.declared.status.Status.TheVariants.{Done}
use Rattle.gj_top.specs.Command.{task_for}
use Rattle.gj_top.proofs.Clauses.{ended_reply}
use Rattle.gj_top.proofs.Commands.{one_named}
use Rattle.gj_top.proofs.OneAnswer.{one_status, one_text}
use Rattle.gj_top.proofs.laws.one_answer.Goals as goal

pub returns-clause-request : goal.returns-clause-request
returns-clause-request c = one_named

pub returns-clause-status : goal.returns-clause-status
returns-clause-status c = one_status

pub returns-clause-text : goal.returns-clause-text
returns-clause-text c = one_text

pub returns-clause-done : goal.returns-clause-done
returns-clause-done c = λ r input text. ended_reply (task_for r) input text Done end.Done refl
