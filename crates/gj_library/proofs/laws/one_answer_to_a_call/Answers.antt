use Rattle.gj_library.proofs.OneCall.{one_status_of_call, one_text_of_call, second_has_room}
use Rattle.gj_library.proofs.laws.one_answer_to_a_call.Goals as goal

pub returns-clause-status : goal.returns-clause-status
returns-clause-status c = one_status_of_call

pub returns-clause-text : goal.returns-clause-text
returns-clause-text c = one_text_of_call

pub returns-clause-room : goal.returns-clause-room
returns-clause-room c = second_has_room
