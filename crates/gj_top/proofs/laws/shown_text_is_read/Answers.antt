use Rattle.gj_top.proofs.Shown.{shown_is_read, shown_again, shown_again_reply}
use Rattle.gj_top.proofs.laws.shown_text_is_read.Goals as goal

pub returns-clause-read : goal.returns-clause-read
returns-clause-read c = shown_is_read

pub returns-clause-answer : goal.returns-clause-answer
returns-clause-answer c = shown_again

pub returns-clause-reply : goal.returns-clause-reply
returns-clause-reply c = shown_again_reply
