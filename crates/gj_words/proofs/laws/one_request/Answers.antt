use Rattle.gj_words.proofs.Spelling.{one}
use Rattle.gj_words.proofs.laws.one_request.Goals as goal

pub returns : goal.returns
returns c = one
