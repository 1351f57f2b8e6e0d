use Rattle.gj_shape.specs.FunctionData.{FunctionData}
use Rattle.gj_jumps.specs.LimitCover.{IsTightAt}
use Rattle.gj_limit_faces_text.proofs.OneFacesText.{one_limit_faces_text}
use Rattle.gj_limit_faces_text.proofs.OneLimitCover.{one_limit_cover}
use Rattle.gj_limit_faces_text.proofs.laws.one_text_of_faces.Goals as goal

pub returns-clause-lines : goal.returns-clause-lines
returns-clause-lines c = λ (f : FunctionData) a b h k. one_limit_cover f.order (IsTightAt f) a b h k

pub returns-clause-text : goal.returns-clause-text
returns-clause-text c = one_limit_faces_text
