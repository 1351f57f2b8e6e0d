use Rattle.std.proofs.Common.{arith}
use Rattle.gj_complex.proofs.WalkLemmas.{from_first}
use Rattle.gj_complex.proofs.face_walk.FaceWalk.of_order.Goals as goal

pub returns : goal.returns
returns c = from_first c.args.q (omega arith)
