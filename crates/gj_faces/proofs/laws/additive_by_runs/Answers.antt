use Rattle.gj_shape.specs.Additive.{IsTight}
use Rattle.gj_faces.proofs.ByRuns.{additive_by_tight}
use Rattle.gj_faces.proofs.laws.additive_by_runs.Goals as goal

pub returns : goal.returns
returns c = λ q runs f. additive_by_tight q runs (IsTight f)
