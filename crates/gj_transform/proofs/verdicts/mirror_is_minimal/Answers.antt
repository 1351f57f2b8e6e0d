use Rattle.gj_transform.proofs.MirrorTables.{mirror_back, mirror_minimal, mirror_extreme}
use Rattle.gj_transform.proofs.verdicts.mirror_is_minimal.Goals as goal

pub returns-clause-minimal : goal.returns-clause-minimal
returns-clause-minimal c =
    λ f g l h r. (mirror_minimal f g l r, mirror_minimal g f h (mirror_back f g r))

pub returns-clause-extreme : goal.returns-clause-extreme
returns-clause-extreme c =
    λ f g l h r. (mirror_extreme f g l h r, mirror_extreme g f h l (mirror_back f g r))

pub returns-clause-symmetric : goal.returns-clause-symmetric
returns-clause-symmetric c = mirror_back
