use Rattle.std.proofs.lemmas.Int.{to_z-of_z, fits_signed_from_abs}
use mir.Syntax.{w128}
use Rattle.gj_frac.proofs.parts.product.Goals as goal

pub overflow_mul-result : goal.overflow_mul-result
overflow_mul-result c =
    simp (to_z-of_z w128 c.args.n c.ranges.n, to_z-of_z w128 c.args.m c.ranges.m)
    (fits_signed_from_abs w128 _ c.requires)
