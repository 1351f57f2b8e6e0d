use Rattle.std.proofs.Common.{◌∙◌, rules}
use Rattle.std.proofs.lemmas.Int.{to_z-of_z, fits_signed_from_abs}
use Rattle.gj_loops.proofs.narrow.product.Goals as goal
use mir.Syntax.{w64, w128}

pub returns-then-is_narrow-2 : goal.returns-then-is_narrow-2
returns-then-is_narrow-2 c =
    let n = to_z-of_z w128 c.args.n c.ranges.n in
    let m = to_z-of_z w128 c.args.m c.ranges.m in
    let n_small = fits_signed_from_abs w64 c.args.n
    (simp n at (c.is_narrow.ensures.0 c.if-is_narrow.true)) in
    let m_small = fits_signed_from_abs w64 c.args.m
    (simp m at (c.is_narrow-then-is_narrow.ensures.0 c.if-is_narrow-2.true)) in
    let n' = to_z-of_z w64 c.args.n n_small in
    let m' = to_z-of_z w64 c.args.m m_small in
    let result = to_z-of_z w128 c.narrow_product.result (search rules) in (
      simp (n, m, n', m') at c.narrow_product.ensures.fits,
      result
          ∙ (simp (n, m, n', m') at c.narrow_product.ensures.value),
    )
