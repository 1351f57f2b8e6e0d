use Rattle.std.proofs.Common.{rules, ◌≡◌, ◌*ℤ◌, unsigned_abs, refl, ap, ◌∙◌, sym, arith}
use Rattle.std.proofs.lemmas.Int.{to_z-of_z}
use Rattle.gj_lemmas.proofs.Integers.{mul_some_z}
use Rattle.gj_rule.proofs.ClosedForm.{reads_as}
use Rattle.gj_rule.proofs.evaluators.quotient.Goals as goal
use mir.Syntax.{w128}

pub reduced-requires-clause-zero : goal.reduced-requires-clause-zero
reduced-requires-clause-zero c none =
    let d = to_z-of_z w128 c.args.d c.ranges.d in
    let m = to_z-of_z w128 c.args.m c.ranges.m in
    let is : c.product-2.result ≡ c.args.d *ℤ c.args.m = simp (d, m) at c.product-2.ensures.value in
    let read = to_z-of_z w128 c.product-2.result (search rules) in
    mul_some_z c.args.d c.args.m c.requires.d_some c.requires.m_some
    (ap unsigned_abs (sym (read ∙ is)) ∙ none)

pub reduced-requires-clause-num_fits : goal.reduced-requires-clause-num_fits
reduced-requires-clause-num_fits c =
    let size = c.product.ensures.fits in
    rw (reads_as c.product.result c.product.result refl (omega arith)) (omega arith)

pub reduced-requires-clause-den_fits : goal.reduced-requires-clause-den_fits
reduced-requires-clause-den_fits c =
    let size = c.product-2.ensures.fits in
    rw (reads_as c.product-2.result c.product-2.result refl (omega arith)) (omega arith)
