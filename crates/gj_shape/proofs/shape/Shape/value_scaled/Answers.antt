use Rattle.std.proofs.Common.{◌≡◌, unsigned_abs, to_z, of_z, ap, subst₂, ◌∙◌, rules}
use Rattle.std.proofs.lemmas.Int.{to_z-of_z}
use Rattle.gj_frac.specs.Fraction.{numerator, denominator}
use Rattle.gj_shape.specs.Values.{IsValueAt}
use Rattle.gj_shape.proofs.shape.Shape.value_scaled.Goals as goal
use mir.Syntax.{w128}

pub returns : goal.returns
returns c =
    let top : to_z w128 (of_z w128 c.num.result) ≡ numerator c.args.z =
    to_z-of_z w128 c.num.result (search rules) ∙ c.num.ensures in
    let bottom : to_z w128 (of_z w128 c.den.result) ≡ denominator c.args.z =
    to_z-of_z w128 c.den.result (search rules) ∙ c.den.ensures in
    subst₂ (λ n d. IsValueAt c.args.self.now n d c.value_on_grid.result) top
    (ap unsigned_abs bottom) c.value_on_grid.ensures
