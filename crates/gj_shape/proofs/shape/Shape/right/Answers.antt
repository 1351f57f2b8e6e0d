use Rattle.std.proofs.Common.{◌≡◌, pos, w64, to_z, of_z, subst, ◌∙◌, rules}
use Rattle.std.proofs.lemmas.Int.{to_z-of_z}
use Rattle.gj_frac.specs.Fraction.{IsRatio}
use Rattle.gj_shape.specs.FunctionData.{FunctionData, at}
use Rattle.gj_shape.proofs.shape.Shape.right.Goals as goal

pub returns : goal.returns
returns c =
    let f = c.args.self.now in
    let read : to_z w64 (of_z w64 c.right_numerator.result) ≡ at f.right c.args.i =
    to_z-of_z w64 c.right_numerator.result (search rules) ∙ c.right_numerator.ensures.value in
    let over = subst (λ n. IsRatio c.ratio.result n (pos c.self.inside.scale)) read
    c.ratio.ensures in
    subst (λ (g : FunctionData). IsRatio c.ratio.result (at f.right c.args.i) (pos g.scale))
    c.self.view_is over
