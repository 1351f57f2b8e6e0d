use Rattle.std.proofs.Common.{◌≡◌, pos, w64, to_z, of_z, subst, ◌∙◌, rules}
use Rattle.std.proofs.lemmas.Int.{to_z-of_z}
use Rattle.gj_frac.specs.Fraction.{IsRatio}
use Rattle.gj_shape.specs.FunctionData.{FunctionData, IsWithinBounds}
use Rattle.gj_shape.proofs.InsideFractions.{inside_from_ratio}
use Rattle.gj_shape.proofs.shape.Shape.f.Goals as goal

pub returns : goal.returns
returns c =
    let f = c.args.self.now in
    let limits : IsWithinBounds f = subst IsWithinBounds c.self.view_is c.self.invariant in
    let place : to_z w64 (of_z w64 c.from.result) ≡ pos c.self.inside.place =
    to_z-of_z w64 c.from.result (search rules) ∙ c.from.ensures in
    let over = subst (λ n. IsRatio c.ratio.result n (pos c.self.inside.order)) place
    c.ratio.ensures in
    let value : IsRatio c.ratio.result (pos f.place) (pos f.order) =
    subst (λ (g : FunctionData). IsRatio c.ratio.result (pos g.place) (pos g.order)) c.self.view_is
    over in
    record {
      value = value;
      inside = inside_from_ratio c.ratio.result f.place f.order limits.place_low limits.place_high
          value;
      limits = limits;
    }
