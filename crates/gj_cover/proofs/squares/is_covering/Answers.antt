use Rattle.std.proofs.Common.{◌++◌, subst, sym}
use Rattle.gj_shape.specs.Cover.{IsOneOf, links_of, triangle_projections}
use Rattle.gj_cover.proofs.squares.is_covering.Goals as goal

pub returns : goal.returns
returns c =
    let face = c.args.face in
    let onto = triangle_projections face.kind face.a face.b in
    let all = links_of face.kind face.a face.b ++ onto in (
      λ t. record {
        additive = c.is_additive.ensures.0 c.if-not-is_additive.false;
        projection = subst (λ l. IsOneOf c.args.table.now.order (l ++ onto) c.args.i)
            c.requires.triangle
            (subst (λ q. IsOneOf q all c.args.i) c.order.ensures.value
            (c.has_interval.ensures.0 t));
      },
      λ h. c.has_interval.ensures.1
          (subst (λ q. IsOneOf q all c.args.i) (sym c.order.ensures.value)
          (subst (λ l. IsOneOf c.args.table.now.order (l ++ onto) c.args.i)
          (sym c.requires.triangle) h.projection)),
    )
