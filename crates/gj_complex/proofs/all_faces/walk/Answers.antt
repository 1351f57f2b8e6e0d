use Rattle.std.proofs.Common.{List, length, ap, ◌∙◌, subst, sym}
use Rattle.std.specs.List.{All}
use Rattle.gj_shape.specs.declared.faces.Face.{Face}
use Rattle.gj_complex.specs.Walk.{IsFaceOf}
use Rattle.gj_complex.proofs.AllFaces.{all_count, all_within}
use Rattle.gj_complex.proofs.all_faces.walk.Goals as goal

pub returns : goal.returns
returns c =
    let all = c.of_order.ensures in
    record {
      all = all;
      count = ap (λ (faces : List Face). length faces) all ∙ all_count c.args.q;
      within = subst (All (IsFaceOf c.args.q)) (sym all) (all_within c.args.q);
    }
