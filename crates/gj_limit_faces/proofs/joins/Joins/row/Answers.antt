use Rattle.std.proofs.Common.{◌<◌, length, subst, sym, ◌∙◌, arith}
use Rattle.std.proofs.lemmas.List.{get_or_default}
use Rattle.gj_limit_faces.specs.RowJoins.{AreRowJoins}
use Rattle.gj_limit_faces.proofs.joins.Joins.row.Goals as goal

pub returns : goal.returns
returns c f h =
    let order = h.order in
    let count = h.rows.count in
    let low : c.args.a < length c.args.self.now.rows.items = omega arith in
    subst (AreRowJoins f c.args.a) (sym (c.index.ensures ∙ get_or_default _ _ _ _ low))
    (h.rows.each c.args.a (omega arith))
