use Rattle.std.proofs.Common.{sym, ◌∙◌}
use Rattle.gj_shape.specs.SlopeRows.{component_in}
use Rattle.gj_extreme.proofs.SeenRows.{none_yet}
use Rattle.gj_extreme.proofs.inserted_rows.Rows.new.Goals as goal

pub returns : goal.returns
returns c = λ f order.
    none_yet f (component_in c.args.system.now.component) c.args.system.now.columns _
    (c.in_ok-new.ensures.columns ∙ c.columns-columns.ensures) c.in_ok-new.ensures.inserted
    c.in_ok-new.ensures.kept c.new-2.ensures.items
    (sym c.in_ok-vec.field-0.ok.0 ∙ c.in_ok-vec.ensures.len ∙ c.columns-columns.ensures)
    c.without_places.ensures
