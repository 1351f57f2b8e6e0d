use Rattle.std.proofs.Common.{Some, map, option_map, sym, ap, ◌∙◌}
use Rattle.serde_json.specs.View.{view}
use Rattle.gj_json.specs.JsonFunction.{list_of}
use Rattle.gj_json.proofs.Views.{list_of_items}
use Rattle.gj_json.proofs.form.list.Goals as goal

pub returns : goal.returns
returns c =
    ap Some (ap (map view) c.as_slice.ensures.value
    ∙ sym (list_of_items (map view c.in_ok-as_array.field-0.now.items)))
    ∙ ap (option_map list_of) c.in_ok-as_array.ensures
