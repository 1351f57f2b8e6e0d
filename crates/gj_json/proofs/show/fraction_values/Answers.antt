use Rattle.std.proofs.Common.{ap, ◌∙◌, arith, rules}
use Rattle.serde_json.specs.Data.{array}
use Rattle.serde_json.proofs.Views.{view-Array}
use Rattle.gj_json.proofs.Shown.{one_more, all_so_far}
use Rattle.gj_json.proofs.show.fraction_values.Goals as goal

pub loop-numerator-preserved : goal.loop-numerator-preserved
loop-numerator-preserved c =
    one_more c.args.scale c.args.numerators.now c.loop-numerator.numerator-index _
    c.loop-numerator.values.items c.push.new.self.items
    c.in_ok-fraction_value.field-0 c.ratio.result (omega arith)
    (search rules) c.loop-numerator.invariant c.ratio.ensures
    c.in_ok-fraction_value.ensures c.in_ok-push.ensures.items

pub returns : goal.returns
returns c =
    let h = all_so_far c.args.scale c.args.numerators.now c.loop-numerator.numerator-index
    c.loop-numerator.values.items (omega arith)
    c.loop-numerator.invariant in
    (h.0, h.1, view-Array c.loop-numerator.values ∙ ap array h.2)
