use Rattle.std.proofs.lemmas.Result.{IfOk-weaker}
use Rattle.serde_json.specs.View.{view}
use Rattle.gj_json.proofs.Shown.{value_has_no_float, value_is_shallow}
use Rattle.gj_json.proofs.ShownRead.{value_says}
use Rattle.gj_json.proofs.show.show_json.Goals as goal

pub line_of-requires : goal.line_of-requires
line_of-requires c =
    value_has_no_float c.args.shape.now (view c.in_ok-value.value) c.in_ok-value.ensures.value

pub returns-clause-reads_back : goal.returns-clause-reads_back
returns-clause-reads_back c =
    let f = c.args.shape.now in
    let d = view c.in_ok-value.value in
    let is = c.in_ok-value.ensures.value in
    IfOk-weaker c.line_of.result _ _
    (λ text h. (
      d,
      h (value_is_shallow f d is),
      value_says f d c.function_value.ensures.within
          is,
    ))
    c.line_of.ensures.reads_back
