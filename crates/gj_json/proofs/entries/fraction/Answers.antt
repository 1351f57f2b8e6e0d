use Rattle.std.proofs.Common.{Some, sym, ap, ◌∙◌}
use Rattle.serde_json.specs.View.{view}
use Rattle.gj_json.proofs.Options.{none_weaker}
use Rattle.gj_json.proofs.Refusals.{no_word}
use Rattle.gj_json.proofs.entries.fraction.Goals as goal

pub returns-in-Some-clause-none : goal.returns-in-Some-clause-none
returns-in-Some-clause-none c =
    none_weaker c.fraction_of.result
    (no_word (view c.args.value.now) c.as_bytes.result.now
    (sym c.in-Some.ensures ∙ ap Some (sym c.as_bytes.ensures.value)))
    c.fraction_of.ensures.none
