use Rattle.std.proofs.Common.{ℕ, List, ◌++◌, drop, append-nil, sym, ap, ◌∙◌}
use Rattle.std.proofs.lemmas.List.{drop_all}
use Rattle.gj_derivation_text.proofs.PrintedSteps.{one_name}
use Rattle.gj_derivation_text.proofs.print.push_names.Goals as goal

pub loop-name-preserved : goal.loop-name-preserved
loop-name-preserved c =
    one_name c.args.names.now c.loop-name.name-index c.name-item.result _ _ _ _
    c.loop-name-test.true c.name-item.is c.in_ok-copy.ensures
    c.in_ok-push.ensures.items c.loop-name.invariant

pub returns : goal.returns
returns c =
    sym (append-nil c.loop-name.lines.items)
    ∙ sym (ap (λ (names : List (List ℕ)). c.loop-name.lines.items ++ names)
    (drop_all c.loop-name.name-index c.args.names.now c.loop-name-test.false))
    ∙ c.loop-name.invariant
