use Rattle.std.proofs.Common.{◌≡◌, ◌++◌}
use Rattle.gj_derivation_text.specs.PrintedDerivation.{kept_names}
use Rattle.gj_top.proofs.derive.push_kept.Given as goal

abbrev pub invariant-loop-name : goal.invariant-loop-name
invariant-loop-name l = l.initial.names.items ++ kept_names l.steps l.shown
    ≡ l.names.items ++ kept_names l.name-iterator.a.rest.now l.name-iterator.b.rest.now
