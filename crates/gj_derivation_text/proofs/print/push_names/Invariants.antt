use Rattle.std.proofs.Common.{◌≡◌, ◌++◌, drop}
use Rattle.gj_derivation_text.proofs.print.push_names.Given as goal

abbrev pub invariant-loop-name : goal.invariant-loop-name
invariant-loop-name l = l.lines.items ++ drop l.name-index l.names
    ≡ l.initial.lines.items ++ l.names
