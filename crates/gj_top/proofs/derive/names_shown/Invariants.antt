use Rattle.std.proofs.Common.{◌≡◌, take}
use Rattle.gj_top.proofs.derive.names_shown.Given as goal

abbrev pub invariant-loop-name : goal.invariant-loop-name
invariant-loop-name l = l.names.items ≡ take l.name-index l.drafts.lines
