use Rattle.std.proofs.Common.{◌≡◌, Some, map, take}
use Rattle.gj_extreme.proofs.groups.numbers_of.Given as goal

abbrev pub invariant-loop-number : goal.invariant-loop-number
invariant-loop-number l = map Some l.numbers.items ≡ take l.number-index l.component
