use Rattle.std.proofs.Common.{◌≡◌, ◌+◌, length}
use Rattle.gj_extreme.proofs.seen.push_codes.Given as goal

abbrev pub invariant-loop-number : goal.invariant-loop-number
invariant-loop-number l = length l.codes.items ≡ length l.initial.codes.items + l.number-index
