use Rattle.std.proofs.Common.{◌≡◌, All, take, pos}
use Rattle.gj_check_groups.proofs.group.are_zeros.Given as goal

abbrev pub invariant-loop-x : goal.invariant-loop-x
invariant-loop-x l = All (λ x. x ≡ pos 0) (take l.x-index l.row)
