use Rattle.std.proofs.Common.{◌≡◌, ◌++◌, map, take, drop, pos, int_div}
use Rattle.gj_loops.proofs.step.divide.Given as goal

abbrev pub invariant-loop-x : goal.invariant-loop-x
invariant-loop-x l = l.row ≡ map (λ x. int_div x (pos l.divisor)) (take l.x-index l.initial.row)
    ++ drop l.x-index l.initial.row
