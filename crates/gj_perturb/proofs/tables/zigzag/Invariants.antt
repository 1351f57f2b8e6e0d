use Rattle.std.proofs.Common.{◌≡◌, map}
use Rattle.std.specs.List.{range_with_len}
use Rattle.gj_shape.specs.Perturbation.{zigzag}
use Rattle.gj_perturb.proofs.tables.zigzag.Given as goal

abbrev pub invariant-loop-i : goal.invariant-loop-i
invariant-loop-i l = l.values.items ≡ map (zigzag l.q l.class) (range_with_len 0 l.i)
