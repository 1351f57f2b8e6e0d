use Rattle.std.proofs.Common.{◌≡◌, map, length, All}
use Rattle.std.specs.List.{range_with_len}
use Rattle.gj_frac.specs.Fraction.{Fits}
use Rattle.gj_shape.specs.Elimination.{at_column}
use Rattle.gj_shape.specs.SlopeRows.{component_in}
use Rattle.gj_limit_system.specs.Unknowns.{limits_from}
use Rattle.gj_limit_halves.proofs.perturbations.left_limits.Given as goal

abbrev pub invariant-loop-i : goal.invariant-loop-i
invariant-loop-i l = record {
  listed : l.limits.items
      ≡ map (limits_from (length l.component) (component_in l.component) (at_column l.numbers)).left
      (range_with_len 0 l.i);
  fits : All Fits l.limits.items;
}
