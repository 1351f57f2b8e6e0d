use Rattle.std.proofs.Common.{pos}
use Rattle.gj_frac.specs.declared.Frac.{Frac}
use Rattle.gj_frac.specs.Fraction.{IsRatio}
use Rattle.gj_problem.proofs.FractionsUpTo.{AreMadeUpTo}
use Rattle.gj_problem.proofs.combination.fractions.Given as goal

abbrev pub invariant-loop-i : goal.invariant-loop-i
invariant-loop-i l =
    (z : Frac) × IsRatio z (pos 0) l.denominator
    × AreMadeUpTo l.denominator z l.i l.numerators l.made.items
