use Rattle.std.proofs.Common.{◌≡◌, rules, ap, ◌∙◌, unsigned_abs, to_z, of_z}
use Rattle.std.proofs.lemmas.Int.{to_z-of_z}
use Rattle.gj_frac.specs.Fraction.{denominator}
use Rattle.gj_shape.proofs.LeastDenominator.{least_of_none}
use Rattle.gj_shape.proofs.BreakLists.{breaks_of_none}
use Rattle.gj_shape.proofs.breaks.Breaks.new.Goals as goal
use mir.Syntax.{w128}

pub invariant_of-result : goal.invariant_of-result
invariant_of-result c =
    let den : unsigned_abs (to_z w128 (of_z w128 c.den.result))
    ≡ unsigned_abs (denominator c.args.place) =
    ap unsigned_abs (to_z-of_z w128 c.den.result (search rules) ∙ c.den.ensures) in
    record {
      breaks = rw (den, c.new.ensures.items)
          (breaks_of_none c.args.place c.requires.inside c.requires.few);
      least = rw c.new.ensures.items least_of_none;
    }
