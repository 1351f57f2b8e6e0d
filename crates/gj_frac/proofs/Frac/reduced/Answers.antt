use Rattle.std.proofs.Common.{subst, subst₂, sym, ◌∙◌}
use Rattle.std.proofs.lemmas.Int.{to_z-of_z}
use Rattle.gj_frac.specs.Fraction.{IsRatio}
use Rattle.gj_lemmas.proofs.Integers.{pos_abs_z}
use lib.Dec.{T}
use mir.Syntax.{w128}
use Rattle.gj_frac.proofs.Frac.reduced.Goals as goal

pub returns-then-den-lt-SMALL : goal.returns-then-den-lt-SMALL
returns-then-den-lt-SMALL c =
    subst₂ (IsRatio c.of_small.result)
    (pos_abs_z _ (record { le = subst T (sym c.if-num-ge0.true) tt })
    ∙ to_z-of_z w128 c.args.num c.ranges.num)
    (pos_abs_z _ (record { le = subst T (sym c.if-den-ge0.true) tt })
    ∙ to_z-of_z w128 c.args.den c.ranges.den) c.of_small.ensures
