use Rattle.std.proofs.Common.{◌≡◌, pos, get_or, to_z, of_z, sym, ◌∙◌, rules}
use Rattle.gj_shape.proofs.AtLemmas.{at_below}
use Rattle.gj_fill.proofs.pairs.value_below.Goals as goal
use mir.Syntax.{w64}

pub returns-clause-value : goal.returns-clause-value
returns-clause-value c =
    let same : to_z w64 (of_z w64 (get_or c.args.values.now c.args.i (pos 0)))
    ≡ get_or c.args.values.now c.args.i (pos 0) = search rules in
    same ∙ sym (at_below c.args.values.now c.args.i c.requires.within)
