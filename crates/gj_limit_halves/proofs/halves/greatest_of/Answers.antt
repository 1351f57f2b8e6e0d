use Rattle.std.proofs.Common.{max, sym, ap, subst, ◌∙◌}
use Rattle.gj_shape.specs.FunctionData.{at}
use Rattle.gj_shape.specs.Perturbation.{IsGreatestSize}
use Rattle.gj_limit_halves.specs.Sides.{limits_on_sides, IsGreatestOf}
use Rattle.gj_limit_halves.proofs.GreatestOfSides.{greatest_of_sides}
use Rattle.gj_limit_halves.proofs.halves.greatest_of.Goals as goal

pub returns : goal.returns
returns c =
    let l = c.greatest_size-left.result in
    let v = c.greatest_size-value.result in
    let r = c.greatest_size-right.result in
    let size = c.max-2.ensures ∙ ap (λ n. max n r) c.max.ensures in
    subst (IsGreatestOf (limits_on_sides c.args.sides.now)) (sym size)
    (greatest_of_sides c.args.sides.now l v r
    (subst (λ xs. IsGreatestSize (at xs) l) c.as_slice.ensures c.greatest_size-left.ensures)
    (subst (λ xs. IsGreatestSize (at xs) v) c.as_slice-2.ensures c.greatest_size-value.ensures)
    (subst (λ xs. IsGreatestSize (at xs) r) c.as_slice-3.ensures c.greatest_size-right.ensures))
