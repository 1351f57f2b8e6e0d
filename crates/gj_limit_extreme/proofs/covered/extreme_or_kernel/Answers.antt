use Rattle.std.proofs.Common.{◌<◌, ◌≤◌, length, sym, subst, ◌∙◌}
use Rattle.std.specs.Prelude.{All}
use Rattle.gj_limit_extreme.proofs.CoveredNumbers.{numbers_below, count_few}
use Rattle.gj_limit_extreme.proofs.covered.extreme_or_kernel.Goals as goal

pub new-requires-clause-components : goal.new-requires-clause-components
new-requires-clause-components c =
    subst (All (λ k. k < c.args.cover.count)) (sym c.as_slice-2.ensures.value)
    (numbers_below c.args.shape.now c.args.cover c.requires.cover c.in_ok-component.component.items
    (c.in_ok-component.ensures ∙ c.as_slice.ensures))

pub new-requires-clause-count : goal.new-requires-clause-count
new-requires-clause-count c =
    subst (λ xs. c.args.cover.count ≤ length xs) (sym c.as_slice-2.ensures.value)
    (count_few c.args.shape.now c.args.cover c.requires.cover c.in_ok-component.component.items
    (c.in_ok-component.ensures ∙ c.as_slice.ensures))
