use Rattle.std.proofs.Common.{◌<◌, inl, inr, arith}
use Rattle.gj_shape.specs.FunctionData.{FunctionData, IsWithinBounds}
use Rattle.gj_theory.proofs.TwoSlopes.{minimal_values, rises_and_falls}
use Rattle.gj_theory.proofs.TwoSlopeCovers.{rising_lower, falling_upper, joined_first, joined_last, covered, alike_in_component, two_components}
use Rattle.gj_theory.proofs.two_slopes.two_slopes_cover.Goals as goal

order_some : (f : FunctionData) → IsWithinBounds f → 0 < f.order
order_some f l = omega (arith, l.order_low)

pub returns-clause-rising : goal.returns-clause-rising
returns-clause-rising c f a minimal same = rising_lower f a (minimal_values f minimal) same

pub returns-clause-falling : goal.returns-clause-falling
returns-clause-falling c f a l minimal same =
    falling_upper f a (order_some f l) (minimal_values f minimal) same

pub returns-clause-joined : goal.returns-clause-joined
returns-clause-joined c f a l minimal two = elim ((rises_and_falls f l minimal two).each a) [
  | inl same ↦ inl (joined_first f a (minimal_values f minimal) same)
  | inr same ↦ inr (joined_last f a (order_some f l) (minimal_values f minimal) same)
]

pub returns-clause-covered : goal.returns-clause-covered
returns-clause-covered c f a l minimal two =
    covered f a (order_some f l) (minimal_values f minimal) (rises_and_falls f l minimal two)

pub returns-clause-one_component : goal.returns-clause-one_component
returns-clause-one_component c f a b l minimal two same =
    alike_in_component f a b (order_some f l) (minimal_values f minimal)
    (rises_and_falls f l minimal two) same

pub returns-clause-two_components : goal.returns-clause-two_components
returns-clause-two_components c f lines l minimal two cover =
    two_components f lines (order_some f l) (minimal_values f minimal)
    (rises_and_falls f l minimal two) cover
