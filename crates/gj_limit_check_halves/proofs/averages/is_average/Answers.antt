use Rattle.std.proofs.Common.{◌≡◌, ◌↔◌, ◌*◌, ◌*ℤ◌, pos, IsTrue, subst₂, ◌∙◌, arith}
use mir.Syntax.{w128}
use Rattle.std.proofs.lemmas.Int.{ints, to_z-of_z}
use Rattle.gj_limit_check_halves.proofs.Refinements.{point_read, points_fit, points_read}
use Rattle.gj_limit_check_halves.proofs.averages.is_average.Goals as goal

pub overflow_add-sum : goal.overflow_add-sum
overflow_add-sum c =
    points_fit c.args.first.now c.args.second.now c.args.index _ _ c.requires.first
    c.requires.second
    (point_read c.args.first.now c.args.index c.requires.first)
    (point_read c.args.second.now c.args.index c.requires.second)

pub returns : goal.returns
returns c =
    let sum = points_read c.args.first.now c.args.second.now c.args.index _ _ c.requires.first
    c.requires.second
    (point_read c.args.first.now c.args.index c.requires.first)
    (point_read c.args.second.now c.args.index c.requires.second) in
    let fits = c.refined_number-number.type_inv in
    let number = to_z-of_z w128 c.refined_number-number.result (omega (arith, ints))
    ∙ c.refined_number-number.ensures in
    subst₂ (λ s n. IsTrue c.is_twice.result ↔ (s ≡ pos (2 * c.args.refinement.factor) *ℤ n)) sum
    number c.is_twice.ensures
