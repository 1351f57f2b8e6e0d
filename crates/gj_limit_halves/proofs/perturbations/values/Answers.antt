use Rattle.std.proofs.Common.{◌-◌, ◌*◌, ◌%◌, pos, get_or, ◌∙◌, arith, rules}
use Rattle.std.proofs.lemmas.Int.{to_z-of_z}
use Rattle.gj_shape.specs.Elimination.{at_column}
use Rattle.gj_limit_system.specs.Unknowns.{value_from}
use Rattle.gj_limit_halves.proofs.ListedNumbers.{listed_more, value_behind}
use Rattle.gj_limit_halves.proofs.perturbations.values.Goals as goal
use mir.Syntax.{w128}

pub loop-i-preserved : goal.loop-i-preserved
loop-i-preserved c =
    let q = c.args.order in
    let numbers = c.args.numbers.now in
    let i = c.loop-i.i in
    let read = to_z-of_z w128 (get_or numbers (2 * (q - i) - 1) (pos 0)) (search rules) in
    let low = c.loop-i.auto.i in
    let here = value_behind q (at_column numbers) i (omega (arith, low)) c.loop-i-test.true in
    listed_more (λ j. value_from q (at_column numbers) (j % q)) c.loop-i.values.items
    c.push-in-loop-i.new.self.items i _
    c.loop-i.invariant c.in_ok-push-2.ensures.items (read ∙ here)
