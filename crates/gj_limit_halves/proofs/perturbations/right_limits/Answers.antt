use Rattle.std.proofs.Common.{◌-◌, ◌*◌, ◌%◌, pos, get_or, ap, sym, ◌∙◌, rules}
use Rattle.std.proofs.Math.Nat.{mod-eq_of_lt}
use Rattle.std.proofs.lemmas.Int.{to_z-of_z}
use Rattle.gj_shape.specs.Elimination.{at_column}
use Rattle.gj_limit_system.specs.Unknowns.{right_column}
use Rattle.gj_limit_halves.proofs.ListedNumbers.{listed_more}
use Rattle.gj_limit_halves.proofs.perturbations.right_limits.Goals as goal
use mir.Syntax.{w128}

pub loop-i-preserved : goal.loop-i-preserved
loop-i-preserved c =
    let q = c.args.order in
    let numbers = c.args.numbers.now in
    let i = c.loop-i.i in
    let read = to_z-of_z w128 (get_or numbers (2 * (q - 1 - i)) (pos 0)) (search rules) in
    let index = ap (λ n. at_column numbers (right_column q n))
    (sym (mod-eq_of_lt c.loop-i-test.true)) in
    listed_more (λ j. at_column numbers (right_column q (j % q))) c.loop-i.limits.items
    c.push.new.self.items i _
    c.loop-i.invariant c.in_ok-push.ensures.items (read ∙ index)
