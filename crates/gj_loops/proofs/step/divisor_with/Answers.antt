use Rattle.std.proofs.Common.{ℕ, subst, ap, ◌∙◌, unsigned_abs}
use Rattle.std.specs.Int.{IsGcd}
use Rattle.std.proofs.lemmas.Int.{to_z-of_z}
use Rattle.std.proofs.lemmas.Nat.Gcd.{IsGcd-swap}
use mir.Syntax.{w128}
use Rattle.gj_loops.proofs.step.divisor_with.Goals as goal

pub returns : goal.returns
returns c =
    IsGcd-swap (unsigned_abs c.args.x) c.args.divisor c.gcd.result
    (subst (λ (n : ℕ). IsGcd n c.args.divisor c.gcd.result)
    (c.unsigned_abs.ensures.value ∙ ap unsigned_abs (to_z-of_z w128 c.args.x c.ranges.x))
    c.gcd.ensures)
