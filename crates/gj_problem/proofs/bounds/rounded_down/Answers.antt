use Rattle.std.proofs.Common.{ℤ, pos, subst, rules}
use Rattle.std.proofs.lemmas.Int.{to_z-of_z}
use Rattle.std.proofs.lemmas.Option.{MatchOption-at_some}
use Rattle.gj_frac.specs.Fraction.{IsRatio}
use Rattle.gj_problem.proofs.AddedSums.{whole_ratio}
use Rattle.gj_problem.proofs.bounds.rounded_down.Goals as goal
use mir.Syntax.{w128}

pub returns : goal.returns
returns c =
    let n = c.floor.result in
    let x = c.in-Some.whole in (
      n,
      c.floor.ensures,
      whole_ratio x n (subst (λ (z : ℤ). IsRatio x z (pos 1)) (to_z-of_z w128 n (search rules))
          (MatchOption-at_some _ _ x c.in-Some.is c.new.ensures.value)),
    )
