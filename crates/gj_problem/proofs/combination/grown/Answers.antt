use Rattle.std.proofs.Common.{rules, ◌≡◌, ℤ, pos, ◌<ℤ◌, ◌*ℤ◌, to_z, of_z, sym, ap₂, subst, ◌∙◌}
use Rattle.std.proofs.lemmas.Int.{to_z-of_z}
use Rattle.gj_frac.specs.Fraction.{Fits}
use Rattle.gj_lemmas.proofs.Integers.{mul_positive_z}
use Rattle.gj_problem.proofs.combination.grown.Goals as goal
use mir.Syntax.{w128}

pub returns : goal.returns
returns c =
    let common = c.args.common in
    let scale = c.in_ok-scale.scale in
    let same = to_z-of_z w128 c.in_ok-grown.grown (search rules) ∙ c.in_ok-grown.ensures.1 in
    let is : to_z w128 (of_z w128 c.in_ok-grown.grown) ≡ common *ℤ scale =
    same ∙ ap₂ (λ x y. x *ℤ y) (to_z-of_z w128 common c.ranges.common)
    (to_z-of_z w128 scale (search rules)) in
    record {
      some = subst (λ (z : ℤ). pos 0 <ℤ z) (sym is)
          (mul_positive_z common scale c.requires.some c.in_ok-scale.ensures);
      fits = subst Fits (sym same) c.in_ok-grown.ensures.0;
    }
