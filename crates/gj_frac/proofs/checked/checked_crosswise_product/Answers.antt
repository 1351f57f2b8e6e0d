use Rattle.std.proofs.Common.{rules, ◌≡◌, ◌*ℤ◌, to_z, of_z, ◌∙◌, subst, sym}
use Rattle.std.proofs.lemmas.Int.{to_z-of_z}
use Rattle.gj_frac.specs.Fits.{FitsProduct}
use Rattle.gj_frac.proofs.Crosswise.{numerators_fit, denominators_fit, denominators_some, product_lowest}
use Rattle.gj_frac.proofs.Reduced.{read_part}
use Rattle.gj_frac.proofs.Refusals.{on_err}
use Rattle.gj_frac.specs.Fraction.{Fits}
use Rattle.gj_frac.proofs.checked.checked_crosswise_product.Goals as goal
use mir.Syntax.{w128}

pub returns-in_err-num-clause-wide : goal.returns-in_err-num-clause-wide
returns-in_err-num-clause-wide c =
    let refused = simp (
      read_part c.args.x.num c.args.x.lowest.num_fits,
      read_part c.args.y.num
          c.args.y.lowest.num_fits,
    ) at c.in_err-num.ensures in
    let wide : FitsProduct c.args.x c.args.y →
    ⊥ = λ fits. refused (numerators_fit c.args.x c.args.y c.requires.first c.requires.second
    fits) in
    on_err _ _ wide

pub returns-in_err-den-clause-wide : goal.returns-in_err-den-clause-wide
returns-in_err-den-clause-wide c =
    let refused = simp (
      read_part c.args.x.den c.args.x.lowest.den_fits,
      read_part c.args.y.den
          c.args.y.lowest.den_fits,
    ) at c.in_err-den.ensures in
    let wide : FitsProduct c.args.x c.args.y → ⊥ = λ fits.
    refused (denominators_fit c.args.x c.args.y c.requires.first c.requires.second fits) in
    on_err _ _ wide

-- what the two products are
num_is : (c : goal.In_ok-den) → to_z w128 (of_z w128 c.in_ok-num.num) ≡ c.args.x.num *ℤ c.args.y.num
num_is c =
    to_z-of_z w128 c.in_ok-num.num (search rules)
    ∙ simp (
      read_part c.args.x.num c.args.x.lowest.num_fits,
      read_part c.args.y.num
          c.args.y.lowest.num_fits,
    ) at c.in_ok-num.ensures.1

den_is : (c : goal.In_ok-den) → to_z w128 (of_z w128 c.in_ok-den.den) ≡ c.args.x.den *ℤ c.args.y.den
den_is c =
    to_z-of_z w128 c.in_ok-den.den (search rules)
    ∙ simp (
      read_part c.args.x.den c.args.x.lowest.den_fits,
      read_part c.args.y.den
          c.args.y.lowest.den_fits,
    ) at c.in_ok-den.ensures.1

pub coprime-requires-clause-zero : goal.coprime-requires-clause-zero
coprime-requires-clause-zero c = simp (den_is c) (denominators_some c.args.x c.args.y)

pub coprime-requires-clause-coprime : goal.coprime-requires-clause-coprime
coprime-requires-clause-coprime c =
    simp (num_is c, den_is c) (product_lowest c.args.x c.args.y c.requires.first c.requires.second)

pub coprime-requires-clause-num_fits : goal.coprime-requires-clause-num_fits
coprime-requires-clause-num_fits c =
    simp (to_z-of_z w128 c.in_ok-num.num (search rules))
    (subst Fits (sym c.in_ok-num.ensures.1) c.in_ok-num.ensures.0)

pub coprime-requires-clause-den_fits : goal.coprime-requires-clause-den_fits
coprime-requires-clause-den_fits c =
    simp (to_z-of_z w128 c.in_ok-den.den (search rules))
    (subst Fits (sym c.in_ok-den.ensures.1) c.in_ok-den.ensures.0)

pub returns-clause-value : goal.returns-clause-value
returns-clause-value c =
    let num = to_z-of_z w128 c.in_ok-num.num (search rules)
    ∙ simp (
      read_part c.args.x.num c.args.x.lowest.num_fits,
      read_part c.args.y.num
          c.args.y.lowest.num_fits,
    ) at c.in_ok-num.ensures.1 in
    let den = to_z-of_z w128 c.in_ok-den.den (search rules)
    ∙ simp (
      read_part c.args.x.den c.args.x.lowest.den_fits,
      read_part c.args.y.den
          c.args.y.lowest.den_fits,
    ) at c.in_ok-den.ensures.1 in
    simp (num, den) at c.coprime.ensures
