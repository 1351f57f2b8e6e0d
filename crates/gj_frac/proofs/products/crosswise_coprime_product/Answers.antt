use Rattle.std.proofs.Common.{rules, ◌≡◌, ◌*ℤ◌, to_z, of_z, ◌∙◌}
use Rattle.std.proofs.lemmas.Int.{to_z-of_z}
use Rattle.gj_frac.proofs.Crosswise.{numerators_fit, denominators_fit, denominators_some, product_lowest}
use Rattle.gj_frac.proofs.Reduced.{read_part}
use Rattle.gj_frac.proofs.products.crosswise_coprime_product.Goals as goal
use mir.Syntax.{w128}

pub product-requires : goal.product-requires
product-requires c =
    simp (
      read_part c.args.x.num c.args.x.lowest.num_fits,
      read_part c.args.y.num
          c.args.y.lowest.num_fits,
    )
    (numerators_fit c.args.x c.args.y c.requires.first c.requires.second c.requires.fits)

pub product-requires-2 : goal.product-requires-2
product-requires-2 c =
    simp (
      read_part c.args.x.den c.args.x.lowest.den_fits,
      read_part c.args.y.den
          c.args.y.lowest.den_fits,
    )
    (denominators_fit c.args.x c.args.y c.requires.first c.requires.second c.requires.fits)

-- what the two products are
num_is : (c : goal.After-product-2) →
    to_z w128 (of_z w128 c.product.result) ≡ c.args.x.num *ℤ c.args.y.num
num_is c =
    to_z-of_z w128 c.product.result (search rules)
    ∙ simp (
      read_part c.args.x.num c.args.x.lowest.num_fits,
      read_part c.args.y.num
          c.args.y.lowest.num_fits,
    ) at c.product.ensures

den_is : (c : goal.After-product-2) → to_z w128 (of_z w128 c.product-2.result)
    ≡ c.args.x.den *ℤ c.args.y.den
den_is c =
    to_z-of_z w128 c.product-2.result (search rules)
    ∙ simp (
      read_part c.args.x.den c.args.x.lowest.den_fits,
      read_part c.args.y.den
          c.args.y.lowest.den_fits,
    ) at c.product-2.ensures

pub coprime-requires-clause-zero : goal.coprime-requires-clause-zero
coprime-requires-clause-zero c = simp (den_is c) (denominators_some c.args.x c.args.y)

pub coprime-requires-clause-num_fits : goal.coprime-requires-clause-num_fits
coprime-requires-clause-num_fits c =
    simp (num_is c) (numerators_fit c.args.x c.args.y c.requires.first c.requires.second
    c.requires.fits)

pub coprime-requires-clause-den_fits : goal.coprime-requires-clause-den_fits
coprime-requires-clause-den_fits c =
    simp (den_is c) (denominators_fit c.args.x c.args.y c.requires.first c.requires.second
    c.requires.fits)

pub coprime-requires-clause-coprime : goal.coprime-requires-clause-coprime
coprime-requires-clause-coprime c =
    simp (num_is c, den_is c) (product_lowest c.args.x c.args.y c.requires.first c.requires.second)
