use Rattle.std.proofs.Common.{◌≡◌, ◌^◌, ◌*ℤ◌, to_z, of_z, rules, arith}
use Rattle.std.proofs.lemmas.Int.{to_z-of_z, fits_signed_mul, unsigned_abs-mul}
use Rattle.std.proofs.Math.Nat.{mul-le-mul}
use Rattle.gj_rule.proofs.evaluators.product.Goals as goal
use mir.Syntax.{w128}

-- the product as it is computed
product_is : goal.returns-clause-value
product_is c =
    let n : to_z w128 (of_z w128 c.from.result) ≡ c.args.n = search rules in
    let m : to_z w128 (of_z w128 c.from-2.result) ≡ c.args.m = search rules in
    let fits = fits_signed_mul w128 c.args.n c.args.m (2 ^ 62)
    (2 ^ 62) c.requires.n_small c.requires.m_small (omega arith) in
    simp (n, m) (to_z-of_z w128 (c.args.n *ℤ c.args.m) fits)

pub overflow_mul-result : goal.overflow_mul-result
overflow_mul-result c =
    let n : to_z w128 (of_z w128 c.from.result) ≡ c.args.n = search rules in
    let m : to_z w128 (of_z w128 c.from-2.result) ≡ c.args.m = search rules in
    rw (n, m)
    (fits_signed_mul w128 c.args.n c.args.m (2 ^ 62) (2 ^ 62) c.requires.n_small c.requires.m_small
    (omega arith))

pub returns-clause-value : goal.returns-clause-value
returns-clause-value c = product_is c

pub returns-clause-fits : goal.returns-clause-fits
returns-clause-fits c =
    let is = product_is c in
    let size = unsigned_abs-mul c.args.n c.args.m in
    let bound = mul-le-mul c.requires.n_small c.requires.m_small in
    rw is (omega arith)
