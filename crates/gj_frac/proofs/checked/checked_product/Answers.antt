use Rattle.std.proofs.Common.{◌≡◌, ◌<◌, ◌^◌, ℤ, ◌*ℤ◌, unsigned_abs, to_z, of_z, w64, ap, ap₂, subst, ◌∙◌, rules, arith}
use Rattle.std.proofs.lemmas.Int.{to_z-of_z, fits_signed_from_abs, unsigned_abs-mul, ints}
use Rattle.std.proofs.lemmas.Nat.{mul-le}
use Rattle.gj_frac.proofs.Refusals.{step_fits}
use Rattle.gj_frac.proofs.checked.checked_product.Goals as goal
use mir.Syntax.{w128}
use mir.Val.{SFits}

-- the product of two numbers of 64 bits fits
small_product : (n m : ℤ) → SFits w64 n → SFits w64 m → unsigned_abs (n *ℤ m) < 2 ^ 127
small_product n m n_fits m_fits =
    let size = unsigned_abs-mul n m in
    let most = mul-le (unsigned_abs n) (unsigned_abs m) (2 ^ 63) (2 ^ 63)
    (omega (arith, ints, n_fits)) (omega (arith, ints, m_fits)) in
    omega arith

pub returns : goal.returns
returns c =
    let n = to_z-of_z w128 c.args.n c.ranges.n in
    let m = to_z-of_z w128 c.args.m c.ranges.m in
    step_fits c.checked_mul.result c.part.result (c.args.n *ℤ c.args.m)
    (simp (n, m) at c.checked_mul.ensures) c.part.ensures

pub returns-in-Ok-Ok : goal.returns-in-Ok-Ok
returns-in-Ok-Ok c =
    let n = to_z-of_z w128 c.args.n c.ranges.n in
    let m = to_z-of_z w128 c.args.m c.ranges.m in
    let n_fits = subst (SFits w64) n c.in-Ok-Ok.ensures.0 in
    let m_fits = subst (SFits w64) m c.in-Ok-Ok.ensures'.0 in
    let fits = small_product c.args.n c.args.m n_fits m_fits in
    let first : to_z w128 (of_z w128 c.from.result) ≡ c.args.n =
    to_z-of_z w128 c.from.result (search rules) ∙ c.from.ensures
    ∙ ap (λ z. to_z w64 (of_z w64 z)) (c.in-Ok-Ok.ensures.1 ∙ n) ∙ to_z-of_z w64 _ n_fits in
    let second : to_z w128 (of_z w128 c.from-in-Ok-Ok.result) ≡ c.args.m =
    to_z-of_z w128 c.from-in-Ok-Ok.result (search rules) ∙ c.from-in-Ok-Ok.ensures
    ∙ ap (λ z. to_z w64 (of_z w64 z)) (c.in-Ok-Ok.ensures'.1 ∙ m) ∙ to_z-of_z w64 _ m_fits in (
      fits,
      ap₂ (λ x y. to_z w128 (of_z w128 (x *ℤ y))) first second
          ∙ to_z-of_z w128 _ (fits_signed_from_abs w128 _ fits),
    )
