use Rattle.std.proofs.Common.{◌≡◌, ◌≢◌, ℤ, pos, ◌<ℤ◌, ◌*ℤ◌, to_z, of_z, unsigned_abs, sym, subst, ap₂, ◌∙◌, arith}
use Rattle.std.proofs.lemmas.Int.{ints}
use Rattle.gj_lemmas.proofs.Integers.{mul_positive_z}
use Rattle.gj_fill.proofs.fill_in.over_width.Goals as goal
use mir.Syntax.{w64}

pub reduced-requires-clause-zero : goal.reduced-requires-clause-zero
reduced-requires-clause-zero c =
    let n : to_z w64 (of_z w64 c.from.result) ≡ pos c.args.n =
    omega (arith, ints, c.from.ensures) in
    let width : to_z w64 (of_z w64 c.args.width) ≡ c.args.width = omega (arith, ints) in
    let value = c.product.ensures.value ∙ ap₂ (λ x y. x *ℤ y) n width in
    let above = mul_positive_z (pos c.args.n) c.args.width (omega (arith, ints)) c.requires.wide in
    let some : pos 0 <ℤ c.product.result = subst (λ (z : ℤ). pos 0 <ℤ z) (sym value) above in
    omega (arith, ints)
