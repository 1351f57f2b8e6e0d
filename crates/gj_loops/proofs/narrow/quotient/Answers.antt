use Rattle.std.proofs.Common.{◌≡◌, ◌<◌, ◌^◌, ℤ, pos, negsuc, ◌<ℤ◌, unsigned_abs, FitsSigned, to_z, of_z, refl, sym, ap, ap₂, subst, subst₂, ◌∙◌, arith}
use Rattle.std.specs.Prelude.{int_div}
use Rattle.std.proofs.lemmas.Int.{ints, to_z-of_z, fits_signed_from_abs, quot_is, quot_fits}
use Rattle.gj_loops.proofs.narrow.quotient.Goals as goal
use mir.Syntax.{Width, w64, w128}

-- a narrow number fits 64 bits
narrow_fits : (z : ℤ) → FitsSigned w128 z → unsigned_abs (to_z w128 (of_z w128 z)) < 2 ^ 63 →
    FitsSigned w64 z
narrow_fits z fits narrow =
    fits_signed_from_abs w64 z
    (subst (λ (x : ℤ). unsigned_abs x < 2 ^ 63) (to_z-of_z w128 z fits) narrow)

-- and is read there as it is
narrow_read : (z : ℤ) → FitsSigned w128 z → FitsSigned w64 z →
    to_z w64 (of_z w64 (to_z w128 (of_z w128 z))) ≡ z
narrow_read z fits narrow = ap (λ x. to_z w64 (of_z w64 x)) (to_z-of_z w128 z fits)
    ∙ to_z-of_z w64 z narrow

positive_bits : (w : Width) (z : ℤ) → pos 0 <ℤ z → 0 < of_z w z
positive_bits w (pos n) h = omega (arith, ints)
positive_bits w (negsuc n) h = absurd (omega (arith, ints))

pub overflow_cast-n : goal.overflow_cast-n
overflow_cast-n c = fits_signed_from_abs w64 _ (c.if-is_narrow.ensures.0 refl)

pub overflow_cast-divisor : goal.overflow_cast-divisor
overflow_cast-divisor c = fits_signed_from_abs w64 _ (c.if-is_narrow-2.ensures.0 refl)

pub nonzero_div-n : goal.nonzero_div-n
nonzero_div-n c =
    let n = narrow_fits c.args.n c.ranges.n (c.if-is_narrow.ensures.0 refl) in
    let d = narrow_fits c.args.divisor c.ranges.divisor (c.if-is_narrow-2.ensures.0 refl) in (
      subst (λ (z : ℤ). 0 < of_z w64 z) (sym (to_z-of_z w128 c.args.divisor c.ranges.divisor))
          (positive_bits w64 c.args.divisor c.requires),
      subst₂ (λ (a b : ℤ). FitsSigned w64 (int_div a b)) (sym (narrow_read c.args.n c.ranges.n n))
          (sym (narrow_read c.args.divisor c.ranges.divisor d))
          (quot_fits w64 c.args.n c.args.divisor n c.requires),
    )

pub nonzero_div-result : goal.nonzero_div-result
nonzero_div-result c = (
  positive_bits w128 c.args.divisor c.requires,
  subst₂ (λ (a b : ℤ). FitsSigned w128 (int_div a b)) (sym (to_z-of_z w128 c.args.n c.ranges.n))
      (sym (to_z-of_z w128 c.args.divisor c.ranges.divisor))
      (quot_fits w128 c.args.n c.args.divisor c.ranges.n c.requires),
)

pub returns-then-is_narrow-2 : goal.returns-then-is_narrow-2
returns-then-is_narrow-2 c =
    let n = narrow_fits c.args.n c.ranges.n (c.if-is_narrow.ensures.0 refl) in
    let d = narrow_fits c.args.divisor c.ranges.divisor (c.if-is_narrow-2.ensures.0 refl) in
    ap (λ z. to_z w128 (of_z w128 z)) (c.from.ensures
    ∙ ap₂ (λ a b. to_z w64 (of_z w64 (int_div (to_z w64 (of_z w64 a)) (to_z w64 (of_z w64 b)))))
    (to_z-of_z w128 c.args.n c.ranges.n) (to_z-of_z w128 c.args.divisor c.ranges.divisor)
    ∙ quot_is w64 c.args.n c.args.divisor n d (quot_fits w64 c.args.n c.args.divisor n c.requires))
    ∙ to_z-of_z w128 (int_div c.args.n c.args.divisor)
    (quot_fits w128 c.args.n c.args.divisor c.ranges.n c.requires)

pub returns : goal.returns
returns c =
    quot_is w128 c.args.n c.args.divisor c.ranges.n c.ranges.divisor
    (quot_fits w128 c.args.n c.args.divisor c.ranges.n c.requires)
