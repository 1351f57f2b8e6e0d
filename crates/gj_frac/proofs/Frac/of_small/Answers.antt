use Rattle.std.proofs.Common.{ℕ, ◌≡◌, ◌≢◌, ◌≤◌, ◌<◌, ◌<ℤ◌, ◌^◌, ◌*◌, ◌/◌, pos, inr, refl, ap, sym, subst, subst₂, ◌∙◌, rules, arith}
use Rattle.std.specs.Int.{IsGcd, ◌∣◌}
use Rattle.std.proofs.Math.Nat.{div-mul_cancel, div-le_self, dvd-mul_right}
use Rattle.std.proofs.lemmas.Int.{to_z-of_z, ints}
use Rattle.gj_lemmas.proofs.Divisors.{gcd_positive, gcd_quotients}
use Rattle.gj_frac.specs.Lowest.{IsLowest}
use Rattle.gj_frac.proofs.Reduced.{divisor_of_positive, same_from_multiples}
use Rattle.gj_frac.proofs.Frac.of_small.Goals as goal
use mir.Syntax.{w128}

-- what is at most a number of 64 bits fits, and what is above 0 is positive
fits_below : (m n : ℕ) → m ≤ n → n < 2 ^ 64 → m < 2 ^ 127
fits_below m n h k = omega arith

not_zero : (n : ℕ) → 0 < n → n ≢ 0
not_zero n h = omega arith

positive_above : (n : ℕ) → 0 < n → pos 0 <ℤ pos n
positive_above n h = omega (arith, ints)

pub small_quotient-requires : goal.small_quotient-requires
small_quotient-requires c =
    gcd_positive _ _ c.gcd_in_64_bits-divisor.result c.gcd_in_64_bits-divisor.ensures
    (inr c.requires)

pub small_quotient-requires-2 : goal.small_quotient-requires-2
small_quotient-requires-2 c =
    gcd_positive _ _ c.gcd_in_64_bits-divisor.result c.gcd_in_64_bits-divisor.ensures
    (inr c.requires)

pub invariant_of-result : goal.invariant_of-result
invariant_of-result c =
    let g = c.gcd_in_64_bits-divisor.result in
    let h = c.gcd_in_64_bits-divisor.ensures in
    let some = gcd_positive _ _ g h (inr c.requires) in
    let n = to_z-of_z w128 c.from.result (search rules) ∙ c.from.ensures
    ∙ ap pos c.small_quotient.ensures in
    let d = to_z-of_z w128 c.from-2.result (search rules) ∙ c.from-2.ensures
    ∙ ap pos c.small_quotient-2.ensures in
    let n_times : c.args.num / g * g ≡ c.args.num = div-mul_cancel g h.0 in
    let d_times : c.args.den / g * g ≡ c.args.den = div-mul_cancel g h.1 in
    let d_some = divisor_of_positive (c.args.den / g) c.args.den (not_zero c.args.den c.requires)
    (subst (λ m. (c.args.den / g) ∣ m) d_times (dvd-mul_right (c.args.den / g) g)) in
    let lowest : IsLowest (pos (c.args.num / g)) (pos (c.args.den / g)) = record {
      positive = positive_above (c.args.den / g) d_some.0;
      num_fits = fits_below (c.args.num / g) c.args.num
          (div-le_self c.args.num g) c.ranges.num.fits;
      den_fits = fits_below (c.args.den / g) c.args.den
          (div-le_self c.args.den g) c.ranges.den.fits;
      coprime = gcd_quotients (c.args.num / g) (c.args.den / g) g
          (subst₂ (λ a b. IsGcd a b g) (sym n_times) (sym d_times) h) some;
    } in
    simp (n, d) (record { lowest = lowest })

pub returns : goal.returns
returns c =
    let g = c.gcd_in_64_bits-divisor.result in
    let h = c.gcd_in_64_bits-divisor.ensures in
    let n = to_z-of_z w128 c.from.result (search rules) ∙ c.from.ensures
    ∙ ap pos c.small_quotient.ensures in
    let d = to_z-of_z w128 c.from-2.result (search rules) ∙ c.from-2.ensures
    ∙ ap pos c.small_quotient-2.ensures in
    simp (n, d)
    (same_from_multiples (pos (c.args.num / g)) (pos (c.args.den / g)) (pos (c.args.num / g))
    (pos (c.args.den / g)) (pos g) (pos c.args.num) (pos c.args.den)
    (ap pos (div-mul_cancel g h.0)) (ap pos (div-mul_cancel g h.1)) refl)
