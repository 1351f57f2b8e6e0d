use Rattle.std.proofs.Common.{inl, ◌≡◌, ◌*◌, ◌/◌, ◌≤◌, sym, subst₂, arith}
use Rattle.std.specs.Int.{IsGcd}
use Rattle.std.proofs.Math.Nat.{div-mul_cancel}
use Rattle.std.proofs.lemmas.Nat.Gcd.{le_of_dvd}
use Rattle.gj_lemmas.proofs.Divisors.{gcd_positive, lcm_from_gcd}
use Rattle.gj_frac.proofs.divisors.lcm_by_gcd.Goals as goal
use Rattle.gj_frac.proofs.divisors.lcm_by_gcd.Goals.{After-gcd_in_64_bits-divisor}

is_gcd : (c : After-gcd_in_64_bits-divisor) →
    IsGcd c.args.a c.args.b c.gcd_in_64_bits-divisor.result
is_gcd c = subst₂ (λ a b. IsGcd a b c.gcd_in_64_bits-divisor.result) c.from.ensures c.from-2.ensures
    c.gcd_in_64_bits-divisor.ensures

pub overflow_cast-divisor : goal.overflow_cast-divisor
overflow_cast-divisor c =
    let most : c.gcd_in_64_bits-divisor.result ≤ c.args.a = le_of_dvd c.requires (is_gcd c).0 in
    omega arith

pub nonzero_div-a : goal.nonzero_div-a
nonzero_div-a c = gcd_positive _ _ _ (is_gcd c) (inl c.requires)

pub returns : goal.returns
returns c =
    let g = c.gcd_in_64_bits-divisor.result in
    let h : IsGcd c.args.a c.args.b g =
    subst₂ (λ a b. IsGcd a b g) c.from.ensures c.from-2.ensures
    c.gcd_in_64_bits-divisor.ensures in
    let product : c.from-3.result * c.from-4.result ≡ c.args.a / g * c.args.b =
    rw (c.from-3.ensures, c.from-4.ensures) in
    rw product
    (lcm_from_gcd c.args.a c.args.b g (c.args.a / g) h (sym (div-mul_cancel g h.0))
    (gcd_positive _ _ _ h (inl c.requires)))
