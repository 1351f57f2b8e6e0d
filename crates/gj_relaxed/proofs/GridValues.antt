-- Numbers on a grid, by their denominators.
use Rattle.std.proofs.Common.{◌≡◌, ◌<◌, ◌≤◌, ◌^◌, ℕ, ℤ, pos, ◌*ℤ◌, ◌<ℤ◌, unsigned_abs, to_z, of_z, sym, ap, subst, ◌∙◌, arith}
use Rattle.std.proofs.lemmas.Int.{ints}
use Rattle.std.proofs.lemmas.Nat.Gcd.{le_of_dvd}
use Rattle.gj_frac.specs.declared.Frac.{Frac}
use Rattle.gj_frac.specs.Fraction.{denominator}
use Rattle.gj_frac.proofs.Reduced.{read_part}
use Rattle.gj_lemmas.proofs.Divisors.{whole_multiple}
use Rattle.gj_lemmas.proofs.Integers.{one_mul_z, pos_abs_z, mul_comm_z}
use Rattle.gj_shape.specs.Given.{numerator_over}
use Rattle.gj_shape.proofs.LeastDenominator.{Divides}
use Rattle.gj_fields.specs.Rational.{Rational, whole, rational, ◌*ℚ◌}
use Rattle.gj_problem.specs.Moves.{IsGridValue}
use Rattle.gj_fields.proofs.RationalLaws.{product_is, mul_comm_q}
use Rattle.gj_problem.proofs.Numerators.{numerator_is}
use mir.Syntax.{w128}

-- a number whose denominator divides n is on the grid
pub grid_if_divides : (n : ℕ) (x : Frac) → Divides n x → IsGridValue n (rational x)
grid_if_divides n x h =
    (numerator_over n x, mul_comm_q (whole (pos n)) (rational x) ∙ numerator_is n x h)

product_whole : (n z t b xn xd : ℤ) → t *ℤ (pos 1 *ℤ xd) ≡ (n *ℤ xn) *ℤ b → t ≡ z → b ≡ pos 1 →
    n *ℤ xn ≡ z *ℤ xd
product_whole n z t b xn xd h t_is b_is =
    sym (mul_comm_z (n *ℤ xn) (pos 1) ∙ one_mul_z (n *ℤ xn)) ∙ ap (λ w. (n *ℤ xn) *ℤ w) (sym b_is)
    ∙ sym h
    ∙ ap (λ w. t *ℤ w) (one_mul_z xd) ∙ ap (λ w. w *ℤ xd) t_is

-- the denominator of a number on the grid divides n
pub divides_if_grid : (n : ℕ) (x : Frac) → IsGridValue n (rational x) → Divides n x
unfolding whole
divides_if_grid n x h =
    let p = whole (pos n) *ℚ rational x in
    let some : pos (unsigned_abs x.den) ≡ x.den =
    pos_abs_z x.den (omega (arith, ints, x.lowest.positive)) in
    whole_multiple x.num h.0 (unsigned_abs x.den) n x.lowest.coprime
    (product_whole (pos n) h.0 p.top p.bottom x.num x.den (product_is (whole (pos n)) (rational x))
    (ap (λ (q : Rational). q.top) h.1)
    (ap (λ (q : Rational). q.bottom) h.1)
    ∙ ap (λ w. h.0 *ℤ w) (sym some))

-- a denominator as it is read
pub read_den : (x : Frac) (d : ℤ) → d ≡ denominator x → to_z w128 (of_z w128 d) ≡ x.den
read_den x d is = ap (λ (z : ℤ). to_z w128 (of_z w128 z)) is ∙ read_part x.den x.lowest.den_fits

-- the denominator of a number on the grid fits 64 bits, if n does
pub grid_den_small : (n : ℕ) (x : Frac) → 0 < n → n < 2 ^ 64 → IsGridValue n (rational x) →
    x.den <ℤ pos (2 ^ 64)
grid_den_small n x some small h =
    let below : unsigned_abs x.den ≤ n = le_of_dvd some (divides_if_grid n x h) in
    let is : pos (unsigned_abs x.den) ≡ x.den =
    pos_abs_z x.den (omega (arith, ints, x.lowest.positive)) in
    subst (λ (z : ℤ). z <ℤ pos (2 ^ 64)) is (omega (arith, ints))
