-- The closed form of the mixed-integer cut from quotients of fractions.
use Rattle.std.proofs.Common.{◌≡◌, ◌<◌, ◌≤◌, ◌^◌, ℤ, pos, ◌-ℤ◌, ◌*ℤ◌, ◌<ℤ◌, ◌≤ℤ◌, ◌+ℤ◌, unsigned_abs, refl, sym, ap, ap₂, subst, subst₂, ◌∙◌, arith, to_z, of_z}
use Rattle.std.proofs.lemmas.Int.{ints}
use Rattle.gj_frac.specs.declared.Frac.{Frac}
use Rattle.gj_frac.specs.Floor.{IsFloor}
use Rattle.gj_frac.specs.Fraction.{IsRatio, LessValue, SameValue, fraction_of, quotient_of, numerator, denominator}
use Rattle.gj_frac.specs.Lowest.{IsLowest}
use Rattle.gj_frac.proofs.Floors.{quotient_is_floor, rest_from_floor, rest_lowest}
use Rattle.gj_frac.proofs.Reduced.{read_part}
use Rattle.gj_frac.proofs.SameValues.{parts_from_is}
use Rattle.gj_lemmas.proofs.Integers.{one_mul_z, add_mul_z, sub_mul_z, mul_sub_z, mul_comm_z, mul_positive_z, mul_lt_mul_right_z}
use Rattle.gj_theory.specs.Cuts.{IsGmicValue}
use mir.Syntax.{w128}

-- ---- whole numbers as the code passes them

-- what a part of 128 bits is read as
abbrev pub read : ℤ → ℤ
read z = to_z w128 (of_z w128 z)

-- a number that is known to be a part reads as that
pub reads_as : (v z : ℤ) → v ≡ z → unsigned_abs z < 2 ^ 127 → read v ≡ z
reads_as v z e fits = ap read e ∙ read_part z fits

-- ---- the parts of what the code forms

-- each floor of x leaves n over d, the denominator of x
abbrev pub IsRestOf : Frac → ℤ → ℤ → Type 0
IsRestOf x n d = (w : ℤ) → IsFloor x w → (n ≡ x.num -ℤ w *ℤ x.den) × (d ≡ x.den)

pub rest_parts : (x r : Frac) →
    ((w : ℤ) → IsFloor x w → IsRatio r (numerator x -ℤ w *ℤ denominator x) (denominator x)) →
    IsRestOf x r.num r.den
rest_parts x r is w floor =
    let n = x.num -ℤ w *ℤ x.den in
    let next : (w +ℤ pos 1) *ℤ x.den ≡ w *ℤ x.den +ℤ x.den = add_mul_z w (pos 1) x.den
    ∙ ap (λ z. w *ℤ x.den +ℤ z) (one_mul_z x.den) in
    let low : (w *ℤ x.den) ≤ℤ x.num = floor.at_most in
    let high : x.num <ℤ (w *ℤ x.den +ℤ x.den) = subst (λ z. x.num <ℤ z) next floor.next_above in
    let small : unsigned_abs n < unsigned_abs x.den = omega (arith, ints) in
    let lowest : IsLowest n x.den =
    rest_lowest x.num x.den n x.lowest (sym (rest_from_floor x w floor))
    (omega (arith, ints)) small in
    parts_from_is r n x.den x.lowest.positive lowest.coprime (is w floor)

-- the denominator of the rest is that of x, so it is no greater
pub rest_fine : (x r : Frac) → IsRestOf x r.num r.den → unsigned_abs x.den ≤ 2 ^ 62 →
    unsigned_abs r.den ≤ 2 ^ 62
rest_fine x r rest fine =
    subst (λ d. unsigned_abs d ≤ 2 ^ 62) (sym (rest _ (quotient_is_floor x)).1) fine

-- ---- whole numbers over the product of both denominators

-- a product as the code computes it
pub product_read : (p n m x y : ℤ) → n ≡ x → m ≡ y → unsigned_abs x < 2 ^ 127 →
    unsigned_abs y < 2 ^ 127 → p ≡ read n *ℤ read m →
    p ≡ x *ℤ y
product_read p n m x y n_is m_is x_fits y_fits is =
    is ∙ ap₂ (λ a b. a *ℤ b) (reads_as n x n_is x_fits) (reads_as m y m_is y_fits)

-- a product of parts of two fractions
pub parts_read : (p n m : ℤ) (x y : Frac) → n ≡ numerator x → m ≡ denominator y →
    p ≡ read n *ℤ read m → p ≡ numerator x *ℤ denominator y
parts_read p n m x y n_is m_is =
    product_read p n m x.num y.den n_is m_is x.lowest.num_fits y.lowest.den_fits

-- a difference as the code computes it
pub difference_read : (one n : ℤ) → unsigned_abs one ≤ 2 ^ 124 → unsigned_abs n ≤ 2 ^ 124 →
    read (read one -ℤ read n) ≡ one -ℤ n
difference_read one n one_small n_small =
    reads_as (read one -ℤ read n) (one -ℤ n)
    (ap₂ (λ a b. a -ℤ b) (reads_as one one refl (omega arith)) (reads_as n n refl (omega arith)))
    (omega (arith, ints))

-- the place is above 0, and 1 is above it
pub place_positive : (f r : Frac) → pos 0 <ℤ numerator f → pos 0 <ℤ (numerator f *ℤ denominator r)
place_positive f r some = mul_positive_z f.num r.den some r.lowest.positive

pub place_below : (f r : Frac) → numerator f <ℤ denominator f →
    (numerator f *ℤ denominator r) <ℤ (denominator r *ℤ denominator f)
place_below f r below =
    subst (λ z. (f.num *ℤ r.den) <ℤ z) (mul_comm_z f.den r.den)
    (mul_lt_mul_right_z f.num f.den r.den r.lowest.positive below)

-- ---- the two branches

pub rising_value : (f x y : Frac) (n d : ℤ) → IsRestOf x n d →
    (LessValue (fraction_of f) (record { top = n; bottom = d }) → ⊥) →
    IsRatio y (n *ℤ denominator f) (numerator f *ℤ d) → IsGmicValue f x y
rising_value f x y n d rest low is = record {
  rises = λ w floor h. let parts = rest w floor in
      subst₂ (λ n d. SameValue (fraction_of y) (quotient_of (record { top = n; bottom = d })
      (fraction_of f))) parts.0 parts.1
      (subst (IsRatio y (n *ℤ f.den)) (mul_comm_z f.num d) is);
  falls = λ w floor h. let parts = rest w floor in
      absurd (low (subst₂ (λ n d. LessValue (fraction_of f) (record { top = n; bottom = d }))
      (sym parts.0) (sym parts.1) h));
}

-- 1 minus a fraction, as the definitions write it
pub one_minus_top : (a b : ℤ) → a -ℤ b ≡ pos 1 *ℤ a -ℤ b *ℤ pos 1
one_minus_top a b = omega (arith, ints)

pub one_times : (a : ℤ) → a ≡ pos 1 *ℤ a
one_times a = sym (one_mul_z a)

pub falling_value : (f x y : Frac) (n d : ℤ) → IsRestOf x n d →
    LessValue (fraction_of f) (record { top = n; bottom = d }) →
    IsRatio y (d *ℤ denominator f -ℤ n *ℤ denominator f) (d *ℤ denominator f -ℤ numerator f *ℤ d) →
    IsGmicValue f x y
falling_value f x y n d rest high is = record {
  rises = λ w floor low. let parts = rest w floor in
      absurd (low (subst₂ (λ n m. LessValue (fraction_of f) (record { top = n; bottom = m }))
      parts.0 parts.1 high));
  falls = λ w floor h. let parts = rest w floor in
      let top = sym (sub_mul_z d n f.den) ∙ ap₂ (λ a b. a *ℤ b)
      (ap₂ (λ a b. a -ℤ b) parts.1 parts.0 ∙ one_minus_top x.den (x.num -ℤ w *ℤ x.den))
      (one_times f.den) in
      let bottom = ap (λ z. d *ℤ f.den -ℤ z) (mul_comm_z f.num d) ∙
      sym (mul_sub_z d f.den f.num)
      ∙ ap₂ (λ a b. a *ℤ b) (parts.1 ∙ one_times x.den) (one_minus_top f.den f.num) in
      subst₂ (IsRatio y) top bottom is;
}
