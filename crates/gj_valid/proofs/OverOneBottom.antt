-- Fractions and their sums over one bottom.
use Rattle.std.proofs.Common.{◌≡◌, ◌≢◌, ℕ, zero, suc, ◌*◌, ◌<◌, ⊎_elim, eqb, cond, List, [], ◌∷◌, ℤ, pos, unsigned_abs, ◌+ℤ◌, ◌*ℤ◌, ◌≤ℤ◌, ◌<ℤ◌, refl, sym, subst, ap, ◌∙◌, arith}
use Rattle.std.proofs.Math.Nat.{mul-pos, mul_comm}
use Rattle.std.proofs.lemmas.Bool.{cases_lt, cond-true, cond-false}
use Rattle.std.proofs.lemmas.Bool.Decides.{eqb_tells}
use Rattle.std.proofs.lemmas.Int.{ints, by_lt_z}
use Rattle.gj_lemmas.proofs.Integers.{mul_cancel_right_z, mul_positive_z, positive_some_z, abs_positive_z, pos_abs_z, mul_assoc_z}
use Rattle.gj_lemmas.proofs.Ratios.{ratio_along, ratio_sum, ratio_less}
use Rattle.gj_lemmas.proofs.Ring.{by_ring, ring}
use Rattle.gj_frac.specs.Fraction.{Fraction, SameValue, LessValue, sum_of, AtMostValue}
use Rattle.gj_shape.specs.Valid.{weight}
use Rattle.gj_valid.proofs.PartFunctions.{nothing, one, sum_of_values}

-- x is n/c
abbrev pub Is : Fraction → ℤ → ℕ → Type 0
Is x n c = x.top *ℤ pos c ≡ n *ℤ x.bottom

pub is_scaled : (x : Fraction) (n : ℤ) (c e : ℕ) → Is x n c → Is x (pos e *ℤ n) (e * c)
is_scaled x n c e is =
    by_ring (x.top ∷ pos e ∷ pos c ∷ []) (search ring depth 20) refl ∙ ap (λ z. pos e *ℤ z) is
    ∙ sym (mul_assoc_z (pos e) n x.bottom)

some_bottom : (c : ℕ) → 0 < c → unsigned_abs (pos c) ≢ 0
some_bottom c some = positive_some_z (pos c) (omega (arith, ints))

-- what is n/c has the value of what is n/c
pub same_over : (x y : Fraction) (n : ℤ) (c : ℕ) → 0 < c → Is x n c → Is y n c → SameValue x y
same_over x y n c some is is' = ratio_along x.top x.bottom n (pos c) y.top y.bottom
    (some_bottom c some) is (sym is')

pub is_along : (x y : Fraction) (n : ℤ) (c : ℕ) → pos 0 <ℤ y.bottom → SameValue x y → Is y n c →
    Is x n c
is_along x y n c some same is = ratio_along x.top x.bottom y.top y.bottom n (pos c)
    (positive_some_z y.bottom some) same is

pub one_number : (x : Fraction) (n m : ℤ) (c : ℕ) → pos 0 <ℤ x.bottom → Is x n c → Is x m c → n ≡ m
one_number x n m c some is is' =
    mul_cancel_right_z n m x.bottom (sym is ∙ is') (positive_some_z x.bottom some)

pub same_numbers : (x y : Fraction) (n m : ℤ) (c : ℕ) → pos 0 <ℤ x.bottom → pos 0 <ℤ y.bottom →
    SameValue x y → Is x n c → Is y m c →
    n ≡ m
same_numbers x y n m c x_some y_some same is is' =
    one_number x n m c x_some is (is_along x y m c y_some same is')

pub sum_is : (x y : Fraction) (n m : ℤ) (c : ℕ) → Is x n c → Is y m c → Is (sum_of x y) (n +ℤ m) c
sum_is x y n m c is is' = ratio_sum x.top x.bottom y.top y.bottom n m (pos c) is is'

-- ---- order

pub most_to_numbers : (x y : Fraction) (n m : ℤ) (c : ℕ) → pos 0 <ℤ x.bottom → pos 0 <ℤ y.bottom →
    0 < c → Is x n c → Is y m c →
    AtMostValue x y → n ≤ℤ m
most_to_numbers x y n m c x_some y_some some is is' most =
    by_lt_z m n
    (λ l. absurd (let less =
    (ratio_less y.top y.bottom x.top x.bottom m n (pos c) y_some x_some
    (omega (arith, ints)) is' is).1 l in
    omega (arith, ints)))
    (λ l. l)

pub most_from_numbers : (x y : Fraction) (n m : ℤ) (c : ℕ) → pos 0 <ℤ x.bottom → pos 0 <ℤ y.bottom →
    0 < c → Is x n c → Is y m c →
    n ≤ℤ m → AtMostValue x y
most_from_numbers x y n m c x_some y_some some is is' most =
    by_lt_z (y.top *ℤ x.bottom) (x.top *ℤ y.bottom)
    (λ l. absurd (let less =
    (ratio_less y.top y.bottom x.top x.bottom m n (pos c) y_some x_some
    (omega (arith, ints)) is' is).0 l in
    omega (arith, ints)))
    (λ l. l)

pub nothing_is : (c : ℕ) → Is nothing (pos 0) c
nothing_is c = omega (arith, ints)

pub one_is : (c : ℕ) → Is one (pos c) c
one_is c = omega (arith, ints)

-- ---- sums of values

pub values_positive : (v : ℕ → ℕ → Fraction) (d : ℕ) (tops : List ℕ) →
    ((n : ℕ) → pos 0 <ℤ (v n d).bottom) →
    pos 0 <ℤ (sum_of_values v d tops).bottom
values_positive v d [] some = omega (arith, ints)
values_positive v d (n ∷ tops) some =
    mul_positive_z (v n d).bottom (sum_of_values v d tops).bottom (some n)
    (values_positive v d tops some)

pub values_are : (v : ℕ → ℕ → Fraction) (t : ℕ → ℤ) (d c : ℕ) (tops : List ℕ) →
    ((n : ℕ) → Is (v n d) (t n) c) →
    Is (sum_of_values v d tops) (weight t tops) c
values_are v t d c [] is = nothing_is c
values_are v t d c (n ∷ tops) is =
    sum_is (v n d) (sum_of_values v d tops) (t n) (weight t tops) c (is n)
    (values_are v t d c tops is)

-- ---- a common bottom

-- the first n of the fractions are over c
pub record HaveBottom (x : ℕ → Fraction) (n : ℕ) : Type 0 where
  pub c : ℕ
  pub t : ℕ → ℤ
  pub some : 0 < c
  pub is : (i : ℕ) → i < n → Is (x i) (t i) c

over_next : (x : Fraction) (c : ℕ) → pos 0 <ℤ x.bottom →
    Is x (pos c *ℤ x.top) (unsigned_abs x.bottom * c)
over_next x c some =
    by_ring (x.top ∷ pos (unsigned_abs x.bottom) ∷ pos c ∷ []) (search ring depth 20) refl
    ∙ ap (λ z. (pos c *ℤ x.top) *ℤ z) (pos_abs_z x.bottom (omega (arith, ints)))

pub have_bottom : (x : ℕ → Fraction) (n : ℕ) → ((i : ℕ) → pos 0 <ℤ (x i).bottom) → HaveBottom x n
have_bottom x zero some =
    record { c = 1; t = λ i. pos 0; some = omega arith; is = λ i below. absurd (omega arith) }
have_bottom x (suc n) some =
    let h = have_bottom x n some in
    let b = unsigned_abs (x n).bottom in
    let here = pos h.c *ℤ (x n).top in
    record {
      c = b * h.c;
      t = λ i. cond (eqb i n) here (pos b *ℤ h.t i);
      some = mul-pos (abs_positive_z (x n).bottom (some n)) h.some;
      is = λ i below. ⊎_elim
          (λ at. subst (λ (z : ℤ). Is (x i) z (b * h.c))
          (sym (cond-true (eqb i n) here (pos b *ℤ h.t i) at.0))
          (subst (λ (j : ℕ). Is (x j) here (b * h.c)) (sym at.1) (over_next (x n) h.c (some n))))
          (λ off. subst (λ (z : ℤ). Is (x i) z (b * h.c))
          (sym (cond-false (eqb i n) here (pos b *ℤ h.t i) off.0))
          (is_scaled (x i) (h.t i) h.c b (h.is i (not_last i n below off.1))))
          (eqb_tells i n);
    }
  where
    not_last : (i n : ℕ) → i < suc n → i ≢ n → i < n
    not_last i n below differs = ⊎_elim (λ l. l) (λ l. absurd (differs (omega arith)))
        (cases_lt i n)

pub less_from_numbers : (x y : Fraction) (n m : ℤ) (c : ℕ) → pos 0 <ℤ x.bottom → pos 0 <ℤ y.bottom →
    0 < c → Is x n c → Is y m c →
    n <ℤ m → LessValue x y
less_from_numbers x y n m c x_some y_some some is is' less =
    (ratio_less x.top x.bottom y.top y.bottom n m (pos c) x_some y_some
    (omega (arith, ints)) is is').1 less

pub is_over : (x : Fraction) (n : ℤ) (c e r : ℕ) → Is x n c → r ≡ e * c → Is x (pos e *ℤ n) r
is_over x n c e r is scale =
    subst (λ (b : ℕ). Is x (pos e *ℤ n) b) (sym scale) (is_scaled x n c e is)

-- two fractions over one bottom
pub record OverOne (x y : Fraction) : Type 0 where
  pub c : ℕ
  pub n : ℤ
  pub m : ℤ
  pub some : 0 < c
  pub x_is : Is x n c
  pub y_is : Is y m c

pub over_one : (x y : Fraction) → pos 0 <ℤ x.bottom → pos 0 <ℤ y.bottom → OverOne x y
over_one x y x_some y_some =
    let a = unsigned_abs x.bottom in
    let b = unsigned_abs y.bottom in
    record {
      c = a * b;
      n = pos b *ℤ x.top;
      m = pos a *ℤ y.top;
      some = mul-pos (abs_positive_z x.bottom x_some) (abs_positive_z y.bottom y_some);
      x_is = is_over x x.top a b (a * b)
          (ap (λ z. x.top *ℤ z) (pos_abs_z x.bottom (omega (arith, ints)))) (mul_comm a b);
      y_is = is_over y y.top b a (a * b)
          (ap (λ z. y.top *ℤ z) (pos_abs_z y.bottom (omega (arith, ints)))) refl;
    }

-- sums of fractions with the same values
pub same_sums_of : (x y x' y' : Fraction) → pos 0 <ℤ x'.bottom → pos 0 <ℤ y'.bottom →
    SameValue x x' → SameValue y y' →
    SameValue (sum_of x y) (sum_of x' y')
same_sums_of x y x' y' x_some y_some same same' =
    let o = over_one x' y' x_some y_some in
    same_over (sum_of x y) (sum_of x' y') (o.n +ℤ o.m) o.c o.some
    (sum_is x y o.n o.m o.c (is_along x x' o.n o.c x_some same o.x_is)
    (is_along y y' o.m o.c y_some same' o.y_is))
    (sum_is x' y' o.n o.m o.c o.x_is o.y_is)

pub same_trans : (x y z : Fraction) → pos 0 <ℤ y.bottom → pos 0 <ℤ z.bottom → SameValue x y →
    SameValue y z → SameValue x z
same_trans x y z y_some z_some first second =
    let o = over_one y z y_some z_some in
    same_over x z o.m o.c o.some
    (is_along x y o.m o.c y_some first (is_along y z o.m o.c z_some second o.y_is)) o.y_is

pub most_along : (x y z : Fraction) → pos 0 <ℤ x.bottom → pos 0 <ℤ y.bottom → pos 0 <ℤ z.bottom →
    AtMostValue x y → SameValue z y → AtMostValue x z
most_along x y z x_some y_some z_some most same =
    let o = over_one x y x_some y_some in
    most_from_numbers x z o.n o.m o.c x_some z_some o.some o.x_is
    (is_along z y o.m o.c y_some same o.y_is)
    (most_to_numbers x y o.n o.m o.c x_some y_some o.some o.x_is o.y_is most)
