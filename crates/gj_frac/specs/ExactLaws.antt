-- The laws of sums and products of fractions, each proved from those of ratios. They stand here
-- since the laws of `ExactNumber` cite them.
use Rattle.std.proofs.Common.{◌≡◌, sym, subst, subst₂}
use Rattle.std.proofs.lemmas.Nat.Gcd.{IsGcd-swap}
use Rattle.std.specs.Cmp.{int_cmp_is}
use Rattle.std.specs.declared.cmp.Ordering.TheVariants.{Less}
use Rattle.std.specs.Ordering.{MatchOrdering}
use Rattle.gj_frac.specs.declared.Frac.{Frac}
use Rattle.gj_frac.specs.Fraction.{Fits, IsRatio, SameValue, fraction_of, sum_of, product_of}
use Rattle.gj_frac.specs.Fits.{IsDenominatorGcd, FitsSum, FitsProduct, scaled_numerator}
use Rattle.gj_frac.specs.CompareValues.{compare_values}
use Rattle.gj_frac.specs.SameParts.{ratio, same_value_same}
use Rattle.gj_frac.specs.TotalOrder.{IsLess, compare_values_ranks}
use Rattle.gj_lemmas.proofs.Integers.{mul_comm_z, add_comm_z}
use Rattle.gj_lemmas.proofs.Divisors.{crossed_quotients}
use Rattle.gj_lemmas.proofs.Ratios.{sums_swapped, sums_regrouped, products_swapped, products_regrouped, products_over_sums, sums_below}

-- s is the sum of x and y, or their product
abbrev IsSum : Frac → Frac → Frac → Type 0
IsSum x y s = SameValue (fraction_of s) (sum_of (fraction_of x) (fraction_of y))

abbrev IsProduct : Frac → Frac → Frac → Type 0
IsProduct x y p = SameValue (fraction_of p) (product_of (fraction_of x) (fraction_of y))

-- if x + y can be computed, y + x can
pub can_add_swapped : (x y : Frac) → FitsSum x y → FitsSum y x
can_add_swapped x y fits g h =
    let turned : IsDenominatorGcd x y g = IsGcd-swap _ _ _ h in
    let over = fits g turned in
    record {
      first = over.second;
      second = over.first;
      total = subst Fits (add_comm_z (scaled_numerator x y g) (scaled_numerator y x g)) over.total;
      bottom = subst Fits (crossed_quotients x.den y.den g x.lowest.positive y.lowest.positive
          turned) over.bottom;
    }

-- x + y and y + x are equal
pub add_swapped : (x y s t : Frac) → IsSum x y s → IsSum y x t → s ≡ t
add_swapped x y s t s_is t_is =
    same_value_same s t (sums_swapped (ratio x) (ratio y) (ratio s) (ratio t) s_is t_is)

-- (x + y) + z and x + (y + z) are equal
pub add_regrouped : (x y z s t u v : Frac) → IsSum x y s → IsSum s z t → IsSum y z u → IsSum x u v →
    t ≡ v
add_regrouped x y z s t u v s_is t_is u_is v_is =
    same_value_same t v
    (sums_regrouped (ratio x) (ratio y) (ratio z) (ratio s) (ratio t) (ratio u)
    (ratio v) s_is t_is u_is v_is)

-- if x y can be computed, y x can
pub can_mul_swapped : (x y : Frac) → FitsProduct x y → FitsProduct y x
can_mul_swapped x y fits =
    (fits.0, subst₂ (IsRatio fits.0) (mul_comm_z x.num y.num) (mul_comm_z x.den y.den) fits.1)

-- x y and y x are equal
pub mul_swapped : (x y s t : Frac) → IsProduct x y s → IsProduct y x t → s ≡ t
mul_swapped x y s t s_is t_is =
    same_value_same s t (products_swapped (ratio x) (ratio y) (ratio s) (ratio t) s_is t_is)

-- (x y) z and x (y z) are equal
pub mul_regrouped : (x y z s t u v : Frac) → IsProduct x y s → IsProduct s z t → IsProduct y z u →
    IsProduct x u v → t ≡ v
mul_regrouped x y z s t u v s_is t_is u_is v_is =
    same_value_same t v
    (products_regrouped (ratio x) (ratio y) (ratio z) (ratio s) (ratio t) (ratio u)
    (ratio v) s_is t_is u_is v_is)

-- x (y + z) and x y + x z are equal
pub mul_over_add : (x y z s t u v w : Frac) → IsSum y z s → IsProduct x s t → IsProduct x y u →
    IsProduct x z v →
    IsSum u v w → t ≡ w
mul_over_add x y z s t u v w s_is t_is u_is v_is w_is =
    same_value_same t w
    (products_over_sums (ratio x) (ratio y) (ratio z) (ratio s) (ratio t) (ratio u) (ratio v)
    (ratio w)
    s_is t_is u_is v_is w_is)

-- if x < y, also x + z < y + z
pub sums_keep_order : (x y z s t : Frac) → compare_values x y ≡ Less → IsSum x z s → IsSum y z t →
    compare_values s t ≡ Less
sums_keep_order x y z s t less s_is t_is =
    let below : IsLess x y = subst (λ r. MatchOrdering r (IsLess x y) (x ≡ y) (IsLess y x)) less
    (compare_values_ranks x y) in
    sym (int_cmp_is _ _ Less
    (sums_below (ratio x) (ratio y) (ratio z) (ratio s) (ratio t) below s_is t_is))
