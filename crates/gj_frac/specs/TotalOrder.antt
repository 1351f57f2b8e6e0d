-- The laws of the order of fractions, each proved: a total order by value, in which equal values
-- are one fraction.
use Rattle.std.proofs.Common.{◌≡◌, ◌&&◌, true, ◌*ℤ◌, refl, ap, subst}
use Rattle.std.proofs.lemmas.Cmp.{int_ranked, int_eq_equiv}
use Rattle.std.specs.Bool.{Decides, one_answer}
use Rattle.std.specs.Cmp.{IsTotalOrder, IsPartialOrder, strict, means, po, first_so, second_so, signed_Decides, Equal-is, tied_itself}
use Rattle.std.specs.declared.cmp.Ordering.{Ordering}
use Rattle.std.specs.declared.cmp.Ordering.TheVariants.{Less, Equal, Greater}
use Rattle.std.specs.Ordering.{MatchOrdering, is_eq, int_eq, eq_by_cmp, as_partial_cmp}
use Rattle.gj_frac.specs.declared.Frac.{Frac}
use Rattle.gj_frac.specs.Fraction.{LessValue, fraction_of}
use Rattle.gj_frac.specs.CompareValues.{compare_values}
use Rattle.gj_lemmas.proofs.Ratios.{not_below_itself, below_chain}
use Rattle.gj_frac.specs.SameParts.{ratio, same_value_same, same_parts_same}

-- x is less than y
abbrev pub IsLess : Frac → Frac → Type 0
IsLess x y = LessValue (fraction_of x) (fraction_of y)

less_irrefl : (x : Frac) → ¬ (IsLess x x)
less_irrefl x = not_below_itself (ratio x)

less_chain : (x y z : Frac) → IsLess x y → IsLess y z → IsLess x z
less_chain x y z = below_chain (ratio x) (ratio y) (ratio z)

-- the second of three cases in other words
ranked_as : (r : Ordering) (P Q Q' R : Type 0) → (Q → Q') → MatchOrdering r P Q R →
    MatchOrdering r P Q' R
ranked_as Less P Q Q' R f h = h
ranked_as Equal P Q Q' R f h = f h
ranked_as Greater P Q Q' R f h = h

-- what an answer says of the two fractions
pub compare_values_ranks : (x y : Frac) →
    MatchOrdering (compare_values x y) (IsLess x y) (x ≡ y) (IsLess y x)
compare_values_ranks x y =
    ranked_as (compare_values x y) _ _ _ _ (same_value_same x y)
    (int_ranked (x.num *ℤ y.den) (y.num *ℤ x.den) (compare_values x y) refl)

pub compare_values_total : IsTotalOrder compare_values
compare_values_total = strict IsLess less_irrefl less_chain compare_values compare_values_ranks

-- equal parts are told by `==`
pub parts_Decides : (x y : Frac) → Decides (int_eq x.num y.num && int_eq x.den y.den) (x ≡ y)
parts_Decides x y = (
  λ e. same_parts_same x y ((signed_Decides x.num y.num).0 (first_so _ _ e))
      ((signed_Decides x.den y.den).0 (second_so _ _ e)),
  λ e. subst (λ (z : Frac). (int_eq x.num z.num && int_eq x.den z.den) ≡ true) e
      (λ i. int_eq_equiv.refl x.num i && int_eq_equiv.refl x.den i),
)

-- so is the answer that they are equal
ties_Decides : (x y : Frac) → Decides (eq_by_cmp compare_values x y) (x ≡ y)
ties_Decides x y = (
  λ e. means IsLess less_irrefl less_chain compare_values compare_values_ranks x y Equal
      ((Equal-is (compare_values x y)).0 e),
  λ e. subst (λ (z : Frac). eq_by_cmp compare_values x z ≡ true) e
      (ap is_eq (tied_itself compare_values_total x)),
)

-- `==` holds exactly if neither is less
pub compare_values_ties : (x y : Frac) → (int_eq x.num y.num && int_eq x.den y.den)
    ≡ eq_by_cmp compare_values x y
compare_values_ties x y = one_answer _ _ (parts_Decides x y) (ties_Decides x y)

pub compare_values_partial :
    IsPartialOrder (λ (x y : Frac). int_eq x.num y.num && int_eq x.den y.den)
    (as_partial_cmp compare_values)
compare_values_partial = po compare_values_total compare_values_ties
