-- Products with 1, -1 and 0.
use Rattle.std.proofs.Common.{◌≡◌, ⊎_elim, ℕ, ◌<◌, ◌^◌, true, false, All, List, [], ◌∷◌, ◌+ℤ◌, ◌*ℤ◌, neg_ℤ, ℤ, pos, negsuc, unsigned_abs, refl, sym, ap, ap₂, subst, ◌∙◌, arith}
use Rattle.std.proofs.lemmas.Int.{ints}
use Rattle.std.proofs.lemmas.List.Elements.{All-nil, All-cons}
use Rattle.std.specs.Int.{IsGcd}
use Rattle.std.specs.List.{AllZip}
use Rattle.gj_frac.specs.declared.Frac.{Frac}
use Rattle.gj_frac.specs.Fraction.{Fits, SameValue, fraction_of, product_of, negation_of}
use Rattle.gj_frac.specs.Fits.{FitsProduct, FitsSum}
use Rattle.gj_frac.proofs.OneDenominator.{fits_sum_over}
use Rattle.gj_lemmas.proofs.Integers.{abs_neg_z, mul_comm_z, one_mul_z, positive_some_z}
use Rattle.gj_problem.specs.declared.problem.Entry.{Entry}
use Rattle.gj_problem.specs.declared.problem.Inequality.{Inequality}
use Rattle.gj_fields.specs.Rational.{Rational, whole, rational, ◌+ℚ◌, ◌*ℚ◌}
use Rattle.gj_problem.specs.Rows.{IsMultiple}
use Rattle.gj_problem.specs.Signs.{IsSign, IsNegated}
use Rattle.gj_problem.proofs.OneColumn.{IsTimes}
use Rattle.gj_problem.specs.Steps.{IsWideAt}
use Rattle.gj_problem.proofs.AddedSums.{none_weighted, negation_value}
use Rattle.gj_problem.proofs.NarrowSums.{narrow_at}
use Rattle.gj_fields.proofs.RationalLaws.{equal_q, mul_comm_q, one_mul_q}
use lib.IntN.{zero-*ℤ}
use lib.Signed.{lt_z}

by_one : (x d : ℤ) → x *ℤ (pos 1 *ℤ d) ≡ (pos 1 *ℤ x) *ℤ d
by_one x d = ap (λ z. x *ℤ z) (one_mul_z d) ∙ ap (λ z. z *ℤ d) (sym (one_mul_z x))

pub times_one : (f x : Frac) → f.num ≡ pos 1 → f.den ≡ pos 1 →
    SameValue (fraction_of x) (product_of (fraction_of f) (fraction_of x))
times_one f x num den =
    ap (λ z. x.num *ℤ (z *ℤ x.den)) den ∙ by_one x.num x.den
    ∙ ap (λ z. (z *ℤ x.num) *ℤ x.den) (sym num)

minus : (x : ℤ) → neg_ℤ x ≡ negsuc 0 *ℤ x
minus x = omega (arith, ints)

-- x with its sign turned
abbrev negated : Frac → Frac
negated x = record {
  num = neg_ℤ x.num;
  den = x.den;
  lowest = record {
    positive = x.lowest.positive;
    num_fits = subst (λ (n : ℕ). n < 2 ^ 127) (sym (abs_neg_z x.num)) x.lowest.num_fits;
    den_fits = x.lowest.den_fits;
    coprime = subst (λ (n : ℕ). IsGcd n (unsigned_abs x.den) 1)
        (sym (abs_neg_z x.num)) x.lowest.coprime;
  };
}

pub times_minus_one : (f x y : Frac) → f.num ≡ negsuc 0 → f.den ≡ pos 1 →
    SameValue (fraction_of y) (negation_of (fraction_of x)) →
    SameValue (fraction_of y) (product_of (fraction_of f) (fraction_of x))
times_minus_one f x y num den is =
    ap (λ z. y.num *ℤ (z *ℤ x.den)) den ∙ ap (λ z. y.num *ℤ z) (one_mul_z x.den) ∙ is
    ∙ ap (λ z. z *ℤ y.den) (minus x.num) ∙ ap (λ z. (z *ℤ x.num) *ℤ y.den) (sym num)

-- ---- 0

swapped : (f v : Frac) → rational f *ℚ rational v ≡ rational v *ℚ rational f
swapped f v = mul_comm_q (rational f) (rational v)

pub zero_added : (x f v : Frac) → v.num ≡ pos 0 →
    rational x ≡ rational x +ℚ rational f *ℚ rational v
zero_added x f v none = none_weighted v (rational x) (rational f) none
    ∙ ap (λ w. rational x +ℚ w) (sym (swapped f v))

zero_product : (f v : Frac) → v.num ≡ pos 0 →
    SameValue (fraction_of v) (product_of (fraction_of f) (fraction_of v))
zero_product f v none =
    ap (λ z. z *ℤ (f.den *ℤ v.den)) none ∙ zero-*ℤ (f.den *ℤ v.den) ∙ sym (zero-*ℤ v.den)
    ∙ ap (λ z. z *ℤ v.den)
    (sym (ap (λ z. f.num *ℤ z) none ∙ mul_comm_z f.num (pos 0) ∙ zero-*ℤ f.num))

zero_fits : (x v : Frac) → v.num ≡ pos 0 → FitsSum x v
zero_fits x v none =
    let same : x.num +ℤ pos 0 ≡ x.num = omega (arith, ints) in
    fits_sum_over x v x.num (pos 0) x.den refl (ap (λ z. z *ℤ x.den) none ∙ zero-*ℤ x.den
    ∙ sym (zero-*ℤ v.den))
    (positive_some_z x.den x.lowest.positive) x.lowest.den_fits x.lowest.num_fits (omega arith)
    (subst Fits (sym same) x.lowest.num_fits)

pub zero_narrow : (x f v : Frac) → v.num ≡ pos 0 → IsWideAt x f v → ⊥
zero_narrow x f v none = narrow_at x f v v (zero_product f v none) (zero_fits x v none)

-- ---- entries times 1 or -1

-- how the code tells the two
pub sign_one : (f : Frac) → IsSign f → lt_z f.num (pos 0) ≡ false → rational f ≡ whole (pos 1)
unfolding whole
sign_one f sign least =
    ⊎_elim
    (λ (one : f.num ≡ pos 1). equal_q (rational f) (whole (pos 1))
    (ap₂ (λ n d. n *ℤ pos 1) one sign.is_whole ∙ ap (λ d. pos 1 *ℤ d) (sym sign.is_whole)))
    (λ (minus : f.num ≡ negsuc 0). let no : true ≡ false = sym (ap (λ z. lt_z z (pos 0)) minus)
    ∙ least in absurd (cc))
    sign.is

pub sign_minus_one : (f : Frac) → IsSign f → lt_z f.num (pos 0) ≡ true →
    rational f ≡ whole (negsuc 0)
unfolding whole
sign_minus_one f sign less =
    ⊎_elim
    (λ (one : f.num ≡ pos 1). let no : false ≡ true = sym (ap (λ z. lt_z z (pos 0)) one) ∙ less in
    absurd (cc))
    (λ (minus : f.num ≡ negsuc 0). equal_q (rational f) (whole (negsuc 0))
    (ap (λ n. n *ℤ pos 1) minus ∙ ap (λ d. negsuc 0 *ℤ d) (sym sign.is_whole)))
    sign.is

one_value : (f : Frac) (x : Rational) → rational f ≡ whole (pos 1) → x ≡ rational f *ℚ x
one_value f x one = sym (ap (λ w. w *ℚ x) one ∙ one_mul_q x)

same_entries : (f : Frac) (es : List Entry) → rational f ≡ whole (pos 1) →
    AllZip (IsTimes (rational f)) es es
same_entries f [] one = tt
same_entries f (e ∷ es) one = ((refl, one_value f (rational e.value) one), same_entries f es one)

pub one_multiple : (f : Frac) (es : List Entry) (right : Frac) (q : Inequality) →
    rational f ≡ whole (pos 1) → q.entries ≡ es → q.right ≡ right →
    IsMultiple (rational f) es right q
one_multiple f es right q one entries_are right_is = record {
  entries_are = subst (λ (fs : List Entry). AllZip (IsTimes (rational f)) es fs) (sym entries_are)
      (same_entries f es one);
  right_is = ap rational right_is ∙ one_value f (rational right) one;
}

negated_entries : (f : Frac) (es gs : List Entry) → rational f ≡ whole (negsuc 0) →
    AllZip IsNegated es gs → AllZip (IsTimes (rational f)) es gs
negated_entries f [] [] minus h = tt
negated_entries f [] (g ∷ gs) minus h = absurd h
negated_entries f (e ∷ es) [] minus h = absurd h
negated_entries f (e ∷ es) (g ∷ gs) minus h = (
  (h.0.column, h.0.value ∙ ap (λ w. w *ℚ rational e.value) (sym minus)),
  negated_entries f es gs
      minus h.1,
)

pub negated_multiple : (f : Frac) (es : List Entry) (right : Frac) (q : Inequality) →
    rational f ≡ whole (negsuc 0) →
    AllZip IsNegated es q.entries →
    SameValue (fraction_of q.right) (negation_of (fraction_of right)) →
    IsMultiple (rational f) es right q
negated_multiple f es right q minus entries right_is = record {
  entries_are = negated_entries f es q.entries minus entries;
  right_is = negation_value right q.right right_is ∙ ap (λ w. w *ℚ rational right) (sym minus);
}

-- all products with 1 or -1 fit
pub sign_fits : (f x : Frac) → IsSign f → FitsProduct f x
sign_fits f x sign =
    ⊎_elim (λ (one : f.num ≡ pos 1). (x, times_one f x one sign.is_whole))
    (λ (minus : f.num ≡ negsuc 0).
    (negated x, times_minus_one f x (negated x) minus sign.is_whole refl))
    sign.is

pub signs_fit : (f : Frac) (xs : List Frac) → IsSign f → All (FitsProduct f) xs
signs_fit f [] sign = All-nil (FitsProduct f)
signs_fit f (x ∷ xs) sign = All-cons (FitsProduct f) x xs (sign_fits f x sign) (signs_fit f xs sign)
