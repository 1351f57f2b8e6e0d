-- The parts of 1 minus a fraction, and the mixed-integer cut's values by quotients of
-- fractions.
use Rattle.std.proofs.Common.{◌≡◌, ℕ, ◌<◌, ◌*◌, ℤ, pos, ◌+ℤ◌, ◌-ℤ◌, ◌*ℤ◌, ◌≤ℤ◌, ◌<ℤ◌, unsigned_abs, [], ◌∷◌, refl, sym, ap, ap₂, subst, subst₂, ◌∙◌, arith}
use Rattle.std.proofs.lemmas.Int.{ints}
use Rattle.std.specs.Int.{int_div_euclid}
use Rattle.gj_frac.specs.declared.Frac.{Frac}
use Rattle.gj_frac.specs.Floor.{IsFloor, rest_above}
use Rattle.gj_frac.specs.Fraction.{Fraction, IsRatio, LessValue, SameValue, HasDenominatorBelow, fraction_of, quotient_of, numerator, denominator}
use Rattle.gj_frac.proofs.Floors.{complement_lowest, quotient_is_floor}
use Rattle.gj_frac.proofs.SameValues.{parts_from_is}
use Rattle.gj_lemmas.proofs.Integers.{pos_abs_z}
use Rattle.gj_lemmas.proofs.Ring.{by_ring, ring}
use Rattle.gj_shape.specs.FunctionData.{FunctionData}
use Rattle.gj_shape.specs.Limits.{denominator_bound, IsRowNumber}
use Rattle.gj_shape.specs.Values.{IsValueAt}
use Rattle.gj_rule.specs.Kind.{IsKindValue}
use Rattle.gj_rule.specs.declared.kind.RuleKind.{RuleKind}
use Rattle.gj_rule.specs.declared.kind.RuleKind.TheVariants.{Gmic, Table}
use Rattle.gj_rule.proofs.ClosedForm.{IsRestOf, one_minus_top, one_times}
use Rattle.gj_theory.specs.Cuts.{IsGmicValue, IsValueOf, one_minus}

pub complement_parts : (x c : Frac) → pos 0 ≤ℤ numerator x → numerator x ≤ℤ denominator x →
    IsRatio c (denominator x -ℤ numerator x) (denominator x) →
    (c.num ≡ x.den -ℤ x.num) × (c.den ≡ x.den)
complement_parts x c low high is =
    parts_from_is c (x.den -ℤ x.num) x.den x.lowest.positive
    (complement_lowest x.num x.den x.lowest low high).coprime is

-- ---- the two branches: r is the fractional part of x, c is 1 - r, and d is 1 - f

pub rising_value : (f x r y : Frac) → IsRestOf x r.num r.den →
    (LessValue (fraction_of f) (fraction_of r) → ⊥) →
    SameValue (fraction_of y) (quotient_of (fraction_of r) (fraction_of f)) → IsGmicValue f x y
rising_value f x r y rest low is = record {
  rises = λ w floor h. let parts = rest w floor in
      subst₂ (λ n d. SameValue (fraction_of y)
      (quotient_of (record { top = n; bottom = d }) (fraction_of f))) parts.0 parts.1 is;
  falls = λ w floor h. let parts = rest w floor in
      absurd (low (subst₂ (λ n d. LessValue (fraction_of f) (record { top = n; bottom = d }))
      (sym parts.0) (sym parts.1) h));
}

pub falling_value : (f x r c d y : Frac) → IsRestOf x r.num r.den →
    LessValue (fraction_of f) (fraction_of r) →
    (c.num ≡ r.den -ℤ r.num) × (c.den ≡ r.den) → (d.num ≡ f.den -ℤ f.num) × (d.den ≡ f.den) →
    SameValue (fraction_of y) (quotient_of (fraction_of c) (fraction_of d)) → IsGmicValue f x y
falling_value f x r c d y rest high c_is d_is is = record {
  rises = λ w floor low. let parts = rest w floor in
      absurd (low (subst₂ (λ n m. LessValue (fraction_of f) (record { top = n; bottom = m }))
      parts.0 parts.1 high));
  falls = λ w floor h. let parts = rest w floor in
      let top = ap₂ (λ a b. a *ℤ b) (c_is.0 ∙ ap₂ (λ a b. a -ℤ b) parts.1 parts.0
      ∙ one_minus_top x.den (x.num -ℤ w *ℤ x.den))
      (d_is.1 ∙ one_times f.den) in
      let bottom = ap₂ (λ a b. a *ℤ b) (c_is.1 ∙ parts.1 ∙ one_times x.den)
      (d_is.0 ∙ one_minus_top f.den f.num) in
      subst₂ (IsRatio y) top bottom is;
}

-- ---- what has the value is the quotient

pub rising_back : (f x r y : Frac) → IsRestOf x r.num r.den →
    (LessValue (fraction_of f) (fraction_of r) → ⊥) → IsGmicValue f x y →
    SameValue (fraction_of y) (quotient_of (fraction_of r) (fraction_of f))
rising_back f x r y rest low h =
    let floor = quotient_is_floor x in
    let parts = rest _ floor in
    subst₂ (λ n d. SameValue (fraction_of y)
    (quotient_of (record { top = n; bottom = d }) (fraction_of f))) (sym parts.0) (sym parts.1)
    (h.rises _ floor (λ above. low
    (subst₂ (λ n d. LessValue (fraction_of f) (record { top = n; bottom = d })) (sym parts.0)
    (sym parts.1) above)))

pub falling_back : (f x r c d y : Frac) → IsRestOf x r.num r.den →
    LessValue (fraction_of f) (fraction_of r) →
    (c.num ≡ r.den -ℤ r.num) × (c.den ≡ r.den) → (d.num ≡ f.den -ℤ f.num) × (d.den ≡ f.den) →
    IsGmicValue f x y →
    SameValue (fraction_of y) (quotient_of (fraction_of c) (fraction_of d))
falling_back f x r c d y rest high c_is d_is h =
    let floor = quotient_is_floor x in
    let w = int_div_euclid x.num x.den in
    let parts = rest w floor in
    let top = ap₂ (λ a b. a *ℤ b) (c_is.0 ∙ ap₂ (λ a b. a -ℤ b) parts.1 parts.0
    ∙ one_minus_top x.den (x.num -ℤ w *ℤ x.den))
    (d_is.1 ∙ one_times f.den) in
    let bottom = ap₂ (λ a b. a *ℤ b) (c_is.1 ∙ parts.1 ∙ one_times x.den)
    (d_is.0 ∙ one_minus_top f.den f.num) in
    subst₂ (IsRatio y) (sym top) (sym bottom)
    (h.falls w floor (subst₂ (λ n m. LessValue (fraction_of f) (record { top = n; bottom = m }))
    parts.0 parts.1 high))

-- ---- values at the fractional part

-- the value of the mixed-integer cut at the fractional part is that at x
gmic_of_part : (f x r y : Frac) → IsRestOf x r.num r.den → pos 0 ≤ℤ r.num → r.num <ℤ r.den →
    IsGmicValue f r y → IsGmicValue f x y
gmic_of_part f x r y rest low high h =
    let floor : IsFloor r (pos 0) =
    record { at_most = omega (arith, ints); next_above = omega (arith, ints) } in
    let same : rest_above r (pos 0) ≡ fraction_of r =
    ap (λ n. record { top = n; bottom = r.den }) (omega (arith, ints)) in
    let at : (w : ℤ) → IsFloor x w → rest_above r (pos 0) ≡ rest_above x w = λ w is.
    same ∙ ap₂ (λ n d. record { top = n; bottom = d }) (rest w is).0 (rest w is).1 in
    record {
      rises = λ w is below. subst
          (λ (p : Fraction). SameValue (fraction_of y) (quotient_of p (fraction_of f))) (at w is)
          (h.rises (pos 0) floor
          (λ above. below (subst (λ (p : Fraction). LessValue (fraction_of f) p)
          (at w is) above)));
      falls = λ w is above. subst
          (λ (p : Fraction). SameValue (fraction_of y)
          (quotient_of (one_minus p) (one_minus (fraction_of f)))) (at w is)
          (h.falls (pos 0) floor
          (subst (λ (p : Fraction). LessValue (fraction_of f) p) (sym (at w is)) above));
    }

index_moved : (n w d k q : ℤ) → n *ℤ q +ℤ k *ℤ (q *ℤ d) ≡ (n -ℤ w *ℤ d) *ℤ q +ℤ (k +ℤ w) *ℤ (q *ℤ d)
index_moved n w d k q = by_ring (n ∷ w ∷ d ∷ k ∷ q ∷ []) (search ring depth 40) refl

-- so is that of a function
table_of_part : (f : FunctionData) (x r y : Frac) → IsRestOf x r.num r.den → IsValueOf f r y →
    IsValueOf f x y
table_of_part f x r y rest h =
    let w = int_div_euclid x.num x.den in
    let parts = rest w (quotient_is_floor x) in
    let d_is : pos (unsigned_abs x.den) ≡ x.den =
    pos_abs_z x.den (omega (arith, ints, x.lowest.positive)) in
    subst (λ (d : ℕ). IsValueAt f (x.num *ℤ pos f.order) d y) (ap unsigned_abs parts.1)
    (λ j (k, is).
    let period : pos (f.order * unsigned_abs r.den) ≡ pos f.order *ℤ x.den =
    ap (λ (z : ℤ). pos (f.order * unsigned_abs z)) parts.1 ∙ ap (λ z. pos f.order *ℤ z) d_is in
    h j (
      k +ℤ w,
      is ∙ ap (λ p. x.num *ℤ pos f.order +ℤ k *ℤ p) period
          ∙ index_moved x.num w x.den k (pos f.order)
          ∙ ap₂ (λ n p. n *ℤ pos f.order +ℤ (k +ℤ w) *ℤ p) (sym parts.0) (sym period),
    ))

pub value_of_part : (kind : RuleKind) (x r y : Frac) → IsRestOf x r.num r.den → pos 0 ≤ℤ r.num →
    r.num <ℤ r.den → IsKindValue kind r y →
    IsKindValue kind x y
value_of_part (Gmic f) x r y rest low high h = gmic_of_part f x r y rest low high h
value_of_part (Table f) x r y rest low high h = table_of_part f x r y rest h

-- it can stand in a row if the denominator of x is below the bound
pub part_in_range : (x r : Frac) → IsRestOf x r.num r.den → pos 0 ≤ℤ r.num → r.num <ℤ r.den →
    HasDenominatorBelow denominator_bound x →
    IsRowNumber r
part_in_range x r rest low high fine =
    let parts = rest _ (quotient_is_floor x) in
    record {
      small = omega (arith, ints);
      fine =
          subst (λ (d : ℤ). unsigned_abs d < denominator_bound) (sym parts.1) fine;
    }

-- and only then
pub fine_from_part : (x r : Frac) → IsRestOf x r.num r.den → IsRowNumber r →
    HasDenominatorBelow denominator_bound x
fine_from_part x r rest h = subst (λ (d : ℤ). unsigned_abs d < denominator_bound)
    (rest _ (quotient_is_floor x)).1 h.fine
