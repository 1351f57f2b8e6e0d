-- The fractional part of a right side, and the place of a rule.
use Rattle.std.proofs.Common.{◌≡◌, ◌≢◌, ◌^◌, ◌<◌, ◌≤◌, [], ◌∷◌, ℤ, pos, ◌+ℤ◌, ◌-ℤ◌, ◌*ℤ◌, ◌<ℤ◌, ◌≤ℤ◌, unsigned_abs, sym, ap, ◌∙◌, subst, arith}
use Rattle.std.specs.Int.{◌∣◌, int_div_euclid}
use Rattle.std.proofs.lemmas.Int.{ints}
use Rattle.std.proofs.lemmas.Nat.Gcd.{le_of_dvd}
use Rattle.std.proofs.lemmas.List.Elements.{All-head}
use Rattle.gj_frac.specs.declared.Frac.{Frac}
use Rattle.gj_frac.specs.Floor.{HasFractionalPart}
use Rattle.gj_frac.specs.Fraction.{IsRatio, numerator, denominator, IsInside, IsWhole}
use Rattle.gj_frac.proofs.Floors.{quotient_is_floor}
use Rattle.gj_frac.proofs.SameValues.{is_along, same_from_is}
use Rattle.gj_lemmas.proofs.Divisors.{whole_multiple}
use Rattle.gj_lemmas.proofs.Integers.{add_mul_z, mul_comm_z, mul_lt_cancel_right_z, mul_lt_mul_right_z, mul_positive_z, one_mul_z, pos_abs_z, positive_some_z}
use Rattle.gj_lemmas.proofs.Ratios.{ratio_along}
use Rattle.gj_shape.proofs.OverScale.{all_divide}
use Rattle.gj_rule.specs.Kind.{IsKindWithinBounds, HasPlace}
use Rattle.gj_rule.specs.declared.kind.RuleKind.{RuleKind}
use Rattle.gj_rule.specs.declared.kind.RuleKind.TheVariants.{Gmic, Table}
use Rattle.gj_cut.specs.RowCuts.{HasPart}

-- ---- the fractional part is the place

part_is : (x r : Frac) (n d : ℤ) → HasPart (Gmic r) x → IsRatio r n d → HasFractionalPart x n d
part_is x r n d part is w floor =
    ratio_along _ x.den r.num r.den n d (positive_some_z r.den r.lowest.positive) (part w floor) is

is_part : (x r : Frac) (n d : ℤ) → HasPart (Gmic r) x → HasFractionalPart x n d → IsRatio r n d
is_part x r n d part has =
    let floor = quotient_is_floor x in
    is_along r _ x.den n d (positive_some_z x.den x.lowest.positive) (sym (part _ floor))
    (has _ floor)

-- the part r is n/d exactly if it is the fraction p
part_is_place : (x r p : Frac) (n d : ℤ) → unsigned_abs d ≢ 0 → HasPart (Gmic r) x → IsRatio p n d →
    (r ≡ p → HasFractionalPart x n d) × (HasFractionalPart x n d → r ≡ p)
part_is_place x r p n d some part is = (
  λ same. part_is x r n d part (subst (λ (y : Frac). IsRatio y n d) (sym same) is),
  λ has. same_from_is r p n d some (is_part x r n d part has) is,
)

pub part_at_place : (kind : RuleKind) (x r p : Frac) → IsKindWithinBounds kind →
    HasPart (Gmic r) x → HasPlace kind p →
    (r ≡ p → HasPart kind x) × (HasPart kind x → r ≡ p)
part_at_place (Gmic f) x r p bounded part is =
    part_is_place x r p f.num f.den (positive_some_z f.den f.lowest.positive) part is
part_at_place (Table shape) x r p bounded part is =
    part_is_place x r p (pos shape.place) (pos shape.order) (omega (arith, bounded.order_low)) part
    is

-- ---- the part f of a right side that is not whole

whole_multiple_is : (x : Frac) (w : ℤ) → x.num ≡ w *ℤ x.den → IsWhole x
whole_multiple_is x w h =
    let d = unsigned_abs x.den in
    let d_is : pos d ≡ x.den = pos_abs_z x.den (omega (arith, ints, x.lowest.positive)) in
    let multiple : pos 1 *ℤ x.num ≡ w *ℤ pos d = one_mul_z x.num ∙ h
    ∙ ap (λ z. w *ℤ z) (sym d_is) in
    let bound : d ≤ 1 = le_of_dvd (omega arith)
    (whole_multiple x.num w d 1 x.lowest.coprime multiple) in
    omega (arith, ints, x.lowest.positive)

-- it is between 0 and 1
pub part_inside : (x f : Frac) → HasPart (Gmic f) x → (IsWhole x → ⊥) → IsInside f
part_inside x f part not_whole =
    let w = int_div_euclid x.num x.den in
    let floor = quotient_is_floor x in
    let r = x.num -ℤ w *ℤ x.den in
    let is : r *ℤ f.den ≡ f.num *ℤ x.den = part w floor in
    let next : (w +ℤ pos 1) *ℤ x.den ≡ w *ℤ x.den +ℤ x.den = add_mul_z w (pos 1) x.den
    ∙ ap (λ z. w *ℤ x.den +ℤ z) (one_mul_z x.den) in
    let at_least : pos 0 ≤ℤ r = omega (arith, ints, floor.at_most) in
    let other : x.num ≡ w *ℤ x.den → ⊥ = λ same. not_whole (whole_multiple_is x w same) in
    let some : pos 0 <ℤ r = omega (arith, ints) in
    let below : r <ℤ x.den = omega (arith, ints, floor.next_above) in
    let low = mul_positive_z r f.den some f.lowest.positive in
    let high : (r *ℤ f.den) <ℤ (x.den *ℤ f.den) =
    mul_lt_mul_right_z r x.den f.den f.lowest.positive below in
    let turned = mul_comm_z x.den f.den in (
      mul_lt_cancel_right_z (pos 0) f.num x.den x.lowest.positive (omega (arith, ints)),
      mul_lt_cancel_right_z f.num f.den x.den x.lowest.positive (omega (arith, ints)),
    )

-- its denominator divides that of the right side
pub part_fine : (x f : Frac) → HasPart (Gmic f) x → unsigned_abs (denominator x) < 2 ^ 31 →
    unsigned_abs (denominator f) < 2 ^ 31
part_fine x f part fine =
    let w = int_div_euclid x.num x.den in
    let d = unsigned_abs x.den in
    let d_is : pos d ≡ x.den = pos_abs_z x.den (omega (arith, ints, x.lowest.positive)) in
    let over : IsRatio f (numerator x -ℤ w *ℤ x.den) (pos d) =
    subst (λ (z : ℤ). IsRatio f (numerator x -ℤ w *ℤ x.den) z) (sym d_is)
    (sym (part w (quotient_is_floor x))) in
    let divides = All-head (λ y. unsigned_abs (denominator y) ∣ d) f []
    (all_divide d (f ∷ []) (_ ∷ []) (over, tt)) in
    let bound : unsigned_abs (denominator f) ≤ d =
    le_of_dvd (omega (arith, ints, x.lowest.positive)) divides in
    omega arith
