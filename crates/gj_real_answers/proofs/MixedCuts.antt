-- Cuts of rows with continuous columns hold at all whole and real amounts.
use Rattle.std.proofs.Common.{◌≡◌, ◌-◌, ℤ, pos, ◌-ℤ◌, ◌*ℤ◌, ◌<ℤ◌, ◌≤ℤ◌, Bool, List, [], ◌∷◌, map, sym, subst, subst₂, ◌∙◌, arith}
use Rattle.std.specs.List.{AllZip}
use Rattle.std.specs.Int.{int_div_euclid}
use Rattle.std.proofs.lemmas.Int.{ints, by_lt_z}
use Rattle.std.proofs.Math.Nat.{eq-one_of_dvd-one}
use Rattle.gj_frac.specs.declared.Frac.{Frac}
use Rattle.gj_frac.specs.Floor.{HasFractionalPart}
use Rattle.gj_frac.specs.Fraction.{IsWhole, IsInside}
use Rattle.gj_frac.proofs.Floors.{quotient_is_floor}
use Rattle.gj_frac.proofs.OneDenominator.{denominator_divides_each}
use Rattle.gj_lemmas.proofs.Integers.{add_mul_z, mul_positive_z, mul_le_mul_right_z, mul_lt_mul_right_z}
use Rattle.gj_shape.specs.FunctionData.{FunctionData, IsWithinBounds, IsContinuous}
use Rattle.gj_shape.specs.Table.{IsMinimal}
use Rattle.gj_shape.proofs.TableLemmas.{pieces_of}
use Rattle.gj_rule.specs.declared.kind.RuleKind.{RuleKind}
use Rattle.gj_rule.specs.declared.kind.RuleKind.TheVariants as kind
use Rattle.gj_rule.specs.Kind.{IsKindValue}
use Rattle.gj_row.specs.declared.tableau.Entry.{Entry}
use Rattle.gj_row.specs.declared.tableau.Row.{Row}
use Rattle.gj_cut.specs.RowCuts.{IsTermOfKind}
use Rattle.gj_cut.specs.declared.cut.Term.{Term}
use Rattle.gj_mixed.specs.MixedCuts.{IsWeightTerm, IsMixedCutOfKind, IsGmicMixedCutOf, whole_entries, continuous_entries}
use Rattle.gj_mixed.specs.Slopes.{AreSlopesAtZero}
use Rattle.gj_mixed.specs.declared.cut.MixedCut.{MixedCut}
use Rattle.gj_mixed.specs.declared.cut.MixedCut.TheVariants as mixed_cut
use Rattle.gj_fields.specs.Fields.{OrderedField, HasFloor, whole}
use Rattle.gj_fields.specs.Functions.{HasRules}
use Rattle.gj_fields.specs.MixedCuts.{HasSlopesAtZero, weight_of}
use Rattle.gj_reals.specs.RealFunctions.{real_function, real_place}
use Rattle.gj_reals.proofs.AtReals.{rules_at_reals, order_some}
use Rattle.gj_reals.proofs.SlopesAtZero.{slopes}
use Rattle.gj_real_cuts.specs.Gmic.{gmic}
use Rattle.gj_real_cuts.specs.RealRows.{number_of, IsRealValue}
use Rattle.gj_real_cuts.proofs.MixedIntegerCut.{gmic_rules, gmic_slopes}
use Rattle.gj_real_cuts.proofs.RowCuts.{row_cut}
use Rattle.gj_real_cuts.proofs.FractionValues.{right_side, value_of_function, value_of_gmic, weight_number, rise_number, place_some, place_below, up_number, down_number, den_some, nat_some}
use Rattle.gj_real_answers.specs.RealMeaning.{RealHoldsFor}

-- the fractional part of a number that is not whole lies between 0 and 1
inside_of : (x f : Frac) → (IsWhole x → ⊥) → HasFractionalPart x f.num f.den → IsInside f
inside_of x f not_whole part =
    let w = int_div_euclid x.num x.den in
    let floor = quotient_is_floor x in
    let t = x.num -ℤ w *ℤ x.den in
    let is : t *ℤ f.den ≡ f.num *ℤ x.den = part w floor in
    let next = add_mul_z w (pos 1) x.den in
    let below = floor.at_most in
    let above = floor.next_above in
    let t_low : pos 0 ≤ℤ t = omega (arith, ints) in
    let t_high : t <ℤ x.den = omega (arith, ints) in
    let x_some = x.lowest.positive in
    let f_some = f.lowest.positive in
    let t_some : pos 0 <ℤ t =
    by_lt_z (pos 0) t (λ less. less)
    (λ most. absurd (not_whole (whole x w (omega (arith, ints))))) in
    let product = mul_positive_z t f.den t_some f_some in (
      by_lt_z (pos 0) f.num (λ less. less)
          (λ most. let no = mul_le_mul_right_z f.num (pos 0) x.den (omega (arith, ints)) most in
          absurd (omega (arith, ints))),
      by_lt_z f.num f.den (λ less. less)
          (λ most. let no = mul_le_mul_right_z f.den f.num x.den (omega (arith, ints)) most in
          let less = mul_lt_mul_right_z t x.den f.den f_some t_high in
          absurd (omega (arith, ints))),
    )
  where
    whole : (x : Frac) (w : ℤ) → x.num ≡ w *ℤ x.den → IsWhole x
    whole x w is =
        let divides = denominator_divides_each x w (pos 1) (let one : x.num *ℤ pos 1 ≡ x.num =
        omega (arith, ints) in one ∙ is) in
        let one = eq-one_of_dvd-one divides in
        let some = x.lowest.positive in
        omega (arith, ints)

-- terms have their values at their entries
term_values : {Q : Entry → Term → Type 0} (P : Frac → Frac → Type 0) →
    ((e : Entry) (t : Term) → Q e t → P t.entry t.cut) →
    (entries : List Entry) (terms : List Term) → AllZip Q entries terms →
    AllZip P (map (λ t. t.entry) terms) (map (λ t. t.cut) terms)
term_values P q [] [] h = tt
term_values P q [] (t ∷ terms) h = absurd h
term_values P q (e ∷ entries) [] h = absurd h
term_values P q (e ∷ entries) (t ∷ terms) h = (q e t h.0, term_values P q entries terms h.1)

module _ {R : Type 0} (K : OrderedField R) (floors : HasFloor K) where
  weight_at : (up down : Frac) (e : Entry) (t : Term) → IsWeightTerm up down e t →
      IsRealValue K (weight_of K (number_of K up) (number_of K down)) t.entry t.cut
  weight_at up down e t h =
      subst (λ (x : Frac). IsRealValue K (weight_of K (number_of K up) (number_of K down)) x t.cut)
      (sym h.entry_is)
      (weight_number K floors up down e.value t.cut h.weight_is.rises h.weight_is.falls)

  -- the cut by a function v with these values and slopes
  cut_by : (v : R → R) (f : R) (up down : Frac) (k : RuleKind) → HasRules K v f →
      HasSlopesAtZero K v (number_of K up) (number_of K down) →
      ((x y : Frac) → IsKindValue k x y → IsRealValue K v x y) →
      (row : Row) (entries columns : List Entry) (terms weights : List Term) (w : ℤ) →
      number_of K row.rhs ≡ K.plus (whole K w) f →
      AllZip (IsTermOfKind k) entries terms → AllZip (IsWeightTerm up down) columns weights →
      RealHoldsFor K row (mixed_cut.Cut terms weights)
  cut_by v f up down k rules at_zero values row entries columns terms weights w right are_terms
      are_weights =
      row_cut K floors v f (number_of K up) (number_of K down) rules at_zero
      (map (λ t. t.entry) terms) (map (λ t. t.entry) weights) row.rhs
      (map (λ t. t.cut) terms) (map (λ t. t.cut) weights) w right
      (term_values (IsRealValue K v)
      (λ e t h. subst (λ (x : Frac). IsRealValue K v x t.cut) (sym h.entry_is)
      (values e.value t.cut h.value_is))
      entries terms are_terms)
      (term_values (IsRealValue K (weight_of K (number_of K up) (number_of K down)))
      (weight_at up down) columns weights are_weights)

  pub cut_by_function : (f : FunctionData) (up down : Frac) (continuous : List Bool) (row : Row)
      (cut : MixedCut) → IsWithinBounds f → IsContinuous f → IsMinimal f →
      AreSlopesAtZero f up down → IsMixedCutOfKind (kind.Table f) up down continuous row cut →
      RealHoldsFor K row cut
  cut_by_function f up down columns row (mixed_cut.Cut terms weights) bounds continuous minimal
      at_zero (not_whole, part, are_terms, are_weights) =
      cut_by (real_function K floors f) (real_place K f) up down (kind.Table f)
      (rules_at_reals K floors f (pieces_of bounds) minimal)
      (subst₂ (HasSlopesAtZero K (real_function K floors f))
      (sym (rise_number K floors f bounds up 1 at_zero.up_is))
      (sym (rise_number K floors f bounds down (f.order - 1) at_zero.down_is))
      (slopes K floors f bounds continuous minimal))
      (value_of_function K floors f bounds minimal)
      row (whole_entries columns row.entries) (continuous_entries columns row.entries) terms weights
      (int_div_euclid row.rhs.num row.rhs.den)
      (right_side K floors row.rhs (pos f.place) (pos f.order)
      (nat_some f.order (order_some K floors f (pieces_of bounds))) part)
      are_terms are_weights
  cut_by_function f up down columns row mixed_cut.Integral bounds continuous minimal at_zero is = tt
  cut_by_function f up down columns row mixed_cut.OtherFraction bounds continuous minimal at_zero
      is = tt

  pub cut_by_gmic : (continuous : List Bool) (row : Row) (cut : MixedCut) →
      IsGmicMixedCutOf continuous row cut → RealHoldsFor K row cut
  cut_by_gmic columns row (mixed_cut.Cut terms weights)
      (f, up, down, at_zero, is) =
      let inside = inside_of row.rhs f is.0 is.1 in
      let some = place_some K floors f inside in
      let high = place_below K floors f inside in
      cut_by (gmic K floors (number_of K f)) (number_of K f) up down (kind.Gmic f)
      (gmic_rules K floors (number_of K f) some high)
      (subst₂ (HasSlopesAtZero K (gmic K floors (number_of K f)))
      (sym (up_number K floors f inside up at_zero.up_is))
      (sym (down_number K floors f inside down at_zero.down_is))
      (gmic_slopes K floors (number_of K f) some high))
      (λ x y. value_of_gmic K floors f inside x y)
      row (whole_entries columns row.entries) (continuous_entries columns row.entries) terms weights
      (int_div_euclid row.rhs.num row.rhs.den)
      (right_side K floors row.rhs f.num f.den (den_some f) is.1)
      is.2 is.3
  cut_by_gmic columns row mixed_cut.Integral is = tt
  cut_by_gmic columns row mixed_cut.OtherFraction is = tt
