-- A function with all intervals covered, whose system only 0 solves, is no average of two others.
use Rattle.std.proofs.Common.{◌≡◌, ℕ, inl, inr, ◌+◌, ◌-◌, ◌*◌, ◌<◌, ℤ, pos, ◌+ℤ◌, ◌*ℤ◌, [], ◌∷◌, refl, sym, subst, ap, ap₂, ◌∙◌, mul-pos, arith}
use Rattle.std.proofs.lemmas.Int.{ints}
use Rattle.gj_shape.specs.FunctionData.{FunctionData, IsWithinBounds, IsPiecewise, at}
use Rattle.gj_shape.specs.Table.{table}
use Rattle.gj_shape.proofs.TableLemmas.{at_plus_order, table_of_order, table_between, pieces_of}
use Rattle.gj_fields.specs.Fields.{OrderedField, HasFloor, number, whole}
use Rattle.gj_fields.specs.Functions.{IsValid, IsExtremeAmong}
use Rattle.gj_fields.proofs.Rationals.{rationals, rational_floors}
use Rattle.gj_fields.proofs.FromRules.{rules_minimal}
use Rattle.gj_fields.proofs.Ring.{ring}
use Rattle.gj_fields.proofs.Ring.Term.{var, ◌⊗◌}
use Rattle.gj_fields.proofs.Wholes.{number_times}
use Rattle.gj_reals.specs.RealFunctions.{real_function, real_place}
use Rattle.gj_reals.proofs.AtReals.{number_some, rules_at_reals}
use Rattle.gj_reals.proofs.AtFractions.{inverse_times, value_at_fraction}
use Rattle.gj_reals.proofs.Lift.{whole_injective}
use Rattle.gj_jumps.specs.ExtremeWithJumps.{IsExtremeWithJumps}
use Rattle.gj_jumps.proofs.Decision.{extreme_by_cover}
use Rattle.gj_jumps.proofs.WholeSolutions.{only_zero_in_field}
use Rattle.gj_limit_averages.specs.Averages.{IsMinimalOver, Differ, AreDifferentParts, IsExtremeFunction}
use Rattle.gj_limit_averages.proofs.AverageValues.{pieces_over, average_everywhere}

-- ---- a part

module _ {R : Type 0} (K : OrderedField R) (floors : HasFloor K) where
  open K use {plus, times, zero as o, one as e, negative}

  -- the place on a finer grid
  pub same_place : (f : FunctionData) (bounds : IsPiecewise f) (m : ℕ) (g : FunctionData) → 0 < m →
      g.order ≡ f.order * m → g.place ≡ f.place * m → real_place K g ≡ real_place K f
  same_place f bounds m g some order place =
      let low = bounds.order_low in
      let k = number K f.place in
      let M = number K m in
      let u = K.inverse (number K (f.order * m)) in
      ap₂ (λ n d. times (number K n) (K.inverse (number K d))) place order
      ∙ ap (λ t. times t u) (number_times K f.place m)
      ∙ ring K (k ∷ M ∷ u ∷ []) (var 0 ⊗ var 1 ⊗ var 2) (var 0 ⊗ (var 2 ⊗ var 1)) refl
      ∙ ap (times k) (inverse_times K floors f bounds m some f.order (omega arith))

  valid_over : (f : FunctionData) (bounds : IsPiecewise f) (m c : ℕ) (g : FunctionData) → 0 < m →
      0 < c → IsMinimalOver f m c g → IsValid K (real_function K floors g) (real_place K f)
  valid_over f bounds m c g some c_some h =
      subst (IsValid K (real_function K floors g)) (same_place f bounds m g some h.order h.place)
      (rules_minimal K (real_function K floors g) (real_place K g)
      (rules_at_reals K floors g (pieces_over f m c g bounds some c_some h) h.minimal)).valid

  -- ---- what is the same at all numbers is the same as data

  -- numbers over one scale
  same_over : (s : ℕ) (x y : ℤ) → 0 < s →
      times (whole K x) (K.inverse (number K s)) ≡ times (whole K y) (K.inverse (number K s)) →
      x ≡ y
  same_over s x y some same =
      let S = number K s in
      let u = K.inverse S in
      let back = λ (t : R). ring K (t ∷ u ∷ S ∷ []) (var 0 ⊗ var 1 ⊗ var 2)
      (var 0 ⊗ (var 2 ⊗ var 1)) refl
      ∙ ap (times t) (K.times_inverse S (number_some K s some)) ∙ K.times_one t in
      whole_injective K x y (sym (back (whole K x)) ∙ ap (λ t. times t S) same ∙ back (whole K y))

  same_tables : (g h : FunctionData) → IsPiecewise g → IsPiecewise h → g.order ≡ h.order →
      g.scale ≡ h.scale →
      ((x : R) → real_function K floors g x ≡ real_function K floors h x) → (m i : ℕ) → 0 < m →
      table g m i ≡ table h m i
  same_tables g h l l' order scale same m i some =
      let point = λ (n : ℕ). times (number K i) (K.inverse (number K (n * m))) in
      let scale_low = l'.scale_low in
      let h_scale : 0 < h.scale = omega arith in
      same_over (h.scale * m) (table g m i) (table h m i) (mul-pos h_scale some)
      (ap (λ s. times (whole K (table g m i)) (K.inverse (number K (s * m)))) (sym scale)
      ∙ sym (value_at_fraction K floors g l m some i)
      ∙ ap (λ n. real_function K floors g (point n)) order ∙ same (point h.order)
      ∙ value_at_fraction K floors h l' m some i)

-- from two points between neighbours
two_points_z : (x y x' y' : ℤ) → pos 2 *ℤ x +ℤ pos 1 *ℤ y ≡ pos 2 *ℤ x' +ℤ pos 1 *ℤ y' →
    pos 1 *ℤ x +ℤ pos 2 *ℤ y ≡ pos 1 *ℤ x' +ℤ pos 2 *ℤ y' → (x ≡ x') × (y ≡ y')
two_points_z x y x' y' first second = (omega (arith, ints), omega (arith, ints))

module _ (g h : FunctionData) (tables : (m i : ℕ) → 0 < m → table g m i ≡ table h m i) where
  same_value : (i : ℕ) → at g.value i ≡ at h.value i
  same_value i = sym (table_of_order g i) ∙ tables 1 i (omega arith) ∙ table_of_order h i

  same_limits : (i : ℕ) → (at g.right i ≡ at h.right i) × (at g.left (i + 1) ≡ at h.left (i + 1))
  same_limits i =
      two_points_z (at g.right i) (at g.left (i + 1)) (at h.right i) (at h.left (i + 1))
      (sym (table_between g 3 i 1 (omega arith) (omega arith)) ∙ tables 3 (i * 3 + 1) (omega arith)
      ∙ table_between h 3 i 1 (omega arith) (omega arith))
      (sym (table_between g 3 i 2 (omega arith) (omega arith)) ∙ tables 3 (i * 3 + 2) (omega arith)
      ∙ table_between h 3 i 2 (omega arith) (omega arith))

  same_left : IsPiecewise g → IsPiecewise h → g.order ≡ h.order → (i : ℕ) →
      at g.left i ≡ at h.left i
  same_left l l' order i =
      let low = l.order_low in
      let j = i + (g.order - 1) in
      let g_turn : j + 1 ≡ i + g.order = omega arith in
      let h_turn : j + 1 ≡ i + h.order = omega arith in
      sym (at_plus_order g.left i g.order l.left_length) ∙ ap (at g.left) (sym g_turn)
      ∙ (same_limits j).1
      ∙ ap (at h.left) h_turn ∙ at_plus_order h.left i h.order l'.left_length

  none_differ : IsPiecewise g → IsPiecewise h → g.order ≡ h.order → Differ g h → ⊥
  none_differ l l' order (i, inl left) = left (same_left l l' order i)
  none_differ l l' order (i, inr (inl value)) = value (same_value i)
  none_differ l l' order (i, inr (inr right)) = right (same_limits i).0

-- ---- the theorem

no_parts : {R : Type 0} (K : OrderedField R) (floors : HasFloor K) (f : FunctionData) →
    IsPiecewise f →
    IsExtremeAmong K (real_function K floors f) (real_place K f) → (m c : ℕ) (g h : FunctionData) →
    AreDifferentParts f m c g h → ⊥
no_parts K floors f l extreme m c g h d =
    let first = d.first in
    let second = d.second in
    let g_pieces = pieces_over f m c g l d.finer d.factor first in
    let h_pieces = pieces_over f m c h l d.finer d.factor second in
    let order : g.order ≡ h.order = first.order ∙ sym second.order in
    let scale : g.scale ≡ h.scale = first.scale ∙ sym second.scale in
    none_differ g h
    (same_tables K floors g h g_pieces h_pieces order scale
    (extreme.no_average (real_function K floors g) (real_function K floors h)
    (valid_over K floors f l m c g d.finer d.factor first)
    (valid_over K floors f l m c h d.finer d.factor second)
    (average_everywhere K floors f l m d.finer c d.factor g h first second d.average)))
    g_pieces h_pieces order d.different

pub extreme_from_conditions : (f : FunctionData) → IsWithinBounds f → IsExtremeWithJumps f →
    IsExtremeFunction f
extreme_from_conditions f bounds h = record {
  minimal = h.minimal;
  no_average =
      no_parts rationals rational_floors f (pieces_of bounds)
      (extreme_by_cover rationals rational_floors f bounds h.minimal h.covered
      (only_zero_in_field rationals f bounds h.only_zero));
}
