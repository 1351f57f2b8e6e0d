-- Functions, which may jump, whose values at the rational numbers are those of another: both are
-- extreme or neither is.
use Rattle.std.proofs.Common.{◌≡◌, ◌↔◌, ℕ, ◌+◌, ◌-◌, ◌*◌, ◌<◌, pos, ◌*ℤ◌, sym, ap, ◌∙◌, mul-pos, arith}
use Rattle.std.proofs.Math.Nat.{lt_of_mul-lt-mul_left}
use Rattle.gj_shape.specs.FunctionData.{FunctionData, IsWithinBounds, IsPiecewise}
use Rattle.gj_shape.specs.Refinement.{IsRefinement}
use Rattle.gj_shape.specs.Table.{table}
use Rattle.gj_shape.proofs.TableLemmas.{pieces_of}
use Rattle.gj_fields.specs.Functions.{IsSamePoint, IsExtremeAmong}
use Rattle.gj_fields.specs.Rational.{Rational}
use Rattle.gj_fields.proofs.Rationals.{rationals, rational_floors}
use Rattle.gj_fields.proofs.Points.{same_point}
use Rattle.gj_reals.specs.RealFunctions.{real_function, real_place}
use Rattle.gj_reals.proofs.AtFractions.{value_at_fraction}
use Rattle.gj_jumps.proofs.Decision.{extreme_by_cover, covered_by_extreme}
use Rattle.gj_jumps.proofs.WholeSolutions.{only_zero_whole, only_zero_in_field}
use Rattle.gj_transform.specs.Transforms.{IsMirrorOf}
use Rattle.gj_transform.proofs.MirrorTables.{mirror_entries}
use Rattle.gj_limit_averages.specs.Averages.{IsExtremeFunction}
use Rattle.gj_limit_averages.proofs.FromAverages.{conditions_of_extreme}
use Rattle.gj_limit_averages.proofs.FromConditions.{extreme_from_conditions, same_place}
use Rattle.gj_limit_averages.proofs.TurnedFunctions.{IsTurn, staying, mirroring, extreme_alike}
use Rattle.gj_limit_averages.proofs.AtRationals.{quotient, same_quotient, value_at_point, opposite_point, opposite_places, place_of}

-- ---- as data, and at the rational numbers

abbrev value : FunctionData → Rational → Rational
value f = real_function rationals rational_floors f

abbrev place : FunctionData → Rational
place f = real_place rationals f

abbrev IsExtremeThere : FunctionData → Type 0
IsExtremeThere f = IsExtremeAmong rationals (value f) (place f)

extreme_there : (f : FunctionData) → IsWithinBounds f → IsExtremeFunction f → IsExtremeThere f
extreme_there f bounds h =
    let c = conditions_of_extreme f bounds h in
    extreme_by_cover rationals rational_floors f bounds c.minimal c.covered
    (only_zero_in_field rationals f bounds c.only_zero)

extreme_from_there : (f : FunctionData) → IsWithinBounds f → IsExtremeThere f → IsExtremeFunction f
extreme_from_there f bounds h =
    let all = covered_by_extreme rationals rational_floors f bounds h in
    extreme_from_conditions f bounds
    (record { minimal = all.0; covered = all.1; only_zero = only_zero_whole rationals f all.2 })

same_verdict : (f g : FunctionData) → IsWithinBounds f → IsWithinBounds g →
    (turn : Rational → Rational) → IsTurn rationals turn →
    ((x : Rational) → value g x ≡ value f (turn x)) →
    IsSamePoint rationals (turn (place g)) (place f) →
    (IsExtremeFunction f ↔ IsExtremeFunction g)
same_verdict f g l l' turn is same there =
    let alike =
    extreme_alike rationals turn is (value f) (value g) (place f) (place g) same there in (
      λ h. extreme_from_there g l' (alike.0 (extreme_there f l h)),
      λ h. extreme_from_there f l (alike.1 (extreme_there g l' h)),
    )

-- equal values of tables
same_value : (f g : FunctionData) → IsPiecewise f → IsPiecewise g → (l m i j : ℕ) → 0 < l → 0 < m →
    table g m i *ℤ pos (f.scale * l) ≡ table f l j *ℤ pos (g.scale * m) →
    value g (quotient rationals i (g.order * m)) ≡ value f (quotient rationals j (f.order * l))
same_value f g pieces pieces' l m i j l_some m_some same =
    let low = pieces.scale_low in
    let low' = pieces'.scale_low in
    let scale_some : 0 < f.scale = omega arith in
    let scale_some' : 0 < g.scale = omega arith in
    value_at_fraction rationals rational_floors g pieces' m m_some i
    ∙ same_quotient rationals (table g m i) (table f l j) (g.scale * m) (f.scale * l)
    (mul-pos scale_some' m_some) (mul-pos scale_some l_some) same
    ∙ sym (value_at_fraction rationals rational_floors f pieces l l_some j)

-- ---- a refinement

module _ (f g : FunctionData) (times : ℕ) (l : IsWithinBounds f) (l' : IsWithinBounds g)
    (r : IsRefinement f times g) where
  times_some : 0 < times
  times_some =
      let low = l'.order_low in
      let order = r.order in
      lt_of_mul-lt-mul_left f.order (omega (arith, order))

  refined_value : (x : Rational) → value g x ≡ value f x
  refined_value x =
      let low = l'.order_low in
      let order_some : 0 < g.order = omega arith in
      let p = place_of g.order order_some x in
      let m = p.multiple in
      let i = p.index in
      let grid : g.order * m ≡ f.order * (times * m) = ap (λ n. n * m) r.order ∙ omega arith in
      value_at_point rationals rational_floors g (pieces_of l') x _ p.point
      ∙ same_value f g (pieces_of l) (pieces_of l') (times * m) m i i (mul-pos times_some p.some)
      p.some
      (r.same_values m i p.some)
      ∙ ap (λ n. value f (quotient rationals i n)) (sym grid)
      ∙ sym (value_at_point rationals rational_floors f (pieces_of l) x _ p.point)

  pub refined_extreme : IsExtremeFunction f ↔ IsExtremeFunction g
  refined_extreme =
      same_verdict f g l l' (λ x. x) (staying rationals) refined_value
      (same_point rationals (place g) (place f)
      (same_place rationals rational_floors f (pieces_of l) times g times_some r.order r.place))

-- ---- a mirror

module _ (f g : FunctionData) (l : IsWithinBounds f) (l' : IsWithinBounds g)
    (r : IsMirrorOf f g) where
  mirrored_value : (x : Rational) → value g x ≡ value f (rationals.negative x)
  mirrored_value x =
      let low = l.order_low in
      let order_some : 0 < f.order = omega arith in
      let p = place_of f.order order_some x in
      let m = p.multiple in
      let i = p.index in
      let n = f.order * m in
      let n_some : 0 < n = mul-pos order_some p.some in
      let c = n - 1 in
      let last : c + 1 ≡ n = omega arith in
      let grid : g.order * m ≡ n = ap (λ q. q * m) r.order in
      value_at_point rationals rational_floors g (pieces_of l') x _ p.point
      ∙ ap (λ d. value g (quotient rationals i d)) (sym grid)
      ∙ same_value f g (pieces_of l) (pieces_of l') m m i (i * c) p.some p.some
      (mirror_entries f g m c i p.some last r)
      ∙ sym (value_at_point rationals rational_floors f (pieces_of l) (rationals.negative x) _
      (opposite_point rationals x i c n n_some last p.point))

  mirrored_place : IsSamePoint rationals (rationals.negative (place g)) (place f)
  mirrored_place =
      let low = l.order_low in
      opposite_places rationals f.place g.place f.order g.order (omega arith) r.order r.place

  pub mirrored_extreme : IsExtremeFunction f ↔ IsExtremeFunction g
  mirrored_extreme =
      same_verdict f g l l' rationals.negative (mirroring rationals) mirrored_value mirrored_place
