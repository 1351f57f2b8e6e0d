-- Between neighbouring points a fill-in goes along a line of one of its two slopes.
use Rattle.std.proofs.Common.{◌≡◌, ℕ, zero, suc, inl, inr, ◌+◌, ◌-◌, ◌*◌, ◌<◌, ◌≤◌, Bool, true, false, ◌&&◌, cond, ℤ, pos, ◌+ℤ◌, ◌-ℤ◌, ◌*ℤ◌, ◌≤ℤ◌, ◌<ℤ◌, neg_ℤ, int_lt, List, [], ◌∷◌, ◌++◌, flat_map, refl, ap, sym, subst, ◌∙◌, append_assoc, arith}
use Rattle.std.specs.List.{range_with_len}
use Rattle.std.proofs.Math.Nat.{zero-add}
use Rattle.std.proofs.lemmas.Int.{ints}
use Rattle.gj_lemmas.proofs.Integers.{mul_le_mul_left_z, mul_le_mul_right_z, mul_le_cancel_right_z, mul_nonnegative_z, mul_neg_z, mul_add_z, add_mul_z}
use Rattle.gj_lemmas.proofs.Ring.{by_ring, ring}
use Rattle.gj_shape.specs.FunctionData.{FunctionData, at}
use Rattle.gj_shape.specs.TwoSlopes.{rise}
use Rattle.gj_fill.specs.FillIn.{AreGreatestSteps, filled}
use Rattle.gj_frac.specs.Fraction.{AtMostValue}
use Rattle.gj_fill.specs.FillPoints.{GraphPoint, value_point, crossing_point, points_from, fill_points, HasFillSlope}
use Rattle.gj_fill.proofs.FillIns.{rises_to, falls_from, less_part}
use Rattle.gj_fill.proofs.FillLines.{value_line, next_line, crossing_line, behind_line, last_line}

-- ---- from fractions to places

-- u/w at most i/(q m) and the like, without the order q
without_order : (q : ℕ) (x y x' y' : ℤ) → 0 < q → x ≡ x' *ℤ pos q → y ≡ y' *ℤ pos q → x ≤ℤ y →
    x' ≤ℤ y'
without_order q x y x' y' some e g low =
    mul_le_cancel_right_z x' y' (pos q) (omega (arith, ints)) (omega (arith, ints))

behind_value : (q m a i : ℕ) → 0 < q →
    AtMostValue (record { top = pos a; bottom = pos q })
    (record { top = pos i; bottom = pos (q * m) }) → a * m ≤ i
behind_value q m a i some low =
    let h : pos (a * m) ≤ℤ pos i = without_order q (pos a *ℤ pos (q * m)) (pos i *ℤ pos q)
    (pos (a * m)) (pos i) some
    (by_ring (pos a ∷ pos q ∷ pos m ∷ []) (search ring depth 20) refl) refl low in
    omega (arith, ints)

before_value : (q m a i : ℕ) → 0 < q →
    AtMostValue (record { top = pos i; bottom = pos (q * m) })
    (record { top = pos a; bottom = pos q }) → i ≤ a * m
before_value q m a i some low =
    let h : pos i ≤ℤ pos (a * m) = without_order q (pos i *ℤ pos q) (pos a *ℤ pos (q * m)) (pos i)
    (pos (a * m)) some
    refl (by_ring (pos a ∷ pos q ∷ pos m ∷ []) (search ring depth 20) refl) low in
    omega (arith, ints)

before_crossing : (q m a i : ℕ) (w c : ℤ) → 0 < q →
    AtMostValue (record { top = pos i; bottom = pos (q * m) })
    (record { top = pos a *ℤ w +ℤ c; bottom = pos q *ℤ w }) →
    (pos i *ℤ w) ≤ℤ (pos (a * m) *ℤ w +ℤ pos m *ℤ c)
before_crossing q m a i w c some low =
    without_order q (pos i *ℤ (pos q *ℤ w)) ((pos a *ℤ w +ℤ c) *ℤ pos (q * m)) (pos i *ℤ w)
    (pos (a * m) *ℤ w +ℤ pos m *ℤ c) some
    (by_ring (pos i ∷ pos q ∷ w ∷ []) (search ring depth 20) refl)
    (by_ring (pos a ∷ pos q ∷ pos m ∷ w ∷ c ∷ []) (search ring depth 30) refl) low

behind_crossing : (q m a i : ℕ) (w c : ℤ) → 0 < q →
    AtMostValue (record { top = pos a *ℤ w +ℤ c; bottom = pos q *ℤ w })
    (record { top = pos i; bottom = pos (q * m) }) →
    (pos (a * m) *ℤ w +ℤ pos m *ℤ c) ≤ℤ (pos i *ℤ w)
behind_crossing q m a i w c some low =
    without_order q ((pos a *ℤ w +ℤ c) *ℤ pos (q * m)) (pos i *ℤ (pos q *ℤ w))
    (pos (a * m) *ℤ w +ℤ pos m *ℤ c) (pos i *ℤ w) some
    (by_ring (pos a ∷ pos q ∷ pos m ∷ w ∷ c ∷ []) (search ring depth 30) refl)
    (by_ring (pos i ∷ pos q ∷ w ∷ []) (search ring depth 20) refl) low

-- ---- the four stretches

-- from a value to the next, if the function rises by s
whole_rise : (f : FunctionData) (s t : ℤ) (a : ℕ) → 0 < f.order →
    AreGreatestSteps (at f.value) s t → rise f a ≡ s →
    HasFillSlope f s t (value_point f a) (value_point f (a + 1))
whole_rise f s t a some h same = inl (record {
  end = next_line f.order f.scale a (at f.value a) (at f.value (a + 1)) s (pos f.order *ℤ s) refl
      (omega (arith, ints));
  between = λ m i m_some low high.
      let start = behind_value f.order m a i some low in
      let end = before_value f.order m (a + 1) i some high in
      let r = i - a * m in
      let place : i ≡ a * m + r = omega arith in
      let r_low : r ≤ m = omega arith in
      let up : pos 0 ≤ℤ (s +ℤ t) = let x = h.rises 0 in let y = h.falls 0 in omega (arith, ints) in
      let product = mul_le_mul_right_z (pos r) (pos m) (s +ℤ t) up (omega (arith, ints)) in
      let c_is : pos m *ℤ (s +ℤ t) ≡ pos m *ℤ (rise f a +ℤ t) =
      ap (λ z. pos m *ℤ (z +ℤ t)) (sym same) in
      value_line f.order f.scale m a r i (at f.value a) s (pos f.order *ℤ s)
      (filled (at f.value) s t m i) place refl
      (ap (filled (at f.value) s t m) place
      ∙ rises_to (at f.value) s t m a r h m_some r_low (omega (arith, ints)));
})

-- the same if it falls by t
whole_fall : (f : FunctionData) (s t : ℤ) (a : ℕ) → 0 < f.order →
    AreGreatestSteps (at f.value) s t → rise f a ≡ neg_ℤ t →
    HasFillSlope f s t (value_point f a) (value_point f (a + 1))
whole_fall f s t a some h same = inr (record {
  end = next_line f.order f.scale a (at f.value a) (at f.value (a + 1)) (neg_ℤ t)
      (neg_ℤ (pos f.order *ℤ t))
      (sym (mul_neg_z (pos f.order) t)) (omega (arith, ints));
  between = λ m i m_some low high.
      let start = behind_value f.order m a i some low in
      let end = before_value f.order m (a + 1) i some high in
      let r = i - a * m in
      let place : i ≡ a * m + r = omega arith in
      let r_low : r ≤ m = omega arith in
      let up : pos 0 ≤ℤ (s +ℤ t) = let x = h.rises 0 in let y = h.falls 0 in omega (arith, ints) in
      let product = mul_le_mul_right_z (pos 0) (pos r) (s +ℤ t) up (omega (arith, ints)) in
      let none : rise f a +ℤ t ≡ pos 0 = omega (arith, ints) in
      let c_is : pos m *ℤ (rise f a +ℤ t) ≡ pos m *ℤ pos 0 = ap (λ z. pos m *ℤ z) none in
      let next : at f.value (a + 1) ≡ at f.value a +ℤ neg_ℤ t = omega (arith, ints) in
      let times : pos m *ℤ at f.value (a + 1) ≡ pos m *ℤ at f.value a +ℤ pos m *ℤ neg_ℤ t =
      ap (λ z. pos m *ℤ z) next ∙ mul_add_z (pos m) (at f.value a) (neg_ℤ t) in
      let m_neg = mul_neg_z (pos m) t in
      let r_neg = mul_neg_z (pos r) t in
      let part = less_part m r t r_low in
      value_line f.order f.scale m a r i (at f.value a) (neg_ℤ t) (neg_ℤ (pos f.order *ℤ t))
      (filled (at f.value) s t m i) place
      (sym (mul_neg_z (pos f.order) t))
      (ap (filled (at f.value) s t m) place
      ∙ falls_from (at f.value) s t m a r h m_some r_low (omega (arith, ints))
      ∙ omega (arith, ints));
})

-- from a value to the crossing
to_crossing : (f : FunctionData) (s t : ℤ) (a : ℕ) → 0 < f.order →
    AreGreatestSteps (at f.value) s t →
    neg_ℤ t <ℤ rise f a → rise f a <ℤ s →
    HasFillSlope f s t (value_point f a) (crossing_point f s t a)
to_crossing f s t a some h above below = inl (record {
  end = crossing_line f.order f.scale a (at f.value a) s t (rise f a +ℤ t);
  between = λ m i m_some low high.
      let start = behind_value f.order m a i some low in
      let end = before_crossing f.order m a i (s +ℤ t) (rise f a +ℤ t) some high in
      let r = i - a * m in
      let place : i ≡ a * m + r = omega arith in
      let split : pos i *ℤ (s +ℤ t) ≡ pos (a * m) *ℤ (s +ℤ t) +ℤ pos r *ℤ (s +ℤ t) =
      ap (λ n. pos n *ℤ (s +ℤ t)) place ∙ add_mul_z (pos (a * m)) (pos r) (s +ℤ t) in
      let c_low : (rise f a +ℤ t) ≤ℤ (s +ℤ t) = omega (arith, ints) in
      let up : pos 0 <ℤ (s +ℤ t) = omega (arith, ints) in
      let product = mul_le_mul_left_z (rise f a +ℤ t) (s +ℤ t) (pos m)
      (omega (arith, ints)) c_low in
      let r_z : pos r ≤ℤ pos m =
      mul_le_cancel_right_z (pos r) (pos m) (s +ℤ t) up (omega (arith, ints)) in
      value_line f.order f.scale m a r i (at f.value a) s (pos f.order *ℤ s)
      (filled (at f.value) s t m i) place refl
      (ap (filled (at f.value) s t m) place
      ∙ rises_to (at f.value) s t m a r h m_some (omega (arith, ints)) (omega (arith, ints)));
})

-- from the crossing to the next value
from_crossing : (f : FunctionData) (s t : ℤ) (a : ℕ) → 0 < f.order →
    AreGreatestSteps (at f.value) s t →
    neg_ℤ t <ℤ rise f a → rise f a <ℤ s →
    HasFillSlope f s t (crossing_point f s t a) (value_point f (a + 1))
from_crossing f s t a some h above below = inr (record {
  end = last_line f.order f.scale a (at f.value a) (at f.value (a + 1)) s t (rise f a +ℤ t)
      (omega (arith, ints));
  between = λ m i m_some low high.
      let start = behind_crossing f.order m a i (s +ℤ t) (rise f a +ℤ t) some low in
      let end = before_value f.order m (a + 1) i some high in
      let up : pos 0 <ℤ (s +ℤ t) = omega (arith, ints) in
      let c_some : pos 0 ≤ℤ (rise f a +ℤ t) = omega (arith, ints) in
      let c_times = mul_nonnegative_z (pos m) (rise f a +ℤ t) (omega (arith, ints)) c_some in
      let i_z : pos (a * m) ≤ℤ pos i = mul_le_cancel_right_z (pos (a * m)) (pos i) (s +ℤ t) up
      (omega (arith, ints)) in
      let r = i - a * m in
      let place : i ≡ a * m + r = omega (arith, ints) in
      let r_low : r ≤ m = omega arith in
      let split : pos i *ℤ (s +ℤ t) ≡ pos (a * m) *ℤ (s +ℤ t) +ℤ pos r *ℤ (s +ℤ t) =
      ap (λ n. pos n *ℤ (s +ℤ t)) place ∙ add_mul_z (pos (a * m)) (pos r) (s +ℤ t) in
      let part = less_part m r t r_low in
      let next : at f.value (a + 1) ≡ at f.value a +ℤ (rise f a +ℤ t) -ℤ t = omega (arith, ints) in
      let times : pos m *ℤ at f.value (a + 1) ≡ pos m *ℤ at f.value a +ℤ pos m *ℤ (rise f a +ℤ t)
      -ℤ pos m *ℤ t =
      ap (λ z. pos m *ℤ z) next
      ∙ by_ring (pos m ∷ at f.value a ∷ (rise f a +ℤ t) ∷ t ∷ []) (search ring depth 30) refl in
      behind_line f.order f.scale m a r i (at f.value a) s t (rise f a +ℤ t)
      (filled (at f.value) s t m i) place
      (ap (filled (at f.value) s t m) place
      ∙ falls_from (at f.value) s t m a r h m_some r_low (omega (arith, ints))
      ∙ omega (arith, ints));
})

-- ---- neighbours in the list

-- P holds of each two neighbours
abbrev pub EachNext : {X : Type 0} → (X → X → Type 0) → List X → Type 0
EachNext P [] = Unit {0}
EachNext P (x ∷ []) = Unit {0}
EachNext P (x ∷ y ∷ ys) = P x y × EachNext P (y ∷ ys)

next_rest : {X : Type 0} (P : X → X → Type 0) (x : X) (ys : List X) → EachNext P (x ∷ ys) →
    EachNext P ys
next_rest P x [] h = tt
next_rest P x (y ∷ ys) h = h.1

pub next_at : {X : Type 0} (P : X → X → Type 0) (front : List X) (x y : X) (back : List X) →
    EachNext P (front ++ x ∷ y ∷ back) → P x y
next_at P [] x y back h = h.0
next_at P (z ∷ front) x y back h =
    next_at P front x y back (next_rest P z (front ++ x ∷ y ∷ back) h)

-- points that begin with that at a/order, each two neighbours joined by a line
record IsStretch (f : FunctionData) (s t : ℤ) (a : ℕ) (points : List GraphPoint) : Type 0 where
  pub rest : List GraphPoint
  pub begins : points ≡ value_point f a ∷ rest
  pub lines : EachNext (HasFillSlope f s t) points

-- the points from a/order before those from the next on
longer_by_one : (f : FunctionData) (s t : ℤ) (a : ℕ) (points : List GraphPoint) →
    HasFillSlope f s t (value_point f a) (value_point f (a + 1)) → IsStretch f s t (a + 1) points →
    IsStretch f s t a (value_point f a ∷ points)
longer_by_one f s t a points line h = record {
  rest = points;
  begins = refl;
  lines = subst (λ ps. EachNext (HasFillSlope f s t) (value_point f a ∷ ps)) (sym h.begins)
      (line, subst (EachNext (HasFillSlope f s t)) h.begins h.lines);
}

longer_by_two : (f : FunctionData) (s t : ℤ) (a : ℕ) (points : List GraphPoint) →
    HasFillSlope f s t (value_point f a) (crossing_point f s t a) →
    HasFillSlope f s t (crossing_point f s t a) (value_point f (a + 1)) →
    IsStretch f s t (a + 1) points →
    IsStretch f s t a (value_point f a ∷ crossing_point f s t a ∷ points)
longer_by_two f s t a points first second h = record {
  rest = crossing_point f s t a ∷ points;
  begins = refl;
  lines = subst (λ ps. EachNext (HasFillSlope f s t)
      (value_point f a ∷ crossing_point f s t a ∷ ps)) (sym h.begins)
      (first, (second, subst (EachNext (HasFillSlope f s t)) h.begins h.lines));
}

-- the points from a/order on
abbrev points_behind : FunctionData → ℤ → ℤ → ℕ → ℕ → List GraphPoint
points_behind f s t a n = flat_map (points_from f s t) (range_with_len a n) ++ value_point f (a + n)
    ∷ []

stretch : (f : FunctionData) (s t : ℤ) (a n : ℕ) → 0 < f.order → AreGreatestSteps (at f.value) s t →
    IsStretch f s t a (points_behind f s t a n)
stretch f s t a zero some h =
    let here : a + zero ≡ a = omega arith in
    record { rest = []; begins = ap (λ n. value_point f n ∷ []) here; lines = tt }
stretch f s t a (suc n) some h =
    let end : a + suc n ≡ a + 1 + n = omega arith in
    let rest = flat_map (points_from f s t) (range_with_len (a + 1) n) in
    let later : IsStretch f s t (a + 1) (rest ++ value_point f (a + suc n) ∷ []) =
    subst (λ (k : ℕ). IsStretch f s t (a + 1) (rest ++ value_point f k ∷ [])) (sym end)
    (stretch f s t (a + 1) n some h) in
    subst (IsStretch f s t a)
    (sym (append_assoc (points_from f s t a) rest (value_point f (a + suc n) ∷ [])))
    (by_tests (int_lt (neg_ℤ t) (rise f a)) (int_lt (rise f a) s) refl refl
    (rest ++ value_point f (a + suc n) ∷ []) later)
  where
    highest : rise f a ≤ℤ s
    highest = h.rises a

    lowest : neg_ℤ t ≤ℤ rise f a
    lowest = let fall = h.falls a in omega (arith, ints)

    by_tests : (x y : Bool) → int_lt (neg_ℤ t) (rise f a) ≡ x → int_lt (rise f a) s ≡ y →
        (points : List GraphPoint) →
        IsStretch f s t (a + 1) points →
        IsStretch f s t a (cond (x && y) (value_point f a ∷ crossing_point f s t a ∷ [])
        (value_point f a ∷ []) ++ points)
    by_tests true true e g points later =
        let above : neg_ℤ t <ℤ rise f a = omega (arith, ints) in
        let below : rise f a <ℤ s = omega (arith, ints) in
        longer_by_two f s t a points (to_crossing f s t a some h above below)
        (from_crossing f s t a some h above below) later
    by_tests true false e g points later =
        longer_by_one f s t a points
        (whole_rise f s t a some h (let high = highest in omega (arith, ints))) later
    by_tests false y e g points later =
        longer_by_one f s t a points
        (whole_fall f s t a some h (let low = lowest in omega (arith, ints))) later

pub affine_between : (f : FunctionData) (s t : ℤ) (front : List GraphPoint) (p q : GraphPoint)
    (back : List GraphPoint) →
    0 < f.order → AreGreatestSteps (at f.value) s t →
    fill_points f s t ++ value_point f f.order ∷ [] ≡ front ++ p ∷ q ∷ back → HasFillSlope f s t p q
affine_between f s t front p q back some h place =
    let all = stretch f s t 0 f.order some h in
    let end : fill_points f s t ++ value_point f (0 + f.order) ∷ [] ≡ front ++ p ∷ q ∷ back =
    ap (λ k. fill_points f s t ++ value_point f k ∷ []) (zero-add f.order) ∙ place in
    next_at (HasFillSlope f s t) front p q back
    (subst (EachNext (HasFillSlope f s t)) end all.lines)
