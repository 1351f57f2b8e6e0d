-- What minimality says of the values and limits, as numbers of a field.
use Rattle.std.proofs.Common.{◌≡◌, ℕ, ◌+◌, ℤ, pos, ◌+ℤ◌, ◌-ℤ◌, ◌≤ℤ◌, true, false, ⊎_elim, [], ◌∷◌, refl, sym, subst, subst₂, ap, ap₂, ◌∙◌, arith}
use Rattle.std.proofs.lemmas.Int.{ints}
use Rattle.gj_shape.specs.FunctionData.{FunctionData, at}
use Rattle.gj_shape.specs.Table.{IsMinimal}
use Rattle.gj_shape.specs.declared.faces.FaceKind.TheVariants.{Vertex, Horizontal, Vertical, Diagonal, Lower, Upper}
use Rattle.gj_shape.proofs.TableLemmas.{table_of_order}
use Rattle.gj_theory.proofs.TestsFromMinimal.{slack_limit, left_limit, right_limit}
use Rattle.gj_fields.specs.Fields.{OrderedField, AtMost, whole}
use Rattle.gj_fields.proofs.Ring.Term.{var, nil, unit, neg, ◌⊕◌, ◌⊗◌}
use Rattle.gj_fields.proofs.Order.{either, le_of_not, times_le, by_one, by_two, by_three}
use Rattle.gj_reals.specs.RealFunctions.{value_between}
use Rattle.gj_fields.proofs.Wholes.{whole_plus, whole_mono}

-- the value between a value and two limits
abbrev pub between : {R : Type 0} → OrderedField R → ℤ → ℤ → ℤ → R → R
between K v s n l =
    elim (K.at_most l K.zero) [
      | true ↦ whole K v
      | false ↦ K.plus (K.times (K.plus K.one (K.negative l)) (whole K s)) (K.times l (whole K n))
    ]

module _ {R : Type 0} (K : OrderedField R) where
  open K use {plus, times, zero as o, one as e, negative}

  pub between_zero : (v s n : ℤ) (l : R) → K.at_most l o ≡ true → between K v s n l ≡ whole K v
  between_zero v s n l h =
      ap (λ b. elim b as (λ _. R) [
        | true ↦ whole K v
        | false ↦ plus
            (times (plus e (negative l)) (whole K s)) (times l (whole K n))
      ]) h

  pub between_some : (v s n : ℤ) (l : R) → K.at_most l o ≡ false →
      between K v s n l ≡ plus (times (plus e (negative l)) (whole K s)) (times l (whole K n))
  between_some v s n l h =
      ap (λ b. elim b as (λ _. R) [
        | true ↦ whole K v
        | false ↦ plus
            (times (plus e (negative l)) (whole K s)) (times l (whole K n))
      ]) h

  pub is_false : (x y : R) → (AtMost K x y → ⊥) → K.at_most x y ≡ false
  is_false x y h = ⊎_elim (λ yes'. absurd (h yes')) (λ other. other) (either (K.at_most x y))

  pub is_not : (x y : R) → K.at_most x y ≡ false → AtMost K x y → ⊥
  is_not x y other h = let same : true ≡ false = sym h ∙ other in cc

  -- 1 less what is below 1
  pub rest_low : (l : R) → (AtMost K e l → ⊥) → AtMost K o (plus e (negative l))
  rest_low l high =
      by_one K (l ∷ []) nil (unit ⊕ neg (var 0)) (var 0) unit (le_of_not K e l (is_false e l high))
      refl

  pub slack_real : (x y s : ℤ) → pos 0 ≤ℤ (x +ℤ y -ℤ s) →
      AtMost K (whole K s) (plus (whole K x) (whole K y))
  slack_real x y s low =
      subst (AtMost K (whole K s)) (whole_plus K x y)
      (whole_mono K s (x +ℤ y) (omega (arith, ints)))

module _ {R : Type 0} (K : OrderedField R) (f : FunctionData) (h : IsMinimal f) where
  open K use {plus, times, zero as o, one as e, negative}

  abbrev pub V : ℕ → R
  V a = whole K (at f.value a)

  -- the limits from the right, and those from the left at the next place
  abbrev pub S : ℕ → R
  S a = whole K (at f.right a)

  abbrev pub N : ℕ → R
  N a = whole K (at f.left (a + 1))

  vertex : (a b : ℕ) → AtMost K (V (a + b)) (plus (V a) (V b))
  vertex a b = slack_real K _ _ _ (slack_limit f h Vertex a b 0 (omega arith))

  horizontal : (a b : ℕ) → AtMost K (S (a + b)) (plus (S a) (V b))
      × AtMost K (N (a + b)) (plus (N a) (V b))
  horizontal a b = (
    slack_real K _ _ _ (slack_limit f h Horizontal a b 0 (omega arith)),
    slack_real K _ _ _ (slack_limit f h Horizontal a b 1 (omega arith)),
  )

  vertical : (a b : ℕ) → AtMost K (S (a + b)) (plus (V a) (S b))
      × AtMost K (N (a + b)) (plus (V a) (N b))
  vertical a b = (
    slack_real K _ _ _ (slack_limit f h Vertical a b 0 (omega arith)),
    slack_real K _ _ _ (slack_limit f h Vertical a b 1 (omega arith)),
  )

  diagonal : (a b : ℕ) → AtMost K (V (a + b + 1)) (plus (N a) (S b))
      × AtMost K (V (a + b + 1)) (plus (S a) (N b))
  diagonal a b = (
    slack_real K _ _ _ (slack_limit f h Diagonal a b 0 (omega arith)),
    slack_real K _ _ _ (slack_limit f h Diagonal a b 1 (omega arith)),
  )

  lower : (a b : ℕ) → AtMost K (S (a + b)) (plus (S a) (S b))
      × AtMost K (N (a + b)) (plus (N a) (S b))
      × AtMost K (N (a + b)) (plus (S a) (N b))
  lower a b = (
    slack_real K _ _ _ (slack_limit f h Lower a b 0 (omega arith)),
    slack_real K _ _ _ (slack_limit f h Lower a b 1 (omega arith)),
    slack_real K _ _ _ (slack_limit f h Lower a b 2 (omega arith)),
  )

  upper : (a b : ℕ) → AtMost K (S (a + b + 1)) (plus (N a) (S b))
      × AtMost K (S (a + b + 1)) (plus (S a) (N b))
      × AtMost K (N (a + b + 1)) (plus (N a) (N b))
  upper a b = (
    slack_real K _ _ _ (slack_limit f h Upper a b 0 (omega arith)),
    slack_real K _ _ _ (slack_limit f h Upper a b 1 (omega arith)),
    slack_real K _ _ _ (slack_limit f h Upper a b 2 (omega arith)),
  )

  -- ---- signs

  pub low_between : (a : ℕ) (l : R) → AtMost K o l → (AtMost K e l → ⊥) →
      AtMost K o (value_between K f a l)
  low_between a l low high =
      ⊎_elim
      (λ none. subst (AtMost K o) (sym (between_zero K _ _ _ l none))
      (subst (λ z. AtMost K z (V a)) refl (whole_mono K (pos 0) (at f.value a) (value_low a))))
      (λ some. subst (AtMost K o) (sym (between_some K _ _ _ l some))
      (by_two K (l ∷ S a ∷ N a ∷ []) nil ((unit ⊕ neg (var 0)) ⊗ var 1 ⊕ var 0 ⊗ var 2) nil
      ((unit ⊕ neg (var 0)) ⊗ var 1) nil (var 0 ⊗ var 2)
      (K.times_keeps (plus e (negative l)) (S a) (rest_low K l high)
      (whole_mono K (pos 0) (at f.right a) (right_limit f h a)))
      (K.times_keeps l (N a) low (whole_mono K (pos 0) (at f.left (a + 1)) (left_limit f h a)))
      refl))
      (either (K.at_most l o))
    where
      value_low : (a : ℕ) → pos 0 ≤ℤ at f.value a
      value_low a = subst (λ z. pos 0 ≤ℤ z) (table_of_order f a) ((h 1 (omega arith)).nonnegative a)

  -- ---- slacks

  unfoldable pub Below : ℕ → R → ℕ → R → ℕ → R → Type 0
  Below c r a l b m =
      AtMost K (value_between K f c r) (plus (value_between K f a l) (value_between K f b m))

  along : (a b c : ℕ) (l m r t x y : R) → value_between K f c r ≡ t → value_between K f a l ≡ x →
      value_between K f b m ≡ y →
      AtMost K t (plus x y) → Below c r a l b m
  unfolding Below
  along a b c l m r t x y t_is x_is y_is most =
      subst₂ (AtMost K) (sym t_is) (ap₂ plus (sym x_is) (sym y_is)) most

  pub on_vertex : (a b : ℕ) (l m : R) → K.at_most l o ≡ true → K.at_most m o ≡ true →
      K.at_most (plus l m) o ≡ true →
      Below (a + b) (plus l m) a l b m
  on_vertex a b l m l_none m_none none =
      along a b (a + b) l m (plus l m) _ _ _ (between_zero K _ _ _ (plus l m) none)
      (between_zero K _ _ _ l l_none)
      (between_zero K _ _ _ m m_none) (vertex a b)

  pub on_horizontal : (a b : ℕ) (l m : R) → l ≡ plus l m → AtMost K o l → (AtMost K e l → ⊥) →
      K.at_most l o ≡ false → K.at_most m o ≡ true →
      Below (a + b) (plus l m) a l b m
  on_horizontal a b l m same low high l_some m_none =
      subst (λ r. Below (a + b) r a l b m) same
      (along a b (a + b) l m l _ _ _ (between_some K _ _ _ l l_some) (between_some K _ _ _ l l_some)
      (between_zero K _ _ _ m m_none)
      (by_two K (l ∷ S (a + b) ∷ N (a + b) ∷ S a ∷ N a ∷ V b ∷ [])
      ((unit ⊕ neg (var 0)) ⊗ var 1 ⊕ var 0 ⊗ var 2)
      ((unit ⊕ neg (var 0)) ⊗ var 3 ⊕ var 0 ⊗ var 4 ⊕ var 5)
      (var 1 ⊗ (unit ⊕ neg (var 0))) ((var 3 ⊕ var 5) ⊗ (unit ⊕ neg (var 0))) (var 2 ⊗ var 0)
      ((var 4 ⊕ var 5) ⊗ var 0)
      (times_le K _ _ (plus e (negative l)) (rest_low K l high) (horizontal a b).0)
      (times_le K _ _ l low (horizontal a b).1) refl))

  pub on_vertical : (a b : ℕ) (l m : R) → m ≡ plus l m → AtMost K o m → (AtMost K e m → ⊥) →
      K.at_most l o ≡ true → K.at_most m o ≡ false →
      Below (a + b) (plus l m) a l b m
  on_vertical a b l m same low high l_none m_some =
      subst (λ r. Below (a + b) r a l b m) same
      (along a b (a + b) l m m _ _ _ (between_some K _ _ _ m m_some) (between_zero K _ _ _ l l_none)
      (between_some K _ _ _ m m_some)
      (by_two K (m ∷ S (a + b) ∷ N (a + b) ∷ V a ∷ S b ∷ N b ∷ [])
      ((unit ⊕ neg (var 0)) ⊗ var 1 ⊕ var 0 ⊗ var 2)
      (var 3 ⊕ ((unit ⊕ neg (var 0)) ⊗ var 4 ⊕ var 0 ⊗ var 5))
      (var 1 ⊗ (unit ⊕ neg (var 0))) ((var 3 ⊕ var 4) ⊗ (unit ⊕ neg (var 0))) (var 2 ⊗ var 0)
      ((var 3 ⊕ var 5) ⊗ var 0)
      (times_le K _ _ (plus e (negative m)) (rest_low K m high) (vertical a b).0)
      (times_le K _ _ m low (vertical a b).1) refl))

  pub on_lower : (a b : ℕ) (l m : R) → AtMost K o l → AtMost K o m → (AtMost K e (plus l m) → ⊥) →
      K.at_most l o ≡ false → K.at_most m o ≡ false →
      K.at_most (plus l m) o ≡ false → Below (a + b) (plus l m) a l b m
  on_lower a b l m l_low m_low high l_some m_some some =
      along a b (a + b) l m (plus l m) _ _ _ (between_some K _ _ _ (plus l m) some)
      (between_some K _ _ _ l l_some)
      (between_some K _ _ _ m m_some)
      (by_three K (l ∷ m ∷ S (a + b) ∷ N (a + b) ∷ S a ∷ N a ∷ S b ∷ N b ∷ [])
      ((unit ⊕ neg (var 0 ⊕ var 1)) ⊗ var 2 ⊕ (var 0 ⊕ var 1) ⊗ var 3)
      ((unit ⊕ neg (var 0)) ⊗ var 4 ⊕ var 0 ⊗ var 5
      ⊕ ((unit ⊕ neg (var 1)) ⊗ var 6 ⊕ var 1 ⊗ var 7))
      (var 2 ⊗ (unit ⊕ neg (var 0 ⊕ var 1))) ((var 4 ⊕ var 6) ⊗ (unit ⊕ neg (var 0 ⊕ var 1)))
      (var 3 ⊗ var 0) ((var 5 ⊕ var 6) ⊗ var 0) (var 3 ⊗ var 1) ((var 4 ⊕ var 7) ⊗ var 1)
      (times_le K _ _ (plus e (negative (plus l m))) (rest_low K (plus l m) high) (lower a b).0)
      (times_le K _ _ l l_low (lower a b).1) (times_le K _ _ m m_low (lower a b).2) refl)

  pub on_diagonal : (a b : ℕ) (l m r : R) → m ≡ plus e (negative l) → AtMost K o l → AtMost K o m →
      K.at_most l o ≡ false → K.at_most m o ≡ false →
      K.at_most r o ≡ true → Below (a + b + 1) r a l b m
  on_diagonal a b l m r same l_low m_low l_some m_some none =
      along a b (a + b + 1) l m r _ _ _ (between_zero K _ _ _ r none)
      (between_some K _ _ _ l l_some) (between_some K _ _ _ m m_some)
      (subst (λ z. AtMost K (V (a + b + 1))
      (plus (plus (times (plus e (negative l)) (S a)) (times l (N a)))
      (plus (times (plus e (negative z)) (S b)) (times z (N b))))) (sym same)
      (by_two K (l ∷ V (a + b + 1) ∷ S a ∷ N a ∷ S b ∷ N b ∷ [])
      (var 1)
      ((unit ⊕ neg (var 0)) ⊗ var 2 ⊕ var 0 ⊗ var 3
      ⊕ ((unit ⊕ neg (unit ⊕ neg (var 0))) ⊗ var 4 ⊕ (unit ⊕ neg (var 0)) ⊗ var 5))
      (var 1 ⊗ var 0) ((var 3 ⊕ var 4) ⊗ var 0) (var 1 ⊗ (unit ⊕ neg (var 0)))
      ((var 2 ⊕ var 5) ⊗ (unit ⊕ neg (var 0)))
      (times_le K _ _ l l_low (diagonal a b).0)
      (times_le K _ _ (plus e (negative l)) (subst (AtMost K o) same m_low) (diagonal a b).1) refl))

  pub on_upper : (a b : ℕ) (l m : R) → (AtMost K e l → ⊥) → (AtMost K e m → ⊥) →
      AtMost K e (plus l m) → K.at_most l o ≡ false →
      K.at_most m o ≡ false → K.at_most (plus (plus l m) (negative e)) o ≡ false →
      Below (a + b + 1) (plus (plus l m) (negative e)) a l b m
  on_upper a b l m l_high m_high low l_some m_some some =
      along a b (a + b + 1) l m (plus (plus l m) (negative e)) _ _ _
      (between_some K _ _ _ (plus (plus l m) (negative e)) some)
      (between_some K _ _ _ l l_some) (between_some K _ _ _ m m_some)
      (by_three K (l ∷ m ∷ S (a + b + 1) ∷ N (a + b + 1) ∷ S a ∷ N a ∷ S b ∷ N b ∷ [])
      ((unit ⊕ neg (var 0 ⊕ var 1 ⊕ neg unit)) ⊗ var 2 ⊕ (var 0 ⊕ var 1 ⊕ neg unit) ⊗ var 3)
      ((unit ⊕ neg (var 0)) ⊗ var 4 ⊕ var 0 ⊗ var 5
      ⊕ ((unit ⊕ neg (var 1)) ⊗ var 6 ⊕ var 1 ⊗ var 7))
      (var 2 ⊗ (unit ⊕ neg (var 1))) ((var 5 ⊕ var 6) ⊗ (unit ⊕ neg (var 1)))
      (var 2 ⊗ (unit ⊕ neg (var 0))) ((var 4 ⊕ var 7) ⊗ (unit ⊕ neg (var 0)))
      (var 3 ⊗ (var 0 ⊕ var 1 ⊕ neg unit)) ((var 5 ⊕ var 7) ⊗ (var 0 ⊕ var 1 ⊕ neg unit))
      (times_le K _ _ (plus e (negative m)) (rest_low K m m_high) (upper a b).0)
      (times_le K _ _ (plus e (negative l)) (rest_low K l l_high) (upper a b).1)
      (times_le K _ _ (plus (plus l m) (negative e))
      (by_one K (l ∷ m ∷ []) nil (var 0 ⊕ var 1 ⊕ neg unit) unit (var 0 ⊕ var 1) low refl)
      (upper a b).2)
      refl)
