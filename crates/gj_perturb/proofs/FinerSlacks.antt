-- The least positive slack on a finer grid, from those at the corners in lanes.
use Rattle.std.proofs.Math.Nat.{mul-le-mul_left, mul-lt-mul_of_pos_left, add-mod, mod-mod, mod-lt}
use Rattle.std.proofs.Common.{◌≡◌, ℕ, zero, suc, ◌⊎◌, inl, inr, ◌+◌, ◌*◌, ◌<◌, ◌≤◌, ◌^◌, pos, ◌+ℤ◌, ◌*ℤ◌, ◌<ℤ◌, ◌≤ℤ◌, List, [], ◌∷◌, get_or, map, All, refl, sym, ap, ap₂, subst, ◌∙◌, ◌%◌, mul-pos, add_comm, arith}
use Rattle.std.specs.List.{Contains}
use Rattle.std.proofs.Math.ListN.{get_or-map}
use Rattle.std.proofs.lemmas.List.{length-map}
use Rattle.std.proofs.lemmas.Bool.{cases_lt}
use Rattle.std.proofs.lemmas.Int.{ints}
use Rattle.std.proofs.lemmas.List.Elements.{All-map}
use Rattle.gj_lemmas.proofs.Lists.{All-three}
use Rattle.gj_shape.specs.FunctionData.{FunctionData, IsWithinBounds, IsContinuous, at}
use Rattle.gj_shape.specs.Faces.{limits_of}
use Rattle.gj_shape.specs.Perturbation.{slack_on_grid, IsLeastSlack}
use Rattle.gj_shape.specs.Table.{table, IsMinimal}
use Rattle.gj_shape.specs.declared.faces.FaceKind.TheVariants.{Lower}
use Rattle.gj_shape.proofs.TableLemmas.{table_of_order, limits_are_slacks, slack_at, at_plus_order}
use Rattle.gj_lemmas.proofs.Quotients.{same_at_remainder}
use Rattle.gj_theory.specs.CornerSlacks.{IsBelowCorners}
use Rattle.gj_theory.proofs.CornerSlacks.{grid_slacks_low, slack_at_multiples, reached_beside_zero}
use Rattle.gj_loops.specs.Lanes.{IsInRange}
use Rattle.gj_theory.proofs.SlacksAndSizes.{least_slack}
use Rattle.gj_perturb.specs.Lanes.{HoldValues, lane_slack, triangle, AreSubadditive, no_slack, IsAtCorner, IsBesideZero, AreLeast, IsLeastAt, IsInRows}
use Rattle.gj_perturb.proofs.LaneSlacks.{slack_small}
use Rattle.gj_perturb.proofs.TableParts.{has_least_slack, entry_at_most}

-- ---- the lanes of a minimal function

subadditive_at : (f : FunctionData) (a b : ℕ) → IsMinimal f →
    at f.value (a + b) ≤ℤ (at f.value a +ℤ at f.value b)
subadditive_at f a b h =
    let whole = (h 1 (omega arith)).subadditive a b in
    let value = table_of_order f in
    let values = rw (value (a + b), value a, value b) at whole in
    values

-- a lane is the value at its index
value_lane : (f : FunctionData) (lanes : List ℕ) (i : ℕ) → HoldValues f lanes → i < 2 * f.order →
    pos (get_or lanes i 0) ≡ at f.value i
value_lane f lanes i d below = let len = d.count in d.periods.same i 0 (omega arith)

pub are_subadditive : (f : FunctionData) (lanes : List ℕ) → IsMinimal f → HoldValues f lanes →
    AreSubadditive lanes f.order
are_subadditive f lanes h d = record {
  room = let room = d.periods.room in let len = d.count in omega arith;
  small = λ i below.
      let same = value_lane f lanes i d below in
      let high = (d.periods.range i).1 in
      omega (arith, ints);
  subadditive = λ a b below.
      let whole = subadditive_at f a b h in
      let first = value_lane f lanes a d (omega arith) in
      let second = value_lane f lanes b d (omega arith) in
      let sum_is = value_lane f lanes (a + b) d below in
      omega (arith, ints);
}

lane_slack_is : (f : FunctionData) (lanes : List ℕ) (a b : ℕ) → IsMinimal f → HoldValues f lanes →
    a + b < 2 * f.order →
    pos (lane_slack lanes a b) ≡ slack_at f (a, b)
lane_slack_is f lanes a b h d below =
    let whole = (are_subadditive f lanes h d).subadditive a b below in
    let first = value_lane f lanes a d (omega arith) in
    let second = value_lane f lanes b d (omega arith) in
    let sum_is = value_lane f lanes (a + b) d below in
    omega (arith, ints)

limits_are : (f : FunctionData) (lanes : List ℕ) (a b : ℕ) → IsContinuous f → IsMinimal f →
    HoldValues f lanes →
    a < f.order → b < f.order → limits_of f Lower a b ≡ map pos (triangle lanes a b)
limits_are f lanes a b c h d a_below b_below =
    let first = lane_slack_is f lanes a b h d (omega arith) in
    let second = lane_slack_is f lanes (a + 1) b h d (omega arith) in
    let third = lane_slack_is f lanes a (b + 1) h d (omega arith) in
    limits_are_slacks f Lower a b c
    ∙ (let same : slack_at f (a, b) ∷ slack_at f (a + 1, b) ∷ slack_at f (a, b + 1) ∷ []
    ≡ pos (lane_slack lanes a b) ∷ pos (lane_slack lanes (a + 1) b) ∷ pos
    (lane_slack lanes a (b + 1)) ∷ [] =
    cc (first, second, third) in
    same)

-- a value can be a lane of 32 bits
pub value_is_lane : (f : FunctionData) (i : ℕ) → IsWithinBounds f → IsMinimal f →
    IsInRange (pos 0) (2 ^ 31) (at f.value i)
value_is_lane f i l h =
    let whole = h 1 (omega arith) in
    let some : 0 < f.order * 1 = omega (arith, l.order_low) in
    let most = entry_at_most (table f 1) (f.order * 1) (f.place * 1) (f.scale * 1) i some whole in
    let low = whole.nonnegative i in
    let scale = l.scale_high in
    let same = table_of_order f i in (
      omega (arith, ints),
      omega (arith, ints),
    )

-- ---- lists of naturals among whole numbers

up_contains : (xs : List ℕ) (x : ℕ) → Contains xs x → Contains (map pos xs) (pos x)
up_contains xs x (k, below, e) =
    let long = length-map xs pos in
    (k, omega arith, get_or-map pos xs k x ∙ ap pos e)

down_contains : (xs : List ℕ) → Contains (map pos xs) (pos 0) → Contains xs 0
down_contains xs (k, below, e) =
    let same = sym (get_or-map pos xs k 0) ∙ e in
    let long = length-map xs pos in
    (k, omega arith, omega (arith, ints))

-- ---- the bounds

triangle_small : (lanes : List ℕ) (n a b : ℕ) → AreSubadditive lanes n → a ≤ b → b < n →
    All (λ x. x < no_slack) (triangle lanes a b)
triangle_small lanes n a b d from below =
    All-three (λ x. x < no_slack) _ _ _ (slack_small lanes n a b d (omega arith) (omega arith))
    (slack_small lanes n (a + 1) b d (omega arith) (omega arith))
    (slack_small lanes n a (b + 1) d (omega arith) (omega arith))

below_corners : (lanes : List ℕ) (n m u any beside : ℕ) (a b : ℕ) →
    AreLeast lanes n (IsInRows n n) any beside → a ≤ b → b < n →
    AreSubadditive lanes n → u ≤ m * (any + 1) → (beside < no_slack → u ≤ beside + 1) →
    IsBelowCorners m u (map pos (triangle lanes a b))
below_corners lanes n m u any beside a b h from below d at_corners at_beside = record {
  each = All-map (λ x. pos 0 <ℤ x → pos u ≤ℤ (pos m *ℤ x)) pos (triangle lanes a b)
      (λ k e inside above.
      let x = get_or (triangle lanes a b) k e in
      let low : any < x = h.any_low a b (omega arith, from, below) k e inside
      (omega (arith, ints)) in
      let more : m * (any + 1) ≤ m * x = mul-le-mul_left m (omega arith) in
      omega (arith, ints));
  beside_zero = λ zero_in.
      let tight = down_contains (triangle lanes a b) zero_in in
      All-map (λ x. pos 0 <ℤ x → pos u ≤ℤ x) pos (triangle lanes a b) (λ k e inside above.
      let x = get_or (triangle lanes a b) k e in
      let low : beside < x = h.beside_low a b (omega arith, from, below) tight k e inside
      (omega (arith, ints)) in
      let fits = triangle_small lanes n a b d from below k e inside in
      let least = at_beside (omega arith) in
      omega (arith, ints));
}

-- ---- the slack that is met

module _ (f : FunctionData) (m : ℕ) (l : IsWithinBounds f) (c : IsContinuous f)
    (minimal : IsMinimal f) (some : 0 < m) where
  abbrev IsMet : ℕ → Type 0
  IsMet x = (i : ℕ) × (j : ℕ) × (slack_on_grid f m i j ≡ pos x)

  at_multiple : (lanes : List ℕ) (a b x : ℕ) → HoldValues f lanes → a + b < 2 * f.order →
      lane_slack lanes a b ≡ x → IsMet (m * x)
  at_multiple lanes a b x d below e =
      let here = slack_at_multiples f m a b some in
      let slack = lane_slack_is f lanes a b minimal d below in
      let value : slack_at f (a, b) ≡ pos x = sym slack ∙ ap pos e in
      (a * m, b * m, here ∙ ap (λ z. pos m *ℤ z) value ∙ omega (arith, ints))

  corner_met : (lanes : List ℕ) (x : ℕ) → HoldValues f lanes → IsAtCorner lanes f.order x →
      IsMet (m * x)
  corner_met lanes x d h = of_here h.here
    where
      a : ℕ
      a = h.a

      b : ℕ
      b = h.b

      a_below : h.a < f.order
      a_below = h.a_below

      b_below : h.b < f.order
      b_below = h.b_below

      of_here : Contains (triangle lanes h.a h.b) x → IsMet (m * x)
      of_here (zero, below, e) = at_multiple lanes a b x d (let p = a_below in let q = b_below in
          omega arith) e
      of_here (suc zero, below, e) =
          at_multiple lanes (a + 1) b x d (let p = a_below in let q = b_below in omega arith) e
      of_here (suc (suc zero), below, e) =
          at_multiple lanes a (b + 1) x d (let p = a_below in let q = b_below in omega arith) e
      of_here (suc (suc (suc k)), below, e) = absurd (omega arith)

  beside_met : (lanes : List ℕ) (x : ℕ) → HoldValues f lanes → 0 < x →
      IsBesideZero lanes f.order x → IsMet x
  beside_met lanes x d positive h = elim (cases_lt 1 m) [
    | inl two ↦
        let limits = limits_are f lanes h.a h.b c minimal d h.a_below h.b_below in
        reached_beside_zero f m h.a h.b (pos x) c two
        (subst (λ xs. Contains xs (pos 0)) (sym limits)
        (up_contains (triangle lanes h.a h.b) 0 h.tight))
        (subst (λ xs. Contains xs (pos x)) (sym limits)
        (up_contains (triangle lanes h.a h.b) x h.here)) (omega (arith, ints))
    | inr one ↦
        let whole : m ≡ 1 = omega arith in
        subst IsMet (let same : m * x ≡ x = ap (λ k. k * x) whole ∙ omega arith in same)
        (corner_met lanes x d
        (record { a = h.a; b = h.b; a_below = h.a_below; b_below = h.b_below; here = h.here }))
  ]

  -- some slack is positive, and none of them is as great as what stands for none
  some_corner : (any u : ℕ) →
      ((i j : ℕ) → pos 0 <ℤ slack_on_grid f m i j → pos u ≤ℤ slack_on_grid f m i j) →
      any ≡ no_slack → u ≡ m * (any + 1) → ⊥
  some_corner any u low none e = of_least (least_slack f m l minimal some)
    where
      of_least : (v : ℕ) × IsLeastSlack f m v → ⊥
      of_least (v, least) =
          let has = has_least_slack f m (pos v) v l minimal some refl least in
          let small = has.small in
          let v_is : pos v ≡ pos has.u = has.same in
          let here : pos u ≤ℤ pos v = subst (λ z. pos u ≤ℤ z) least.reached
          (low least.i least.j (subst (λ z. pos 0 <ℤ z) (sym least.reached) least.positive)) in
          let scale : f.scale < 2 ^ 31 = l.scale_high in
          let most : m * (2 * f.scale) < m * (any + 1) =
          mul-lt-mul_of_pos_left (omega arith) some in
          let turned : 2 * (f.scale * m) ≡ m * (2 * f.scale) = omega arith in
          omega (arith, ints)

  pub is_least : (lanes : List ℕ) (any beside u : ℕ) → HoldValues f lanes →
      AreLeast lanes f.order (IsInRows f.order f.order) any beside → u ≤ m * (any + 1) →
      (beside < no_slack → u ≤ beside + 1) →
      (u ≡ m * (any + 1)) ⊎ ((beside < no_slack) × (u ≡ beside + 1)) → IsLeastSlack f m u
  is_least lanes any beside u d h at_corners at_beside met = of_met met_here
    where
      low : (i j : ℕ) → pos 0 <ℤ slack_on_grid f m i j → pos u ≤ℤ slack_on_grid f m i j
      low = grid_slacks_low f m u l c minimal some (λ a b from below.
          subst (IsBelowCorners m u) (sym (limits_are f lanes a b c minimal d (omega arith) below))
          (below_corners lanes f.order m u any beside a b h from below
          (are_subadditive f lanes minimal d) at_corners at_beside))

      met_here : IsMet u × (0 < u)
      met_here = elim met [
        | inl e ↦ elim h.any_met [
          | inl none ↦ absurd (some_corner any u low none e)
          | inr corner ↦ (
            subst IsMet (sym e) (corner_met lanes (any + 1) d corner),
            (let positive : 0 < m * (any + 1) = mul-pos some (omega arith) in omega arith),
          )
        ]
        | inr both ↦ elim h.beside_met [
          | inl none ↦ (let less = both.0 in absurd (omega arith))
          | inr beside_here ↦ (
            subst IsMet (sym both.1) (beside_met lanes (beside + 1) d (omega arith) beside_here),
            (let e = both.1 in omega arith),
          )
        ]
      ]

      of_met : IsMet u × (0 < u) → IsLeastSlack f m u
      of_met ((i, j, e), positive) =
          record { positive = omega (arith, ints); i = i; j = j; reached = e; least = low }

-- ---- on the grid of order q

module _ (f : FunctionData) (lanes : List ℕ) (l : IsWithinBounds f) (c : IsContinuous f)
    (minimal : IsMinimal f)
    (d : HoldValues f lanes) where
  -- the slack at two indices is that at others with the same remainders
  slack_at_remainders : (i j a b : ℕ) → a % f.order ≡ i % f.order → b % f.order ≡ j % f.order →
      slack_on_grid f 1 i j ≡ slack_at f (a, b)
  slack_at_remainders i j a b e g =
      let value = table_of_order f in
      let same = same_at_remainder (at f.value) f.order
      (λ k. at_plus_order f.value k f.order l.value_length) in
      let both : (a + b) % f.order ≡ (i + j) % f.order =
      add-mod a b f.order ∙ ap₂ (λ x y. (x + y) % f.order) e g ∙ sym (add-mod i j f.order) in
      let first = value i ∙ sym (same a i e) in
      let second = value j ∙ sym (same b j g) in
      let sum = value (i + j) ∙ sym (same (a + b) (i + j) both) in
      omega (arith, ints)

  turned : (i j : ℕ) → slack_on_grid f 1 i j ≡ slack_on_grid f 1 j i
  turned i j = let sum = ap (table f 1) (add_comm i j) in omega (arith, ints)

  low_in_order : (least i j : ℕ) → IsLeastAt lanes f.order (IsInRows f.order f.order) least →
      i % f.order ≤ j % f.order →
      pos 0 <ℤ slack_on_grid f 1 i j → pos (least + 1) ≤ℤ slack_on_grid f 1 i j
  low_in_order least i j h from positive =
      let a = i % f.order in
      let b = j % f.order in
      let some : 0 < f.order = omega (arith, l.order_low) in
      let a_below : i % f.order < f.order = mod-lt i some in
      let b_below : j % f.order < f.order = mod-lt j some in
      let slack = slack_at_remainders i j a b (mod-mod i f.order) (mod-mod j f.order) in
      let lane = lane_slack_is f lanes a b minimal d (omega arith) in
      let here : slack_on_grid f 1 i j ≡ pos (lane_slack lanes (i % f.order) (j % f.order)) = slack
      ∙ sym lane in
      let low = h.low a b (a_below, from, b_below) (omega (arith, ints)) in
      omega (arith, ints)

  low_at_corners : (least : ℕ) → IsLeastAt lanes f.order (IsInRows f.order f.order) least →
      (i j : ℕ) →
      pos 0 <ℤ slack_on_grid f 1 i j → pos (least + 1) ≤ℤ slack_on_grid f 1 i j
  low_at_corners least h i j positive = elim (cases_lt (j % f.order) (i % f.order)) [
    | inl less ↦
        subst (λ z. pos (least + 1) ≤ℤ z) (turned j i)
        (low_in_order least j i h (omega arith) (subst (λ z. pos 0 <ℤ z) (turned i j) positive))
    | inr more ↦ low_in_order least i j h more positive
  ]

  pub is_least_at_corners : (least : ℕ) → IsLeastAt lanes f.order (IsInRows f.order f.order) least →
      IsLeastSlack f 1 (least + 1)
  is_least_at_corners least h = elim h.met [
    | inl none ↦
        absurd (some_corner f 1 l c minimal (omega arith) least (least + 1)
        (low_at_corners least h) none (omega arith))
    | inr corner ↦ of_met (corner_met f 1 l c minimal (omega arith) lanes (least + 1) d corner)
  ]
    where
      of_met : IsMet f 1 l c minimal (omega arith) (1 * (least + 1)) → IsLeastSlack f 1 (least + 1)
      of_met (i, j, e) = record {
        positive = omega (arith, ints);
        i = i;
        j = j;
        reached = e ∙ ap pos (let one : 1 * (least + 1) ≡ least + 1 = omega arith in one);
        least = low_at_corners least h;
      }
