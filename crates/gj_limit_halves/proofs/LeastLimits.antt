-- The least positive limit on a finer grid, from the lanes of those at the corners.
use Rattle.std.proofs.Common.{◌≡◌, ℕ, ◌⊎◌, inl, inr, ◌+◌, ◌*◌, ◌<◌, ◌≤◌, ◌^◌, ◌%◌, ℤ, pos, ◌*ℤ◌, ◌<ℤ◌, ◌≤ℤ◌, List, length, sym, subst, ◌∙◌, mul-pos, unsigned_abs, arith}
use Rattle.std.specs.List.{All, Contains}
use Rattle.std.proofs.Math.Nat.{mod-lt, mod-mod, mul-le-mul_left, add-mod}
use Rattle.std.proofs.lemmas.Bool.{cases_lt}
use Rattle.std.proofs.lemmas.Int.{ints}
use Rattle.std.proofs.lemmas.List.Elements.{All-from_get_or}
use Rattle.gj_lemmas.proofs.Lists.{All-one, All-two, All-three}
use Rattle.gj_loops.specs.Lanes.{IsInRange, ArePeriods}
use Rattle.gj_shape.specs.Faces.{limits_of, slack_from}
use Rattle.gj_shape.specs.FunctionData.{FunctionData, IsWithinBounds, at}
use Rattle.gj_shape.specs.Perturbation.{slack_on_grid}
use Rattle.gj_shape.specs.Table.{IsMinimal}
use Rattle.gj_shape.specs.declared.faces.FaceKind.{FaceKind}
use Rattle.gj_shape.specs.declared.faces.FaceKind.TheVariants.{Vertex, Horizontal, Vertical, Diagonal, Lower, Upper}
use Rattle.gj_shape.proofs.TableLemmas.{table_of_order}
use Rattle.gj_theory.specs.CornerSlacks.{IsBelowCorners}
use Rattle.gj_theory.proofs.Affine.{limit_count}
use Rattle.gj_theory.proofs.Everywhere.{at_same}
use Rattle.gj_theory.proofs.SlacksAndSizes.{least_slack}
use Rattle.gj_theory.proofs.TestsFromMinimal.{slack_limit}
use Rattle.gj_limit_system.proofs.VertexSlacks.{mirror_kind}
use Rattle.gj_limit_halves.specs.LeastLimit.{IsFromCorners, IsLeastLimit}
use Rattle.gj_limit_halves.specs.LimitLanes.{ArePeriodsOf, AreSideLanes, AreLeastOf, IsInRows, IsMet, no_lane}
use Rattle.gj_limit_halves.proofs.Mirrors.{all_within, has_limits, mirrored_below}
use Rattle.gj_limit_halves.proofs.SideBounds.{IsUpTo, left_up_to, value_up_to, right_up_to}

-- ---- the lanes of a minimal function

pub in_range : (s : ℕ) (xs : List ℤ) → s < 2 ^ 31 → ((i : ℕ) → IsUpTo s (at xs i)) → (i : ℕ) →
    IsInRange (pos 0) (2 ^ 31) (at xs i)
in_range s xs small h i =
    let low = (h i).low in
    let high = (h i).high in
    (low, omega (arith, ints, high, small))

pub are_periods : (order : ℕ) (lanes : List ℕ) (xs : List ℤ) → length xs ≡ order →
    ArePeriods (λ n. pos n) (pos 0) (2 ^ 31) lanes xs → ArePeriodsOf order lanes xs
are_periods order lanes xs len h = record {
  room = let room = h.room in omega (arith, room, len);
  same = λ i below. h.same i 0 (omega (arith, below, len));
  small = λ i below.
      let same = h.same i 0 (omega (arith, below, len)) in
      let high = (h.range i).1 in
      omega (arith, ints, same, high);
}

pub are_side_lanes : (f : FunctionData) (lefts values rights : List ℕ) → IsWithinBounds f →
    IsMinimal f →
    ArePeriods (λ n. pos n) (pos 0) (2 ^ 31) lefts f.left →
    ArePeriods (λ n. pos n) (pos 0) (2 ^ 31) values f.value →
    ArePeriods (λ n. pos n) (pos 0) (2 ^ 31) rights f.right → AreSideLanes f lefts values rights
are_side_lanes f lefts values rights bounds minimal left value right = record {
  few = bounds.order_high;
  left = are_periods f.order lefts f.left bounds.left_length left;
  value = are_periods f.order values f.value bounds.value_length value;
  right = are_periods f.order rights f.right bounds.right_length right;
  signs = λ kind a b first second.
      All-from_get_or (λ x. pos 0 ≤ℤ x) (limits_of f kind a b) (pos 0)
      (λ c low. slack_limit f minimal kind a b c (let count = limit_count f kind a b in
      omega (arith, low, count)));
}

-- ---- bounds of the limits

slack_small : (s : ℕ) (x y z : ℤ) → IsUpTo s x → IsUpTo s y → IsUpTo s z →
    slack_from x y z ≤ℤ pos (2 * s)
slack_small s x y z first second third =
    let x_high = first.high in
    let y_high = second.high in
    let z_low = third.low in
    omega (arith, ints, x_high, y_high, z_low)

module _ (f : FunctionData) (bounds : IsWithinBounds f) (minimal : IsMinimal f) where
  left' : (i : ℕ) → IsUpTo f.scale (at f.left i)
  left' = left_up_to f bounds minimal

  value' : (i : ℕ) → IsUpTo f.scale (at f.value i)
  value' = value_up_to f bounds minimal

  right' : (i : ℕ) → IsUpTo f.scale (at f.right i)
  right' = right_up_to f bounds minimal

  abbrev Small : ℤ → Type 0
  Small z = z ≤ℤ pos (2 * f.scale)

  slack : (x y z : ℤ) → IsUpTo f.scale x → IsUpTo f.scale y → IsUpTo f.scale z →
      Small (slack_from x y z)
  slack = slack_small f.scale

  pub limits_small : (kind : FaceKind) (a b : ℕ) →
      All (λ z. z ≤ℤ pos (2 * f.scale)) (limits_of f kind a b)
  limits_small Vertex a b = All-one Small _ (slack _ _ _ (value' a) (value' b) (value' (a + b)))
  limits_small Horizontal a b =
      All-two Small _ _ (slack _ _ _ (right' a) (value' b) (right' (a + b)))
      (slack _ _ _ (left' (a + 1)) (value' b) (left' (a + b + 1)))
  limits_small Vertical a b =
      All-two Small _ _ (slack _ _ _ (value' a) (right' b) (right' (a + b)))
      (slack _ _ _ (value' a) (left' (b + 1)) (left' (a + b + 1)))
  limits_small Diagonal a b =
      All-two Small _ _ (slack _ _ _ (left' (a + 1)) (right' b) (value' (a + b + 1)))
      (slack _ _ _ (right' a) (left' (b + 1)) (value' (a + b + 1)))
  limits_small Lower a b =
      All-three Small _ _ _ (slack _ _ _ (right' a) (right' b) (right' (a + b)))
      (slack _ _ _ (left' (a + 1)) (right' b) (left' (a + b + 1)))
      (slack _ _ _ (right' a) (left' (b + 1)) (left' (a + b + 1)))
  limits_small Upper a b =
      All-three Small _ _ _ (slack _ _ _ (left' (a + 1)) (right' b) (right' (a + b + 1)))
      (slack _ _ _ (right' a) (left' (b + 1)) (right' (a + b + 1)))
      (slack _ _ _ (left' (a + 1)) (left' (b + 1)) (left' (a + b + 1 + 1)))

  -- ---- some limit is positive

  some : 0 < f.order
  some = let two = bounds.order_low in omega (arith, two)

  -- the slack at a vertex, modulo the order
  vertex_same : (i j : ℕ) → slack_from (at f.value (i % f.order)) (at f.value (j % f.order))
      (at f.value (i % f.order + j % f.order)) ≡ slack_on_grid f 1 i j
  vertex_same i j =
      let first = at_same f.value (i % f.order) i f.order bounds.value_length (mod-mod i f.order) in
      let second = at_same f.value (j % f.order) j f.order bounds.value_length
      (mod-mod j f.order) in
      let third = at_same f.value (i % f.order + j % f.order) (i + j) f.order bounds.value_length
      (sym (add-mod i j f.order)) in
      λ n. slack_from ((first ∙ sym (table_of_order f i)) n) ((second ∙ sym (table_of_order f j)) n)
      ((third ∙ sym (table_of_order f (i + j))) n)

  -- ---- the least

  module _ (m u any beside : ℕ) (m_some : 0 < m)
      (h : AreLeastOf f (IsInRows f.order f.order) any beside) (corners : u ≤ m * (any + 1))
      (near : beside < no_lane → u ≤ beside + 1)
      (met : (u ≡ m * (any + 1)) ⊎ ((beside < no_lane) × (u ≡ beside + 1))) where
    times_more : (x : ℤ) (v : ℕ) → v ≤ m * (any + 1) → pos any <ℤ x → pos v ≤ℤ (pos m *ℤ x)
    times_more x v low more =
        let n = unsigned_abs x in
        let is : x ≡ pos n = omega (arith, ints, more) in
        let larger : m * (any + 1) ≤ m * n = mul-le-mul_left m (omega (arith, ints, more)) in
        subst (λ y. pos v ≤ℤ (pos m *ℤ y)) (sym is) (omega (arith, ints, low, larger))

    beside_more : (x : ℤ) → x ≤ℤ pos (2 * f.scale) → pos beside <ℤ x → pos u ≤ℤ x
    beside_more x high more =
        let scale = bounds.scale_high in
        let low = near (omega (arith, ints, high, more, scale)) in
        omega (arith, ints, low, more)

    in_order : (kind : FaceKind) (a b : ℕ) → a ≤ b → b < f.order →
        IsBelowCorners m u (limits_of f kind a b)
    in_order kind a b from below =
        let chosen : IsInRows f.order f.order a b = (omega (arith, from, below), from, below) in
        record {
          each = λ k d inside positive. times_more _ u corners
              (h.any_low kind a b chosen k d inside positive);
          beside_zero = λ zero_in k d inside positive.
              beside_more _ (limits_small kind a b k d inside)
              (h.beside_low kind a b chosen zero_in k d inside positive);
        }

    below_corners : (kind : FaceKind) (a b : ℕ) → a < f.order → b < f.order →
        IsBelowCorners m u (limits_of f kind a b)
    below_corners kind a b first second = elim (cases_lt b a) [
      | inl less ↦
          mirrored_below f m u kind a b
          (in_order (mirror_kind kind) b a (omega (arith, less)) first)
      | inr more ↦ in_order kind a b more second
    ]

    -- the lane of none is not met, since some limit is positive
    any_low : (kind : FaceKind) (a b : ℕ) → a < f.order → b < f.order →
        All (λ x. pos 0 <ℤ x → pos any <ℤ x) (limits_of f kind a b)
    any_low kind a b first second = elim (cases_lt b a) [
      | inl less ↦
          all_within (λ x. pos 0 <ℤ x → pos any <ℤ x) (limits_of f (mirror_kind kind) b a)
          (limits_of f kind a b)
          (has_limits f kind a b)
          (h.any_low (mirror_kind kind) b a (second, omega (arith, less), first))
      | inr more ↦ h.any_low kind a b (first, more, second)
    ]

    any_below : any < no_lane
    any_below =
        let least = least_slack f 1 bounds minimal (omega arith) in
        let i = least.1.i in
        let j = least.1.j in
        let a = i % f.order in
        let b = j % f.order in
        let is = vertex_same i j in
        let reached = least.1.reached in
        let positive = least.1.positive in
        let here = any_low Vertex a b (mod-lt i some) (mod-lt j some) 0 (pos 0) (omega arith)
        (omega (arith, ints, is, reached, positive)) in
        let high = limits_small Vertex a b 0 (pos 0) (omega arith) in
        let scale = bounds.scale_high in
        omega (arith, ints, here, high, scale)

    reached_by : (found : IsMet f (IsFromCorners m u)) → IsLeastLimit f m u
    reached_by found = record {
      kind = found.kind;
      a = found.a;
      b = found.b;
      first_within = found.first_within;
      second_within = found.second_within;
      reached = found.has;
      least = below_corners;
    }

    pub is_least : IsLeastLimit f m u
    is_least = elim met [
      | inl e ↦ elim h.any_met [
        | inl none ↦ let below = any_below in absurd (omega (arith, below, none))
        | inr found ↦
            let positive : 0 < m * (any + 1) = mul-pos m_some (omega arith) in
            reached_by (record {
              kind = found.kind;
              a = found.a;
              b = found.b;
              first_within = found.first_within;
              second_within = found.second_within;
              has = record {
                some = omega (arith, positive, e);
                from =
                    inr (any + 1, found.has, e);
              };
            })
      ]
      | inr (below, e) ↦ elim h.beside_met [
        | inl none ↦ absurd (omega (arith, below, none))
        | inr found ↦
            reached_by (record {
              kind = found.kind;
              a = found.a;
              b = found.b;
              first_within = found.first_within;
              second_within = found.second_within;
              has = record {
                some = omega (arith, e);
                from = inl (
                  found.has.0,
                  subst (λ n. Contains (limits_of f found.kind found.a found.b) (pos n))
                      (sym e) found.has.1,
                );
              };
            })
      ]
    ]
