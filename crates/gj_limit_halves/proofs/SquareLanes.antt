-- The least positive limits of squares, from those of their faces.
use Rattle.std.proofs.Common.{◌≡◌, ℕ, ◌⊎◌, inl, inr, ◌+◌, ◌*◌, ◌<◌, ◌≤◌, ◌^◌, min, ℤ, pos, ◌<ℤ◌, ◌≤ℤ◌, List, All, get_or, sym, subst, arith}
use Rattle.std.specs.List.{Contains}
use Rattle.std.proofs.lemmas.Bool.{cases_lt}
use Rattle.std.proofs.lemmas.Int.{ints}
use Rattle.gj_shape.specs.Faces.{limits_of, slack_from}
use Rattle.gj_shape.specs.FunctionData.{FunctionData, at}
use Rattle.gj_shape.specs.declared.faces.FaceKind.{FaceKind}
use Rattle.gj_shape.specs.declared.faces.FaceKind.TheVariants.{Vertex, Horizontal, Vertical, Diagonal, Lower, Upper}
use Rattle.gj_limit_halves.specs.LimitLanes.{ArePeriodsOf, StandsFor, AreLeastIn, IsMet, AreLeastOf, IsInRow, IsInRows, IsSquare, no_lane}

-- ---- lanes of limits

-- what the code says of a lane that it makes
abbrev pub IsMade : ℕ → ℕ → ℕ → ℕ → Type 0
IsMade x y s lane = x < 2 ^ 31 → y < 2 ^ 31 → s ≤ x + y →
    StandsFor (slack_from (pos x) (pos y) (pos s)) lane

within : (x y s : ℕ) → pos 0 ≤ℤ slack_from (pos x) (pos y) (pos s) → s ≤ x + y
within x y s sign = omega (arith, ints, sign)

module _ (q a b : ℕ) (a_below : a < q) (b_below : b < q) where
  -- the lane at these three indices stands for the limit there
  pub stands : (us vs ss : List ℕ) (xs ys zs : List ℤ) (i j k lane : ℕ) → ArePeriodsOf q us xs →
      ArePeriodsOf q vs ys →
      ArePeriodsOf q ss zs → i ≤ q → j ≤ q → k ≤ 2 * q →
      IsMade (get_or us i 0) (get_or vs j 0) (get_or ss k 0) lane →
      pos 0 ≤ℤ slack_from (at xs i) (at ys j) (at zs k) →
      StandsFor (slack_from (at xs i) (at ys j) (at zs k)) lane
  stands us vs ss xs ys zs i j k lane u v s i_low j_low k_low made sign =
      let first = u.same i (omega (arith, i_low)) in
      let second = v.same j (omega (arith, j_low)) in
      let third = s.same k k_low in
      let e : slack_from (pos (get_or us i 0)) (pos (get_or vs j 0)) (pos (get_or ss k 0))
      ≡ slack_from (at xs i) (at ys j) (at zs k) = λ n. slack_from (first n) (second n) (third n) in
      subst (λ z. StandsFor z lane) e
      (made (u.small i (omega (arith, i_low))) (v.small j (omega (arith, j_low)))
      (within _ _ _ (subst (λ z. pos 0 ≤ℤ z) (sym e) sign)))

-- ---- one square

-- a property of both is one of the least
least_has : (P : ℕ → Type 0) (x y : ℕ) → P x → P y → P (min x y)
least_has P x y first second = elim (cases_lt y x) [
  | inl less ↦ subst P (let same : y ≡ min x y = omega (arith, less) in same) second
  | inr more ↦ subst P (let same : x ≡ min x y = omega (arith, more) in same) first
]

-- the lanes of each face of the square
pub record AreFaces (f : FunctionData) (a b : ℕ) (any beside : FaceKind → ℕ) : Type 0 where
  pub each : (kind : FaceKind) → AreLeastIn (limits_of f kind a b) (any kind) (beside kind)

-- one number for each kind of face
abbrev pub pick : ℕ → ℕ → ℕ → ℕ → ℕ → ℕ → FaceKind → ℕ
pick v h w d l u Vertex = v
pick v h w d l u Horizontal = h
pick v h w d l u Vertical = w
pick v h w d l u Diagonal = d
pick v h w d l u Lower = l
pick v h w d l u Upper = u

pub are_faces : (f : FunctionData) (a b v h w d l u h' w' d' l' u' : ℕ) →
    AreLeastIn (limits_of f Vertex a b) v no_lane → AreLeastIn (limits_of f Horizontal a b) h h' →
    AreLeastIn (limits_of f Vertical a b) w w' → AreLeastIn (limits_of f Diagonal a b) d d' →
    AreLeastIn (limits_of f Lower a b) l l' → AreLeastIn (limits_of f Upper a b) u u' →
    AreFaces f a b (pick v h w d l u) (pick no_lane h' w' d' l' u')
are_faces f a b v h w d l u h' w' d' l' u' vertex horizontal vertical diagonal lower upper =
    record { each = cases }
  where
    cases : (kind : FaceKind) →
        AreLeastIn (limits_of f kind a b) (pick v h w d l u kind) (pick no_lane h' w' d' l' u' kind)
    cases Vertex = vertex
    cases Horizontal = horizontal
    cases Vertical = vertical
    cases Diagonal = diagonal
    cases Lower = lower
    cases Upper = upper

module _ (f : FunctionData) (a b : ℕ) (a_below : a < f.order) (b_below : b < f.order)
    (any beside : FaceKind → ℕ) (h : AreFaces f a b any beside) where
  abbrev AnyMet : ℕ → Type 0
  AnyMet n = (n ≡ no_lane) ⊎ IsMet f (λ limits. Contains limits (pos (n + 1)))

  abbrev BesideMet : ℕ → Type 0
  BesideMet n = (n ≡ no_lane)
      ⊎ IsMet f (λ limits. Contains limits (pos 0) × Contains limits (pos (n + 1)))

  any_met : (kind : FaceKind) → AnyMet (any kind)
  any_met kind = elim (h.each kind).any_met [
    | inl none ↦ inl none
    | inr found ↦
        inr (record {
          kind = kind;
          a = a;
          b = b;
          first_within = a_below;
          second_within =
              b_below;
          has = found;
        })
  ]

  beside_met : (kind : FaceKind) → BesideMet (beside kind)
  beside_met kind = elim (h.each kind).beside_met [
    | inl none ↦ inl none
    | inr found ↦
        inr (record {
          kind = kind;
          a = a;
          b = b;
          first_within = a_below;
          second_within =
              b_below;
          has = found;
        })
  ]

  abbrev least_any : ℕ
  least_any =
      min (min (min (any Vertex) (any Horizontal)) (min (any Vertical) (any Diagonal)))
      (min (any Lower) (any Upper))

  abbrev least_beside : ℕ
  least_beside =
      min (min (min (beside Horizontal) (beside Vertical)) (beside Diagonal))
      (min (beside Lower) (beside Upper))

  any_least : (kind : FaceKind) → least_any ≤ any kind
  any_least Vertex = omega arith
  any_least Horizontal = omega arith
  any_least Vertical = omega arith
  any_least Diagonal = omega arith
  any_least Lower = omega arith
  any_least Upper = omega arith

  module _ (vertex : beside Vertex ≡ no_lane) (fits : least_beside ≤ no_lane) where
    beside_least : (kind : FaceKind) → least_beside ≤ beside kind
    beside_least Vertex = omega (arith, vertex, fits)
    beside_least Horizontal = omega arith
    beside_least Vertical = omega arith
    beside_least Diagonal = omega arith
    beside_least Lower = omega arith
    beside_least Upper = omega arith

    low : (x y : ℕ) (z : ℤ) → x ≤ y → pos y <ℤ z → pos x <ℤ z
    low x y z less more = omega (arith, ints, less, more)

    pub one_square : AreLeastOf f (IsSquare a b) least_any least_beside
    one_square = record {
      any_met = least_has AnyMet _ _
          (least_has AnyMet _ _ (least_has AnyMet _ _ (any_met Vertex) (any_met Horizontal))
          (least_has AnyMet _ _ (any_met Vertical) (any_met Diagonal)))
          (least_has AnyMet _ _ (any_met Lower) (any_met Upper));
      beside_met = least_has BesideMet _ _
          (least_has BesideMet _ _
          (least_has BesideMet _ _ (beside_met Horizontal) (beside_met Vertical))
          (beside_met Diagonal))
          (least_has BesideMet _ _ (beside_met Lower) (beside_met Upper));
      any_low = λ kind a' b' (e, g).
          subst (λ i. All (λ x. pos 0 <ℤ x → pos least_any <ℤ x) (limits_of f kind i b')) (sym e)
          (subst (λ j. All (λ x. pos 0 <ℤ x → pos least_any <ℤ x) (limits_of f kind a j)) (sym g)
          (λ k d below positive. low least_any (any kind) _ (any_least kind)
          ((h.each kind).any_low k d below positive)));
      beside_low = λ kind a' b' (e, g).
          subst (λ i. Contains (limits_of f kind i b') (pos 0) →
          All (λ x. pos 0 <ℤ x → pos least_beside <ℤ x) (limits_of f kind i b')) (sym e)
          (subst (λ j. Contains (limits_of f kind a j) (pos 0) →
          All (λ x. pos 0 <ℤ x → pos least_beside <ℤ x) (limits_of f kind a j)) (sym g)
          (λ zero_in k d below positive.
          low least_beside (beside kind) _ (beside_least kind)
          ((h.each kind).beside_low zero_in k d below positive)));
    }

-- ---- several squares

-- the least of two choices of squares
pub together : (f : FunctionData) (Q R S : ℕ → ℕ → Type 0) (x y x' y' : ℕ) →
    ((a b : ℕ) → S a b → Q a b ⊎ R a b) →
    AreLeastOf f Q x y → AreLeastOf f R x' y' → AreLeastOf f S (min x x') (min y y')
together f Q R S x y x' y' split g h = record {
  any_met = least_has (λ n. (n ≡ no_lane) ⊎ IsMet f (λ limits. Contains limits (pos (n + 1)))) x x'
      g.any_met h.any_met;
  beside_met = least_has
      (λ n. (n ≡ no_lane) ⊎ IsMet f
      (λ limits. Contains limits (pos 0) × Contains limits (pos (n + 1)))) y y'
      g.beside_met h.beside_met;
  any_low = λ kind a b s. elim (split a b s) [
    | inl q ↦ λ k d below above. first_low x x' _ (g.any_low kind a b q k d below above)
    | inr r ↦ λ k d below above. second_low x x' _ (h.any_low kind a b r k d below above)
  ];
  beside_low = λ kind a b s zero_in. elim (split a b s) [
    | inl q ↦ λ k d below above. first_low y y' _ (g.beside_low kind a b q zero_in k d below above)
    | inr r ↦ λ k d below above. second_low y y' _ (h.beside_low kind a b r zero_in k d below above)
  ];
}
  where
    first_low : (x y : ℕ) (z : ℤ) → pos x <ℤ z → pos (min x y) <ℤ z
    first_low x y z h = omega (arith, ints, h)

    second_low : (x y : ℕ) (z : ℤ) → pos y <ℤ z → pos (min x y) <ℤ z
    second_low x y z h = omega (arith, ints, h)

-- the last square of a row, and the last row
pub in_row : (i j a b : ℕ) → IsInRow i (j + 1) a b → IsInRow i j a b ⊎ IsSquare i j a b
in_row i j a b (e, from, below) = elim (cases_lt b j) [
  | inl less ↦ inl (e, from, less)
  | inr high ↦ inr (e, omega (arith, high, below))
]

pub in_rows : (n i a b : ℕ) → IsInRows n (i + 1) a b → IsInRows n i a b ⊎ IsInRow i n a b
in_rows n i a b (low, from, below) = elim (cases_lt a i) [
  | inl less ↦ inl (less, from, below)
  | inr high ↦
      inr (let e : a ≡ i = omega (arith, high, low) in (e, omega (arith, e, from), below))
]
