-- A solution of the system of limits as numbers for the columns, by the components of cover lines.
use Rattle.std.proofs.Common.{◌≡◌, ℕ, zero, suc, ◌+◌, ◌-◌, ◌*◌, ◌/◌, ◌%◌, ◌<◌, ℤ, pos, ◌+ℤ◌, List, length, refl, sym, ap, ◌∙◌, ltb, lt-ltb, le-ltb, arith}
use Rattle.std.specs.Prelude.{cond}
use Rattle.std.proofs.Math.Nat.{mod-lt, mod-mod, add-mod_right, mod-add-mod}
use Rattle.std.proofs.lemmas.Int.{ints}
use Rattle.gj_lemmas.proofs.Quotients.{same_at_remainder, parts_of_place}
use Rattle.gj_shape.specs.Faces.{corners_of, slack_from}
use Rattle.gj_shape.specs.FunctionData.{FunctionData, IsWithinBounds, at}
use Rattle.gj_shape.specs.declared.extremality.CoverLine.{CoverLine}
use Rattle.gj_shape.specs.declared.faces.FaceKind.{FaceKind}
use Rattle.gj_shape.specs.declared.faces.FaceKind.TheVariants.{Vertex}
use Rattle.gj_jumps.specs.LimitCover.{IsTightAt}
use Rattle.gj_jumps.specs.LimitSystem.{Limits}
use Rattle.gj_jumps.specs.WholeLimits.{SolvesWholeLimits}
use Rattle.gj_limit_faces.specs.Terms.{terms_at}
use Rattle.gj_limit_faces.specs.declared.terms.Side.{Side}
use Rattle.gj_limit_faces.specs.declared.terms.Side.TheVariants.{Left, Value, Right}
use Rattle.gj_limit_system.specs.LimitRows.{row_value}
use Rattle.gj_limit_system.specs.LimitSlacks.{limits_in, number_on, slack_at}
use Rattle.gj_limit_system.specs.Unknowns.{right_column, value_column, slope_column, columns_for, value_from, interval_before, limits_from}
use Rattle.gj_limit_system.specs.declared.limit_row.LimitRow.{LimitRow}
use Rattle.gj_limit_system.specs.declared.limit_row.LimitRow.TheVariants.{F, Tight}
use Rattle.gj_limit_system.proofs.Slopes.{slope}
use Rattle.gj_limit_system.proofs.VertexSlacks.{at_vertex, right_low, above_low, IsPeriodic, slack_same, data_periodic, limit_at_vertex}
use Rattle.gj_proof.specs.PresentRows.{AreNumbersOf}
use Rattle.gj_limit_proof.specs.LimitRules.{MeetsLimitRow}
use Rattle.gj_limit_proof.specs.LimitText.{IsRowWithin}
use Rattle.gj_limit_check.proofs.LineCovers.{opened_by, slope_of_component}
use Rattle.gj_limit_check.proofs.PlainRules.{MeetLimitCovers}

module _ (f : FunctionData) (lines : List CoverLine) (comp : ℕ → ℕ) (bounds : IsWithinBounds f)
    (zero_value : at f.value 0 ≡ pos 0)
    (rules : MeetLimitCovers f lines) (are : AreNumbersOf f lines comp) (w : Limits ℤ)
    (solves : SolvesWholeLimits f w) where
  abbrev q : ℕ
  q = f.order

  some : 0 < f.order
  some = omega (arith, bounds.order_low)

  periodic : IsPeriodic f.order w
  periodic = record {
    left = solves.left_period;
    value = solves.value_period;
    right =
        solves.right_period;
  }

  -- ---- the numbers

  abbrev by_side_of : ℕ → ℕ → ℤ
  by_side_of k zero = w.right (f.order - 1 - k)
  by_side_of k (suc r) = w.value (f.order - 1 - k)

  abbrev slope_of : ℕ → ℤ
  slope_of m = slope f w solves (opened_by lines m)

  abbrev pub number : ℕ → ℤ
  number n = cond (ltb n (2 * f.order - 1)) (by_side_of (n / 2) (n % 2))
      (slope_of (n - (2 * f.order - 1)))

  number_low : (n k r : ℕ) → n ≡ k * 2 + r → r < 2 → n < 2 * f.order - 1 → number n ≡ by_side_of k r
  number_low n k r e r_low low =
      let parts = parts_of_place n k 2 r e r_low in
      ap (λ t. cond t (by_side_of (n / 2) (n % 2)) (slope_of (n - (2 * f.order - 1))))
      (lt-ltb n (2 * f.order - 1) low)
      ∙ (λ i. by_side_of (parts.0 i) (parts.1 i))

  number_right : (i : ℕ) → i < f.order → number (right_column f.order i) ≡ w.right i
  number_right i low =
      let k = f.order - 1 - i in
      let back : f.order - 1 - k ≡ i = omega (arith, low) in
      number_low (right_column f.order i) k 0 (omega arith) (omega arith) (omega (arith, low))
      ∙ ap w.right back

  number_value : (i : ℕ) → suc i < f.order → number (value_column f.order (suc i)) ≡ w.value (suc i)
  number_value i low =
      let k = f.order - 1 - suc i in
      let back : f.order - 1 - k ≡ suc i = omega (arith, low) in
      number_low (value_column f.order (suc i)) k 1 (omega (arith, low)) (omega arith)
      (omega (arith, low)) ∙ ap w.value back

  number_slope : (m : ℕ) → number (slope_column f.order m) ≡ slope_of m
  number_slope m =
      let n = slope_column f.order m in
      let back : n - (2 * f.order - 1) ≡ m = omega arith in
      ap (λ t. cond t (by_side_of (n / 2) (n % 2)) (slope_of (n - (2 * f.order - 1))))
      (le-ltb n (2 * f.order - 1) (omega arith))
      ∙ ap slope_of back

  -- ---- their limits and values

  value_at_zero : w.value 0 ≡ pos 0
  value_at_zero =
      let tight : IsTightAt f Vertex 0 0 0 =
      let twice : slack_from (at f.value 0) (at f.value 0) (at f.value 0) ≡ pos 0 =
      omega (arith, ints, zero_value) in twice in
      let twice : slack_from (w.value 0) (w.value 0) (w.value 0) ≡ pos 0 =
      solves.at_tight Vertex 0 0 0 tight in
      omega (arith, ints, twice)

  value_is : (j : ℕ) → j < f.order → value_from f.order number j ≡ w.value j
  value_is zero low = sym value_at_zero
  value_is (suc j) low = number_value j low

  -- the numbers give the solution
  pub gives : (side : Side) (i : ℕ) → number_on (limits_from f.order comp number) side i
      ≡ number_on w side i
  gives Right i =
      number_right (i % f.order) (mod-lt i some)
      ∙ same_at_remainder w.right f.order solves.right_period (i % f.order) i (mod-mod i f.order)
  gives Value i =
      value_is (i % f.order) (mod-lt i some)
      ∙ same_at_remainder w.value f.order solves.value_period (i % f.order) i (mod-mod i f.order)
  gives Left i =
      let j = interval_before f.order i in
      let low = mod-lt (i + (f.order - 1)) some in
      let right = number_right j low in
      let rise = number_slope (comp j) ∙ slope_of_component f lines rules w solves (comp j) j
      (are j low) in
      let turn : i + (f.order - 1) + 1 ≡ i + f.order = omega (arith, some) in
      let next : (j + 1) % f.order ≡ i % f.order =
      mod-add-mod (i + (f.order - 1)) f.order 1 ∙ ap (λ n. n % f.order) turn
      ∙ add-mod_right i f.order in
      let end = same_at_remainder w.left f.order solves.left_period (j + 1) i next in
      let sum : number (right_column f.order j) +ℤ number (slope_column f.order (comp j))
      ≡ w.left (j + 1) = omega (arith, ints, right, rise) in
      sum ∙ end

  -- where the limit of the function is 0, that of the solution is
  tight_zero : (kind : FaceKind) (c a b : ℕ) → c < length (corners_of kind 0 0) →
      slack_at (limits_in f) kind c a b ≡ pos 0 →
      slack_at w kind c a b ≡ pos 0
  tight_zero kind c a b low tight =
      let right = right_low kind c in
      let above = above_low kind c in
      let u = a + (f.order - (terms_at kind c).right) in
      let v = b + (f.order - (terms_at kind c).above) in
      let at_a : u + (terms_at kind c).right ≡ a + f.order = omega (arith, right, some) in
      let at_b : v + (terms_at kind c).above ≡ b + f.order = omega (arith, above, some) in
      let turned_a = ap (λ n. n % f.order) at_a ∙ add-mod_right a f.order in
      let turned_b = ap (λ n. n % f.order) at_b ∙ add-mod_right b f.order in
      let there : IsTightAt f kind u v c =
      limit_at_vertex f kind u v c low
      ∙ slack_same f.order (limits_in f) (data_periodic f bounds) kind c
      (u + (terms_at kind c).right) (v + (terms_at kind c).above) a b
      turned_a turned_b ∙ tight in
      sym (slack_same f.order w periodic kind c (u + (terms_at kind c).right)
      (v + (terms_at kind c).above) a b turned_a turned_b)
      ∙ sym (at_vertex w kind c (pos 0) u v low) ∙ solves.at_tight kind u v c there

  -- they solve each row that may be named
  pub row_solved : (name : LimitRow) → IsRowWithin f.order name → MeetsLimitRow f name →
      row_value f.place (limits_from f.order comp number) name ≡ pos 0
  row_solved F within meets = gives Value f.place ∙ solves.zero_at_place
  row_solved (Tight kind corner a b) within meets =
      let first = gives (terms_at kind corner).x a in
      let second = gives (terms_at kind corner).y b in
      let third = gives (terms_at kind corner).sum (a + b) in
      (λ i. slack_from (first i) (second i) (third i))
      ∙ tight_zero kind corner a b within.corner_is meets

  -- ---- if all numbers are 0

  module _ (count : ℕ) (few : (i : ℕ) → i < f.order → comp i < count)
      (none : (n : ℕ) → n < columns_for f.order count → number n ≡ pos 0) where
    right_zero : (j : ℕ) → j < f.order → number (right_column f.order j) ≡ pos 0
    right_zero j low = none (right_column f.order j) (omega (arith, low))

    value_zero : (j : ℕ) → j < f.order → value_from f.order number j ≡ pos 0
    value_zero zero low = refl
    value_zero (suc j) low = none (value_column f.order (suc j)) (omega (arith, low))

    -- so is the solution
    pub solution_zero : (i : ℕ) → (w.left i ≡ pos 0) × (w.value i ≡ pos 0) × (w.right i ≡ pos 0)
    solution_zero i =
        let j = interval_before f.order i in
        let low = mod-lt (i + (f.order - 1)) some in
        let right = right_zero j low in
        let component = few j low in
        let rise = none (slope_column f.order (comp j)) (omega (arith, component)) in
        let sum : number (right_column f.order j) +ℤ number (slope_column f.order (comp j))
        ≡ pos 0 = omega (arith, ints, right, rise) in (
          sym (gives Left i) ∙ sum,
          sym (gives Value i) ∙ value_zero (i % f.order) (mod-lt i some),
          sym (gives Right i) ∙ right_zero (i % f.order) (mod-lt i some),
        )
