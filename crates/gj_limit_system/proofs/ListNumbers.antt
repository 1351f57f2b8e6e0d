-- Numbers for the columns as lists.
use Rattle.std.proofs.Common.{◌≡◌, ℕ, zero, suc, ◌+◌, ◌-◌, ◌*◌, ◌%◌, ◌<◌, ℤ, pos, ◌+ℤ◌, List, map, get_or, refl, sym, ap₂, ◌∙◌, arith}
use Rattle.std.specs.List.{range_with_len}
use Rattle.std.proofs.Math.Nat.{mod-lt}
use Rattle.std.proofs.lemmas.List.Elements.{All-get_or, All-from_get_or}
use Rattle.std.proofs.lemmas.List.FromFn.{length-map-range_with_len, get_or-map-range_with_len}
use Rattle.gj_shape.specs.Faces.{slack_from}
use Rattle.gj_shape.specs.FunctionData.{FunctionData}
use Rattle.gj_shape.specs.SlopeRows.{component_in}
use Rattle.gj_limit_faces.specs.Terms.{terms_at}
use Rattle.gj_limit_faces.specs.declared.terms.Side.{Side}
use Rattle.gj_limit_faces.specs.declared.terms.Side.TheVariants.{Left, Value, Right}
use Rattle.gj_limit_system.specs.Decided.{SolveLimitRows, HasOnlyZeroInColumns, HasOnlyZeroAsList}
use Rattle.gj_limit_system.specs.LimitRows.{row_value, limit_rows}
use Rattle.gj_limit_system.specs.LimitSlacks.{number_on}
use Rattle.gj_limit_system.specs.Unknowns.{right_column, slope_column, columns_for, value_from, interval_before, limits_from}
use Rattle.gj_limit_system.specs.declared.limit_row.LimitRow.{LimitRow}
use Rattle.gj_limit_system.specs.declared.limit_row.LimitRow.TheVariants.{F, Tight}

module _ (f : FunctionData) (comp : ℕ → ℕ) (count : ℕ) (some : 0 < f.order)
    (few : (i : ℕ) → i < f.order → comp i < count) where
  -- numbers that agree in the columns have the same limits and values
  module _ (x y : ℕ → ℤ) (same : (c : ℕ) → c < columns_for f.order count → x c ≡ y c) where
    right_same : (j : ℕ) → j < f.order →
        x (right_column f.order j) ≡ y (right_column f.order j)
    right_same j low = same (right_column f.order j) (omega (arith, low))

    value_same : (j : ℕ) → j < f.order → value_from f.order x j ≡ value_from f.order y j
    value_same zero low = refl
    value_same (suc j) low = same (2 * (f.order - suc j) - 1) (omega (arith, low))

    numbers_same : (side : Side) (i : ℕ) →
        number_on (limits_from f.order comp x) side i
        ≡ number_on (limits_from f.order comp y) side i
    numbers_same Right i = right_same (i % f.order) (mod-lt i some)
    numbers_same Value i = value_same (i % f.order) (mod-lt i some)
    numbers_same Left i =
        let low = mod-lt (i + (f.order - 1)) some in
        let component = few (interval_before f.order i) low in
        ap₂ (λ s t. s +ℤ t) (right_same (interval_before f.order i) low)
        (same (slope_column f.order (comp (interval_before f.order i)))
        (omega (arith, component)))

    value_of_row : (row : LimitRow) → row_value f.place (limits_from f.order comp x) row
        ≡ row_value f.place (limits_from f.order comp y) row
    value_of_row F = numbers_same Value f.place
    value_of_row (Tight kind corner a b) =
        let first = numbers_same (terms_at kind corner).x a in
        let second = numbers_same (terms_at kind corner).y b in
        let third = numbers_same (terms_at kind corner).sum (a + b) in
        λ i. slack_from (first i) (second i) (third i)

    rows_same : SolveLimitRows f comp x → SolveLimitRows f comp y
    rows_same rows k d low = sym (value_of_row (get_or (limit_rows f) k d)) ∙ rows k d low

module _ (f : FunctionData) (component : List ℕ) (count : ℕ) (some : 0 < f.order)
    (few : (i : ℕ) → i < f.order → component_in component i < count) where
  pub lists_by_columns : HasOnlyZeroInColumns f component count →
      HasOnlyZeroAsList f component count
  lists_by_columns only w len rows =
      All-from_get_or (λ x. x ≡ pos 0) w (pos 0)
      (λ i low. only (λ c. get_or w c (pos 0)) rows i (omega (arith, low, len)))

  pub columns_by_lists : HasOnlyZeroAsList f component count →
      HasOnlyZeroInColumns f component count
  columns_by_lists only x rows c low =
      let n = columns_for f.order count in
      let w = map x (range_with_len 0 n) in
      let len = length-map-range_with_len x 0 n in
      let read : (i : ℕ) → i < n → get_or w i (pos 0) ≡ x i = λ i below.
      get_or-map-range_with_len x 0 n i i (pos 0) below (omega arith) in
      let solved = rows_same f (component_in component) count some few x
      (λ i. get_or w i (pos 0)) (λ i below. sym (read i below)) rows in
      sym (read c low)
      ∙ All-get_or (λ y. y ≡ pos 0) w c (pos 0) (omega (arith, low, len)) (only w len solved)
