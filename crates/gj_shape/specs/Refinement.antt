-- The same function on a finer grid (own).
use Rattle.std.specs.Prelude.{ℕ, ℤ, zero, suc, pos, ◌≡◌, ◌*◌, ◌/◌, ◌%◌, ◌<◌, ◌*ℤ◌, List}
use Rattle.gj_frac.specs.declared.Frac.{Frac}
use Rattle.gj_shape.specs.FunctionData.{FunctionData, at}
use Rattle.gj_shape.specs.Table.{table, entry}
use Rattle.gj_shape.specs.Given.{HaveLength, AreOver}

-- m times what a list has at a/order + r/(order m): if r is 0 its entry, and else the value
abbrev pub entry_or_value : FunctionData → List ℤ → ℕ → ℕ → ℕ → ℤ
entry_or_value f xs m a zero = pos m *ℤ at xs a
entry_or_value f xs m a (suc r) = entry f m a (suc r)

-- what a list of limits or values is on the grid of order m times the function's, over scale m
abbrev pub refined : FunctionData → List ℤ → ℕ → ℕ → ℤ
refined f xs m i = entry_or_value f xs m (i / m) (i % m)

-- the limits and values of the function on the grid of order m times its own
pub record AreRefined (f : FunctionData) (m : ℕ) (left value right : List Frac) : Type 0 where
  pub lengths : HaveLength left value right (f.order * m)
  pub left_is : AreOver (refined f f.left m) (f.scale * m) left
  pub value_is : AreOver (refined f f.value m) (f.scale * m) value
  pub right_is : AreOver (refined f f.right m) (f.scale * m) right

-- g has `times` pieces for each of f, and on every grid the values of f
pub record IsRefinement (f : FunctionData) (times : ℕ) (g : FunctionData) : Type 0 where
  pub order : g.order ≡ f.order * times
  pub place : g.place ≡ f.place * times
  pub same_values : (m i : ℕ) → 0 < m →
      table g m i *ℤ pos (f.scale * (times * m)) ≡ table f (times * m) i *ℤ pos (g.scale * m)
