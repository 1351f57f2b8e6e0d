-- The functions of n x and of -x, and restrictions to the multiples of 1/d (Gomory and Johnson
-- 1972; the definitions by tables are own).
use Rattle.std.specs.Prelude.{ℕ, ℤ, pos, ◌≡◌, ◌⊎◌, ◌+◌, ◌*◌, ◌%◌, ◌<◌, ◌≤◌, ◌*ℤ◌, ◌↔◌}
use Rattle.std.specs.Int.{◌∣◌}
use Rattle.gj_frac.specs.declared.Frac.{Frac}
use Rattle.gj_shape.specs.FunctionData.{FunctionData, IsContinuous}
use Rattle.gj_shape.specs.Table.{table}
use Rattle.gj_shape.specs.Values.{IsValueAt}

-- the value of f at i/(order l) is the value of g at j/(order m), each with its own order and scale
abbrev pub HaveSameValue : FunctionData → ℕ → ℕ → FunctionData → ℕ → ℕ → Type 0
HaveSameValue f l i g m j = table f l i *ℤ pos (g.scale * m) ≡ table g m j *ℤ pos (f.scale * l)

-- g(x) = f(n x), with the place (f + j)/n: i/(order m) of g is i/(order n m) of f
pub record IsTimesOf (f : FunctionData) (n j : ℕ) (g : FunctionData) : Type 0 where
  pub order : g.order ≡ f.order * n
  pub place : g.place ≡ f.place + j * f.order
  pub same_values : (m i : ℕ) → 0 < m → HaveSameValue g m i f (n * m) (n * i)

-- g(x) = f(-x), with the place 1 - f
pub record IsMirrorOf (f g : FunctionData) : Type 0 where
  pub order : g.order ≡ f.order
  pub place : g.place + f.place ≡ f.order
  pub same_values : (m i j : ℕ) → 0 < m → (i + j) % (f.order * m) ≡ 0 → HaveSameValue g m i f m j

-- g is the continuous function of order d with the values of f at the multiples of 1/d, and the
-- place of f: these are each step-th of the multiples of 1/order of f
pub record IsRestrictionOf (f : FunctionData) (d : ℕ) (g : FunctionData) : Type 0 where
  pub step : ℕ
  pub divides : f.order ≡ d * step
  pub order : g.order ≡ d
  pub place : f.place ≡ g.place * step
  pub continuous : IsContinuous g
  pub same_values : (i : ℕ) → HaveSameValue g 1 i f 1 (i * step)

-- at each fraction u/d, g has the value of f at n u/d
abbrev pub HasValuesAtMultiples : FunctionData → ℤ → FunctionData → Type 0
HasValuesAtMultiples f n g = (d : ℕ) (u : ℤ) (x : Frac) → 0 < d →
    IsValueAt g (u *ℤ pos g.order) d x ↔ IsValueAt f (n *ℤ u *ℤ pos f.order) d x

-- at each multiple of 1/d, g has the value of f
abbrev pub AgreeAtMultiples : FunctionData → ℕ → FunctionData → Type 0
AgreeAtMultiples f d g = (u : ℤ) (x : Frac) → IsValueAt g (u *ℤ pos g.order) d x
    ↔ IsValueAt f (u *ℤ pos f.order) d x

-- 1/d is the step-th multiple of 1/order, and the place a multiple of 1/d
pub record IsRestrictionStep (f : FunctionData) (d step : ℕ) : Type 0 where
  pub at_least : 2 ≤ d
  pub divides : f.order ≡ d * step
  pub place : step ∣ f.place

-- there is no function of order d with the values of f at the multiples of 1/d and the place of f:
-- d is below 2, or 1/d is no multiple of 1/order, or the place is no multiple of 1/d
abbrev pub HasNoRestriction : FunctionData → ℕ → Type 0
HasNoRestriction f d = (d < 2) ⊎ ((d ∣ f.order → ⊥) ⊎ (f.order ∣ f.place * d → ⊥))
