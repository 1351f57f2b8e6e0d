-- The value of a function at a fraction (own: tables of every order in place of a piecewise
-- function).
use Rattle.std.specs.Prelude.{ℕ, ℤ, pos, ◌≡◌, ◌*◌, ◌+ℤ◌, ◌*ℤ◌}
use Rattle.gj_frac.specs.declared.Frac.{Frac}
use Rattle.gj_frac.specs.Fraction.{IsRatio}
use Rattle.gj_shape.specs.FunctionData.{FunctionData}
use Rattle.gj_shape.specs.Table.{table}

-- i and j differ by a multiple of n
abbrev pub IsCongruent : ℤ → ℤ → ℕ → Type 0
IsCongruent i j n = (k : ℤ) × (i ≡ j +ℤ k *ℤ pos n)

-- x is the value at n/(order d): what the table on that grid has at each index congruent to n
abbrev pub IsValueAt : FunctionData → ℤ → ℕ → Frac → Type 0
IsValueAt f n d x = (j : ℕ) → IsCongruent (pos j) n (f.order * d) →
    IsRatio x (table f d j) (pos (f.scale * d))
