-- The two-slope fill-in of a table (Gomory and Johnson 1972): between neighbouring places the
-- lesser of a line that rises by the greatest rise and one that falls by the greatest fall. All is
-- over the table's own scale.
use Rattle.std.specs.Prelude.{ℕ, ℤ, pos, ◌≡◌, ◌+◌, ◌-◌, ◌/◌, ◌%◌, ◌+ℤ◌, ◌-ℤ◌, ◌*ℤ◌, ◌≤ℤ◌}
use Rattle.std.specs.Int.{int_min}

-- the table is subadditive at each two places
abbrev pub IsSubadditiveTable : (ℕ → ℤ) → Type 0
IsSubadditiveTable v = (i j : ℕ) → v (i + j) ≤ℤ (v i +ℤ v j)

-- s is the greatest rise from one place to the next, and t the greatest fall
pub record AreGreatestSteps (v : ℕ → ℤ) (s t : ℤ) : Type 0 where
  pub rises : (a : ℕ) → (v (a + 1) -ℤ v a) ≤ℤ s
  pub falls : (a : ℕ) → (v a -ℤ v (a + 1)) ≤ℤ t
  pub rise : (a : ℕ) × (v (a + 1) -ℤ v a ≡ s)
  pub fall : (a : ℕ) × (v a -ℤ v (a + 1) ≡ t)

-- r of m parts of the way from the place a to the next, over m times the scale
abbrev pub filled_between : (ℕ → ℤ) → ℤ → ℤ → ℕ → ℕ → ℕ → ℤ
filled_between v s t m a r =
    int_min (pos m *ℤ v a +ℤ pos r *ℤ s) (pos m *ℤ v (a + 1) +ℤ pos (m - r) *ℤ t)

-- the fill-in on the grid with m parts from each place to the next
unfoldable pub filled : (ℕ → ℤ) → ℤ → ℤ → ℕ → ℕ → ℤ
filled v s t m i = filled_between v s t m (i / m) (i % m)
