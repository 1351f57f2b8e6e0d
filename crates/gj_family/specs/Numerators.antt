-- Functions whose values and limits are whole numbers over one denominator.
use Rattle.std.specs.Prelude.{ℕ, ℤ, pos, ◌≡◌, ◌*ℤ◌, List, length, nat_eq, if◌then◌else◌}
use Rattle.gj_shape.specs.FunctionData.{FunctionData, IsWithinBounds, at}

-- a function with f at the place k whose limits and values are the entries of the lists over d
pub record IsOver (k d : ℕ) (limits values : List ℤ) (f : FunctionData) : Type 0 where
  pub order : f.order ≡ length values
  pub place : f.place ≡ k
  pub left_is : (i : ℕ) → at f.left i *ℤ pos d ≡ at limits i *ℤ pos f.scale
  pub value_is : (i : ℕ) → at f.value i *ℤ pos d ≡ at values i *ℤ pos f.scale
  pub right_is : (i : ℕ) → at f.right i *ℤ pos d ≡ at limits i *ℤ pos f.scale
  pub within : IsWithinBounds f

-- twice the values of the function that is 1/2 almost everywhere
abbrev pub doubled_value : ℕ → ℕ → ℤ
doubled_value k i = pos (if nat_eq i 0 then 0 else (if nat_eq i k then 2 else 1))
