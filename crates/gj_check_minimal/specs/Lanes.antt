-- The pieces of a function in lanes of one width (own).
use Rattle.std.specs.Prelude.{ℕ, ℤ, min, max, ◌+◌, ◌<◌, ◌≤◌, length, slice_index_or}
use Rattle.gj_shape.specs.FunctionData.{FunctionData}
use Rattle.gj_loops.specs.Lanes.{ArePeriods}
use Rattle.gj_check_minimal.specs.declared.squares.Lanes.{Lanes}
use Rattle.gj_check_minimal.specs.declared.squares.Part.{Part}

-- the lanes are the values and limits of the function
pub record AreLanesOf {L : Type 0} (number : L → ℤ) (least : ℤ) (bound : ℕ) (f : FunctionData)
    (l : Lanes L) : Type 0 where
  pub values : ArePeriods number least bound l.value.now f.value
  pub rights : ArePeriods number least bound l.right.now f.right
  pub lefts : ArePeriods number least bound l.left.now f.left

-- there are lanes of the piece from i/q on
abbrev pub HasIndex : {L : Type 0} → Lanes L → ℕ → Type 0
HasIndex l i = (i < length l.value.now) × (i < length l.right.now) × (i + 1 < length l.left.now)

-- the lanes of the piece, and e for each that is not there
abbrev pub part_at : {L : Type 0} → Lanes L → ℕ → L → Part L
part_at l i e = record {
  value = slice_index_or l.value.now i e;
  right = slice_index_or l.right.now i e;
  left = slice_index_or l.left.now (i + 1) e;
}

-- the lanes of the piece are below the bound
abbrev pub IsPartBelow : {L : Type 0} → (L → ℕ) → ℕ → Part L → Type 0
IsPartBelow number bound p = (number p.value < bound) × (number p.right < bound)
    × (number p.left < bound)

-- no limit of the slack in the square (a, b) is negative, by the pieces from a/q, b/q, (a + b)/q
-- and (a + b + 1)/q on
pub record HasNoExcess {L : Type 0} (number : L → ℕ) (first second sum next : Part L) : Type 0 where
  pub at_vertex : number sum.value ≤ number first.value + number second.value
  pub at_sum : (number sum.right ≤ number first.right + number second.value)
      × (number sum.right ≤ min (number first.right) (number first.value) + number second.right)
  pub before_next : (number sum.left ≤ number first.left + min (number second.value)
      (number second.right))
      × (number sum.left ≤ min (number first.right) (number first.value) + number second.left)
  pub at_next : (max (number next.value) (number next.right)
      ≤ number first.left + number second.right)
      × (max (number next.value) (number next.right) ≤ number first.right + number second.left)
  pub before_last : number next.left ≤ number first.left + number second.left
