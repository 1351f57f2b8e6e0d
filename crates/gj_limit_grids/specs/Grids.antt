-- The limits and values of a function on finer grids, perturbations there, and the zigzag (Basu,
-- Hildebrand and Koeppe, Equivariant Perturbation I; the limits are own).
use Rattle.std.specs.Prelude.{ℕ, ℤ, pos, negsuc, ◌≡◌, ◌+◌, ◌*◌, ◌/◌, ◌%◌, ◌<◌, ◌==◌, ◌<ℤ◌, ◌≤ℤ◌, if◌then◌else◌, Bool, get_or}
use Rattle.gj_shape.specs.FunctionData.{FunctionData}
use Rattle.gj_shape.specs.Refinement.{refined}
use Rattle.gj_shape.specs.declared.faces.FaceKind.{FaceKind}
use Rattle.gj_jumps.specs.LimitSystem.{Limits}
use Rattle.gj_jumps.specs.WholeLimits.{whole_slacks_of}

-- those of the function on the grid of order m times its own, over m times its scale
abbrev pub limits_on : FunctionData → ℕ → Limits ℤ
limits_on f m = record {
  left = refined f f.left m;
  value = refined f f.value m;
  right = refined f f.right m;
}

-- the limit of the slack from inside the face at its corner c, from 0 on
abbrev pub slack_at_corner : Limits ℤ → FaceKind → ℕ → ℕ → ℕ → ℤ
slack_at_corner w kind a b c = get_or (whole_slacks_of w kind a b) c (pos 0)

-- whole numbers of the period of the grid, 0 at f, whose slack is 0 wherever that of the function
-- is
pub record IsLimitPerturbation (f : FunctionData) (m : ℕ) (w : Limits ℤ) : Type 0 where
  pub left_period : (i : ℕ) → w.left (i + f.order * m) ≡ w.left i
  pub value_period : (i : ℕ) → w.value (i + f.order * m) ≡ w.value i
  pub right_period : (i : ℕ) → w.right (i + f.order * m) ≡ w.right i
  pub zero_at_place : w.value (f.place * m) ≡ pos 0
  pub at_tight : (kind : FaceKind) (a b c : ℕ) →
      slack_at_corner (limits_on f m) kind a b c ≡ pos 0 → slack_at_corner w kind a b c ≡ pos 0

-- u is above 0 and at most each positive limit of the slack on the grid
pub record IsBelowLimits (f : FunctionData) (m u : ℕ) : Type 0 where
  pub some : 0 < u
  pub below : (kind : FaceKind) (a b c : ℕ) → pos 0 <ℤ slack_at_corner (limits_on f m) kind a b c →
      pos u ≤ℤ slack_at_corner (limits_on f m) kind a b c

-- the zigzag of the chosen intervals on the grid of order 4 q: 1 at the first quarter point of
-- each, -1 at the third, else 0
abbrev pub zigzag_of : (ℕ → Bool) → ℕ → ℤ
zigzag_of chosen i =
    if chosen (i / 4)
    then (if i % 4 == 1 then pos 1 else if i % 4 == 3 then negsuc 0 else pos 0) else pos 0

-- it does not jump
abbrev pub zigzag_limits : (ℕ → Bool) → Limits ℤ
zigzag_limits chosen =
    record { left = zigzag_of chosen; value = zigzag_of chosen; right = zigzag_of chosen }
