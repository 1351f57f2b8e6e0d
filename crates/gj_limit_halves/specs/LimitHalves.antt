-- The two functions that a perturbation gives, and what can be split so (Basu, Hildebrand and
-- Koeppe, Equivariant Perturbation I; the numbers of the halves are own).
use Rattle.std.specs.Prelude.{ℕ, ℤ, pos, neg_ℤ, ◌≡◌, ◌*◌, ◌<◌, ◌≤◌, ◌+ℤ◌, ◌*ℤ◌, ◌≤ℤ◌, List, map, unsigned_abs}
use Rattle.std.specs.List.{range_with_len}
use Rattle.gj_shape.specs.FunctionData.{FunctionData, function_over}
use Rattle.gj_shape.specs.Limits.{greatest_halves_order, greatest_halves_scale}
use Rattle.gj_shape.specs.Refinement.{refined}
use Rattle.gj_shape.specs.declared.extremality.LimitHalves.{LimitHalves}
use Rattle.gj_shape.specs.declared.extremality.SideNumbers.{SideNumbers}
use Rattle.gj_jumps.specs.LimitSystem.{Limits}
use Rattle.gj_limit_grids.specs.Grids.{IsLimitPerturbation}
use Rattle.gj_limit_averages.specs.Averages.{AreDifferentParts}
use Rattle.gj_limit_averages.specs.Moved.{HasSome}
use Rattle.gj_limit_halves.specs.LeastLimit.{IsLeastLimit}
use Rattle.gj_limit_halves.specs.Sides.{limits_on_sides, AreSidesWithin, IsGreatestOf}

-- a list of limits or values on the grid of order m times the function's, each 3 p times, moved by
-- the step times the number of the perturbation
abbrev pub moved_list : FunctionData → ℕ → ℕ → ℤ → List ℤ → (ℕ → ℤ) → List ℤ
moved_list f m p step xs w =
    map (λ i. pos (3 * p) *ℤ refined f xs m i +ℤ step *ℤ w i) (range_with_len 0 (f.order * m))

-- the limits and values of the function, moved so
abbrev pub moved_sides : FunctionData → ℕ → ℕ → ℤ → Limits ℤ → SideNumbers
moved_sides f m p step w = record {
  left = moved_list f m p step f.left w.left;
  value = moved_list f m p step f.value w.value;
  right = moved_list f m p step f.right w.right;
}

-- the halves: the function plus and minus u/(3 p) times the perturbation, over 3 p m times its scale
pub record AreLimitHalvesOf (f : FunctionData) (m : ℕ) (w : Limits ℤ) (h : LimitHalves) :
    Type 0 where
  pub u : ℕ
  pub p : ℕ
  pub least_limit : IsLeastLimit f m u
  pub greatest : IsGreatestOf w p
  pub order : h.order ≡ f.order * m
  pub scale : h.scale ≡ pos (3 * p * (f.scale * m))
  pub first : h.first ≡ moved_sides f m p (pos u) w
  pub second : h.second ≡ moved_sides f m p (neg_ℤ (pos u)) w

-- one of them as a function
abbrev pub half_as_function : FunctionData → ℕ → LimitHalves → SideNumbers → FunctionData
half_as_function f m h s =
    function_over h.order (f.place * m) (unsigned_abs h.scale) s.left s.value s.right

-- they are two different minimal functions that average to the function
abbrev pub AreShownHalves : FunctionData → LimitHalves → Type 0
AreShownHalves f h =
    (m : ℕ) × (c : ℕ) × (h.scale ≡ pos (c * (f.scale * m)))
    × AreDifferentParts f m c (half_as_function f m h h.first) (half_as_function f m h h.second)

-- the order, the scale and the numbers of halves are within their limits
pub record AreWithinLimits (h : LimitHalves) : Type 0 where
  pub order_low : 2 ≤ h.order
  pub order_high : h.order ≤ greatest_halves_order
  pub scale_low : pos 1 ≤ℤ h.scale
  pub scale_high : h.scale ≤ℤ pos greatest_halves_scale
  pub first : AreSidesWithin h.order h.first
  pub second : AreSidesWithin h.order h.second

-- a perturbation of the function on a grid of order up to 4 q, which is not 0
pub record CanSplitLimits (f : FunctionData) (m : ℕ) (s : SideNumbers) : Type 0 where
  pub times_low : 1 ≤ m
  pub times_high : m ≤ 4
  pub within : AreSidesWithin (f.order * m) s
  pub perturbation : IsLimitPerturbation f m (limits_on_sides s)
  pub some : HasSome (limits_on_sides s)

-- the scale of the halves passes 2^124
pub record IsWideSplit (f : FunctionData) (m : ℕ) (w : Limits ℤ) : Type 0 where
  pub size : ℕ
  pub greatest : IsGreatestOf w size
  pub above : greatest_halves_scale < 3 * size * (f.scale * m)
