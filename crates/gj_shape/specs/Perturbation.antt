-- Perturbations of a minimal function, and the two functions that they give (Equivariant
-- Perturbation I; the halves' numbers are own).
use Rattle.std.specs.Prelude.{ℕ, ℤ, pos, ◌≡◌, ◌+◌, ◌*◌, ◌/◌, ◌%◌, ◌==◌, ◌≤◌, ◌+ℤ◌, ◌-ℤ◌, ◌*ℤ◌, ◌<ℤ◌, ◌≤ℤ◌, if◌then◌else◌, List, length, map, All, unsigned_abs}
use Rattle.std.specs.List.{range_with_len, list_any}
use Rattle.gj_frac.specs.Fraction.{Fits}
use Rattle.gj_shape.specs.Limits.{greatest_halves_order, greatest_halves_scale}
use Rattle.gj_shape.specs.FunctionData.{FunctionData}
use Rattle.gj_shape.specs.Table.{table}
use Rattle.gj_shape.specs.SlopeRows.{total}
use Rattle.gj_shape.specs.declared.extremality.Halves.{Halves}

-- the zigzag of a class of intervals on the grid of order 4 q: 1 at the first quarter point of
-- each, -1 at the third, else 0
abbrev pub zigzag : ℕ → List ℕ → ℕ → ℤ
zigzag q class i =
    if list_any (λ a. a == (i / 4) % q) class
    then (if i % 4 == 1 then pos 1 else if i % 4 == 3 then pos 0 -ℤ pos 1 else pos 0) else pos 0

-- the perturbation at i/q with this slope on each interval
abbrev pub perturbation_of : ℕ → (ℕ → ℤ) → ℕ → ℤ
perturbation_of q slope i = total (map slope (range_with_len 0 (i % q)))

-- the slack of the table on the grid of order m times the function's
abbrev pub slack_on_grid : FunctionData → ℕ → ℕ → ℕ → ℤ
slack_on_grid f m i j = table f m i +ℤ table f m j -ℤ table f m (i + j)

-- u is the least positive slack on the grid
pub record IsLeastSlack (f : FunctionData) (m u : ℕ) : Type 0 where
  pub positive : pos 0 <ℤ pos u
  pub i : ℕ
  pub j : ℕ
  pub reached : slack_on_grid f m i j ≡ pos u
  pub least : (a b : ℕ) → pos 0 <ℤ slack_on_grid f m a b → pos u ≤ℤ slack_on_grid f m a b

-- p is the greatest absolute value of the perturbation
pub record IsGreatestSize (perturbation : ℕ → ℤ) (p : ℕ) : Type 0 where
  pub i : ℕ
  pub reached : unsigned_abs (perturbation i) ≡ p
  pub greatest : (j : ℕ) → unsigned_abs (perturbation j) ≤ p

-- the halves: the table plus and minus u/(3 p) times the perturbation, over 3 p times the scale
pub record AreHalvesOf (f : FunctionData) (m : ℕ) (perturbation : ℕ → ℤ) (h : Halves) : Type 0 where
  pub u : ℕ
  pub p : ℕ
  pub least_slack : IsLeastSlack f m u
  pub greatest_size : IsGreatestSize perturbation p
  pub order : h.order ≡ f.order * m
  pub scale : h.scale ≡ pos (3 * p * (f.scale * m))
  pub first : h.first ≡
      map (λ i. pos (3 * p) *ℤ table f m i +ℤ pos u *ℤ perturbation i)
      (range_with_len 0 (f.order * m))
  pub second : h.second ≡
      map (λ i. pos (3 * p) *ℤ table f m i -ℤ pos u *ℤ perturbation i)
      (range_with_len 0 (f.order * m))

-- the order, the scale and the values of halves are within the limits of a proof text, and there
-- are as many values as the order says
pub record AreHalvesInBounds (h : Halves) : Type 0 where
  pub order_low : 2 ≤ h.order
  pub order_high : h.order ≤ greatest_halves_order
  pub scale_low : pos 1 ≤ℤ h.scale
  pub scale_high : h.scale ≤ℤ pos greatest_halves_scale
  pub first_length : length h.first ≡ h.order
  pub second_length : length h.second ≡ h.order
  pub first_fit : All Fits h.first
  pub second_fit : All Fits h.second
