-- The halves of a perturbation are two different minimal functions that average to the function.
use Rattle.std.proofs.Common.{◌≡◌, ◌≢◌, ℕ, inl, inr, ◌*◌, ◌<◌, ◌≤◌, ℤ, pos, neg_ℤ, ◌+ℤ◌, ◌*ℤ◌, List, length, unsigned_abs, refl, sym, ap, ◌∙◌, arith}
use Rattle.std.proofs.lemmas.Int.{ints}
use Rattle.gj_shape.specs.FunctionData.{FunctionData, IsWithinBounds, at}
use Rattle.gj_shape.specs.Refinement.{refined}
use Rattle.gj_shape.specs.Table.{IsMinimal}
use Rattle.gj_shape.specs.declared.extremality.LimitHalves.{LimitHalves}
use Rattle.gj_shape.specs.declared.extremality.SideNumbers.{SideNumbers}
use Rattle.gj_shape.proofs.TableLemmas.{pieces_of}
use Rattle.gj_jumps.specs.LimitSystem.{Limits}
use Rattle.gj_limit_grids.specs.Grids.{IsLimitPerturbation, IsBelowLimits}
use Rattle.gj_limit_grids.proofs.Bounds.{below_limits}
use Rattle.gj_limit_averages.specs.Moved.{IsBoundOf, HasSome, IsMovedBy}
use Rattle.gj_limit_averages.proofs.MovedFunctions.{parts_of_perturbation}
use Rattle.gj_limit_averages.proofs.RefinedData.{first_length, at_first}
use Rattle.gj_limit_halves.specs.LeastLimit.{IsLeastLimit}
use Rattle.gj_limit_halves.specs.LimitHalves.{moved_sides, AreLimitHalvesOf}
use Rattle.gj_limit_proof.specs.LimitMeaning.{half_of, ShowLimitHalves}

module _ (f : FunctionData) (m : ℕ) (w : Limits ℤ) (h : LimitHalves)
    (halves : AreLimitHalvesOf f m w h) where
  -- a list of the function's, moved along a side of the perturbation
  abbrev moved : ℤ → List ℤ → (ℕ → ℤ) → ℕ → ℤ
  moved step xs side i = pos (3 * halves.p) *ℤ refined f xs m i +ℤ step *ℤ side i

  -- one of them is the function moved by the step
  is_moved : (step : ℤ) (s : SideNumbers) → s ≡ moved_sides f m halves.p step w →
      IsMovedBy f m halves.p step w (half_of f m h s)
  is_moved step s is =
      let n = f.order * m in
      let count = λ (xs : List ℤ) (side : ℕ → ℤ). first_length n (moved step xs side)
      ∙ sym halves.order in
      record {
        order = halves.order;
        place = refl;
        scale = ap unsigned_abs halves.scale;
        left_length = ap (λ x. length x.left) is ∙ count f.left w.left;
        value_length = ap (λ x. length x.value) is ∙ count f.value w.value;
        right_length = ap (λ x. length x.right) is ∙ count f.right w.right;
        left = λ i below. ap (λ x. at x.left i) is
            ∙ at_first n (moved step f.left w.left) i (omega (arith, halves.order));
        value = λ i below. ap (λ x. at x.value i) is
            ∙ at_first n (moved step f.value w.value) i (omega (arith, halves.order));
        right = λ i below. ap (λ x. at x.right i) is
            ∙ at_first n (moved step f.right w.right) i (omega (arith, halves.order));
      }

  some_size : (x : ℤ) (p : ℕ) → unsigned_abs x ≤ p → x ≢ pos 0 → 0 < p
  some_size x p low apart = omega (arith, ints, apart)

  -- the greatest absolute value is not 0
  size_some : HasSome w → 0 < halves.p
  size_some (i, inl left) = some_size (w.left i) halves.p (halves.greatest.bound.left i) left
  size_some (i, inr (inl value)) =
      some_size (w.value i) halves.p (halves.greatest.bound.value i) value
  size_some (i, inr (inr right)) =
      some_size (w.right i) halves.p (halves.greatest.bound.right i) right

  pub show_halves : IsWithinBounds f → IsMinimal f → 0 < m → IsLimitPerturbation f m w → HasSome w →
      ShowLimitHalves f h
  show_halves bounds minimal some d nonzero =
      let least = halves.least_limit in
      let below = below_limits f m halves.u bounds minimal some least.least least.reached.some in (
        m,
        3 * halves.p,
        halves.scale,
        parts_of_perturbation f m w (pieces_of bounds) minimal some d halves.u halves.p
            (size_some nonzero) below
            halves.greatest.bound (half_of f m h h.first) (half_of f m h h.second)
            (is_moved (pos halves.u) h.first halves.first)
            (is_moved (neg_ℤ (pos halves.u)) h.second halves.second) nonzero,
      )
