-- A function that is no average of two others has all intervals covered, and only 0 solves its
-- system.
use Rattle.std.proofs.Common.{◌≡◌, ℕ, Bool, true, false, inl, ⊎_elim, ◌+◌, ◌*◌, ◌==◌, ℤ, pos, negsuc, List, length, get_or, if◌then◌else◌, refl, sym, ap, ap₂, ◌∙◌, arith}
use Rattle.std.proofs.Math.Nat.{div-one, mod-one}
use Rattle.std.proofs.lemmas.Bool.{cases_lt}
use Rattle.std.proofs.lemmas.Int.{ints}
use Rattle.std.proofs.lemmas.List.{get_or_default}
use Rattle.gj_lemmas.proofs.Integers.{one_mul_z}
use Rattle.gj_lemmas.proofs.Quotients.{parts_of_place}
use Rattle.gj_shape.specs.FunctionData.{FunctionData, IsWithinBounds, at}
use Rattle.gj_shape.specs.Faces.{limits_of}
use Rattle.gj_shape.specs.Refinement.{refined, entry_or_value}
use Rattle.gj_shape.specs.declared.faces.FaceKind.{FaceKind}
use Rattle.gj_shape.proofs.TableLemmas.{pieces_of}
use Rattle.gj_fields.proofs.Order.{either}
use Rattle.gj_jumps.specs.ExtremeWithJumps.{IsExtremeWithJumps}
use Rattle.gj_jumps.specs.LimitCover.{IsCoveredByLimits, IsApartFromTriangles, TellsCover}
use Rattle.gj_jumps.specs.LimitSystem.{Limits}
use Rattle.gj_jumps.specs.WholeLimits.{SolvesWholeLimits}
use Rattle.gj_jumps.proofs.CoverDecided.{covered, covered_tells}
use Rattle.gj_limit_grids.specs.Grids.{limits_on, slack_at_corner, IsLimitPerturbation, zigzag_of, zigzag_limits}
use Rattle.gj_limit_grids.proofs.Zigzag.{zigzag_perturbs}
use Rattle.gj_limit_averages.specs.Averages.{IsExtremeFunction}
use Rattle.gj_limit_averages.proofs.Corners.{own_limits, own_slack, same_limits, slack_past}
use Rattle.gj_limit_averages.proofs.NoPerturbation.{no_perturbation, only_zero_perturbation}

-- ---- the system

-- on its own grid a function has its own limits
refined_once : (f : FunctionData) (xs : List ℤ) (i : ℕ) → refined f xs 1 i ≡ at xs i
refined_once f xs i = ap₂ (entry_or_value f xs 1) (div-one i) (mod-one i) ∙ one_mul_z (at xs i)

limits_once : (f : FunctionData) → limits_on f 1 ≡ own_limits f
limits_once f =
    same_limits (limits_on f 1) (own_limits f) (refined_once f f.left) (refined_once f f.value)
    (refined_once f f.right)

-- where they are tight, a solution is
tight_once : (f : FunctionData) (w : Limits ℤ) → SolvesWholeLimits f w →
    (kind : FaceKind) (a b c : ℕ) →
    slack_at_corner (limits_on f 1) kind a b c ≡ pos 0 → slack_at_corner w kind a b c ≡ pos 0
tight_once f w h kind a b c tight =
    let xs = limits_of f kind a b in
    let there : get_or xs c (pos 0) ≡ pos 0 =
    own_slack f kind a b c ∙ ap (λ v. slack_at_corner v kind a b c) (sym (limits_once f)) ∙ tight in
    ⊎_elim (λ inside. h.at_tight kind a b c (get_or_default xs c (pos 1) (pos 0) inside ∙ there))
    (λ past. slack_past f w kind a b c past) (cases_lt c (length xs))

pub solution_is_perturbation : (f : FunctionData) (w : Limits ℤ) → SolvesWholeLimits f w →
    IsLimitPerturbation f 1 w
solution_is_perturbation f w h =
    let q : f.order * 1 ≡ f.order = omega arith in
    let k : f.place * 1 ≡ f.place = omega arith in
    record {
      left_period = λ i. ap (λ n. w.left (i + n)) q ∙ h.left_period i;
      value_period = λ i. ap (λ n. w.value (i + n)) q ∙ h.value_period i;
      right_period = λ i. ap (λ n. w.right (i + n)) q ∙ h.right_period i;
      zero_at_place = ap w.value k ∙ h.zero_at_place;
      at_tight = tight_once f w h;
    }

-- ---- intervals

abbrev left_out : (ℕ → Bool) → ℕ → Bool
left_out test i = if test i then false else true

left_out_apart : (f : FunctionData) (test : ℕ → Bool) → TellsCover f test →
    IsApartFromTriangles f (left_out test)
left_out_apart f test cover =
    let opposite = λ (b : Bool). if b then false else true in
    record {
      has_period = λ i. ap opposite (cover.has_period i);
      linked = λ i j links. ap opposite (cover.linked i j links);
      lower_free = λ a b first second third. ap opposite (cover.by_lower a b first second third);
      upper_free = λ a b first second third. ap opposite (cover.by_upper a b first second third);
    }

-- the zigzag of a chosen interval is 1 at its first quarter point
pub zigzag_there : (chosen : ℕ → Bool) (i : ℕ) → chosen i ≡ true →
    zigzag_of chosen (i * 4 + 1) ≡ pos 1
zigzag_there chosen i yes' =
    let parts = parts_of_place (i * 4 + 1) i 4 1 refl (omega arith) in
    ap₂
    (λ a r.
    if chosen a then (if r == 1 then pos 1 else if r == 3 then negsuc 0 else pos 0) else pos 0)
    parts.0 parts.1
    ∙ ap (λ b. if b then pos 1 else pos 0) yes'

covered_if_extreme : (f : FunctionData) → IsWithinBounds f → IsExtremeFunction f → (i : ℕ) →
    IsCoveredByLimits f i
covered_if_extreme f bounds h i =
    let test = covered f bounds in
    let cover = covered_tells f bounds in
    let chosen = left_out test in
    ⊎_elim (cover.is_covered i)
    (λ other.
    let there : zigzag_of chosen (i * 4 + 1) ≡ pos 1 =
    zigzag_there chosen i (ap (λ b. if b then false else true) other) in
    absurd (no_perturbation f 4 (zigzag_limits chosen) (pieces_of bounds) h (omega arith)
    (zigzag_perturbs f chosen h.minimal (left_out_apart f test cover))
    (i * 4 + 1, inl (λ none. let flat : pos 1 ≡ pos 0 = sym there ∙ none in omega (arith, ints)))))
    (either (test i))

pub conditions_of_extreme : (f : FunctionData) → IsWithinBounds f → IsExtremeFunction f →
    IsExtremeWithJumps f
conditions_of_extreme f bounds h = record {
  minimal = h.minimal;
  covered = λ i low. covered_if_extreme f bounds h i;
  only_zero = λ w solves.
      only_zero_perturbation f 1 w (pieces_of bounds) h (omega arith)
      (solution_is_perturbation f w solves);
}
