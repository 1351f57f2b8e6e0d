-- The decision on the function of the demonstration is always that it is not extreme.
use Rattle.std.proofs.Common.{◌≡◌, ℕ, ◌≤◌, sym, ap, subst}
use Rattle.gj_shape.specs.FunctionData.{FunctionData, IsWithinBounds}
use Rattle.gj_shape.specs.declared.extremality.Halves.{Halves}
use Rattle.gj_theory.proofs.Violations.{first_shown, violation_denies}
use Rattle.gj_proof.specs.declared.claim.Claim.{Claim}
use Rattle.gj_proof.specs.declared.claim.Claim.TheVariants.{Minimal, NotMinimal, Cut, Extreme, ExtremeByResidues, NotExtreme}
use Rattle.gj_proof.specs.declared.numbers.Numbers.TheVariants.{Whole, Residues}
use Rattle.gj_extreme.specs.Decision.{IsDecided, IsTooWide}
use Rattle.gj_extreme.proofs.DecidedHolds.{extreme_holds}
use Rattle.gj_extreme.proofs.FewComponents.{few_components as few_are_narrow}
use Rattle.gj_demo.specs.Demo.{IsDemo}
use Rattle.gj_demo.proofs.FewComponents.{few_components}
use Rattle.gj_demo.proofs.Values.{demo_minimal, demo_not_extreme}

pub demo_decided : (n : ℕ) (f : FunctionData) (c : Claim) → 1 ≤ n → IsDemo n f → IsWithinBounds f →
    IsDecided f c →
    (h : Halves) × (c ≡ NotExtreme f h)
demo_decided n f (Minimal g) some h bounds decided = absurd decided
demo_decided n f (NotMinimal g v) some h bounds (is, first) =
    absurd (violation_denies f v bounds (first_shown f v bounds first) (demo_minimal n f h bounds))
demo_decided n f (Cut rule rows) some h bounds decided = absurd decided
demo_decided n f (Extreme g lines rows) some h bounds (is, minimal, continuous, rows_are) =
    absurd (demo_not_extreme n f some h bounds
    (extreme_holds Whole f lines rows bounds minimal continuous rows_are))
demo_decided n f (ExtremeByResidues g lines rows) some h bounds
    (is, minimal, continuous, rows_are) =
    absurd (demo_not_extreme n f some h bounds
    (extreme_holds Residues f lines rows bounds minimal continuous rows_are))
demo_decided n f (NotExtreme g halves) some h bounds (is, minimal, continuous, rest) =
    (halves, ap (λ x. NotExtreme x halves) is)

pub demo_not_wide : (n : ℕ) (f : FunctionData) → IsDemo n f → IsWithinBounds f → IsTooWide f → ⊥
demo_not_wide n f h bounds wide =
    let covered = wide.covered in
    few_are_narrow f wide.lines wide.component wide.n bounds covered
    (subst (λ m. m ≤ 4) (sym covered.count)
    (few_components n f wide.lines h bounds covered.are_lines)) wide
