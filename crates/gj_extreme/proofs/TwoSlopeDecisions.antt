-- What the decision gives of a minimal function with two slopes.
use Rattle.std.proofs.Common.{ℕ, inl, inr, ◌*◌, ◌<◌, List, Result, Ok, Err, refl, sym, ap, arith}
use Rattle.std.specs.Prelude.{IsErr, IsErrOf, MatchResult}
use Rattle.gj_shape.specs.Extreme.{IsExtreme}
use Rattle.gj_shape.specs.FunctionData.{FunctionData, IsWithinBounds, IsContinuous, IsJump, at}
use Rattle.gj_shape.specs.Table.{table, IsMinimal}
use Rattle.gj_shape.specs.TwoSlopes.{HasTwoSlopes}
use Rattle.gj_shape.specs.declared.extremality.CoverLine.{CoverLine}
use Rattle.gj_shape.specs.declared.extremality.Halves.{Halves}
use Rattle.gj_theory.proofs.Fillings.{halves_deny}
use Rattle.gj_theory.proofs.FirstFailed.{first_denies}
use Rattle.gj_theory.proofs.TestsFromMinimal.{tests_from_minimal}
use Rattle.gj_theory.proofs.TwoSlopeCovers.{two_components}
use Rattle.gj_theory.proofs.TwoSlopes.{minimal_values, rises_and_falls}
use Rattle.gj_theory.proofs.TwoSlopesAreExtreme.{two_slopes_extreme}
use Rattle.gj_proof.specs.Meaning.{ShowHalves}
use Rattle.gj_proof.specs.declared.claim.Claim.{Claim}
use Rattle.gj_proof.specs.declared.claim.Claim.TheVariants.{Minimal, NotMinimal, Cut, Extreme, ExtremeByResidues, NotExtreme}
use Rattle.gj_proof.specs.declared.numbers.Numbers.TheVariants.{Residues}
use Rattle.gj_proof.specs.declared.pivot.PivotRow.{PivotRow}
use Rattle.gj_extreme.specs.Decision.{AreExtremeRows, IsDecided, IsExtremeClaim, IsTooWide}
use Rattle.gj_extreme.specs.Faults.{IsMemoryFault}
use Rattle.gj_extreme.specs.declared.faults.DecideFault.{DecideFault}
use Rattle.gj_extreme.specs.declared.faults.DecideFault.TheVariants.{NotContinuous, Wide, Memory}
use Rattle.gj_extreme.proofs.DecidedHolds.{decided_holds}
use Rattle.gj_extreme.proofs.FewComponents.{few_components, few_components_narrow}

-- halves that are shown deny that the function is extreme
pub shown_halves_deny : (f : FunctionData) (h : Halves) → ShowHalves f h → IsExtreme f → ⊥
shown_halves_deny f h (m, c, some, order, scale, halves) extreme =
    halves_deny (table f m) (f.order * m) (f.place * m) (f.scale * m) c (at h.first)
    (at h.second) halves (extreme m some)

-- there are at most two components, so rows over residues are not needed
two_slopes_plain : (f : FunctionData) (lines : List CoverLine) (rows : List PivotRow) →
    IsWithinBounds f → IsMinimal f → HasTwoSlopes f →
    AreExtremeRows Residues f lines rows → ⊥
two_slopes_plain f lines rows l minimal two h =
    let few = two_components f lines (let some : 0 < f.order = omega (arith, l.order_low) in some)
    (minimal_values f minimal)
    (rises_and_falls f l minimal two) h.covered.are_lines in
    let count = h.covered.count in
    few_components_narrow f lines h.component h.n l h.covered (omega arith) h.needed

pub two_slopes_decided : (f : FunctionData) (c : Claim) → IsWithinBounds f → IsMinimal f →
    HasTwoSlopes f → IsDecided f c →
    IsExtremeClaim f c
two_slopes_decided f (Minimal g) l minimal two h = absurd h
two_slopes_decided f (NotMinimal g v) l minimal two h =
    absurd (first_denies f v h.1 (tests_from_minimal f minimal))
two_slopes_decided f (Cut rule rows) l minimal two h = absurd h
two_slopes_decided f (Extreme g lines rows) l minimal two h =
    (lines, rows, ap (λ x. Extreme x lines rows) h.0)
two_slopes_decided f (ExtremeByResidues g lines rows) l minimal two h =
    absurd (two_slopes_plain f lines rows l minimal two h.3)
two_slopes_decided f (NotExtreme g halves) l minimal two h =
    let (same_continuous, same_minimal, shown) =
    decided_holds f (NotExtreme f halves) l (refl, h.1, h.2, h.3) in
    absurd (shown_halves_deny f halves shown (two_slopes_extreme f l minimal two))

-- there are at most two components
pub two_slopes_not_wide : (f : FunctionData) → IsWithinBounds f → IsMinimal f → HasTwoSlopes f →
    IsTooWide f → ⊥
two_slopes_not_wide f l minimal two wide =
    let covered = wide.covered in
    let few = two_components f wide.lines (let some : 0 < f.order = omega (arith, l.order_low) in
    some) (minimal_values f minimal)
    (rises_and_falls f l minimal two) covered.are_lines in
    let count = covered.count in
    few_components f wide.lines wide.component wide.n l covered (omega arith) wide

pub continuous_no_jump : (f : FunctionData) (i : ℕ) → IsContinuous f → IsJump f i → ⊥
continuous_no_jump f i h (inl differs) = differs (ap (λ xs. at xs i) h.0)
continuous_no_jump f i h (inr differs) = differs (ap (λ xs. at xs i) (sym h.1))

-- if the function does not jump and no number is too wide, only memory can be wanting
pub only_memory : {T : Type 0} (r : Result T DecideFault) (P : T → Type 0) → IsErr r →
    ((i : ℕ) → IsErrOf r (NotContinuous i) → ⊥) →
    (IsErrOf r Wide → ⊥) → MatchResult r P IsMemoryFault
only_memory (Ok v) P is jumps wide = absurd cc
only_memory (Err (NotContinuous i)) P is jumps wide = jumps i refl
only_memory (Err Wide) P is jumps wide = wide refl
only_memory (Err (Memory e)) P is jumps wide = tt
