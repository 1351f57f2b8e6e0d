-- The proof text of a decision keeps what is promised of it, and calls f extreme exactly if the
-- table of order 4 q is.
use Rattle.std.proofs.Common.{◌≡◌, ◌↔◌, ◌*◌, ℕ, inl, inr, List, subst, arith}
use Rattle.gj_shape.specs.FunctionData.{FunctionData, IsWithinBounds, IsContinuous}
use Rattle.gj_shape.specs.Table.{table, IsMinimal}
use Rattle.gj_shape.specs.Extreme.{IsExtreme, IsExtremeTable}
use Rattle.gj_shape.specs.Violation.{ShowsViolation}
use Rattle.gj_theory.proofs.DecidingGrid.{four_times_decides}
use Rattle.gj_theory.proofs.Violations.{violation_denies}
use Rattle.gj_proof.specs.declared.claim.Claim.{Claim}
use Rattle.gj_proof.specs.declared.claim.Claim.TheVariants.{Minimal, NotMinimal, Cut, Extreme, ExtremeByResidues, NotExtreme}
use Rattle.gj_proof.specs.declared.numbers.Numbers.TheVariants.{Whole, Residues}
use Rattle.gj_proof.specs.ProofText.{IsProofText}
use Rattle.gj_proof.specs.Meaning.{ClaimHolds, ShowHalves}
use Rattle.gj_proof.proofs.OneText.{one_claim}
use Rattle.gj_extreme.specs.Decision.{IsDecided}
use Rattle.gj_extreme.proofs.DecidedTexts.{decided_is_bounded}
use Rattle.gj_extreme.proofs.TwoSlopeDecisions.{shown_halves_deny}
use Rattle.gj_top.specs.Minimal.{IsNotMinimalText}
use Rattle.gj_top.specs.Extreme.{IsDecisionText, IsExtremeText, IsNotExtremeText, IsTrueExtremality}

-- ---- what is promised

by_claim : (f : FunctionData) (c : Claim) (text : List ℕ) → IsWithinBounds f → IsDecided f c →
    ClaimHolds c → IsProofText c text →
    IsTrueExtremality f text
by_claim f (Extreme g lines rows) text within d (continuous, extreme) p =
    let e : g ≡ f = d.0 in
    inl (
      (
        Whole,
        lines,
        rows,
        subst (λ (k : FunctionData). IsProofText (Extreme k lines rows) text) e
            p,
      ),
      subst IsContinuous e continuous,
      subst IsExtreme e extreme,
    )
by_claim f (NotExtreme g h) text within d (continuous, minimal, shown) p =
    let e : g ≡ f = d.0 in
    let here : ShowHalves f h = subst (λ (k : FunctionData). ShowHalves k h) e shown in
    inr (inl (
      h,
      subst (λ (k : FunctionData). IsNotExtremeText k h text) e p,
      subst IsContinuous e continuous,
      subst IsMinimal e minimal,
      here,
      shown_halves_deny f h here,
    ))
by_claim f (NotMinimal g v) text within d shown p =
    let e : g ≡ f = d.0 in
    let here : ShowsViolation f v = subst (λ (k : FunctionData). ShowsViolation k v) e shown in
    inr (inr (
      v,
      subst (λ (k : FunctionData). IsNotMinimalText k v text) e p,
      here,
      violation_denies f v within here,
    ))
by_claim f (Minimal g) text within d shown p = absurd d
by_claim f (Cut r rows) text within d shown p = absurd d
by_claim f (ExtremeByResidues g lines rows) text within d (continuous, extreme) p =
    let e : g ≡ f = d.0 in
    inl (
      (
        Residues,
        lines,
        rows,
        subst
            (λ (k : FunctionData). IsProofText (ExtremeByResidues k lines rows) text) e p,
      ),
      subst IsContinuous e continuous,
      subst IsExtreme e extreme,
    )

pub extremality_true : (f : FunctionData) (text : List ℕ) → IsWithinBounds f →
    IsDecisionText f text → IsTrueExtremality f text
extremality_true f text within d = by_claim f d.claim text within d.decided d.holds d.spelled

-- ---- order 4 q

-- the table of order 4 q is extreme
abbrev IsExtremeAtFour : FunctionData → Type 0
IsExtremeAtFour f = IsExtremeTable (table f 4) (f.order * 4) (f.place * 4) (f.scale * 4)

-- if the text does not call f extreme, it denies that the table of order 4 q is
from_four : (f : FunctionData) (text : List ℕ) → IsWithinBounds f → IsTrueExtremality f text →
    IsContinuous f → IsExtremeAtFour f →
    IsExtremeText f text
from_four f text within (inl e) continuous four = e.0
from_four f text within (inr (inl (h, spelled, not_jumping, minimal, shown, denied))) continuous
    four =
    absurd (denied ((four_times_decides f within continuous).1 four))
from_four f text within (inr (inr (v, spelled, shown, denied))) continuous four =
    let extreme : IsExtreme f = (four_times_decides f within continuous).1 four in
    absurd (denied (λ m some. (extreme m some).minimal))

-- if it calls f extreme, that table is
to_four : (f : FunctionData) (text : List ℕ) → IsWithinBounds f → IsDecisionText f text →
    IsExtremeText f text →
    IsContinuous f × IsExtremeAtFour f
to_four f text within d (Whole, lines, rows, p) =
    let same : d.claim ≡ Extreme f lines rows =
    one_claim d.claim (Extreme f lines rows) text (decided_is_bounded f d.claim within d.decided)
    within d.spelled p in
    let holds : IsContinuous f × IsExtreme f = subst ClaimHolds same d.holds in
    (holds.0, holds.1 4 (omega arith))
to_four f text within d (Residues, lines, rows, p) =
    let same : d.claim ≡ ExtremeByResidues f lines rows =
    one_claim d.claim (ExtremeByResidues f lines rows) text
    (decided_is_bounded f d.claim within d.decided) within d.spelled p in
    let holds : IsContinuous f × IsExtreme f = subst ClaimHolds same d.holds in
    (holds.0, holds.1 4 (omega arith))

pub extreme_at_four : (f : FunctionData) (text : List ℕ) → IsWithinBounds f →
    IsDecisionText f text →
    IsExtremeText f text ↔ (IsContinuous f × IsExtremeAtFour f)
extreme_at_four f text within d = (
  to_four f text within d,
  λ h. from_four f text within (extremality_true f text within d) h.0 h.1,
)
