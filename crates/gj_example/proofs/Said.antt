-- What the claim of a decision says of the function that was decided.
use Rattle.std.proofs.Common.{◌≡◌, sym, subst, refl, List, arith, Result, Ok, Err}
use Rattle.std.specs.Result.{IsErr, IsErrAnd}
use Rattle.gj_shape.specs.Extreme.{IsExtreme}
use Rattle.gj_shape.specs.FunctionData.{FunctionData}
use Rattle.gj_shape.specs.Table.{IsMinimal}
use Rattle.gj_shape.specs.declared.extremality.CoverLine.{CoverLine}
use Rattle.gj_proof.specs.declared.pivot.PivotRow.{PivotRow}
use Rattle.gj_theory.proofs.Violations.{violation_denies}
use Rattle.gj_proof.specs.Meaning.{ClaimHolds}
use Rattle.gj_proof.specs.ProofText.{IsBounded}
use Rattle.gj_proof.specs.declared.claim.Claim.{Claim}
use Rattle.gj_proof.specs.declared.claim.Claim.TheVariants.{Minimal, NotMinimal, Cut, Extreme, ExtremeByResidues, NotExtreme}
use Rattle.gj_example.specs.declared.faults.UseFault.{UseFault}
use Rattle.gj_example.specs.declared.faults.UseFault.TheVariants.{Undecided}
use Rattle.gj_extreme.specs.declared.faults.DecideFault.{DecideFault}
use Rattle.gj_extreme.specs.Decision.{IsDecided, IsByTable}

-- the claim is that a function is extreme, by rows of whole numbers or of residues
abbrev pub SaysExtreme : Claim → Type 0
SaysExtreme (Minimal g) = ⊥
SaysExtreme (NotMinimal g v) = ⊥
SaysExtreme (Cut rule rows) = ⊥
SaysExtreme (Extreme g lines rows) = Unit {0}
SaysExtreme (ExtremeByResidues g lines rows) = Unit {0}
SaysExtreme (NotExtreme g h) = ⊥

-- a true claim that a function is extreme says so of the function that was decided
pub extreme_if_said : (f : FunctionData) (c : Claim) → IsDecided f c → ClaimHolds c →
    SaysExtreme c → IsExtreme f
extreme_if_said f (Minimal g) decided holds said = absurd said
extreme_if_said f (NotMinimal g v) decided holds said = absurd said
extreme_if_said f (Cut rule rows) decided holds said = absurd said
extreme_if_said f (Extreme g lines rows) decided holds said = subst IsExtreme decided.0 holds.1
extreme_if_said f (ExtremeByResidues g lines rows) decided holds said =
    subst IsExtreme decided.0 holds.1
extreme_if_said f (NotExtreme g h) decided holds said = absurd said

-- an extreme function is minimal
extreme_is_minimal : (f : FunctionData) → IsExtreme f → IsMinimal f
extreme_is_minimal f extreme m some = (extreme m some).minimal

-- and of an extreme function nothing else is claimed
pub said_if_extreme : (f : FunctionData) (c : Claim) → IsDecided f c → IsBounded c → ClaimHolds c →
    IsByTable f c → IsExtreme f → SaysExtreme c
said_if_extreme f (Minimal g) decided bounded holds table extreme = absurd decided
said_if_extreme f (NotMinimal g v) decided bounded holds table extreme =
    absurd (violation_denies g v bounded holds
    (extreme_is_minimal g (subst IsExtreme (sym decided.0) extreme)))
said_if_extreme f (Cut rule rows) decided bounded holds table extreme = absurd decided
said_if_extreme f (Extreme g lines rows) decided bounded holds table extreme = tt
said_if_extreme f (ExtremeByResidues g lines rows) decided bounded holds table extreme = tt
said_if_extreme f (NotExtreme g h) decided bounded holds table extreme =
    absurd (table (extreme 4 (omega arith)))

-- a claim in none of the two forms
pub no_extreme_claim : (c : Claim) →
    ((g : FunctionData) → (lines : List CoverLine) → (rows : List PivotRow) →
    c ≡ Extreme g lines rows → ⊥) →
    ((g : FunctionData) → (lines : List CoverLine) → (rows : List PivotRow) →
    c ≡ ExtremeByResidues g lines rows → ⊥) → SaysExtreme c → ⊥
no_extreme_claim (Minimal g) whole residues said = said
no_extreme_claim (NotMinimal g v) whole residues said = said
no_extreme_claim (Cut rule rows) whole residues said = said
no_extreme_claim (Extreme g lines rows) whole residues said = whole g lines rows refl
no_extreme_claim (ExtremeByResidues g lines rows) whole residues said = residues g lines rows refl
no_extreme_claim (NotExtreme g h) whole residues said = said

-- an error that goes on as it is
pub same_fault : {T U : Type 0} (r : Result T DecideFault) (x y : DecideFault) → IsErr r →
    IsErrAnd r (λ e. e ≡ x) → r ≡ Err y →
    ◌≡◌ {A = Result U DecideFault} (Err x) (Err y)
same_fault (Ok v) x y is_err h e = absurd cc
same_fault (Err z) x y is_err h e = cc

-- an error that goes on as that of a decision
pub undecided_fault : {T U : Type 0} (r : Result T UseFault) (x y : DecideFault) → IsErr r →
    IsErrAnd r (λ e. e ≡ Undecided x) →
    r ≡ Err (Undecided y) → ◌≡◌ {A = Result U DecideFault} (Err x) (Err y)
undecided_fault (Ok v) x y is_err h e = absurd cc
undecided_fault (Err z) x y is_err h e = cc
