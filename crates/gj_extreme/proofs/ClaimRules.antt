-- The rules that the claims of the decision meet, and what the table of order 4 q tells of them.
use Rattle.std.proofs.Common.{◌*◌, ◌⊎◌, inl, inr, Result, Ok, Err, arith}
use Rattle.std.specs.Prelude.{IfOk}
use Rattle.gj_shape.specs.Extreme.{IsExtremeTable}
use Rattle.gj_shape.specs.FunctionData.{FunctionData, IsWithinBounds}
use Rattle.gj_shape.specs.Table.{table, IsMinimal}
use Rattle.gj_theory.proofs.DecidingGrid.{four_times_decides}
use Rattle.gj_theory.proofs.Fillings.{halves_deny}
use Rattle.gj_theory.proofs.Violations.{first_shown, violation_denies}
use Rattle.gj_proof.specs.Rules.{MeetsRules}
use Rattle.gj_proof.specs.declared.claim.Claim.{Claim}
use Rattle.gj_proof.specs.declared.claim.Claim.TheVariants.{Minimal, NotMinimal, Cut, Extreme, ExtremeByResidues, NotExtreme}
use Rattle.gj_proof.specs.declared.numbers.Numbers.TheVariants.{Whole, Residues}
use Rattle.gj_extreme.specs.Decision.{AreZigzagHalves, AreSlopeHalves, IsDecided, IsDecision, IsByTable}
use Rattle.gj_extreme.specs.declared.faults.DecideFault.{DecideFault}
use Rattle.gj_extreme.proofs.DecidedHalves.{zigzag_halves, slope_halves}
use Rattle.gj_extreme.proofs.DecidedHolds.{extreme_holds}
use Rattle.gj_extreme.proofs.DecidedRules.{decided_extreme_rules, decided_residue_rules, decided_halves_rules}

-- what is claimed of a minimal function meets the rules
pub minimal_rules : (f : FunctionData) (c : Claim) → IsWithinBounds f → IsMinimal f →
    IsDecided f c → MeetsRules c
minimal_rules f (Minimal g) l minimal h = absurd h
minimal_rules f (NotMinimal g v) l minimal h =
    absurd (violation_denies f v l (first_shown f v l h.1) minimal)
minimal_rules f (Cut rule rows) l minimal h = absurd h
minimal_rules f (Extreme g lines rows) l minimal h = decided_extreme_rules f g lines rows l h
minimal_rules f (ExtremeByResidues g lines rows) l minimal h =
    decided_residue_rules f g lines rows l h
minimal_rules f (NotExtreme g halves) l minimal h = decided_halves_rules f g halves l h

-- the claim that a function is extreme, or that it is not, is by the table of order 4 q
pub decided_by_table : (f : FunctionData) (c : Claim) → IsWithinBounds f → IsDecided f c →
    IsByTable f c
decided_by_table f (Minimal g) l h = tt
decided_by_table f (NotMinimal g v) l h = tt
decided_by_table f (Cut rule rows) l h = tt
decided_by_table f (Extreme g lines rows) l h =
    extreme_holds Whole f lines rows l h.1 h.2 h.3 4 (omega arith)
decided_by_table f (ExtremeByResidues g lines rows) l h =
    extreme_holds Residues f lines rows l h.1 h.2 h.3 4 (omega arith)
decided_by_table f (NotExtreme g halves) l h = λ extreme. by_halves extreme h.3
  where
    by_halves : IsExtremeTable (table f 4) (f.order * 4) (f.place * 4) (f.scale * 4) →
        AreZigzagHalves f halves ⊎ AreSlopeHalves f halves → ⊥
    by_halves extreme (inl zig) =
        halves_deny (table f 4) (f.order * 4) (f.place * 4) (f.scale * 4) _ _ _
        (zigzag_halves f halves l h.2 h.1 zig) extreme
    by_halves extreme (inr slope) =
        let all = (four_times_decides f l h.2).1 extreme in
        halves_deny (table f 1) (f.order * 1) (f.place * 1) (f.scale * 1) _ _ _
        (slope_halves f halves l h.1 slope) (all 1 (omega arith))

pub decision_rules : (f : FunctionData) (r : Result Claim DecideFault) → IsWithinBounds f →
    IsMinimal f → IsDecision f r → IfOk r MeetsRules
decision_rules f (Ok claim) l minimal h = minimal_rules f claim l minimal h.0
decision_rules f (Err fault) l minimal h = tt
