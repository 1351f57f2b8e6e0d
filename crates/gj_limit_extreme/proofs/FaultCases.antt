-- Faults that a part hands on, with their causes.
use Rattle.std.proofs.Common.{◌≡◌, Result, Ok, Err, refl, sym, subst}
use Rattle.std.specs.Prelude.{IfErr, IsErr, IsErrOf}
use Rattle.std.specs.Result.{IsErrAnd}
use Rattle.std.specs.declared.alloc.AllocError.{AllocError}
use Rattle.gj_elim.specs.declared.faults.ElimFault.{ElimFault}
use Rattle.gj_elim.specs.declared.faults.ElimFault.TheVariants as elimination
use Rattle.gj_perturb.specs.declared.faults.SplitFault.{SplitFault}
use Rattle.gj_perturb.specs.declared.faults.SplitFault.TheVariants as split
use Rattle.gj_residue.specs.declared.settling.SettleFault.{SettleFault}
use Rattle.gj_residue.specs.declared.settling.SettleFault.TheVariants as settling
use Rattle.gj_shape.specs.FunctionData.{FunctionData}
use Rattle.gj_limit_proof.specs.declared.claim.LimitClaim.{LimitClaim}
use Rattle.gj_limit_extreme.specs.Decision.{IsCause, IsDecision, IsLimitTooWide}
use Rattle.gj_limit_extreme.specs.Faults.{of_elimination, of_split, of_settling, IsMemoryFault}
use Rattle.gj_limit_extreme.specs.declared.faults.LimitDecideFault.{LimitDecideFault}
use Rattle.gj_limit_extreme.specs.declared.faults.LimitDecideFault.TheVariants.{Wide, Memory}

-- ---- the cause of a fault, by that of the part

pub elimination_cause : {U : Type 0} (f : FunctionData) (x : ElimFault) →
    (IsErrOf {T = U} (Err x) elimination.Wide → IsLimitTooWide f) →
    IsCause f (of_elimination x)
elimination_cause f elimination.Wide wide = wide refl
elimination_cause f (elimination.Memory m) wide = tt

pub split_cause : {U : Type 0} (f : FunctionData) (x : SplitFault) →
    (IsErrOf {T = U} (Err x) split.Wide → IsLimitTooWide f) →
    IsCause f (of_split x)
split_cause f split.Wide wide = wide refl
split_cause f (split.Memory m) wide = tt

pub settling_cause : {U : Type 0} (f : FunctionData) (x : SettleFault) →
    (IsErrOf {T = U} (Err x) settling.Wide → IsLimitTooWide f) →
    IsCause f (of_settling x)
settling_cause f settling.Wide wide = wide refl
settling_cause f (settling.Memory m) wide = tt

pub memory_cause : (f : FunctionData) (x : LimitDecideFault) → IsMemoryFault x → IsCause f x
memory_cause f Wide memory = absurd memory
memory_cause f (Memory m) memory = tt

pub split_memory : {U : Type 0} (x : SplitFault) → (IsErrOf {T = U} (Err x) split.Wide → ⊥) →
    IsMemoryFault (of_split x)
split_memory split.Wide narrow = absurd (narrow refl)
split_memory (split.Memory m) narrow = tt

-- ---- a fault that is handed on

pub handed : {T : Type 0} (P : LimitDecideFault → Type 0) (r : Result T LimitDecideFault)
    (x : LimitDecideFault) → IsErr r →
    IsErrAnd r (λ e. e ≡ x) → P x → IfErr r P
handed P (Ok v) x is_err same cause = absurd cc
handed P (Err e) x is_err same cause = subst P (sym same) cause

pub handed_decision : (f : FunctionData) (r : Result LimitClaim LimitDecideFault)
    (x : LimitDecideFault) → IsErr r →
    IsErrAnd r (λ e. e ≡ x) → IsCause f x → IsDecision f r
handed_decision f (Ok v) x is_err same cause = absurd cc
handed_decision f (Err e) x is_err same cause = subst (IsCause f) (sym same) cause

pub memory_decision : (f : FunctionData) (r : Result LimitClaim LimitDecideFault) (m : AllocError) →
    IsErr r →
    IsErrAnd r (λ e. e ≡ Memory m) → IsDecision f r
memory_decision f r m is_err same = handed_decision f r (Memory m) is_err same tt

-- the cause of the fault that a result is
pub cause_of : {T : Type 0} (f : FunctionData) (r : Result T LimitDecideFault)
    (x y : LimitDecideFault) → IsErr r →
    IsErrAnd r (λ e. e ≡ x) → IsErrOf r y → IsCause f x → IsCause f y
cause_of f (Ok v) x y is_err same is cause = absurd cc
cause_of f (Err e) x y is_err same is cause = let it : x ≡ y = cc in subst (IsCause f) it cause
