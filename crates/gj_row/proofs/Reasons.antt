-- What a fault names.
use Rattle.std.proofs.Common.{◌≡◌, ℕ, Result, Ok, Err, IfErr, sym, subst}
use Rattle.std.specs.Result.{IsErrAnd}
use Rattle.gj_row.specs.declared.faults.RowReason.{RowReason}
use Rattle.gj_row.specs.declared.faults.RecordFault.{RecordFault}
use Rattle.gj_row.specs.declared.faults.RecordFault.TheVariants.{Refused, Memory}
use Rattle.gj_row.specs.declared.faults.RowFault.{RowFault}
use Rattle.gj_row.specs.declared.faults.RowFault.TheVariants as fault
use Rattle.gj_row.specs.Reading.{NamesReason, NamesRecord, fault_in_record}

pub names_weaker : (P Q : RowReason → Type 0) (fault : RecordFault) →
    ((e : RowReason) → P e → Q e) → NamesReason P fault → NamesReason Q fault
names_weaker P Q (Refused e) f p = f e p
names_weaker P Q (Memory a) f p = tt

pub names_record : (P : RowReason → Type 0) (Q : ℕ → RowReason → Type 0) (fault : RecordFault)
    (n : ℕ) → ((e : RowReason) → P e → Q n e) →
    NamesReason P fault → NamesRecord Q (fault_in_record fault n)
names_record P Q (Refused e) n f p = f e p
names_record P Q (Memory a) n f p = tt

pub records_weaker : (P Q : ℕ → RowReason → Type 0) (fault : RowFault) →
    ((n : ℕ) (e : RowReason) → P n e → Q n e) → NamesRecord P fault → NamesRecord Q fault
records_weaker P Q (fault.Refused n e) f p = f n e p
records_weaker P Q (fault.Memory a) f p = tt

-- what a fault that is handed on names
pub handed_on : {T : Type 0} (result : Result T RecordFault) (fault : RecordFault) (P : RowReason →
    Type 0) →
    IsErrAnd result (λ f. f ≡ fault) → NamesReason P fault → IfErr result (NamesReason P)
handed_on (Ok x) fault P is h = tt
handed_on (Err f) fault P is h = subst (NamesReason P) (sym is) h
