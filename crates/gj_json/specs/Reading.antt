-- What the steps of the reader answer (own).
use Rattle.std.specs.Prelude.{List, Bool, ◌≡◌, if◌then◌else◌, alloc_error}
use Rattle.std.specs.List.{AllZip}
use Rattle.gj_frac.specs.declared.Frac.{Frac}
use Rattle.serde_json.specs.Data.{Data}
use Rattle.gj_json.specs.JsonFunction.{SpellsNumber, SpellsForm}
use Rattle.gj_json.specs.declared.faults.JsonReason.{JsonReason}
use Rattle.gj_json.specs.declared.faults.JsonReason.TheVariants.{Number, Syntax}
use Rattle.gj_json.specs.declared.faults.JsonFault.{JsonFault}
use Rattle.gj_json.specs.declared.faults.JsonFault.TheVariants.{Refused, Memory}

-- the entries do not all spell fractions
abbrev pub SpellsNone : List Data → JsonReason → Type 0
SpellsNone ds e = (e ≡ Number) × ((xs : List Frac) → AllZip SpellsNumber ds xs → ⊥)

-- the same of all entries of the form
abbrev pub SpellsNoForm : Data → List Data → List Data → List Data → JsonReason → Type 0
SpellsNoForm p ls vs rs e =
    (e ≡ Number) × ((place : Frac) (left value right : List Frac) →
    SpellsForm p ls vs rs place left value right → ⊥)

-- why a text has no value
abbrev pub fault_of_text : Bool → JsonFault
fault_of_text is_memory = if is_memory then Memory alloc_error else Refused Syntax
