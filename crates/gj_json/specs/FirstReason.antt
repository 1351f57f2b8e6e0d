-- Why a text is no JSON function: the first test that fails; and what the reader answers (own).
use Rattle.std.specs.Prelude.{ℕ, ◌≡◌, ◌⊎◌, List, length, codes}
use Rattle.gj_frac.specs.declared.Frac.{Frac}
use Rattle.gj_function_lines.specs.PlaceFraction.{IsPlaceFraction}
use Rattle.gj_shape.specs.Given.{IsOrder, IsTooLarge, IsTooFine}
use Rattle.serde_json.specs.Data.{Data}
use Rattle.gj_json.specs.JsonFunction.{HasForm, HasFractions, HasValue}
use Rattle.gj_json.specs.declared.faults.JsonReason.{JsonReason}
use Rattle.gj_json.specs.declared.faults.JsonReason.TheVariants.{Syntax, Form, Number, Order, Place, Large, Fine}
use Rattle.gj_json.specs.declared.faults.JsonFault.{JsonFault}
use Rattle.gj_json.specs.declared.faults.JsonFault.TheVariants.{Refused, Memory}

abbrev pub reason_word : JsonReason → List ℕ
reason_word Syntax = codes "syntax"
reason_word Form = codes "form"
reason_word Number = codes "number"
reason_word Order = codes "order"
reason_word Place = codes "place"
reason_word Large = codes "large"
reason_word Fine = codes "fine"

-- why these fractions give no function: the order, then f, then the first fraction that is too
-- large or too fine
abbrev pub RefusesFractions : Frac → List Frac → List Frac → List Frac → JsonReason → Type 0
RefusesFractions place left value right Syntax = ⊥
RefusesFractions place left value right Form = ⊥
RefusesFractions place left value right Number = ⊥
RefusesFractions place left value right Order = IsOrder (length value) → ⊥
RefusesFractions place left value right Place = IsOrder (length value)
    × (IsPlaceFraction (length value) place → ⊥)
RefusesFractions place left value right Large =
    IsOrder (length value) × IsPlaceFraction (length value) place
    × ((i : ℕ) × IsTooLarge left value right i)
RefusesFractions place left value right Fine =
    IsOrder (length value) × IsPlaceFraction (length value) place
    × ((i : ℕ) × IsTooFine left value right i)

-- the value is of the form, and its fractions give no function
abbrev pub HasRefusedFractions : Data → JsonReason → Type 0
HasRefusedFractions d e = (place : Frac) × (left : List Frac) × (value : List Frac)
    × (right : List Frac)
    × HasFractions d place left value right × RefusesFractions place left value right e

-- the value is of the form
abbrev pub IsOfForm : Data → Type 0
IsOfForm d = (p : Data) × (ls : List Data) × (vs : List Data) × (rs : List Data)
    × HasForm d p ls vs rs

-- why the value says no function: it is not of the form; an entry spells no fraction; the fractions
-- give none
abbrev pub RefusesValue : Data → JsonReason → Type 0
RefusesValue d Syntax = ⊥
RefusesValue d Form = IsOfForm d → ⊥
RefusesValue d Number =
    IsOfForm d × ((place : Frac) (left value right : List Frac) →
    HasFractions d place left value right → ⊥)
RefusesValue d Order = HasRefusedFractions d Order
RefusesValue d Place = HasRefusedFractions d Place
RefusesValue d Large = HasRefusedFractions d Large
RefusesValue d Fine = HasRefusedFractions d Fine

-- the first test that the text fails: it has no value, or its value says no function for this
-- reason
abbrev pub HasFirstReason : List ℕ → JsonReason → Type 0
HasFirstReason text e = ((e ≡ Syntax) × ((d : Data) → HasValue text d → ⊥))
    ⊎ ((d : Data) × HasValue text d × RefusesValue d e)

-- ---- what the reader answers

-- the fault is want of memory
abbrev pub IsMemoryFault : JsonFault → Type 0
IsMemoryFault (Refused e) = ⊥
IsMemoryFault (Memory a) = Unit {0}

-- a refusal names a reason of which this holds
abbrev pub NamesJsonReason : (JsonReason → Type 0) → JsonFault → Type 0
NamesJsonReason P (Refused e) = P e
NamesJsonReason P (Memory a) = Unit {0}
