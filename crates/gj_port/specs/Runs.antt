-- What a run that reads a source and then writes a text did to both.
use Rattle.std.specs.Prelude.{ℕ, ◌≡◌, ◌<◌, Bool, List, ◌++◌, length, take, IsTrue, IfSome, Option, Some}
use Rattle.gj_port.specs.Faults.{HasFailed}

-- the source failed: its count of faults rose, or stands at its last value, and it is not steady
abbrev pub IsSourceFault : Bool → ℕ → ℕ → Type 0
IsSourceFault steady before after = HasFailed before after × (IsTrue steady → ⊥)

-- the bytes taken, if the sink tells them, grew by the text
abbrev pub Gains : Option (List ℕ) → Option (List ℕ) → List ℕ → Type 0
Gains written after text = IfSome written (λ before. after ≡ Some (before ++ text))

-- they grew by a front of the text, not all of it
abbrev pub GainsFront : Option (List ℕ) → Option (List ℕ) → List ℕ → Type 0
GainsFront written after text =
    IfSome written (λ before. (n : ℕ) × (n < length text) × (after ≡ Some (before ++ take n text)))
