-- Reading a source to its end, and writing all bytes to a sink.
use Rattle.std.specs.Prelude.{ℕ, ◌≡◌, ◌+◌, ◌<◌, ◌≤◌, List, [], ◌++◌, length, take, drop}
use Rattle.std.specs.Prelude.{Bool, true, false}
use Rattle.std.specs.Prelude.{Option, Some, Result, Ok, Err, Vec}
use Rattle.std.specs.declared.alloc.Global.{Global}
use Rattle.gj_port.specs.declared.fault.ReadError.{ReadError}
use Rattle.gj_port.specs.declared.fault.ReadError.TheVariants.{ReadFault, TooLong, Memory}

-- some bytes were taken from the front, at most this many
abbrev pub TakesUpTo : ℕ → List ℕ → Option (List ℕ) → Type 0
TakesUpTo limit left after = (n : ℕ) × (n ≤ limit) × (n ≤ length left)
    × (after ≡ Some (drop n left))

-- what reading to the end did to the bytes to come, if the source tells them: with Ok all were
-- taken; with TooLong the limit and one more; with another error no more than the limit
abbrev pub TakesAll : ℕ → List ℕ → Option (List ℕ) → Result (Vec ℕ Global) ReadError → Type 0
TakesAll limit left after (Ok bytes) = (bytes.items ≡ left) × (after ≡ Some [])
TakesAll limit left after (Err TooLong) =
    (limit + 1 ≤ length left) × (after ≡ Some (drop (limit + 1) left))
TakesAll limit left after (Err ReadFault) = TakesUpTo limit left after
TakesAll limit left after (Err (Memory e)) = TakesUpTo limit left after

-- these bytes were read from the front of all of them, and the rest is left
pub record IsRead (all bytes : List ℕ) (left : Option (List ℕ)) : Type 0 where
  pub within : length bytes ≤ length all
  pub front : take (length bytes) all ≡ bytes
  pub rest : left ≡ Some (drop (length bytes) all)

-- what reading on did to the bytes to come: if it came to the end, all were taken
abbrev pub ReadsOn : ℕ → List ℕ → Vec ℕ Global → Option (List ℕ) → Result Bool ReadError → Type 0
ReadsOn limit all bytes after (Ok true) = TakesAll limit all after (Ok bytes)
ReadsOn limit all bytes after (Ok false) = IsRead all bytes.items after
ReadsOn limit all bytes after (Err e) = TakesAll limit all after (Err e)

-- what writing these bytes did to the bytes taken, if the sink tells them: with Ok they grew by
-- all; with Err by some from the front, not all
abbrev pub WritesAll : {E : Type 0} → List ℕ → Option (List ℕ) → List ℕ → Result (Unit {0}) E →
    Type 0
WritesAll before after bytes (Ok done) = after ≡ Some (before ++ bytes)
WritesAll before after bytes (Err e) =
    (n : ℕ) × (n < length bytes) × (after ≡ Some (before ++ take n bytes))
