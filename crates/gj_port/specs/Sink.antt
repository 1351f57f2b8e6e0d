-- What a write does to the bytes that a sink has taken.
use Rattle.std.specs.Prelude.{ℕ, ◌≡◌, List, ◌++◌, take}
use Rattle.std.specs.Prelude.{Option, None, Some, Result, Ok, Err}

-- what a write of this piece did to the bytes taken, if the sink tells them: with Ok n they grew
-- by the first n bytes of the piece; with Err they are as before
abbrev pub Writes : {E : Type 0} → Option (List ℕ) → Option (List ℕ) → List ℕ → Result ℕ E → Type 0
Writes None after piece result = Unit {0}
Writes (Some before) after piece (Ok n) = after ≡ Some (before ++ take n piece)
Writes (Some before) after piece (Err e) = after ≡ Some before
