-- What a read does to the bytes that a source has still to give.
use Rattle.std.specs.Prelude.{ℕ, ◌≡◌, ◌≤◌, List, [], length, take, drop}
use Rattle.std.specs.Prelude.{Option, None, Some, Result, Ok, Err}

-- what a read into this buffer did to the bytes to come, if the source tells them: with Ok n the
-- buffer begins with the first n of them, the rest is left, and n is 0 only if none were left;
-- with Err all are left
abbrev pub Reads : {E : Type 0} → Option (List ℕ) → Option (List ℕ) → List ℕ → Result ℕ E → Type 0
Reads None after buf result = Unit {0}
Reads (Some bytes) after buf (Ok n) =
    (n ≤ length bytes) × (take n buf ≡ take n bytes) × (after ≡ Some (drop n bytes))
    × (n ≡ 0 → bytes ≡ [])
Reads (Some bytes) after buf (Err e) = after ≡ Some bytes
