-- How often a source or a sink has failed.
use Rattle.std.specs.Prelude.{ℕ, ◌≡◌, ◌+◌, ◌-◌, ◌^◌, ◌<◌, ◌⊎◌, min}

-- one more, staying at 2^64 - 1 once that is reached
abbrev pub one_more : ℕ → ℕ
one_more count = min (count + 1) (2 ^ 64 - 1)

-- a count of faults rose, or stands at its last value
abbrev pub HasFailed : ℕ → ℕ → Type 0
HasFailed before after = (before < after) ⊎ (after ≡ 2 ^ 64 - 1)
