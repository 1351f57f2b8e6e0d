-- What a source over memory is.
use Rattle.std.specs.Prelude.{ℕ, Bool, true, false, List, [], ◌∷◌}

-- the bytes still to come, how many a read gives at most, the numbers of the reads that fail, and
-- how many reads were made and failed
pub record MemorySource : Type 0 where
  pub left : List ℕ
  pub step : ℕ
  pub fail : List ℕ
  pub calls : ℕ
  pub faults : ℕ

-- no call is marked to fail
abbrev pub never_fails : List ℕ → Bool
never_fails [] = true
never_fails (call ∷ calls) = false
