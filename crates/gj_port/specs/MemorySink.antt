-- What a sink over memory is.
use Rattle.std.specs.Prelude.{ℕ, List, [], ◌∷◌}

-- the bytes taken, how many more there is room for, how many a write takes at most, the numbers of
-- the writes that fail, and how many writes were made and failed
pub record MemorySink : Type 0 where
  pub written : List ℕ
  pub room : ℕ
  pub step : ℕ
  pub fail : List ℕ
  pub calls : ℕ
  pub faults : ℕ

-- how many bytes are surely taken: as many as there is room for, or none if some call is to fail
abbrev pub sure_room : List ℕ → ℕ → ℕ
sure_room [] room = room
sure_room (call ∷ calls) room = 0
