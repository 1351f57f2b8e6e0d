-- The table of the mixed-integer cut (Gomory 1960; Gomory and Johnson 1972; Light on the Infinite
-- Group Relaxation I).
use Rattle.std.specs.Prelude.{ℕ, ◌-◌, ◌*◌, ◌%◌, nat_le, if◌then◌else◌}

-- the common denominator of the table of period n with f at the place k
abbrev pub gmic_scale : ℕ → ℕ → ℕ
gmic_scale n k = k * (n - k)

-- the entry at an index that is read modulo n: it rises by n - k up to the place k and falls by k
-- from there to n
unfoldable pub gmic_table : ℕ → ℕ → ℕ → ℕ
gmic_table n k i = (if nat_le (i % n) k then (n - k) * (i % n) else k * (n - i % n))
