-- Which columns are continuous (own).
use Rattle.std.specs.Prelude.{ℕ, Bool, nat_eq, ◌&&◌, List, map, slice_index}

-- the name begins with `c:`; past its end it has 0
abbrev pub begins_with_c : List ℕ → Bool
begins_with_c name = nat_eq (slice_index name 0) 99 && nat_eq (slice_index name 1) 58

-- of each column, by its name, whether it is continuous
abbrev pub continuous_columns : List (List ℕ) → List Bool
continuous_columns names = map begins_with_c names
