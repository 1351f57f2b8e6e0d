-- What always holds of the fields of the rows that are given one after another.
use Rattle.std.specs.Prelude.{◌≤◌, length, drop, map, All}
use Rattle.gj_limit_system.specs.LimitRows.{IsLimitRowBelow}
use Rattle.gj_residue.specs.Source.{RowsToCome}
use Rattle.gj_limit_extreme.specs.SystemRows.{row_in}
use Rattle.gj_limit_extreme.specs.declared.named_rows.NamedRows.TheInside.{Inside}

-- all rows, and those behind the given ones
abbrev pub data_of : Inside → RowsToCome
data_of s = record {
  all = map (row_in s.system) s.names.items;
  left = map (row_in s.system) (drop s.given s.names.items);
}

-- the names are those of rows of the system, and not more rows are given than there are
pub record AreNamedRows (s : Inside) : Type 0 where
  pub below : All (λ name. IsLimitRowBelow name (length s.system.component)) s.names.items
  pub few : s.given ≤ length s.names.items
