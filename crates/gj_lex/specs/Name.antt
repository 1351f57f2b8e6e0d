-- What a name is (own).
use Rattle.std.specs.Prelude.{ℕ, ◌≢◌, ◌≤◌, List, length}
use Rattle.std.specs.List.{All}

-- a byte that may stand in a name: visible ASCII, but no `"`
pub record IsNameByte (b : ℕ) : Type 0 where
  pub above_space : 0x21 ≤ b
  pub below_delete : b ≤ 0x7E
  pub no_quote : b ≢ 34

-- a name is 1 to 255 such bytes
pub record IsName (bytes : List ℕ) : Type 0 where
  pub some : 1 ≤ length bytes
  pub short : length bytes ≤ 255
  pub visible : All IsNameByte bytes
