-- What is left of a row, as it is kept (own).
use Rattle.std.specs.Prelude.{ℕ, ℤ, ◌≡◌, neg_ℤ, Bool, true, false, List, Option, None, Some, length, map}
use Rattle.gj_shape.specs.Elimination.{Insertion, kept_entries, whole_numbers}
use Rattle.gj_elim.specs.Progress.{IsLeft}
use Rattle.gj_sparse_elim.specs.Sparse.{AreSparse, dense}
use Rattle.gj_sparse_elim.specs.declared.left.Left.{Left}

-- the row, or its opposite
abbrev pub signed_row : Bool → List ℤ → List ℤ
signed_row true row = map neg_ℤ row
signed_row false row = row

-- the entries are those with which the row is kept at the column
pub record AreKeptEntries (row : List ℤ) (c : ℕ) (l : Left) : Type 0 where
  pub column : l.column ≡ c
  pub sparse : AreSparse (length row) l.entries
  pub value : dense (length row) l.entries ≡ kept_entries row c

-- this is what is left of the row, with its pivot at the column, if that is given
abbrev pub IsKeptOf : List ℤ → Option ℕ → Option Left → Type 0
IsKeptOf row None None = Unit {0}
IsKeptOf row None (Some l) = ⊥
IsKeptOf row (Some c) None = ⊥
IsKeptOf row (Some c) (Some l) = AreKeptEntries row c l

-- the insertion of a row of n columns comes to its end behind these steps, and this is what is left
pub record IsLeftAs (n : ℕ) (i : Insertion) (reduce : List ℕ) (o : Option Left) : Type 0 where
  pub row : List ℤ
  pub left : Option ℕ
  pub columns : length row ≡ n
  pub left_is : IsLeft whole_numbers i left row reduce
  pub kept : IsKeptOf row left o
