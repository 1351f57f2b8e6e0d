-- Rows of which nothing is left (own).
use Rattle.std.specs.Prelude.{ℕ, ◌≡◌, List, None}
use Rattle.gj_shape.specs.Elimination.{KeptRow, inserted, Passes}
use Rattle.gj_sparse_elim.specs.Sparse.{AreSparse, dense}
use Rattle.gj_sparse_elim.specs.declared.entry.Entry.{Entry}

-- the kept rows leave nothing of the row of n columns with these entries, and no number passes
pub record IsSeen (n : ℕ) (kept : List KeptRow) (row : List Entry) : Type 0 where
  pub sparse : AreSparse n row
  pub nothing : (inserted n kept (dense n row)).kept ≡ None
  pub narrow : Passes (inserted n kept (dense n row)).marked → ⊥
