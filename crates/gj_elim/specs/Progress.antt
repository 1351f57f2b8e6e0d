-- What the insertion of a row leaves, and how far it has come.
use Rattle.std.specs.Prelude.{ℕ, ℤ, ◌≡◌, ◌-◌, ◌<◌, ◌==◌, ◌↔◌, ◌++◌, List, Option, None, Some, length, All}
use Rattle.std.specs.List.{position, range_with_len}
use Rattle.gj_shape.specs.Elimination.{KeptRow, Insertion, Arithmetic, whole_numbers, with_pivot, insertion_by, Passes}
use Rattle.gj_frac.specs.Fraction.{Fits}
use Rattle.gj_elim.specs.declared.log.LogRow.{LogRow}
use Rattle.gj_elim.specs.declared.lazy.Reached.{Reached}
use Rattle.gj_elim.specs.declared.lazy.Reached.TheVariants.{End, Column}

-- the pivot and the entries with which a row is kept, if something is left of it at this column and
-- it can be kept there
abbrev pub kept_at : Arithmetic → Option ℕ → List ℤ → Option (ℕ × List ℤ)
kept_at by None row = None
kept_at by (Some c) row = with_pivot c (by.keep row c)

-- what the insertion leaves: the row with something left at this column, or nothing; and the
-- columns of its steps
pub record IsLeft (by : Arithmetic) (i : Insertion) (left : Option ℕ) (row : List ℤ)
    (reduce : List ℕ) : Type 0 where
  pub reduce_is : i.reduce ≡ reduce
  pub kept_is : i.kept ≡ kept_at by left row

-- the rest of the insertion from a column on
abbrev pub rest : Arithmetic → List KeptRow → ℕ → ℕ → List ℤ → Insertion
rest by kept n c row = insertion_by by kept (range_with_len c (n - c)) row

-- the insertion is this far: behind steps at these columns, none of whose numbers passes, the rest
-- of it is to come
pub record IsBehind (i : Insertion) (reduce : List ℕ) (rest : Insertion) : Type 0 where
  pub reduce_is : i.reduce ≡ reduce ++ rest.reduce
  pub kept_is : i.kept ≡ rest.kept
  pub marked : Passes i.marked ↔ Passes rest.marked

-- the insertion has come to its end, and no number passes
pub record IsDone (by : Arithmetic) (i : Insertion) (left : Option ℕ) (row : List ℤ)
    (reduce : List ℕ) : Type 0 where
  pub left_is : IsLeft by i left row reduce
  pub narrow : Passes i.marked → ⊥

-- one of so many columns, without a pivot
pub record IsFreeColumn (n : ℕ) (log : List LogRow) (c : ℕ) : Type 0 where
  pub below : c < n
  pub free : None ≡ position (λ line. line.pivot == c) log

-- steps in 64 bits come to the end with this row, or to a column from which on the exact row is to
-- be reduced
abbrev pub IsReached : List KeptRow → Insertion → Reached → List ℤ → List ℤ → List ℕ → Type 0
IsReached kept i (End left) row exact reduce = IsDone whole_numbers i left row reduce
IsReached kept i (Column c) row exact reduce =
    IsBehind i reduce (rest whole_numbers kept (length exact) c exact)

-- the row that is reached fits, and a column with something left of it is free
abbrev pub IsReachedWithin : ℕ → List LogRow → Reached → List ℤ → List ℤ → Type 0
IsReachedWithin n log (End None) row exact = All Fits row
IsReachedWithin n log (End (Some c)) row exact = All Fits row × IsFreeColumn n log c
IsReachedWithin n log (Column c) row exact = All Fits exact
