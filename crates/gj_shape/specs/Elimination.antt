-- Elimination over an arithmetic, and plain elimination: that over whole numbers without bound,
-- with the numbers that must not pass 2^127 - 1 (own). It decides the bytes of a proof and when
-- numbers are too wide, never what a claim means.
use Rattle.std.specs.Prelude.{ℕ, zero, suc, ℤ, pos, neg_ℤ, ◌+◌, ◌==◌, ◌≤◌, nat_le, ◌^◌, ◌+ℤ◌, ◌-ℤ◌, ◌*ℤ◌, int_div, int_lt, not, if◌then◌else◌, Option, None, Some, List, [], ◌∷◌, ◌++◌, Any, map, zip, drop, length, get_or, slice_set, unsigned_abs}
use Rattle.std.specs.List.{range_with_len, find, list_any}
use Rattle.std.specs.Ordering.{int_eq}
use Rattle.gj_lemmas.specs.Divisors.{gcd_of}
use Rattle.gj_shape.specs.SlopeRows.{total}

-- the entry at a column, 0 past the end
abbrev pub at_column : List ℤ → ℕ → ℤ
at_column row c = get_or row c (pos 0)

-- the greatest common divisor of all entries; 0 if all are 0
abbrev pub gcd_of_row : List ℤ → ℕ
gcd_of_row [] = 0
gcd_of_row (x ∷ xs) = gcd_of (unsigned_abs x) (gcd_of_row xs)

-- the row divided by the greatest common divisor of its entries; a row of zeros stays
unfoldable pub divided : List ℤ → List ℤ
divided row = if gcd_of_row row == 0 then row else map (λ x. int_div x (pos (gcd_of_row row))) row

abbrev pub scaled : ℤ → List ℤ → List ℤ
scaled u row = map (λ x. u *ℤ x) row

abbrev pub differences : List ℤ → List ℤ → List ℤ
differences xs ys = map (λ p. p.0 -ℤ p.1) (zip xs ys)

-- ---- one step

-- at a column where the row has v and the kept row e, with the greatest common divisor g: the
-- factors e/g of the row and v/g of the kept row
abbrev pub row_factor : List ℤ → List ℤ → ℕ → ℤ
row_factor kept row c =
    int_div (at_column kept c)
    (pos (gcd_of (unsigned_abs (at_column row c)) (unsigned_abs (at_column kept c))))

abbrev pub kept_factor : List ℤ → List ℤ → ℕ → ℤ
kept_factor kept row c =
    int_div (at_column row c)
    (pos (gcd_of (unsigned_abs (at_column row c)) (unsigned_abs (at_column kept c))))

-- the row times its factor, less the kept row times its own: 0 at the column
unfoldable pub eliminated : List ℤ → List ℤ → ℕ → List ℤ
eliminated kept row c =
    differences (scaled (row_factor kept row c) row) (scaled (kept_factor kept row c) kept)

-- the row after the step
unfoldable pub reduced : List ℤ → List ℤ → ℕ → List ℤ
reduced kept row c = divided (eliminated kept row c)

-- the numbers that the step marks: the products and their differences
unfoldable pub marked_in_step : List ℤ → List ℤ → ℕ → List ℤ
marked_in_step kept row c =
    scaled (row_factor kept row c) row ++ scaled (kept_factor kept row c) kept
    ++ eliminated kept row c

-- ---- one row

-- a row that is kept: its number among the rows that were inserted, from 0, the columns at which it
-- was reduced, the column of its pivot, and its entries
pub record KeptRow : Type 0 where
  pub number : ℕ
  pub reduce : List ℕ
  pub pivot : ℕ
  pub entries : List ℤ

-- the kept row with its pivot at the column
abbrev pub row_with_pivot : List KeptRow → ℕ → Option KeptRow
row_with_pivot kept c = find (λ k. k.pivot == c) kept

-- the entries as they are kept: divided, with a positive one at the pivot
unfoldable pub kept_entries : List ℤ → ℕ → List ℤ
kept_entries row c =
    if int_lt (at_column row c) (pos 0) then map neg_ℤ (divided row) else divided row

-- what becomes of a row: the columns at which it is reduced, the pivot and the entries with which
-- it is kept, if anything is left of it, and the marked numbers
pub record Insertion : Type 0 where
  pub reduce : List ℕ
  pub kept : Option (ℕ × List ℤ)
  pub marked : List ℤ

-- behind a step at the column c
abbrev pub behind_step : ℕ → List ℤ → Insertion → Insertion
behind_step c first i = record { reduce = c ∷ i.reduce; kept = i.kept; marked = first ++ i.marked }

-- what elimination asks of its numbers: how a row is read, the step by a kept row at a column, the
-- numbers that the step marks, and the entries with which a row is kept at a column, if it can be
pub record Arithmetic : Type 0 where
  pub read : List ℤ → List ℤ
  -- of the kept row, the row and the column
  pub step : List ℤ → List ℤ → ℕ → List ℤ
  pub marked : List ℤ → List ℤ → ℕ → List ℤ
  pub keep : List ℤ → ℕ → Option (List ℤ)

-- over whole numbers each row that is not 0 at a column can be kept there
abbrev pub whole_numbers : Arithmetic
whole_numbers = record {
  read = λ row. row;
  step = reduced;
  marked = marked_in_step;
  keep = λ row c. Some (kept_entries row c);
}

-- the entries, if there are any, with their pivot
abbrev pub with_pivot : ℕ → Option (List ℤ) → Option (ℕ × List ℤ)
with_pivot c None = None
with_pivot c (Some entries) = Some (c, entries)

-- at a column where the row is not 0: if a kept row has this pivot, the row is reduced by it and
-- goes on; if not, it is kept if it can be
unfoldable pub inserted_at_by : Arithmetic → Option KeptRow → ℕ → List ℤ → (List ℤ → Insertion) →
    Insertion
inserted_at_by by (Some k) c row onward =
    behind_step c (by.marked k.entries row c) (onward (by.step k.entries row c))
inserted_at_by by None c row onward =
    record { reduce = []; kept = with_pivot c (by.keep row c); marked = [] }

abbrev pub inserted_at : Option KeptRow → ℕ → List ℤ → (List ℤ → Insertion) → Insertion
inserted_at k c row onward = inserted_at_by whole_numbers k c row onward

-- the row goes through the columns in turn
unfoldable pub insertion_by : Arithmetic → List KeptRow → List ℕ → List ℤ → Insertion
insertion_by by kept [] row = record { reduce = []; kept = None; marked = [] }
insertion_by by kept (c ∷ columns) row =
    if int_eq (at_column row c) (pos 0)
    then insertion_by by kept columns row
    else inserted_at_by by (row_with_pivot kept c) c row (insertion_by by kept columns)

abbrev pub insertion : List KeptRow → List ℕ → List ℤ → Insertion
insertion kept columns row = insertion_by whole_numbers kept columns row

-- the row of n columns is read and inserted
abbrev pub inserted_by : Arithmetic → ℕ → List KeptRow → List ℤ → Insertion
inserted_by by n kept row = insertion_by by kept (range_with_len 0 n) (by.read row)

abbrev pub inserted : ℕ → List KeptRow → List ℤ → Insertion
inserted n kept row = inserted_by whole_numbers n kept row

-- ---- all rows

-- the kept rows behind an insertion of the row with this number
unfoldable pub kept_behind : List KeptRow → ℕ → List ℕ → Option (ℕ × List ℤ) → List KeptRow
kept_behind kept number reduce None = kept
kept_behind kept number reduce (Some row) =
    kept ++ record { number = number; reduce = reduce; pivot = row.0; entries = row.1 } ∷ []

-- rows that are kept, and the marked numbers
pub record Elimination : Type 0 where
  pub kept : List KeptRow
  pub marked : List ℤ

abbrev pub behind_insertion : List ℤ → Elimination → Elimination
behind_insertion first e = record { kept = e.kept; marked = first ++ e.marked }

-- the rows are inserted in turn, with numbers from this one on, until there are n pivots
unfoldable pub elimination_from_by : Arithmetic → ℕ → List KeptRow → ℕ → List (List ℤ) → Elimination
elimination_from_by by n kept number [] = record { kept = kept; marked = [] }
elimination_from_by by n kept number (row ∷ rows) =
    if nat_le n (length kept)
    then record { kept = kept; marked = [] }
    else behind_insertion (inserted_by by n kept row).marked
    (elimination_from_by by n
    (kept_behind kept number (inserted_by by n kept row).reduce
    (inserted_by by n kept row).kept)
    (number + 1) rows)

abbrev pub elimination_from : ℕ → List KeptRow → ℕ → List (List ℤ) → Elimination
elimination_from n kept number rows = elimination_from_by whole_numbers n kept number rows

-- the elimination of rows of n columns
abbrev pub elimination_by : Arithmetic → ℕ → List (List ℤ) → Elimination
elimination_by by n rows = elimination_from_by by n [] 0 rows

abbrev pub elimination : ℕ → List (List ℤ) → Elimination
elimination n rows = elimination_by whole_numbers n rows

-- ---- the kernel

-- the sums of the first one, two and so on of the numbers, to which a sum is added
abbrev pub partial_sums : ℤ → List ℤ → List ℤ
partial_sums sum [] = []
partial_sums sum (x ∷ xs) = (sum +ℤ x) ∷ partial_sums (sum +ℤ x) xs

-- the products of the entries behind the column j
abbrev pub products_behind : ℕ → List ℤ → List ℤ → List ℤ
products_behind j row w = map (λ p. p.0 *ℤ p.1) (zip (drop (j + 1) row) (drop (j + 1) w))

-- numbers for the columns, and the marked numbers
pub record Solution : Type 0 where
  pub numbers : List ℤ
  pub marked : List ℤ

abbrev pub behind_numbers : List ℤ → Solution → Solution
behind_numbers first s = record { numbers = s.numbers; marked = first ++ s.marked }

-- the greatest common divisor by which a kept row with its pivot at the column j is solved
abbrev pub solving_gcd : List ℤ → ℕ → List ℤ → ℕ
solving_gcd row j w = gcd_of (unsigned_abs (total (products_behind j row w)))
    (unsigned_abs (at_column row j))

-- the numbers times a factor
abbrev pub solving_products : List ℤ → ℕ → List ℤ → List ℤ
solving_products row j w = scaled (int_div (at_column row j) (pos (solving_gcd row j w))) w

-- the numbers times the factor, with the j-th set so that the row is 0 at them
unfoldable pub solved_at : List ℤ → ℕ → List ℤ → List ℤ
solved_at row j w =
    slice_set (solving_products row j w) j
    (neg_ℤ (int_div (total (products_behind j row w)) (pos (solving_gcd row j w))))

-- the numbers that this marks
unfoldable pub marked_in_solving : List ℤ → ℕ → List ℤ → List ℤ
marked_in_solving row j w =
    products_behind j row w ++ partial_sums (pos 0) (products_behind j row w)
    ++ solving_products row j w

-- the entries of the kept row with its pivot at the column
unfoldable pub entries_of : Option KeptRow → List ℤ
entries_of None = []
entries_of (Some k) = k.entries

-- the columns below j are solved, from the greatest down
unfoldable pub solution_below : List KeptRow → ℕ → List ℤ → Solution
solution_below kept zero w = record { numbers = w; marked = [] }
solution_below kept (suc j) w =
    behind_numbers (marked_in_solving (entries_of (row_with_pivot kept j)) j w)
    (solution_below kept j (solved_at (entries_of (row_with_pivot kept j)) j w))

-- 1 at the column c, and 0 elsewhere
abbrev pub unit_row : ℕ → ℕ → List ℤ
unit_row n c = map (λ j. if j == c then pos 1 else pos 0) (range_with_len 0 n)

-- the least of the n columns without a pivot
abbrev pub free_column : ℕ → List KeptRow → Option ℕ
free_column n kept = find (λ c. not (list_any (λ k. k.pivot == c) kept)) (range_with_len 0 n)

-- the numbers that solve the kept rows, from 1 at that column on; none if there is no such column
unfoldable pub solution_from : ℕ → List KeptRow → Option ℕ → Option Solution
solution_from n kept None = None
solution_from n kept (Some c) = Some (solution_below kept c (unit_row n c))

abbrev pub kernel : ℕ → List KeptRow → Option Solution
kernel n kept = solution_from n kept (free_column n kept)

-- ---- the bound

-- one of the marked numbers is above 2^127 - 1 in absolute value
abbrev pub Passes : List ℤ → Type 0
Passes marked = Any (λ x. 2 ^ 127 ≤ unsigned_abs x) marked
