-- The elimination of all rows over an arithmetic, and rows after several steps.
use Rattle.std.proofs.Common.{◌≡◌, ℕ, ◌+◌, ◌≤◌, ◌⊎◌, inl, inr, Bool, true, false, if◌then◌else◌, Option, None, Some, ℤ, List, [], ◌∷◌, length, eqb, refl, sym, ap, subst, ◌∙◌}
use Rattle.std.specs.Prelude.{All, nat_le}
use Rattle.std.proofs.lemmas.Bool.{leb-true}
use Rattle.std.proofs.lemmas.List.Elements.{All-nil, All-cons, All-head, All-tail}
use Rattle.std.proofs.Math.Nat.{le_antisymm}
use Rattle.gj_shape.specs.Elimination.{KeptRow, Arithmetic, inserted_by, entries_of, row_with_pivot, kept_behind, elimination_by, elimination_from_by, behind_insertion}
use Rattle.gj_theory.specs.TriangularRows.{AreTriangularBy, present_row_by}
use Rattle.gj_theory.proofs.Insertions.{inserted_leaves}
use Rattle.gj_theory.proofs.SoundArithmetic.{Carries, SoundArithmetic, SolvesKeptBy}
use Rattle.gj_theory.proofs.Triangular.{find_has, rank_at_most, no_rows_triangular}

-- ---- rows after several steps

-- the row has n entries, or none
abbrev pub HasColumns : ℕ → List ℤ → Type 0
HasColumns n row = (row ≡ []) ⊎ (length row ≡ n)

step_columns : (law : SoundArithmetic) (n : ℕ) (kept : List KeptRow) (row : List ℤ) (c : ℕ) →
    All (λ k. length k.entries ≡ n) kept →
    HasColumns n row → (o : Option KeptRow) → row_with_pivot kept c ≡ o →
    HasColumns n (law.by.step (entries_of o) row c)
unfolding entries_of
step_columns law n kept row c columns has None e = inl (law.by_none row c)
step_columns law n kept row c columns (inl is) (Some k) e =
    inl (ap (λ r. law.by.step k.entries r c) is ∙ law.of_none k.entries c)
step_columns law n kept row c columns (inr len) (Some k) e =
    let same : length k.entries ≡ length row =
    (find_has (λ r. length r.entries ≡ n) (λ r. eqb r.pivot c) kept k columns e).0 ∙ sym len in
    inr (law.step_columns k.entries row c same ∙ len)

pub columns_after_steps : (law : SoundArithmetic) (n : ℕ) (kept : List KeptRow) (row : List ℤ)
    (columns : List ℕ) →
    All (λ k. length k.entries ≡ n) kept → HasColumns n row →
    HasColumns n (present_row_by law.by kept row columns)
columns_after_steps law n kept row [] all has = has
columns_after_steps law n kept row (c ∷ columns) all has =
    columns_after_steps law n kept (law.by.step (entries_of (row_with_pivot kept c)) row c) columns
    all
    (step_columns law n kept row c all has (row_with_pivot kept c) refl)

step_solved : (law : SoundArithmetic) (n : ℕ) (kept : List KeptRow) (row w : List ℤ) (c : ℕ) →
    All (λ k. length k.entries ≡ n) kept →
    HasColumns n row → SolvesKeptBy law w kept → law.solves w row → (o : Option KeptRow) →
    row_with_pivot kept c ≡ o →
    law.solves w (law.by.step (entries_of o) row c)
unfolding entries_of
step_solved law n kept row w c columns has all solved None e =
    subst (law.solves w) (sym (law.by_none row c)) (law.none_solved w)
step_solved law n kept row w c columns (inl is) all solved (Some k) e =
    subst (law.solves w) (sym (ap (λ r. law.by.step k.entries r c) is ∙ law.of_none k.entries c))
    (law.none_solved w)
step_solved law n kept row w c columns (inr len) all solved (Some k) e =
    let same : length k.entries ≡ length row =
    (find_has (λ r. length r.entries ≡ n) (λ r. eqb r.pivot c) kept k columns e).0 ∙ sym len in
    let by : law.solves w k.entries =
    (find_has (λ r. law.solves w r.entries) (λ r. eqb r.pivot c) kept k all e).0 in
    law.step_onward k.entries row w c same by solved

present_solved : (law : SoundArithmetic) (n : ℕ) (kept : List KeptRow) (row w : List ℤ)
    (columns : List ℕ) →
    All (λ k. length k.entries ≡ n) kept → HasColumns n row → SolvesKeptBy law w kept →
    law.solves w row →
    law.solves w (present_row_by law.by kept row columns)
present_solved law n kept row w [] all has k solved = solved
present_solved law n kept row w (c ∷ columns) all has k solved =
    present_solved law n kept (law.by.step (entries_of (row_with_pivot kept c)) row c) w columns all
    (step_columns law n kept row c all has (row_with_pivot kept c) refl) k
    (step_solved law n kept row w c all has k solved (row_with_pivot kept c) refl)

pub present_row_solved : (law : SoundArithmetic) (n : ℕ) (kept : List KeptRow) (row w : List ℤ)
    (columns : List ℕ) →
    All (λ k. length k.entries ≡ n) kept → length row ≡ n → SolvesKeptBy law w kept →
    law.solves w row →
    law.solves w (present_row_by law.by kept row columns)
present_row_solved law n kept row w columns all len k solved =
    present_solved law n kept row w columns all (inr len) k solved

-- ---- all rows

-- the kept rows at the end are triangular, and have the solutions of the kept rows before and of
-- all rows
pub record HasSolutions (law : SoundArithmetic) (n : ℕ) (before after : List KeptRow)
    (rows : List (List ℤ)) : Type 0 where
  pub triangular : AreTriangularBy law.is_pivot n after
  pub same : (w : List ℤ) →
      Carries (law.back × (length w ≡ n)) (SolvesKeptBy law w before × All (law.solves w) rows)
      (SolvesKeptBy law w after)

all_solved : (law : SoundArithmetic) (w : List ℤ) (rows : List (List ℤ)) →
    ((row : List ℤ) → law.solves w row) → All (law.solves w) rows
all_solved law w [] each = All-nil (law.solves w)
all_solved law w (row ∷ rows) each =
    All-cons (law.solves w) row rows (each row) (all_solved law w rows each)

all_pivots : (law : SoundArithmetic) (n : ℕ) (kept : List KeptRow) (rows : List (List ℤ)) →
    AreTriangularBy law.is_pivot n kept →
    n ≤ length kept → HasSolutions law n kept kept rows
all_pivots law n kept rows h full = record {
  triangular = h;
  same = λ w. record {
    onward = λ both. both.0;
    before = λ back all. (
      all,
      all_solved law w rows
          (law.all_pivots back.0 n kept w h (le_antisymm (rank_at_most n kept h) full) back.1
          all),
    );
  };
}

one_more : (law : SoundArithmetic) (n : ℕ) (kept next after : List KeptRow) (row : List ℤ)
    (rows : List (List ℤ)) →
    ((w : List ℤ) → Carries law.back (SolvesKeptBy law w kept × law.solves w row)
    (SolvesKeptBy law w next)) →
    HasSolutions law n next after rows → HasSolutions law n kept after (row ∷ rows)
one_more law n kept next after row rows step h = record {
  triangular = h.triangular;
  same = λ w. record {
    onward = λ both.
        let first = (step w).onward (both.0, All-head (law.solves w) row rows both.1) in
        (h.same w).onward (first, All-tail (law.solves w) row rows both.1);
    before = λ back all.
        let both = (h.same w).before back all in
        let first = (step w).before back.0 both.0 in
        (first.0, All-cons (law.solves w) row rows first.1 both.1);
  };
}

elimination_from_has : (law : SoundArithmetic) (n : ℕ) (kept : List KeptRow) (number : ℕ)
    (rows : List (List ℤ)) →
    AreTriangularBy law.is_pivot n kept → All (λ row. length row ≡ n) rows →
    HasSolutions law n kept (elimination_from_by law.by n kept number rows).kept rows
unfolding elimination_from_by
elimination_from_has law n kept number [] h columns = record {
  triangular = h;
  same = λ w. record {
    onward = λ both. both.0;
    before =
        λ back all. (all, All-nil (law.solves w));
  };
}
elimination_from_has law n kept number (row ∷ rows) h columns =
    let i = inserted_by law.by n kept row in
    let left = inserted_leaves law n kept row h (All-head (λ r. length r ≡ n) row rows columns) in
    let next = kept_behind kept number i.reduce i.kept in
    by_rank (nat_le n (length kept)) refl
    (one_more law n kept next (elimination_from_by law.by n next (number + 1) rows).kept row rows
    (left.solutions number i.reduce)
    (elimination_from_has law n next (number + 1) rows (left.triangular number i.reduce)
    (All-tail (λ r. length r ≡ n) row rows columns)))
  where
    by_rank : (b : Bool) → nat_le n (length kept) ≡ b →
        HasSolutions law n kept
        (elimination_from_by law.by n
        (kept_behind kept number (inserted_by law.by n kept row).reduce
        (inserted_by law.by n kept row).kept)
        (number + 1) rows).kept
        (row ∷ rows) →
        HasSolutions law n kept
        (if b then record { kept = kept; marked = [] }
        else behind_insertion (inserted_by law.by n kept row).marked
        (elimination_from_by law.by n
        (kept_behind kept number (inserted_by law.by n kept row).reduce
        (inserted_by law.by n kept row).kept)
        (number + 1) rows)).kept
        (row ∷ rows)
    by_rank true e later = all_pivots law n kept (row ∷ rows) h (leb-true n (length kept) e)
    by_rank false e later = later

pub elimination_has : (law : SoundArithmetic) (n : ℕ) (rows : List (List ℤ)) →
    All (λ row. length row ≡ n) rows →
    HasSolutions law n [] (elimination_by law.by n rows).kept rows
elimination_has law n rows columns =
    elimination_from_has law n [] 0 rows (no_rows_triangular n) columns

-- ---- the elimination over any arithmetic, one row further

-- with as many kept rows as columns it stops
pub elimination_full : (by : Arithmetic) (n : ℕ) (kept : List KeptRow) (number : ℕ)
    (rows : List (List ℤ)) →
    nat_le n (length kept) ≡ true → elimination_from_by by n kept number rows
    ≡ record { kept = kept; marked = [] }
unfolding elimination_from_by
elimination_full by n kept number [] e = refl
elimination_full by n kept number (row ∷ rows) e =
    ap
    (λ b.
    if b then record { kept = kept; marked = [] }
    else behind_insertion (inserted_by by n kept row).marked
    (elimination_from_by by n
    (kept_behind kept number (inserted_by by n kept row).reduce
    (inserted_by by n kept row).kept)
    (number + 1) rows))
    e

-- with fewer it inserts the next row
pub elimination_more : (by : Arithmetic) (n : ℕ) (kept : List KeptRow) (number : ℕ) (row : List ℤ)
    (rows : List (List ℤ)) →
    nat_le n (length kept) ≡ false →
    elimination_from_by by n kept number (row ∷ rows)
    ≡ behind_insertion (inserted_by by n kept row).marked
    (elimination_from_by by n
    (kept_behind kept number (inserted_by by n kept row).reduce
    (inserted_by by n kept row).kept)
    (number + 1) rows)
unfolding elimination_from_by
elimination_more by n kept number row rows e =
    ap
    (λ b.
    if b then record { kept = kept; marked = [] }
    else behind_insertion (inserted_by by n kept row).marked
    (elimination_from_by by n
    (kept_behind kept number (inserted_by by n kept row).reduce
    (inserted_by by n kept row).kept)
    (number + 1) rows))
    e

pub elimination_none : (by : Arithmetic) (n : ℕ) (kept : List KeptRow) (number : ℕ) →
    elimination_from_by by n kept number [] ≡ record { kept = kept; marked = [] }
unfolding elimination_from_by
elimination_none by n kept number = refl
