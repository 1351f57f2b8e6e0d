-- What elimination asks of an arithmetic: its steps leave 0 at their columns, and carry solutions
-- along.
use Rattle.std.proofs.Common.{◌≡◌, ◌≢◌, ℕ, ◌<◌, ◌↔◌, None, Some, ℤ, pos, ◌<ℤ◌, List, [], ◌∷◌, length, refl, subst}
use Rattle.std.specs.Prelude.{All}
use Rattle.gj_shape.specs.Elimination.{KeptRow, Arithmetic, at_column, reduced, eliminated, kept_entries, whole_numbers}
use Rattle.gj_theory.specs.TriangularRows.{Solves, AreTriangularBy}
use Rattle.gj_theory.proofs.RowSums.{divided_zero, solves_kept_entries}
use Rattle.gj_theory.proofs.Steps.{solves_reduced, solves_before, length-reduced, length-kept_entries}
use Rattle.gj_theory.proofs.Entries.{reduced_at_zero, reduced_at_column, kept_at_zero, kept_at_pivot, zeros_solved}
use Rattle.gj_theory.proofs.Triangular.{all_pivots_solve}

-- the second follows from the first; and the first from the second, where there is a way back
pub record Carries (back a b : Type 0) : Type 0 where
  pub onward : a → b
  pub before : back → b → a

pub both_ways : {a b : Type 0} → Carries (Unit {0}) a b → (b ↔ a)
both_ways h = (h.before tt, h.onward)

pub to_carries : {a b : Type 0} → (b ↔ a) → Carries (Unit {0}) a b
to_carries h = record { onward = h.1; before = λ back. h.0 }

-- the entries with which a row is kept at a column
pub record KeepsRow (is_pivot : ℤ → Type 0) (solves : List ℤ → List ℤ → Type 0) (back : Type 0)
    (row : List ℤ) (c : ℕ)
    (entries : List ℤ) : Type 0 where
  pub columns : length entries ≡ length row
  pub zero : (i : ℕ) → at_column row i ≡ pos 0 → at_column entries i ≡ pos 0
  pub at_pivot : is_pivot (at_column entries c)
  pub solutions : (w : List ℤ) → Carries back (solves w row) (solves w entries)

-- an arithmetic, the kind of the entries at its pivots, what it is to solve a row, and whether
-- there is a way back
pub record SoundArithmetic : Type 1 where
  pub by : Arithmetic
  pub is_pivot : ℤ → Type 0
  pub solves : List ℤ → List ℤ → Type 0
  pub back : Type 0
  pub read_columns : (row : List ℤ) → length (by.read row) ≡ length row
  pub read_solutions : (w row : List ℤ) → Carries back (solves w row) (solves w (by.read row))
  pub step_columns : (kept row : List ℤ) (c : ℕ) → length kept ≡ length row →
      length (by.step kept row c) ≡ length row
  pub step_zero : (kept row : List ℤ) (c i : ℕ) → length kept ≡ length row →
      at_column kept i ≡ pos 0 → at_column row i ≡ pos 0 →
      at_column (by.step kept row c) i ≡ pos 0
  pub step_here : (kept row : List ℤ) (c : ℕ) → length kept ≡ length row →
      is_pivot (at_column kept c) →
      at_column (by.step kept row c) c ≡ pos 0
  pub step_onward : (kept row w : List ℤ) (c : ℕ) → length kept ≡ length row → solves w kept →
      solves w row →
      solves w (by.step kept row c)
  pub step_before : back → (kept row w : List ℤ) (c : ℕ) → length kept ≡ length row →
      is_pivot (at_column kept c) →
      solves w kept → solves w (by.step kept row c) → solves w row
  -- a step by no row, and a step of no row, leave no entries
  pub by_none : (row : List ℤ) (c : ℕ) → by.step [] row c ≡ []
  pub of_none : (kept : List ℤ) (c : ℕ) → by.step kept [] c ≡ []
  pub none_solved : (w : List ℤ) → solves w []
  pub kept : (row : List ℤ) (c : ℕ) (entries : List ℤ) → at_column row c ≢ pos 0 →
      by.keep row c ≡ Some entries →
      KeepsRow is_pivot solves back row c entries
  -- where there is a way back, each row is kept or 0, and as many kept rows as columns leave only
  -- what solves each row
  pub not_kept : back → (row : List ℤ) (c : ℕ) → by.keep row c ≡ None → ⊥
  pub zeros_solved : back → (row w : List ℤ) →
      ((i : ℕ) → i < length row → at_column row i ≡ pos 0) → solves w row
  pub all_pivots : back → (n : ℕ) (kept : List KeptRow) (w : List ℤ) →
      AreTriangularBy is_pivot n kept → length kept ≡ n →
      length w ≡ n → All (λ k. solves w k.entries) kept → (row : List ℤ) → solves w row

-- the numbers solve all kept rows
abbrev pub SolvesKeptBy : SoundArithmetic → List ℤ → List KeptRow → Type 0
SolvesKeptBy law w kept = All (λ k. law.solves w k.entries) kept

-- ---- whole numbers

pub reduced_by_none : (row : List ℤ) (c : ℕ) → reduced [] row c ≡ []
unfolding reduced eliminated
reduced_by_none [] c = divided_zero [] refl
reduced_by_none (x ∷ row) c = divided_zero [] refl

pub reduced_of_none : (kept : List ℤ) (c : ℕ) → reduced kept [] c ≡ []
unfolding reduced eliminated
reduced_of_none kept c = divided_zero [] refl

pub whole_kept : (row : List ℤ) (c : ℕ) (entries : List ℤ) → at_column row c ≢ pos 0 →
    Some (kept_entries row c) ≡ Some entries →
    KeepsRow (λ x. pos 0 <ℤ x) (λ w r. Solves w r) (Unit {0}) row c entries
whole_kept row c entries some e =
    let same : kept_entries row c ≡ entries = cc in
    subst (KeepsRow (λ x. pos 0 <ℤ x) (λ w r. Solves w r) (Unit {0}) row c) same record {
      columns = length-kept_entries row c;
      zero = kept_at_zero row c;
      at_pivot = kept_at_pivot row c some;
      solutions = λ w. to_carries (solves_kept_entries row w c);
    }

pub each_kept : (entries : List ℤ) → Some entries ≡ None → ⊥
each_kept entries e = cc

abbrev pub whole_sound : SoundArithmetic
whole_sound = record {
  by = whole_numbers;
  is_pivot = λ x. pos 0 <ℤ x;
  solves = λ w row. Solves w row;
  back = Unit {0};
  read_columns = λ row. refl;
  read_solutions = λ w row. record { onward = λ h. h; before = λ back h. h };
  step_columns = length-reduced;
  step_zero = reduced_at_zero;
  step_here = λ kept row c e some. reduced_at_column kept row c e;
  step_onward = solves_reduced;
  step_before = λ back. solves_before;
  by_none = reduced_by_none;
  of_none = reduced_of_none;
  none_solved = λ w. refl;
  kept = whole_kept;
  not_kept = λ back row c. each_kept (kept_entries row c);
  zeros_solved = λ back. zeros_solved;
  all_pivots = λ back. all_pivots_solve;
}
