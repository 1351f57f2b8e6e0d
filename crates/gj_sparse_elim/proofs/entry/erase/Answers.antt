use Rattle.std.proofs.Common.{ℕ, ◌<◌, ◌≤◌, ◌≡◌, ◌⊎◌, inl, inr, List, ℤ, pos, length, arith}
use Rattle.std.proofs.lemmas.Bool.{cases_lt}
use Rattle.std.proofs.lemmas.List.{get_or_past}
use Rattle.gj_shape.specs.Elimination.{at_column}
use Rattle.gj_sparse_elim.proofs.entry.erase.Goals as goal

all_zero : (row : List ℤ) (n : ℕ) → length row ≤ n → ((k : ℕ) → k < n → at_column row k ≡ pos 0) →
    (k : ℕ) → at_column row k ≡ pos 0
all_zero row n all none k = by_place (cases_lt k n)
  where
    by_place : (k < n) ⊎ (n ≤ k) → at_column row k ≡ pos 0
    by_place (inl below) = none k below
    by_place (inr past) = get_or_past row k (pos 0) (omega arith)

pub returns : goal.returns
returns c = all_zero c.loop-number.row c.loop-number.number-index (omega arith)
    c.loop-number.invariant
