-- Rows of sets of indices, as pairs (own).
use Rattle.std.specs.Prelude.{ℕ, ◌≡◌, ◌+◌, ◌%◌, ◌<◌, List, Bool, false, map, slice_index_or}
use Rattle.gj_loops.specs.IndexSets.{has}
use Rattle.gj_loops.specs.declared.index_set.IndexSet.{IndexSet}

-- whether b is in the set of a
unfoldable pub in_row : List IndexSet → ℕ → ℕ → Bool
in_row rows a b = slice_index_or (map (λ row. has row b) rows) a false

-- among the indices from q on the rows have q alone, and that exactly if they have 0
pub record AreRound (q : ℕ) (rows : List IndexSet) : Type 0 where
  pub round : (a : ℕ) → a < q → in_row rows a q ≡ in_row rows a 0
  pub within : (a b : ℕ) → a < q → q < b → in_row rows a b ≡ false

-- the rows with the indices turned around: a is in the set of b
abbrev pub AreColumns : ℕ → List IndexSet → List IndexSet → Type 0
AreColumns q rows columns = (a b : ℕ) → a < q → b < q → in_row columns b a ≡ in_row rows a b

-- the first indices of the pairs with a sum: a is in the set of a + b, modulo q
abbrev pub AreFirsts : ℕ → List IndexSet → List IndexSet → Type 0
AreFirsts q rows firsts = (a b : ℕ) → a < q → b < q →
    in_row firsts ((a + b) % q) a ≡ in_row rows a b

-- the second indices of the pairs with a sum: b is in the set of a + b, modulo q
abbrev pub AreSeconds : ℕ → List IndexSet → List IndexSet → Type 0
AreSeconds q rows seconds = (a b : ℕ) → a < q → b < q →
    in_row seconds ((a + b) % q) b ≡ in_row rows a b
