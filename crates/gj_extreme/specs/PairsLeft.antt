-- Tight pairs of one row whose rows need not be looked at (own).
use Rattle.std.specs.Prelude.{ℕ, ◌≡◌, ◌<◌, ◌≤◌, List, false, IsTrue, length, get_or}
use Rattle.gj_loops.specs.IndexSets.{has, no_set}
use Rattle.gj_loops.specs.declared.index_set.IndexSet.{IndexSet}
use Rattle.gj_shape.specs.SlopeRows.{row_of}
use Rattle.gj_shape.specs.declared.extremality.RowName.TheVariants.{Pair}
use Rattle.gj_faces.specs.TightPairs.{IsTightIn}
use Rattle.gj_faces.specs.declared.tight_pairs.TightPairs.{TightPairs}

-- of the first q intervals each set has only those in the component with its number
abbrev pub AreIntervalsOf : (ℕ → ℕ) → ℕ → List IndexSet → Type 0
AreIntervalsOf component q sets =
    (c i : ℕ) → c < length sets → i < q → IsTrue (has (get_or sets c no_set) i) → component i ≡ c

-- a tight pair has the row of (a, b), a lesser first index, which is not 0, and a second that is not
-- less
pub record HasPairBefore (pairs : TightPairs) (component : ℕ → ℕ) (a b : ℕ) : Type 0 where
  pub first : ℕ
  pub second : ℕ
  pub some : 0 < first
  pub before : first < a
  pub behind : b ≤ second
  pub within : second < pairs.order
  pub tight : IsTightIn pairs first second
  pub same : (n place : ℕ) →
      row_of component n pairs.order place (Pair first second)
      ≡ row_of component n pairs.order place (Pair a b)

-- the set has the b of tight pairs (a, b), and each of them but for those with such a pair before
pub record ArePairsLeft (pairs : TightPairs) (component : ℕ → ℕ) (a : ℕ) (left : IndexSet) :
    Type 0 where
  pub within : (b : ℕ) → pairs.order ≤ b → has left b ≡ false
  pub tight : (b : ℕ) → b < pairs.order → IsTrue (has left b) → IsTightIn pairs a b
  pub others : (b : ℕ) → b < pairs.order → IsTightIn pairs a b → has left b ≡ false →
      HasPairBefore pairs component a b
