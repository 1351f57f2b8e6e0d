-- Pairs whose rows were handed over (own).
use Rattle.std.specs.Prelude.{ℕ, ℤ, pos, ◌≡◌, ◌⊎◌, ◌*◌, ◌<◌, ◌≤◌, List, All, Contains, length}
use Rattle.gj_shape.specs.FunctionData.{FunctionData}
use Rattle.gj_shape.specs.declared.extremality.RowName.{RowName}
use Rattle.gj_shape.specs.declared.extremality.RowName.TheVariants.{Pair}
use Rattle.gj_proof.specs.PresentRows.{named_row}
use Rattle.gj_extreme.specs.declared.seen.SeenPair.{SeenPair}
use Rattle.gj_extreme.specs.declared.seen.SeenPairs.{SeenPairs}

-- both points are below the order
abbrev pub IsPairBelow : ℕ → SeenPair → Type 0
IsPairBelow q p = (p.a < q) × (p.b < q)

-- there is a pair for each of at most 1,024 places, with points below the order, and a code for
-- each point below twice the order
pub record AreSeenBelow (q : ℕ) (seen : SeenPairs) : Type 0 where
  pub some : 0 < length seen.pairs.items
  pub few : length seen.pairs.items ≤ 1024
  pub points : All (IsPairBelow q) seen.pairs.items
  pub codes : length seen.codes.items ≡ 2 * q

-- the row of this name is all 0, or one of those before
abbrev pub IsSeenName : FunctionData → (ℕ → ℕ) → ℕ → List (List ℤ) → RowName → Type 0
IsSeenName f component n before name =
    All (λ x. x ≡ pos 0) (named_row f component n name)
    ⊎ Contains before (named_row f component n name)

-- so is that of the pair
abbrev pub IsSeenRow : FunctionData → (ℕ → ℕ) → ℕ → List (List ℤ) → SeenPair → Type 0
IsSeenRow f component n before p = IsSeenName f component n before (Pair p.a p.b)
