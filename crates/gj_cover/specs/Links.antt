-- Faces that lead from an interval to another, and edges that link two intervals (own).
use Rattle.std.specs.Prelude.{ℕ, ◌≡◌, ◌≢◌, ◌⊎◌, ◌+◌, ◌%◌, ◌<◌}
use Rattle.gj_shape.specs.Additive.{IsAdditive}
use Rattle.gj_shape.specs.declared.faces.FaceKind.{FaceKind}
use Rattle.gj_shape.specs.declared.faces.FaceKind.TheVariants.{Vertex, Horizontal, Vertical, Diagonal, Lower, Upper}

-- the face is an edge of the complex of order q that links the interval i and j behind it, or an
-- upper triangle that projects on both, with j as its sum
abbrev pub LeadsBy : ℕ → ℕ → ℕ → FaceKind → ℕ → ℕ → Type 0
LeadsBy q i j Vertex a b = ⊥
LeadsBy q i j Horizontal a b = (a ≡ i) × (b < q) × ((a + b) % q ≡ j)
LeadsBy q i j Vertical a b = (a < q) × (b ≡ i) × ((a + b) % q ≡ j)
LeadsBy q i j Diagonal a b = (a ≡ i) × (b ≡ j)
LeadsBy q i j Lower a b = ⊥
LeadsBy q i j Upper a b = (a < q) × (b < q) × ((a ≡ i) ⊎ (b ≡ i)) × ((a + b + 1) % q ≡ j)

-- either way
abbrev pub Leads : ℕ → ℕ → ℕ → FaceKind → ℕ → ℕ → Type 0
Leads q i j kind a b = LeadsBy q i j kind a b ⊎ LeadsBy q j i kind a b

-- an additive edge links the interval i and j behind it
pub data Links (q : ℕ) (Tight : ℕ → ℕ → Type 0) (i j : ℕ) : Type 0 where
  diagonal : IsAdditive Tight Diagonal i j → Links q Tight i j
  horizontal : (b : ℕ) → b < q → (i + b) % q ≡ j → IsAdditive Tight Horizontal i b →
      Links q Tight i j
  vertical : (a : ℕ) → a < q → (a + i) % q ≡ j → IsAdditive Tight Vertical a i → Links q Tight i j

-- the square is one (i, b) of the complex of order q
abbrev pub IsPairInRow : ℕ → ℕ → ℕ → ℕ → Type 0
IsPairInRow q i a b = (a ≡ i) × (b < q)

-- the square is another one of it
abbrev pub IsAcross : ℕ → ℕ → ℕ → ℕ → Type 0
IsAcross q i a b = (a < q) × (a ≢ i) × (b < q)
