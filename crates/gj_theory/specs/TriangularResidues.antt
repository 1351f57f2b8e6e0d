-- Rows with different pivots modulo a number, and the triangular rows that elimination over
-- residues keeps (own).
use Rattle.std.specs.Prelude.{ℕ, ℤ, pos, ◌≡◌, List, All}
use Rattle.gj_shape.specs.Elimination.{KeptRow}
use Rattle.gj_shape.specs.Residues.{IsZeroModulo, IsInvertible, SolvesModulo}
use Rattle.gj_theory.specs.PivotRows.{HavePivotsBy}
use Rattle.gj_theory.specs.TriangularRows.{AreTriangularBy}

-- modulo m each row is 0 before its pivot, and invertible at it
abbrev pub HavePivotsModulo : ℕ → ℕ → (ℕ → List ℤ) → (ℕ → ℕ) → Type 0
HavePivotsModulo m n row pivot = HavePivotsBy (IsZeroModulo m) (IsInvertible m) n row pivot

-- the numbers solve all kept rows modulo m
abbrev pub SolvesKeptModulo : ℕ → List ℤ → List KeptRow → Type 0
SolvesKeptModulo m w kept = All (λ k. SolvesModulo m w k.entries) kept

-- triangular rows of residues: 1 at their pivots
abbrev pub AreTriangularResidues : ℕ → List KeptRow → Type 0
AreTriangularResidues n kept = AreTriangularBy (λ x. x ≡ pos 1) n kept
