-- The runs of the tight pairs before a pair, row by row (own).
use Rattle.std.specs.Prelude.{ℕ, ◌≡◌, ◌⊎◌, ◌<◌, ◌≤◌, List, All}
use Rattle.gj_faces.specs.declared.run.Run.{Run}
use Rattle.gj_faces.specs.Runs.{InRuns, AreInOrder, IsWholeRun}

-- the pair (i, j) comes before (a, b): in an earlier row, or earlier in the same
abbrev pub ComesBefore : ℕ → ℕ → ℕ → ℕ → Type 0
ComesBefore i j a b = (i < a) ⊎ ((i ≡ a) × (j < b))

-- each pair of the run is tight
abbrev pub IsTightRun : (ℕ → ℕ → Type 0) → Run → Type 0
IsTightRun Tight r = (j : ℕ) → r.from ≤ j → j ≤ r.to → Tight r.a j

-- the runs are those of the tight pairs before (a, b), in order, and are whole
pub record AreRunsBefore (q : ℕ) (Tight : ℕ → ℕ → Type 0) (a b : ℕ) (runs : List Run) : Type 0 where
  pub in_order : AreInOrder q runs
  pub whole : All (IsWholeRun q Tight) runs
  pub tight : All (IsTightRun Tight) runs
  pub behind : All (λ r. ComesBefore r.a r.to a b) runs
  pub complete : (i j : ℕ) → i < q → j < q → ComesBefore i j a b → Tight i j → InRuns q runs i j
