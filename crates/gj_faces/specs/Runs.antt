-- Tight pairs as runs (own): pairs (a, b) with one a and neighbouring b.
use Rattle.std.specs.Prelude.{ℕ, ◌≡◌, ◌⊎◌, ◌↔◌, ◌+◌, ◌-◌, ◌%◌, ◌<◌, ◌≤◌, List, ◌∷◌, ◌++◌, All, Any}
use Rattle.gj_faces.specs.declared.run.Run.{Run}

-- the run holds the pair, indices modulo the order
pub record RunHolds (q : ℕ) (i j : ℕ) (r : Run) : Type 0 where
  pub row : r.a ≡ i % q
  pub start : r.from ≤ j % q
  pub stop : j % q ≤ r.to

-- some run holds it
abbrev pub InRuns : ℕ → List Run → ℕ → ℕ → Type 0
InRuns q runs i j = Any (RunHolds q i j) runs

-- the run is of pairs of indices below the order
pub record IsRunOf (q : ℕ) (r : Run) : Type 0 where
  pub row : r.a < q
  pub some : r.from ≤ r.to
  pub within : r.to < q

-- the first run ends before the second begins
abbrev pub EndsBefore : Run → Run → Type 0
EndsBefore r s = (r.a < s.a) ⊎ ((r.a ≡ s.a) × (r.to < s.from))

-- each run ends before its next
pub record AreInOrder (q : ℕ) (runs : List Run) : Type 0 where
  pub each : All (IsRunOf q) runs
  pub ascending : (before : List Run) (r s : Run) (after : List Run) →
      runs ≡ before ++ r ∷ s ∷ after → EndsBefore r s

-- the pairs in the runs are the tight ones
abbrev pub TellTight : ℕ → List Run → (ℕ → ℕ → Type 0) → Type 0
TellTight q runs Tight = (i j : ℕ) → Tight i j ↔ InRuns q runs i j

-- no tight pair stands just before the run or just behind it
pub record IsWholeRun (q : ℕ) (Tight : ℕ → ℕ → Type 0) (r : Run) : Type 0 where
  pub start : 0 < r.from → Tight r.a (r.from - 1) → ⊥
  pub stop : r.to + 1 < q → Tight r.a (r.to + 1) → ⊥

-- the tight pairs as the fewest runs, in order
pub record AreRunsOf (q : ℕ) (Tight : ℕ → ℕ → Type 0) (runs : List Run) : Type 0 where
  pub in_order : AreInOrder q runs
  pub tell : TellTight q runs Tight
  pub whole : All (IsWholeRun q Tight) runs
