-- Intervals that are joined, in one sense or another (own): what the search for cover lines and for
-- a class asks of a function.
use Rattle.std.specs.Prelude.{ℕ}
use Rattle.gj_shape.specs.Cover.{AreJoined, LeadsTo, IsDirectlyCovered}

-- which intervals are joined, which are led to (the first) by joined ones from which (the second),
-- and which are directly covered
pub record Linking : Type 1 where
  pub order : ℕ
  pub Joined : ℕ → ℕ → Type 0
  pub Leads : ℕ → ℕ → Type 0
  pub Direct : ℕ → Type 0

-- joined ones lead from a directly covered interval to this one
abbrev pub Covered : Linking → ℕ → Type 0
Covered l i = (j : ℕ) × l.Direct j × l.Leads i j

-- those of a continuous function
abbrev pub tight_linking : ℕ → (ℕ → ℕ → Type 0) → Linking
tight_linking q Tight = record {
  order = q;
  Joined = AreJoined q Tight;
  Leads = LeadsTo q Tight;
  Direct = IsDirectlyCovered q Tight;
}
