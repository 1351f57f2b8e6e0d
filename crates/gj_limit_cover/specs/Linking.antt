-- The intervals that are joined by limits, for the search for cover lines (own).
use Rattle.std.specs.Prelude.{ℕ}
use Rattle.gj_shape.specs.declared.faces.FaceKind.{FaceKind}
use Rattle.gj_cover.specs.Linking.{Linking}
use Rattle.gj_limit_cover.specs.LimitCover.{AreJoined, LeadsTo, IsDirectlyCovered}

abbrev pub limit_linking : ℕ → (FaceKind → ℕ → ℕ → ℕ → Type 0) → Linking
limit_linking q T = record {
  order = q;
  Joined = AreJoined q T;
  Leads = LeadsTo q T;
  Direct = IsDirectlyCovered q T;
}
