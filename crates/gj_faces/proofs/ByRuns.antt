-- Additive faces by runs.
use Rattle.std.proofs.Common.{◌↔◌, ℕ, List}
use Rattle.std.proofs.lemmas.List.Elements.{All-weaker}
use Rattle.gj_shape.specs.Additive.{IsAdditive}
use Rattle.gj_shape.specs.Faces.{corners_of}
use Rattle.gj_shape.specs.declared.faces.FaceKind.{FaceKind}
use Rattle.gj_faces.specs.declared.run.Run.{Run}
use Rattle.gj_faces.specs.Runs.{InRuns, TellTight}

pub additive_by_tight : (q : ℕ) (runs : List Run) (Tight : ℕ → ℕ → Type 0) (kind : FaceKind)
    (a b : ℕ) →
    TellTight q runs Tight → IsAdditive (InRuns q runs) kind a b ↔ IsAdditive Tight kind a b
additive_by_tight q runs Tight kind a b tell = (
  All-weaker (λ c. InRuns q runs c.0 c.1) (λ c. Tight c.0 c.1) (λ c h. (tell c.0 c.1).1 h)
      (corners_of kind a b),
  All-weaker (λ c. Tight c.0 c.1) (λ c. InRuns q runs c.0 c.1) (λ c h. (tell c.0 c.1).0 h)
      (corners_of kind a b),
)
