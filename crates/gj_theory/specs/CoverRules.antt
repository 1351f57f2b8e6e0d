-- The rules that each line of a cover must meet (own).
use Rattle.std.specs.Prelude.{ℕ, ◌≡◌, ◌≢◌, List, ◌∷◌, ◌++◌}
use Rattle.gj_shape.specs.Additive.{IsAdditive}
use Rattle.gj_shape.specs.Cover.{Covers, HasCoverLine, Joins}
use Rattle.gj_shape.specs.declared.extremality.CoverLine.{CoverLine}

-- the line behind those before it: its face is additive, its interval has no line yet, and the face
-- is a triangle that projects on the interval if the line opens a component, or else joins the
-- interval to one that has a line
pub record MeetsCoverRule (q : ℕ) (Tight : ℕ → ℕ → Type 0) (before : List CoverLine)
    (l : CoverLine) : Type 0 where
  pub additive : IsAdditive Tight l.face.kind l.face.a l.face.b
  pub new : HasCoverLine before l.interval → ⊥
  pub opening : l.from ≡ l.interval → Covers q Tight l.face.kind l.face.a l.face.b l.interval
  pub earlier : l.from ≢ l.interval → HasCoverLine before l.from
  pub joining : l.from ≢ l.interval → Joins q Tight l.face.kind l.face.a l.face.b l.interval l.from

-- each line meets the rule behind those before it
abbrev pub MeetsCoverRules : ℕ → (ℕ → ℕ → Type 0) → List CoverLine → Type 0
MeetsCoverRules q Tight lines =
    (before : List CoverLine) (l : CoverLine) (after : List CoverLine) →
    lines ≡ before ++ l ∷ after →
    MeetsCoverRule q Tight before l
