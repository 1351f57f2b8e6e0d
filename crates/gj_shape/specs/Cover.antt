-- Covered intervals and their components (Light on the Infinite Group Relaxation I and II; the
-- order of the lines is own). The interval a is that from a/q to (a + 1)/q. Nothing here looks at a
-- function but by the order q and its tight pairs.
use Rattle.std.specs.Prelude.{ℕ, ◌≡◌, ◌≢◌, ◌⊎◌, ◌+◌, ◌%◌, ◌<◌, ◌==◌, List, [], ◌∷◌, ◌++◌, All, Any, count_by}
use Rattle.gj_lemmas.specs.FirstThatFails.{IsFirstFailing}
use Rattle.gj_shape.specs.Additive.{IsAdditive}
use Rattle.gj_shape.specs.FirstViolation.{IsLeastFrom}
use Rattle.gj_shape.specs.declared.faces.FaceKind.{FaceKind}
use Rattle.gj_shape.specs.declared.faces.FaceKind.TheVariants.{Horizontal, Vertical, Diagonal, Lower, Upper}
use Rattle.gj_shape.specs.WalkOrder.{faces_of}
use Rattle.gj_shape.specs.declared.faces.Face.{Face}
use Rattle.gj_shape.specs.declared.extremality.CoverLine.{CoverLine}

-- the intervals on which a triangle projects: of x, of y and of x + y
abbrev pub triangle_projections : FaceKind → ℕ → ℕ → List ℕ
triangle_projections Lower a b = a ∷ b ∷ (a + b) ∷ []
triangle_projections Upper a b = a ∷ b ∷ (a + b + 1) ∷ []
triangle_projections kind a b = []

-- the intervals that an edge links
abbrev pub links_of : FaceKind → ℕ → ℕ → List ℕ
links_of Horizontal a b = a ∷ (a + b) ∷ []
links_of Vertical a b = b ∷ (a + b) ∷ []
links_of Diagonal a b = a ∷ b ∷ []
links_of kind a b = []

-- the interval is one of them, indices modulo the order
abbrev pub IsOneOf : ℕ → List ℕ → ℕ → Type 0
IsOneOf q intervals i = Any (λ a. a % q ≡ i % q) intervals

-- the face is additive, and links both intervals or projects on both
pub record Joins (q : ℕ) (Tight : ℕ → ℕ → Type 0) (kind : FaceKind) (a b i j : ℕ) : Type 0 where
  pub additive : IsAdditive Tight kind a b
  pub first : IsOneOf q (links_of kind a b ++ triangle_projections kind a b) i
  pub second : IsOneOf q (links_of kind a b ++ triangle_projections kind a b) j

abbrev pub AreJoined : ℕ → (ℕ → ℕ → Type 0) → ℕ → ℕ → Type 0
AreJoined q Tight i j = (kind : FaceKind) × (a : ℕ) × (b : ℕ) × Joins q Tight kind a b i j

-- the face is an additive triangle that projects on the interval
pub record Covers (q : ℕ) (Tight : ℕ → ℕ → Type 0) (kind : FaceKind) (a b i : ℕ) : Type 0 where
  pub additive : IsAdditive Tight kind a b
  pub projection : IsOneOf q (triangle_projections kind a b) i

abbrev pub IsDirectlyCovered : ℕ → (ℕ → ℕ → Type 0) → ℕ → Type 0
IsDirectlyCovered q Tight i = (kind : FaceKind) × (a : ℕ) × (b : ℕ) × Covers q Tight kind a b i

-- a list of intervals, each joined to the next, leads to the interval j
pub data LeadsTo (q : ℕ) (Tight : ℕ → ℕ → Type 0) (j : ℕ) : ℕ → Type 0 where
  here : (i : ℕ) → i % q ≡ j % q → LeadsTo q Tight j i
  onward : (i next : ℕ) → AreJoined q Tight i next → LeadsTo q Tight j next → LeadsTo q Tight j i

-- such a list leads from a directly covered interval to this one
abbrev pub IsCovered : ℕ → (ℕ → ℕ → Type 0) → ℕ → Type 0
IsCovered q Tight i = (j : ℕ) × IsDirectlyCovered q Tight j × LeadsTo q Tight i j

-- both are covered, and such a list leads from the one to the other
abbrev pub AreInOneComponent : ℕ → (ℕ → ℕ → Type 0) → ℕ → ℕ → Type 0
AreInOneComponent q Tight i j = IsCovered q Tight i × IsCovered q Tight j × LeadsTo q Tight j i

-- the class of an interval: all to which such lists lead from it
abbrev pub IsInClassOf : ℕ → (ℕ → ℕ → Type 0) → ℕ → ℕ → Type 0
IsInClassOf q Tight i j = LeadsTo q Tight j i

-- ---- cover lines

-- the face has the property, and none before it in walk order has it
pub record IsFirstFace (q : ℕ) (P : FaceKind → ℕ → ℕ → Type 0) (face : Face) : Type 0 where
  pub before : List Face
  pub first : IsFirstFailing (All (λ g. P g.kind g.a g.b → ⊥)) (faces_of q) before face
  pub holds : P face.kind face.a face.b

-- the interval has a line
abbrev pub HasCoverLine : List CoverLine → ℕ → Type 0
HasCoverLine lines i = Any (λ l. l.interval ≡ i) lines

-- an interval without a line that is joined to one with a line
pub record JoinsLines (q : ℕ) (Tight : ℕ → ℕ → Type 0) (lines : List CoverLine) (i j : ℕ) :
    Type 0 where
  pub first_within : i < q
  pub second_within : j < q
  pub no_line : HasCoverLine lines i → ⊥
  pub line : HasCoverLine lines j
  pub joined : AreJoined q Tight i j

-- the line joins the least such interval to the least such, by the first face in walk order that
-- joins the two
pub record IsJoiningLine (q : ℕ) (Tight : ℕ → ℕ → Type 0) (lines : List CoverLine) (l : CoverLine) :
    Type 0 where
  pub interval : IsLeastFrom 0 (λ i. (j : ℕ) × JoinsLines q Tight lines i j) l.interval
  pub from : IsLeastFrom 0 (λ j. JoinsLines q Tight lines l.interval j) l.from
  pub face : IsFirstFace q (λ kind a b. Joins q Tight kind a b l.interval l.from) l.face

-- an interval without a line that is directly covered
pub record IsOpen (q : ℕ) (Tight : ℕ → ℕ → Type 0) (lines : List CoverLine) (i : ℕ) : Type 0 where
  pub within : i < q
  pub no_line : HasCoverLine lines i → ⊥
  pub covered : IsDirectlyCovered q Tight i

-- no line joins; the line opens a component with the least such interval, by the first triangle
-- that covers it
pub record IsOpeningLine (q : ℕ) (Tight : ℕ → ℕ → Type 0) (lines : List CoverLine) (l : CoverLine) :
    Type 0 where
  pub none_joins : (i j : ℕ) → JoinsLines q Tight lines i j → ⊥
  pub interval : IsLeastFrom 0 (IsOpen q Tight lines) l.interval
  pub from : l.from ≡ l.interval
  pub face : IsFirstFace q (λ kind a b. Covers q Tight kind a b l.interval) l.face

-- the line is the next behind these
abbrev pub IsNextLine : ℕ → (ℕ → ℕ → Type 0) → List CoverLine → CoverLine → Type 0
IsNextLine q Tight lines l = IsJoiningLine q Tight lines l ⊎ IsOpeningLine q Tight lines l

-- each line is the next behind those before it, and none is next behind all
pub record AreCoverLines (q : ℕ) (Tight : ℕ → ℕ → Type 0) (lines : List CoverLine) : Type 0 where
  pub in_turn : (before : List CoverLine) (l : CoverLine) (after : List CoverLine) →
      lines ≡ before ++ l ∷ after → IsNextLine q Tight before l
  pub complete : (l : CoverLine) → IsNextLine q Tight lines l → ⊥

-- how many of the lines open a component
abbrev pub components_in : List CoverLine → ℕ
components_in lines = count_by (λ l. l.from == l.interval) lines

-- the number of the interval's component: of the lines that open one, from 0, the one from which
-- lines lead to it
pub data HasComponent (lines : List CoverLine) (number : ℕ) : ℕ → Type 0 where
  opened : (before : List CoverLine) (l : CoverLine) (after : List CoverLine) →
      lines ≡ before ++ l ∷ after →
      l.from ≡ l.interval → number ≡ components_in before → HasComponent lines number l.interval
  joined : (before : List CoverLine) (l : CoverLine) (after : List CoverLine) →
      lines ≡ before ++ l ∷ after →
      l.from ≢ l.interval → HasComponent lines number l.from → HasComponent lines number l.interval
