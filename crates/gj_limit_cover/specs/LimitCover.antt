-- Covered intervals and their components where a function may jump (Basu, Hildebrand and Koeppe,
-- Equivariant Perturbation I; the limits of edges and the order of the lines are own). The interval
-- a is that from a/q to (a + 1)/q. Nothing here looks at a function but by the order q and by T,
-- which says of a face's kind, its square and a corner, from 0 on, whether the limit of the slack
-- from inside the face is 0 there.
use Rattle.std.specs.Prelude.{ℕ, ◌≡◌, ◌⊎◌, ◌+◌, ◌%◌, ◌<◌, Bool, true, false, IsTrue, List, ◌∷◌, ◌++◌}
use Rattle.gj_shape.specs.Cover.{HasCoverLine, IsFirstFace}
use Rattle.gj_shape.specs.FirstViolation.{IsLeastFrom}
use Rattle.gj_shape.specs.declared.extremality.CoverLine.{CoverLine}
use Rattle.gj_shape.specs.declared.faces.Face.{Face}
use Rattle.gj_shape.specs.declared.faces.FaceKind.{FaceKind}
use Rattle.gj_shape.specs.declared.faces.FaceKind.TheVariants.{Vertex, Horizontal, Vertical, Diagonal, Lower, Upper}

-- the corners c and d of a face are tight, and the edge between them links the intervals i and j
abbrev pub LinksAlong : ℕ → (FaceKind → ℕ → ℕ → ℕ → Type 0) → FaceKind → ℕ → ℕ → ℕ → ℕ → ℕ → ℕ → ℕ →
    ℕ → Type 0
LinksAlong q T kind a b c d near far i j =
    T kind a b c × T kind a b d × (near % q ≡ i % q) × (far % q ≡ j % q)

-- an edge of the face does so: an edge with y fixed links the intervals of x and of x + y, one with
-- x fixed those of y and of x + y, and one with x + y fixed those of x and of y
abbrev pub LinksBy : ℕ → (FaceKind → ℕ → ℕ → ℕ → Type 0) → FaceKind → ℕ → ℕ → ℕ → ℕ → Type 0
LinksBy q T Vertex a b i j = ⊥
LinksBy q T Horizontal a b i j = LinksAlong q T Horizontal a b 0 1 a (a + b) i j
LinksBy q T Vertical a b i j = LinksAlong q T Vertical a b 0 1 b (a + b) i j
LinksBy q T Diagonal a b i j = LinksAlong q T Diagonal a b 0 1 a b i j
LinksBy q T Lower a b i j =
    LinksAlong q T Lower a b 0 1 a (a + b) i j ⊎ LinksAlong q T Lower a b 0 2 b (a + b) i j
    ⊎ LinksAlong q T Lower a b 1 2 a b i j
LinksBy q T Upper a b i j =
    LinksAlong q T Upper a b 1 2 a (a + b + 1) i j ⊎ LinksAlong q T Upper a b 0 2 b (a + b + 1) i j
    ⊎ LinksAlong q T Upper a b 0 1 a b i j

-- either way
abbrev pub Joins : ℕ → (FaceKind → ℕ → ℕ → ℕ → Type 0) → FaceKind → ℕ → ℕ → ℕ → ℕ → Type 0
Joins q T kind a b i j = LinksBy q T kind a b i j ⊎ LinksBy q T kind a b j i

-- all corners of the face are tight
abbrev pub IsAdditiveFace : (FaceKind → ℕ → ℕ → ℕ → Type 0) → FaceKind → ℕ → ℕ → Type 0
IsAdditiveFace T Vertex a b = T Vertex a b 0
IsAdditiveFace T Horizontal a b = T Horizontal a b 0 × T Horizontal a b 1
IsAdditiveFace T Vertical a b = T Vertical a b 0 × T Vertical a b 1
IsAdditiveFace T Diagonal a b = T Diagonal a b 0 × T Diagonal a b 1
IsAdditiveFace T Lower a b = T Lower a b 0 × T Lower a b 1 × T Lower a b 2
IsAdditiveFace T Upper a b = T Upper a b 0 × T Upper a b 1 × T Upper a b 2

abbrev pub AreJoined : ℕ → (FaceKind → ℕ → ℕ → ℕ → Type 0) → ℕ → ℕ → Type 0
AreJoined q T i j = (kind : FaceKind) × (a : ℕ) × (b : ℕ) × Joins q T kind a b i j

-- the triangle projects on the interval i, if the sum of its intervals of x and of y is this one
abbrev pub ProjectsOn : ℕ → ℕ → ℕ → ℕ → ℕ → Type 0
ProjectsOn q a b sum i = (a % q ≡ i % q) ⊎ (b % q ≡ i % q) ⊎ (sum % q ≡ i % q)

-- the face is a triangle with all corners tight, and projects on the interval
abbrev pub Covers : ℕ → (FaceKind → ℕ → ℕ → ℕ → Type 0) → FaceKind → ℕ → ℕ → ℕ → Type 0
Covers q T Vertex a b i = ⊥
Covers q T Horizontal a b i = ⊥
Covers q T Vertical a b i = ⊥
Covers q T Diagonal a b i = ⊥
Covers q T Lower a b i = IsAdditiveFace T Lower a b × ProjectsOn q a b (a + b) i
Covers q T Upper a b i = IsAdditiveFace T Upper a b × ProjectsOn q a b (a + b + 1) i

abbrev pub IsDirectlyCovered : ℕ → (FaceKind → ℕ → ℕ → ℕ → Type 0) → ℕ → Type 0
IsDirectlyCovered q T i = (kind : FaceKind) × (a : ℕ) × (b : ℕ) × Covers q T kind a b i

-- a list of intervals, each joined to the next, leads to the interval j
pub data LeadsTo (q : ℕ) (T : FaceKind → ℕ → ℕ → ℕ → Type 0) (j : ℕ) : ℕ → Type 0 where
  here : (i : ℕ) → i % q ≡ j % q → LeadsTo q T j i
  onward : (i next : ℕ) → AreJoined q T i next → LeadsTo q T j next → LeadsTo q T j i

-- such a list leads from a directly covered interval to this one
abbrev pub IsCovered : ℕ → (FaceKind → ℕ → ℕ → ℕ → Type 0) → ℕ → Type 0
IsCovered q T i = (j : ℕ) × IsDirectlyCovered q T j × LeadsTo q T i j

-- both are covered, and such a list leads from the one to the other
abbrev pub AreInOneComponent : ℕ → (FaceKind → ℕ → ℕ → ℕ → Type 0) → ℕ → ℕ → Type 0
AreInOneComponent q T i j = IsCovered q T i × IsCovered q T j × LeadsTo q T j i

-- the class of an interval: all to which such lists lead from it
abbrev pub IsInClassOf : ℕ → (FaceKind → ℕ → ℕ → ℕ → Type 0) → ℕ → ℕ → Type 0
IsInClassOf q T i j = LeadsTo q T j i

-- ---- cover lines

-- an interval without a line that is joined to one with a line
pub record JoinsLines (q : ℕ) (T : FaceKind → ℕ → ℕ → ℕ →
    Type 0) (lines : List CoverLine) (i j : ℕ) :
    Type 0 where
  pub first_within : i < q
  pub second_within : j < q
  pub no_line : HasCoverLine lines i → ⊥
  pub line : HasCoverLine lines j
  pub joined : AreJoined q T i j

-- the face joins the two intervals; with all its corners tight, if that is asked for
abbrev pub JoinsAs : ℕ → (FaceKind → ℕ → ℕ → ℕ → Type 0) → Bool → ℕ → ℕ → FaceKind → ℕ → ℕ → Type 0
JoinsAs q T asked i j kind a b = (IsTrue asked → IsAdditiveFace T kind a b) × Joins q T kind a b i j

-- the face is the first in walk order that joins the two with all its corners tight or, if no face
-- does so, the first that joins them
abbrev pub IsJoiningFace : ℕ → (FaceKind → ℕ → ℕ → ℕ → Type 0) → ℕ → ℕ → Face → Type 0
IsJoiningFace q T i j face =
    IsFirstFace q (JoinsAs q T true i j) face
    ⊎ (((kind : FaceKind) (a b : ℕ) → JoinsAs q T true i j kind a b → ⊥)
    × IsFirstFace q (JoinsAs q T false i j) face)

-- the line joins the least such interval to the least such, by such a face
pub record IsJoiningLine (q : ℕ) (T : FaceKind → ℕ → ℕ → ℕ → Type 0) (lines : List CoverLine)
    (l : CoverLine) : Type 0 where
  pub interval : IsLeastFrom 0 (λ i. (j : ℕ) × JoinsLines q T lines i j) l.interval
  pub from : IsLeastFrom 0 (λ j. JoinsLines q T lines l.interval j) l.from
  pub face : IsJoiningFace q T l.interval l.from l.face

-- an interval without a line that is directly covered
pub record IsOpen (q : ℕ) (T : FaceKind → ℕ → ℕ → ℕ → Type 0) (lines : List CoverLine) (i : ℕ) :
    Type 0 where
  pub within : i < q
  pub no_line : HasCoverLine lines i → ⊥
  pub covered : IsDirectlyCovered q T i

-- no line joins; the line opens a component with the least such interval, by the first triangle
-- that covers it
pub record IsOpeningLine (q : ℕ) (T : FaceKind → ℕ → ℕ → ℕ → Type 0) (lines : List CoverLine)
    (l : CoverLine) : Type 0 where
  pub none_joins : (i j : ℕ) → JoinsLines q T lines i j → ⊥
  pub interval : IsLeastFrom 0 (IsOpen q T lines) l.interval
  pub from : l.from ≡ l.interval
  pub face : IsFirstFace q (λ kind a b. Covers q T kind a b l.interval) l.face

-- the line is the next behind these
abbrev pub IsNextLine : ℕ → (FaceKind → ℕ → ℕ → ℕ → Type 0) → List CoverLine → CoverLine → Type 0
IsNextLine q T lines l = IsJoiningLine q T lines l ⊎ IsOpeningLine q T lines l

-- each line is the next behind those before it, and none is next behind all
pub record AreCoverLines (q : ℕ) (T : FaceKind → ℕ → ℕ → ℕ → Type 0) (lines : List CoverLine) :
    Type 0 where
  pub in_turn : (before : List CoverLine) (l : CoverLine) (after : List CoverLine) →
      lines ≡ before ++ l ∷ after → IsNextLine q T before l
  pub complete : (l : CoverLine) → IsNextLine q T lines l → ⊥
