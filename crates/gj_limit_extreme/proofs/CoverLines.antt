-- The cover lines of a function that may jump: what each says, and what they cover.
use Rattle.std.proofs.Common.{◌≡◌, ◌≢◌, ℕ, ◌+◌, ◌%◌, ◌<◌, inl, inr, List, ◌∷◌, ◌++◌, length, sym, subst}
use Rattle.gj_cover.proofs.Parts.{Intervals, IsTriangle, one_of, one_covered}
use Rattle.gj_shape.specs.Cover.{HasCoverLine, HasComponent, Joins as JoinsPairs}
use Rattle.gj_shape.specs.Cover.HasComponent.{opened, joined}
use Rattle.gj_shape.specs.FunctionData.{FunctionData}
use Rattle.gj_shape.specs.declared.extremality.CoverLine.{CoverLine}
use Rattle.gj_shape.specs.declared.faces.FaceKind.{FaceKind}
use Rattle.gj_shape.specs.declared.faces.FaceKind.TheVariants.{Vertex, Horizontal, Vertical, Diagonal, Lower, Upper}
use Rattle.gj_theory.specs.CoverRules.{MeetsCoverRule}
use Rattle.gj_theory.proofs.LineComponents.{line_of_component}
use Rattle.gj_theory.proofs.LineIntervals.{lines_for_all}
use Rattle.gj_jumps.specs.LimitCover.{IsTightAt, IsCoveredByLimits}
use Rattle.gj_limit_cover.specs.LimitCover.{LinksBy, Joins, Covers, IsCovered, IsNextLine, AreCoverLines}
use Rattle.gj_limit_cover.proofs.Joining.{covered_on, covered_directly}
use Rattle.gj_limit_proof.specs.LimitRules.{MeetsLimitCover}
use Rattle.gj_limit_proof.proofs.CoveredFaces.{across, directly}
use Rattle.gj_extreme.proofs.ClaimTexts.{each_line}

-- ---- the intervals of a face

intervals_linked : (q : ℕ) (T : FaceKind → ℕ → ℕ → ℕ → Type 0) (kind : FaceKind) (a b i j : ℕ) →
    LinksBy q T kind a b i j →
    Intervals q kind a b i × Intervals q kind a b j
intervals_linked q T Vertex a b i j h = absurd h
intervals_linked q T Horizontal a b i j (x, y, e, g) = (inl e, inr g)
intervals_linked q T Vertical a b i j (x, y, e, g) = (inl e, inr g)
intervals_linked q T Diagonal a b i j (x, y, e, g) = (inl e, inr g)
intervals_linked q T Lower a b i j (inl (x, y, e, g)) = (inl e, inr (inr g))
intervals_linked q T Lower a b i j (inr (inl (x, y, e, g))) = (inr (inl e), inr (inr g))
intervals_linked q T Lower a b i j (inr (inr (x, y, e, g))) = (inl e, inr (inl g))
intervals_linked q T Upper a b i j (inl (x, y, e, g)) = (inl e, inr (inr g))
intervals_linked q T Upper a b i j (inr (inl (x, y, e, g))) = (inr (inl e), inr (inr g))
intervals_linked q T Upper a b i j (inr (inr (x, y, e, g))) = (inl e, inr (inl g))

intervals_joined : (q : ℕ) (T : FaceKind → ℕ → ℕ → ℕ → Type 0) (kind : FaceKind) (a b i j : ℕ) →
    Joins q T kind a b i j →
    Intervals q kind a b i × Intervals q kind a b j
intervals_joined q T kind a b i j (inl h) = intervals_linked q T kind a b i j h
intervals_joined q T kind a b i j (inr h) = let both = intervals_linked q T kind a b j i h in
    (both.1, both.0)

intervals_covered : (q : ℕ) (T : FaceKind → ℕ → ℕ → ℕ → Type 0) (kind : FaceKind) (a b i : ℕ) →
    Covers q T kind a b i →
    IsTriangle kind × Intervals q kind a b i
intervals_covered q T Vertex a b i h = absurd h
intervals_covered q T Horizontal a b i h = absurd h
intervals_covered q T Vertical a b i h = absurd h
intervals_covered q T Diagonal a b i h = absurd h
intervals_covered q T Lower a b i h = (tt, h.1)
intervals_covered q T Upper a b i h = (tt, h.1)

not_vertex : (q : ℕ) (kind : FaceKind) (a b i : ℕ) → Intervals q kind a b i → kind ≢ Vertex
not_vertex q Vertex a b i h e = h
not_vertex q Horizontal a b i h e = absurd cc
not_vertex q Vertical a b i h e = absurd cc
not_vertex q Diagonal a b i h e = absurd cc
not_vertex q Lower a b i h e = absurd cc
not_vertex q Upper a b i h e = absurd cc

-- ---- a line behind those before it

module _ (q : ℕ) (T : FaceKind → ℕ → ℕ → ℕ → Type 0) (before : List CoverLine) (l : CoverLine) where
  pub line_new : IsNextLine q T before l → HasCoverLine before l.interval → ⊥
  line_new (inl h) = h.from.holds.no_line
  line_new (inr h) = h.interval.holds.no_line

  pub line_opening : IsNextLine q T before l → l.from ≡ l.interval →
      Covers q T l.face.kind l.face.a l.face.b l.interval
  line_opening (inl h) same =
      absurd (h.from.holds.no_line (subst (HasCoverLine before) same h.from.holds.line))
  line_opening (inr h) same = h.face.holds

  pub line_earlier : IsNextLine q T before l → l.from ≢ l.interval → HasCoverLine before l.from
  line_earlier (inl h) other = h.from.holds.line
  line_earlier (inr h) other = absurd (other h.from)

  -- whichever choice its face is
  pub line_joining : IsNextLine q T before l → l.from ≢ l.interval →
      Joins q T l.face.kind l.face.a l.face.b l.interval l.from
  line_joining (inl h) other =
      elim h.face [ inl additive ↦ additive.holds.1 | inr any ↦ any.1.holds.1 ]
  line_joining (inr h) other = absurd (other h.from)

  -- the rule for lines of a continuous function, if all pairs of points were tight
  line_meets : IsNextLine q T before l → MeetsCoverRule q (λ a b. Unit {0}) before l
  line_meets h = record {
    additive = λ k d low. tt;
    new = line_new h;
    opening = λ same.
        let parts = intervals_covered q T l.face.kind l.face.a l.face.b l.interval
        (line_opening h same) in record {
          additive = λ k d low. tt;
          projection = one_covered q l.face.kind l.face.a l.face.b l.interval parts.0 parts.1;
        };
    earlier = line_earlier h;
    joining = λ other.
        let parts = intervals_joined q T l.face.kind l.face.a l.face.b l.interval l.from
        (line_joining h other) in record {
          additive = λ k d low. tt;
          first = one_of q l.face.kind l.face.a l.face.b l.interval parts.0;
          second = one_of q l.face.kind l.face.a l.face.b l.from parts.1;
        };
  }

  -- its intervals are below the order
  pub interval_within : IsNextLine q T before l → l.interval < q
  interval_within (inl h) = h.from.holds.first_within
  interval_within (inr h) = h.interval.holds.within

  pub from_within : IsNextLine q T before l → l.from < q
  from_within (inl h) = h.from.holds.second_within
  from_within (inr h) = subst (λ (i : ℕ). i < q) (sym h.from) h.interval.holds.within

  pub line_no_vertex : IsNextLine q T before l → l.face.kind ≢ Vertex
  line_no_vertex (inl h) =
      let joins : Joins q T l.face.kind l.face.a l.face.b l.interval l.from =
      elim h.face [ inl additive ↦ additive.holds.1 | inr any ↦ any.1.holds.1 ] in
      not_vertex q l.face.kind l.face.a l.face.b l.interval
      (intervals_joined q T l.face.kind l.face.a l.face.b l.interval l.from joins).0
  line_no_vertex (inr h) =
      not_vertex q l.face.kind l.face.a l.face.b l.interval
      (intervals_covered q T l.face.kind l.face.a l.face.b l.interval h.face.holds).1

-- the rule for lines of a function that may jump
pub line_meets_cover : (f : FunctionData) (before : List CoverLine) (l : CoverLine) →
    IsNextLine f.order (IsTightAt f) before l →
    MeetsLimitCover f before l
line_meets_cover f before l h = record {
  new = line_new f.order (IsTightAt f) before l h;
  opening = line_opening f.order (IsTightAt f) before l h;
  earlier = line_earlier f.order (IsTightAt f) before l h;
  joining = line_joining f.order (IsTightAt f) before l h;
}

-- ---- all lines

-- an interval with a component is covered
pub component_covered : (q : ℕ) (T : FaceKind → ℕ → ℕ → ℕ → Type 0) (lines : List CoverLine) →
    AreCoverLines q T lines →
    (number i : ℕ) → HasComponent lines number i → IsCovered q T i
component_covered q T lines h number _ (opened before l after place same counted) =
    covered_directly q T l.interval (
      l.face.kind,
      l.face.a,
      l.face.b,
      line_opening q T before l
          (h.in_turn before l after place) same,
    )
component_covered q T lines h number _ (joined before l after place other rest) =
    covered_on q T l.interval l.from (
      l.face.kind,
      l.face.a,
      l.face.b,
      line_joining q T before l
          (h.in_turn before l after place) other,
    )
    (component_covered q T lines h number l.from rest)

pub covered_by_component : (f : FunctionData) (lines : List CoverLine) →
    AreCoverLines f.order (IsTightAt f) lines →
    (number i : ℕ) → HasComponent lines number i → IsCoveredByLimits f i
covered_by_component f lines h number _ (opened before l after place same counted) =
    directly f l.face.kind l.face.a l.face.b l.interval
    (line_opening f.order (IsTightAt f) before l (h.in_turn before l after place) same)
covered_by_component f lines h number _ (joined before l after place other rest) =
    across f l.face.kind l.face.a l.face.b l.interval l.from
    (line_joining f.order (IsTightAt f) before l (h.in_turn before l after place) other)
    (covered_by_component f lines h number l.from rest)

-- if each interval has a component, there are as many lines as intervals
pub lines_are_all : (q : ℕ) (T : FaceKind → ℕ → ℕ → ℕ → Type 0) (lines : List CoverLine) →
    AreCoverLines q T lines →
    ((i : ℕ) → i < q → (n : ℕ) × HasComponent lines n i) → length lines ≡ q
lines_are_all q T lines h numbers =
    lines_for_all q (λ a b. Unit {0}) lines
    (λ before l after place. line_meets q T before l (h.in_turn before l after place))
    (each_line (λ l. l.interval < q) lines
    (λ before l after place. interval_within q T before l (h.in_turn before l after place)))
    (λ i low. let one = numbers i low in line_of_component lines one.0 i one.1)
