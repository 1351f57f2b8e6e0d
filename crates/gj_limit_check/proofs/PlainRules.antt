-- Cover lines by their intervals alone: the rule of limits gives the rule of pairs for a function of
-- which all pairs are tight.
use Rattle.std.proofs.Common.{◌≡◌, ℕ, ◌+◌, inl, inr, List, [], ◌∷◌, ◌++◌, refl, arith}
use Rattle.gj_shape.specs.Additive.{IsTight, IsAdditive}
use Rattle.gj_shape.specs.Cover.{IsOneOf, links_of, triangle_projections}
use Rattle.gj_shape.specs.FunctionData.{FunctionData, function_over, at}
use Rattle.gj_shape.specs.declared.extremality.CoverLine.{CoverLine}
use Rattle.gj_shape.specs.declared.faces.FaceKind.{FaceKind}
use Rattle.gj_shape.specs.declared.faces.FaceKind.TheVariants.{Vertex, Horizontal, Vertical, Diagonal, Lower, Upper}
use Rattle.gj_theory.specs.CoverRules.{MeetsCoverRule, MeetsCoverRules}
use Rattle.gj_jumps.specs.LimitCover.{IsTightAt}
use Rattle.gj_limit_cover.specs.LimitCover.{LinksBy, Joins, Covers}
use Rattle.gj_limit_proof.specs.LimitRules.{MeetsLimitCover}

-- a function of this order that is 0 everywhere
abbrev pub zero_function : ℕ → FunctionData
zero_function q = function_over q 1 1 [] [] []

all_tight : (q a b : ℕ) → IsTight (zero_function q) a b
unfolding at
all_tight q a b = refl

all_additive : (q : ℕ) (kind : FaceKind) (a b : ℕ) → IsAdditive (IsTight (zero_function q)) kind a b
all_additive q kind a b = λ k d low. all_tight q _ _

-- the intervals that a face covers are among its projections
among_projections : (q : ℕ) (T : FaceKind → ℕ → ℕ → ℕ → Type 0) (kind : FaceKind) (a b i : ℕ) →
    Covers q T kind a b i →
    IsOneOf q (triangle_projections kind a b) i
among_projections q T Vertex a b i h = absurd h
among_projections q T Horizontal a b i h = absurd h
among_projections q T Vertical a b i h = absurd h
among_projections q T Diagonal a b i h = absurd h
among_projections q T Lower a b i (_, inl e) = (0, a, omega arith, refl, e)
among_projections q T Lower a b i (_, inr (inl e)) = (1, b, omega arith, refl, e)
among_projections q T Lower a b i (_, inr (inr e)) = (2, a + b, omega arith, refl, e)
among_projections q T Upper a b i (_, inl e) = (0, a, omega arith, refl, e)
among_projections q T Upper a b i (_, inr (inl e)) = (1, b, omega arith, refl, e)
among_projections q T Upper a b i (_, inr (inr e)) = (2, a + b + 1, omega arith, refl, e)

-- those that an edge links are among those that the face links or on which it projects
abbrev AreAmong : ℕ → FaceKind → ℕ → ℕ → ℕ → ℕ → Type 0
AreAmong q kind a b i j =
    IsOneOf q (links_of kind a b ++ triangle_projections kind a b) i
    × IsOneOf q (links_of kind a b ++ triangle_projections kind a b) j

among_links : (q : ℕ) (T : FaceKind → ℕ → ℕ → ℕ → Type 0) (kind : FaceKind) (a b i j : ℕ) →
    LinksBy q T kind a b i j →
    AreAmong q kind a b i j
among_links q T Vertex a b i j h = absurd h
among_links q T Horizontal a b i j (_, _, e, g) =
    ((0, a, omega arith, refl, e), (1, a + b, omega arith, refl, g))
among_links q T Vertical a b i j (_, _, e, g) =
    ((0, b, omega arith, refl, e), (1, a + b, omega arith, refl, g))
among_links q T Diagonal a b i j (_, _, e, g) =
    ((0, a, omega arith, refl, e), (1, b, omega arith, refl, g))
among_links q T Lower a b i j (inl (_, _, e, g)) =
    ((0, a, omega arith, refl, e), (2, a + b, omega arith, refl, g))
among_links q T Lower a b i j (inr (inl (_, _, e, g))) =
    ((1, b, omega arith, refl, e), (2, a + b, omega arith, refl, g))
among_links q T Lower a b i j (inr (inr (_, _, e, g))) =
    ((0, a, omega arith, refl, e), (1, b, omega arith, refl, g))
among_links q T Upper a b i j (inl (_, _, e, g)) =
    ((0, a, omega arith, refl, e), (2, a + b + 1, omega arith, refl, g))
among_links q T Upper a b i j (inr (inl (_, _, e, g))) =
    ((1, b, omega arith, refl, e), (2, a + b + 1, omega arith, refl, g))
among_links q T Upper a b i j (inr (inr (_, _, e, g))) =
    ((0, a, omega arith, refl, e), (1, b, omega arith, refl, g))

among_joins : (q : ℕ) (T : FaceKind → ℕ → ℕ → ℕ → Type 0) (kind : FaceKind) (a b i j : ℕ) →
    Joins q T kind a b i j →
    AreAmong q kind a b i j
among_joins q T kind a b i j (inl h) = among_links q T kind a b i j h
among_joins q T kind a b i j (inr h) = let both = among_links q T kind a b j i h in (both.1, both.0)

-- one line
pub plain_rule : (f : FunctionData) (before : List CoverLine) (l : CoverLine) →
    MeetsLimitCover f before l →
    MeetsCoverRule f.order (IsTight (zero_function f.order)) before l
plain_rule f before l h =
    let q = f.order in
    let additive = all_additive q l.face.kind l.face.a l.face.b in
    record {
      additive = additive;
      new = h.new;
      opening = λ same. record {
        additive = additive;
        projection = among_projections q (IsTightAt f) l.face.kind l.face.a l.face.b l.interval
            (h.opening same);
      };
      earlier = h.earlier;
      joining = λ other.
          let both = among_joins q (IsTightAt f) l.face.kind l.face.a l.face.b l.interval l.from
          (h.joining other) in
          record { additive = additive; first = both.0; second = both.1 };
    }

-- each line meets the rule of limits behind those before it
abbrev pub MeetLimitCovers : FunctionData → List CoverLine → Type 0
MeetLimitCovers f lines =
    (before : List CoverLine) (l : CoverLine) (after : List CoverLine) →
    lines ≡ before ++ l ∷ after →
    MeetsLimitCover f before l

pub plain_rules : (f : FunctionData) (lines : List CoverLine) → MeetLimitCovers f lines →
    MeetsCoverRules f.order (IsTight (zero_function f.order)) lines
plain_rules f lines rules before l after place = plain_rule f before l (rules before l after place)
