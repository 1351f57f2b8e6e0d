-- Joined intervals, and the lists of joined ones that lead from one to another.
use Rattle.std.proofs.Common.{◌≡◌, ℕ, ◌%◌, refl}
use Rattle.gj_shape.specs.Cover.{Joins, AreJoined, Covers, IsDirectlyCovered, here, IsCovered}
use Rattle.gj_shape.specs.declared.faces.FaceKind.{FaceKind}
use Rattle.gj_theory.proofs.CoverPaths.{joined_turned, covered_onward}
use Rattle.gj_cover.proofs.Parts.{corners, additive, corners_same, intervals, one_of, intervals_same, interval_same, covered_one, one_covered, HasPeriod}

-- a face of the square (a, b) that joins stands for one with a and b below q
pub joins_within : (q : ℕ) (T : ℕ → ℕ → Type 0) → HasPeriod q T →
    (kind : FaceKind) (a b c d i j : ℕ) →
    a % q ≡ c % q → b % q ≡ d % q → Joins q T kind a b i j → Joins q T kind c d i j
joins_within q T p kind a b c d i j e g h = record {
  additive = additive T kind c d
      (corners_same q T p kind a b c d e g (corners T kind a b h.additive));
  first = one_of q kind c d i
      (intervals_same q kind a b c d i e g (intervals q kind a b i h.first));
  second = one_of q kind c d j
      (intervals_same q kind a b c d j e g (intervals q kind a b j h.second));
}

pub covers_within : (q : ℕ) (T : ℕ → ℕ → Type 0) → HasPeriod q T →
    (kind : FaceKind) (a b c d i : ℕ) →
    a % q ≡ c % q → b % q ≡ d % q → Covers q T kind a b i → Covers q T kind c d i
covers_within q T p kind a b c d i e g h =
    let at = covered_one q kind a b i h.projection in record {
      additive = additive T kind c d
          (corners_same q T p kind a b c d e g (corners T kind a b h.additive));
      projection = one_covered q kind c d i at.0 (intervals_same q kind a b c d i e g at.1);
    }

-- joined sees no more of the intervals than their rests
pub joined_same : (q : ℕ) (T : ℕ → ℕ → Type 0) (i j k : ℕ) → i % q ≡ k % q → AreJoined q T i j →
    AreJoined q T k j
joined_same q T i j k e (kind, a, b, h) = (
  kind,
  a,
  b,
  record {
    additive = h.additive;
    first = one_of q kind a b k (interval_same q kind a b i k e (intervals q kind a b i h.first));
    second = h.second;
  },
)

pub directly_same : (q : ℕ) (T : ℕ → ℕ → Type 0) (i k : ℕ) → i % q ≡ k % q →
    IsDirectlyCovered q T i →
    IsDirectlyCovered q T k
directly_same q T i k e (kind, a, b, h) =
    let at = covered_one q kind a b i h.projection in (
      kind,
      a,
      b,
      record {
        additive = h.additive;
        projection = one_covered q kind a b k at.0 (interval_same q kind a b i k e at.1);
      },
    )

-- ---- lists that lead from one to another

-- an interval that is joined to a covered one is covered
pub covered_on : (q : ℕ) (T : ℕ → ℕ → Type 0) (i j : ℕ) → AreJoined q T i j → IsCovered q T j →
    IsCovered q T i
covered_on q T i j h =
    covered_onward q T j i (joined_turned q T i j h)

pub covered_directly : (q : ℕ) (T : ℕ → ℕ → Type 0) (i : ℕ) → IsDirectlyCovered q T i →
    IsCovered q T i
covered_directly q T i h = (i, h, here i refl)
