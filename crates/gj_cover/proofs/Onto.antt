-- The intervals of a face as those on which it projects.
use Rattle.std.proofs.Common.{◌≡◌, ℕ, ◌⊎◌, ◌+◌, ◌%◌, ◌<◌, ◌++◌, Bool, true, Option, Some, None, eqb, eqb-true, eq-eqb, sym, ap, ◌∙◌, inl, inr}
use Rattle.std.specs.Option.{option_eq}
use Rattle.std.proofs.Math.Nat.{mod-eq_of_lt}
use Rattle.gj_shape.specs.Cover.{IsOneOf, links_of, triangle_projections}
use Rattle.gj_shape.specs.declared.faces.FaceKind.{FaceKind}
use Rattle.gj_shape.specs.declared.faces.FaceKind.TheVariants.{Vertex, Horizontal, Vertical, Diagonal, Lower, Upper}
use Rattle.gj_complex.specs.Projections.{projections_of}
use Rattle.gj_cover.proofs.Parts.{Intervals, intervals, one_of}

unwrap : (q c i : ℕ) → i < q → Some (c % q) ≡ Some i → c % q ≡ i % q
unwrap q c i below e = let same : c % q ≡ i = cc in same ∙ sym (mod-eq_of_lt below)

wrap : (q c i : ℕ) → i < q → c % q ≡ i % q → Some (c % q) ≡ Some i
wrap q c i below e = ap Some (e ∙ mod-eq_of_lt below)

onto_second : (q : ℕ) (kind : FaceKind) (a b i : ℕ) → i < q →
    (projections_of q kind a b).y ≡ Some i →
    Intervals q kind a b i
onto_second q Vertex a b i below e = cc
onto_second q Horizontal a b i below e = absurd (cc)
onto_second q Vertical a b i below e = inl (unwrap q b i below e)
onto_second q Diagonal a b i below e = inr (unwrap q b i below e)
onto_second q Lower a b i below e = inr (inl (unwrap q b i below e))
onto_second q Upper a b i below e = inr (inl (unwrap q b i below e))

onto_sum : (q : ℕ) (kind : FaceKind) (a b i : ℕ) → i < q →
    (projections_of q kind a b).sum ≡ Some i →
    Intervals q kind a b i
onto_sum q Vertex a b i below e = cc
onto_sum q Horizontal a b i below e = inr (unwrap q (a + b) i below e)
onto_sum q Vertical a b i below e = inr (unwrap q (a + b) i below e)
onto_sum q Diagonal a b i below e = absurd (cc)
onto_sum q Lower a b i below e = inr (inr (unwrap q (a + b) i below e))
onto_sum q Upper a b i below e = inr (inr (unwrap q (a + b + 1) i below e))

abbrev pub IsOnto : ℕ → FaceKind → ℕ → ℕ → ℕ → Type 0
IsOnto q kind a b i =
    ((projections_of q kind a b).x ≡ Some i)
    ⊎ (((projections_of q kind a b).y ≡ Some i) ⊎ ((projections_of q kind a b).sum ≡ Some i))

onto : (q : ℕ) (kind : FaceKind) (a b i : ℕ) → i < q → Intervals q kind a b i → IsOnto q kind a b i
onto q Vertex a b i below h = absurd h
onto q Horizontal a b i below (inl x) = inl (wrap q a i below x)
onto q Horizontal a b i below (inr x) = inr (inr (wrap q (a + b) i below x))
onto q Vertical a b i below (inl x) = inr (inl (wrap q b i below x))
onto q Vertical a b i below (inr x) = inr (inr (wrap q (a + b) i below x))
onto q Diagonal a b i below (inl x) = inl (wrap q a i below x)
onto q Diagonal a b i below (inr x) = inr (inl (wrap q b i below x))
onto q Lower a b i below (inl x) = inl (wrap q a i below x)
onto q Lower a b i below (inr (inl x)) = inr (inl (wrap q b i below x))
onto q Lower a b i below (inr (inr x)) = inr (inr (wrap q (a + b) i below x))
onto q Upper a b i below (inl x) = inl (wrap q a i below x)
onto q Upper a b i below (inr (inl x)) = inr (inl (wrap q b i below x))
onto q Upper a b i below (inr (inr x)) = inr (inr (wrap q (a + b + 1) i below x))

abbrev pub IsOneOfAll : ℕ → FaceKind → ℕ → ℕ → ℕ → Type 0
IsOneOfAll q kind a b i = IsOneOf q (links_of kind a b ++ triangle_projections kind a b) i

pub one_by_second : (q : ℕ) (kind : FaceKind) (a b i : ℕ) → i < q →
    (projections_of q kind a b).y ≡ Some i → IsOneOfAll q kind a b i
one_by_second q kind a b i below e = one_of q kind a b i (onto_second q kind a b i below e)

pub one_by_sum : (q : ℕ) (kind : FaceKind) (a b i : ℕ) → i < q →
    (projections_of q kind a b).sum ≡ Some i → IsOneOfAll q kind a b i
one_by_sum q kind a b i below e = one_of q kind a b i (onto_sum q kind a b i below e)

pub onto_one : (q : ℕ) (kind : FaceKind) (a b i : ℕ) → i < q → IsOneOfAll q kind a b i →
    IsOnto q kind a b i
onto_one q kind a b i below h = onto q kind a b i below (intervals q kind a b i h)

-- ---- tests

-- a test for a number
pub tested : (r : Bool) (x : Option ℕ) (i : ℕ) → r ≡ option_eq eqb x (Some i) → r ≡ true →
    x ≡ Some i
tested r None i e h = cc
tested r (Some y) i e h = ap Some (eqb-true y i (sym e ∙ h))

pub passed : (r : Bool) (x : Option ℕ) (i : ℕ) → r ≡ option_eq eqb x (Some i) → x ≡ Some i →
    r ≡ true
passed r None i e h = cc
passed r (Some y) i e h = let same : y ≡ i = cc in e ∙ eq-eqb y i same
