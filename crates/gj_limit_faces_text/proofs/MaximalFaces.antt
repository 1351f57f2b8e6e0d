-- The rows of a function tell which of its faces are maximal.
use Rattle.std.proofs.Common.{◌≡◌, ◌↔◌, ◌⊎◌, inl, inr, ℕ, ◌+◌, ◌-◌, ◌<◌, Bool, true, false, not, ◌||◌, ◌&&◌, IsTrue, refl, sym, subst, ◌∙◌, arith}
use Rattle.std.proofs.Math.Nat.{mod-lt}
use Rattle.gj_shape.specs.FunctionData.{FunctionData, IsWithinBounds}
use Rattle.gj_shape.specs.declared.faces.FaceKind.{FaceKind}
use Rattle.gj_shape.specs.declared.faces.FaceKind.TheVariants.{Vertex, Horizontal, Vertical, Diagonal, Lower, Upper}
use Rattle.gj_jumps.specs.LimitCover.{IsTightAt}
use Rattle.gj_limit_cover.proofs.Complexes.{complex_of}
use Rattle.gj_limit_faces_text.specs.AdditiveRows.{AreRowsAt, IsAdditiveRow, is_edge_end, is_in, is_part, is_triangle_corner, one_less}
use Rattle.gj_limit_faces_text.specs.LimitFacesText.{IsAdditiveIn, IsMaximalByLimits}
use Rattle.gj_limit_faces_text.specs.declared.additive_row.AdditiveRow.{AdditiveRow}
use Rattle.gj_limit_faces_text.proofs.BorderParts as parts

-- one of two tests, each of which tells something
either : (x y : Bool) (P Q : Type 0) → (IsTrue x ↔ P) → (IsTrue y ↔ Q) → (IsTrue (x || y) ↔ (P ⊎ Q))
either true y P Q h k = (λ yes. inl (h.0 refl), λ p. refl)
either false y P Q h k =
    (λ yes. inr (k.0 yes), λ p. elim p [ inl a ↦ absurd (let wrong = h.1 a in cc) | inr b ↦ k.1 b ])

-- one test, and not another
one_alone : (x y : Bool) (P Q R : Type 0) → (IsTrue x ↔ P) → (IsTrue y ↔ Q) → (P → (Q → ⊥) → R) →
    (R → P × (Q → ⊥)) → (IsTrue (x && not y) ↔ R)
one_alone false y P Q R h k to from = (
  λ yes. absurd (let wrong : false ≡ true = yes in cc),
  λ r. absurd
      (let wrong = h.1 (from r).0 in cc),
)
one_alone true true P Q R h k to from =
    (λ yes. absurd (let wrong : false ≡ true = yes in cc), λ r. absurd ((from r).1 (k.0 refl)))
one_alone true false P Q R h k to from =
    (λ yes. to (h.0 refl) (λ q. let wrong = k.1 q in cc), λ r. refl)

module _ (f : FunctionData) (bounds : IsWithinBounds f) (a b : ℕ) (first : a < f.order)
    (second : b < f.order) (here before : AdditiveRow)
    (is_here : IsAdditiveRow f a here) (is_before : IsAdditiveRow f (one_less f.order a) before)
  where
    some : 0 < f.order
    some = omega arith

    back_below : one_less f.order b < f.order
    back_below = mod-lt (b + (f.order - 1)) some

    -- at an index below the order
    on : (kind : FaceKind) (j : ℕ) → j < f.order →
        (IsTrue (is_in here kind j) ↔ IsAdditiveIn f kind a j)
    on kind j below = (λ yes. ((is_here kind j).0 yes).1, λ h. (is_here kind j).1 (below, h))

    off : (kind : FaceKind) (j : ℕ) → j < f.order →
        (IsTrue (is_in before kind j) ↔ IsAdditiveIn f kind (one_less f.order a) j)
    off kind j below = (λ yes. ((is_before kind j).0 yes).1, λ h. (is_before kind j).1 (below, h))

    -- the face is a part by the limits of the function
    IsPart : FaceKind → Type 0
    IsPart kind = parts.IsPart f.order (IsTightAt f) some (complex_of f bounds) kind a b

    edge_told : IsTrue (is_edge_end here before b (one_less f.order b))
        ↔ parts.IsEdgeEnd f.order (IsTightAt f) some (complex_of f bounds) a b
    edge_told =
        either _ _ _ _ (on Horizontal b second)
        (either _ _ _ _ (off Horizontal b second) (either _ _ _ _ (on Vertical b second)
        (either _ _ _ _ (on Vertical (one_less f.order b) back_below)
        (either _ _ _ _ (off Diagonal b second)
        (on Diagonal (one_less f.order b) back_below)))))

    corner_told : IsTrue (is_triangle_corner here before b (one_less f.order b))
        ↔ parts.IsTriangleCorner f.order (IsTightAt f) some (complex_of f bounds) a b
    corner_told =
        either _ _ _ _ (on Lower b second)
        (either _ _ _ _ (off Lower b second)
        (either _ _ _ _ (on Lower (one_less f.order b) back_below)
        (either _ _ _ _ (off Upper b second)
        (either _ _ _ _ (on Upper (one_less f.order b) back_below)
        (off Upper (one_less f.order b) back_below)))))

    none_told : IsTrue false ↔ ⊥
    none_told = (λ yes. let wrong : false ≡ true = yes in cc, λ h. absurd h)

    part_told : (kind : FaceKind) →
        (IsTrue (is_part here before kind b (one_less f.order b)) ↔ IsPart kind)
    unfolding IsPart
    part_told Vertex = either _ _ _ _ edge_told corner_told
    part_told Horizontal =
        either _ _ _ _ (on Lower b second) (on Upper (one_less f.order b) back_below)
    part_told Vertical = either _ _ _ _ (on Lower b second) (off Upper b second)
    part_told Diagonal = either _ _ _ _ (on Lower b second) (on Upper b second)
    part_told Lower = none_told
    part_told Upper = none_told

    maximal_told : (kind : FaceKind) →
        (IsTrue (is_in here kind b && not (is_part here before kind b (one_less f.order b)))
        ↔ IsMaximalByLimits f (record { kind = kind; a = a; b = b }))
    unfolding IsPart
    maximal_told kind =
        one_alone _ _ _ _ _ (on kind b second) (part_told kind)
        (λ additive alone. record {
          additive = additive;
          maximal = parts.in_no_border f.order (IsTightAt f) some
              (complex_of f bounds) kind a b first second alone;
        })
        (λ h. (
          h.additive,
          λ part. parts.part_is_in_a_border f.order (IsTightAt f) some
              (complex_of f bounds) a b kind part h.maximal,
        ))

-- by the tests of the rows
pub told_by_rows : (f : FunctionData) (a b back : ℕ) (here before : AdditiveRow) →
    AreRowsAt f a b back here before → (kind : FaceKind) (x y : Bool) →
    x ≡ is_in here kind b → y ≡ is_part here before kind b back →
    (IsTrue (x && not y) ↔ IsMaximalByLimits f (record { kind = kind; a = a; b = b }))
told_by_rows f a b back here before r kind x y first second =
    rw (first, second, r.is_back)
    (maximal_told f r.bounds a b r.first r.second here before r.is_here r.is_before kind)
