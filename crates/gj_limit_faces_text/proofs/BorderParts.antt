-- Which faces are parts of others: in the border of one of higher dimension on which the slack is 0,
-- too.
use Rattle.std.proofs.Common.{◌≡◌, ◌⊎◌, inl, inr, ℕ, ◌+◌, ◌-◌, ◌%◌, ◌<◌, Bool, true, false, not, ◌||◌, ◌&&◌, IsTrue, List, [], ◌∷◌, get_or, length, All, refl, sym, ap, subst, subst₂, lit<, ◌∙◌, arith}
use Rattle.std.proofs.Math.Nat.{mod-eq_of_lt, mod-lt}
use Rattle.std.proofs.lemmas.List.Elements.{All-nil, All-cons}
use Rattle.gj_shape.specs.Additive.{IsSameFace, border_of}
use Rattle.gj_shape.specs.FunctionData.{FunctionData, IsWithinBounds}
use Rattle.gj_shape.specs.declared.faces.Face.{Face}
use Rattle.gj_shape.specs.declared.faces.FaceKind.{FaceKind}
use Rattle.gj_shape.specs.declared.faces.FaceKind.TheVariants.{Vertex, Horizontal, Vertical, Diagonal, Lower, Upper}
use Rattle.gj_faces.proofs.Maximality.{one_ahead, one_back}
use Rattle.gj_faces.proofs.Periods.{same_sum}
use Rattle.gj_limit_cover.specs.LimitCover.{IsAdditiveFace}
use Rattle.gj_limit_cover.proofs.Complexes.{IsComplex}
use Rattle.gj_limit_faces_text.specs.AdditiveRows.{one_less}

-- limits that are 0 at a corner of a face of a kind
abbrev pub Limits : Type 1
Limits = FaceKind → ℕ → ℕ → ℕ → Type 0

module _ (q : ℕ) (T : Limits) (some : 0 < q) (complex : IsComplex q T) where
  abbrev pub IsOn : FaceKind → ℕ → ℕ → Type 0
  IsOn kind a b = IsAdditiveFace T kind a b

  -- ---- indices modulo the order

  reduced : (kind : FaceKind) (c d : ℕ) → IsOn kind c d → IsOn kind (c % q) (d % q)
  reduced Vertex c d h = complex.reduced Vertex c d 0 h
  reduced Horizontal c d (h, k) =
      (complex.reduced Horizontal c d 0 h, complex.reduced Horizontal c d 1 k)
  reduced Vertical c d (h, k) = (complex.reduced Vertical c d 0 h, complex.reduced Vertical c d 1 k)
  reduced Diagonal c d (h, k) = (complex.reduced Diagonal c d 0 h, complex.reduced Diagonal c d 1 k)
  reduced Lower c d (h, k, l) =
      (complex.reduced Lower c d 0 h, complex.reduced Lower c d 1 k, complex.reduced Lower c d 2 l)
  reduced Upper c d (h, k, l) =
      (complex.reduced Upper c d 0 h, complex.reduced Upper c d 1 k, complex.reduced Upper c d 2 l)

  moved : (kind : FaceKind) (c d i j : ℕ) → IsOn kind c d → c % q ≡ i → d % q ≡ j → IsOn kind i j
  moved kind c d i j h first second = subst₂ (IsOn kind) first second (reduced kind c d h)

  -- the index before one that is one ahead
  before : (c i : ℕ) → i < q → (c + 1) % q ≡ i → c % q ≡ one_less q i
  before c i below e = one_back q c i some (e ∙ sym (mod-eq_of_lt below))

  -- one ahead of the index before
  ahead : (i : ℕ) → (one_less q i + 1) % q ≡ i % q
  ahead i =
      same_sum q (one_less q i) 1 (i + (q - 1)) 1 (mod-eq_of_lt (mod-lt (i + (q - 1)) some)) refl
      ∙ one_ahead q i some

  -- ---- parts

  -- the vertex is an end of an edge on which the slack is 0, or a corner of such a triangle
  abbrev pub IsEdgeEnd : ℕ → ℕ → Type 0
  IsEdgeEnd a b =
      IsOn Horizontal a b ⊎ IsOn Horizontal (one_less q a) b ⊎ IsOn Vertical a b
      ⊎ IsOn Vertical a (one_less q b)
      ⊎ IsOn Diagonal (one_less q a) b ⊎ IsOn Diagonal a (one_less q b)

  abbrev pub IsTriangleCorner : ℕ → ℕ → Type 0
  IsTriangleCorner a b =
      IsOn Lower a b ⊎ IsOn Lower (one_less q a) b ⊎ IsOn Lower a (one_less q b)
      ⊎ IsOn Upper (one_less q a) b
      ⊎ IsOn Upper a (one_less q b) ⊎ IsOn Upper (one_less q a) (one_less q b)

  -- the face is in the border of one on which the slack is 0
  abbrev pub IsPart : FaceKind → ℕ → ℕ → Type 0
  IsPart Vertex a b = IsEdgeEnd a b ⊎ IsTriangleCorner a b
  IsPart Horizontal a b = IsOn Lower a b ⊎ IsOn Upper a (one_less q b)
  IsPart Vertical a b = IsOn Lower a b ⊎ IsOn Upper (one_less q a) b
  IsPart Diagonal a b = IsOn Lower a b ⊎ IsOn Upper a b
  IsPart Lower a b = ⊥
  IsPart Upper a b = ⊥

  -- no face in the border of one on which the slack is 0 is this one
  abbrev pub IsInNoBorder : FaceKind → ℕ → ℕ → Type 0
  IsInNoBorder kind a b = (other : FaceKind) (c d : ℕ) → IsOn other c d →
      All (λ face. IsSameFace q face (kind, a, b) → ⊥) (border_of other c d)

  -- ---- a part is in a border

  same : (kind : FaceKind) (i j a b : ℕ) → i % q ≡ a % q → j % q ≡ b % q →
      IsSameFace q (kind, i, j) (kind, a, b)
  same kind i j a b first second =
      record { kind = refl; first_index = first; second_index = second }

  module _ (a b : ℕ) where
    w : ℕ
    w = one_less q a

    s : ℕ
    s = one_less q b

    edge_end : IsEdgeEnd a b → IsInNoBorder Vertex a b → ⊥
    unfolding w s
    edge_end (inl h) none =
        none Horizontal a b h 0 (Vertex, 0, 0) (lit< tt) (same Vertex a b a b refl refl)
    edge_end (inr (inl h)) none =
        none Horizontal w b h 1 (Vertex, 0, 0) (lit< tt) (same Vertex (w + 1) b a b (ahead a) refl)
    edge_end (inr (inr (inl h))) none =
        none Vertical a b h 0 (Vertex, 0, 0) (lit< tt) (same Vertex a b a b refl refl)
    edge_end (inr (inr (inr (inl h)))) none =
        none Vertical a s h 1 (Vertex, 0, 0) (lit< tt) (same Vertex a (s + 1) a b refl (ahead b))
    edge_end (inr (inr (inr (inr (inl h))))) none =
        none Diagonal w b h 0 (Vertex, 0, 0) (lit< tt) (same Vertex (w + 1) b a b (ahead a) refl)
    edge_end (inr (inr (inr (inr (inr h))))) none =
        none Diagonal a s h 1 (Vertex, 0, 0) (lit< tt) (same Vertex a (s + 1) a b refl (ahead b))

    triangle_corner : IsTriangleCorner a b → IsInNoBorder Vertex a b → ⊥
    unfolding w s
    triangle_corner (inl h) none =
        none Lower a b h 0 (Vertex, 0, 0) (lit< tt) (same Vertex a b a b refl refl)
    triangle_corner (inr (inl h)) none =
        none Lower w b h 1 (Vertex, 0, 0) (lit< tt) (same Vertex (w + 1) b a b (ahead a) refl)
    triangle_corner (inr (inr (inl h))) none =
        none Lower a s h 2 (Vertex, 0, 0) (lit< tt) (same Vertex a (s + 1) a b refl (ahead b))
    triangle_corner (inr (inr (inr (inl h)))) none =
        none Upper w b h 0 (Vertex, 0, 0) (lit< tt) (same Vertex (w + 1) b a b (ahead a) refl)
    triangle_corner (inr (inr (inr (inr (inl h))))) none =
        none Upper a s h 1 (Vertex, 0, 0) (lit< tt) (same Vertex a (s + 1) a b refl (ahead b))
    triangle_corner (inr (inr (inr (inr (inr h))))) none =
        none Upper w s h 2 (Vertex, 0, 0) (lit< tt)
        (same Vertex (w + 1) (s + 1) a b (ahead a) (ahead b))

    pub part_is_in_a_border : (kind : FaceKind) → IsPart kind a b → IsInNoBorder kind a b → ⊥
    unfolding w s
    part_is_in_a_border Vertex (inl h) none = edge_end h none
    part_is_in_a_border Vertex (inr h) none = triangle_corner h none
    part_is_in_a_border Horizontal (inl h) none =
        none Lower a b h 3 (Vertex, 0, 0) (lit< tt) (same Horizontal a b a b refl refl)
    part_is_in_a_border Horizontal (inr h) none =
        none Upper a s h 3 (Vertex, 0, 0) (lit< tt) (same Horizontal a (s + 1) a b refl (ahead b))
    part_is_in_a_border Vertical (inl h) none =
        none Lower a b h 4 (Vertex, 0, 0) (lit< tt) (same Vertical a b a b refl refl)
    part_is_in_a_border Vertical (inr h) none =
        none Upper w b h 4 (Vertex, 0, 0) (lit< tt) (same Vertical (w + 1) b a b (ahead a) refl)
    part_is_in_a_border Diagonal (inl h) none =
        none Lower a b h 5 (Vertex, 0, 0) (lit< tt) (same Diagonal a b a b refl refl)
    part_is_in_a_border Diagonal (inr h) none =
        none Upper a b h 5 (Vertex, 0, 0) (lit< tt) (same Diagonal a b a b refl refl)
    part_is_in_a_border Lower h none = h
    part_is_in_a_border Upper h none = h

  -- ---- what is in a border is a part

  -- a face of a border is a part wherever its indices modulo the order are
  abbrev IsPartAt : FaceKind × ℕ × ℕ → Type 0
  IsPartAt face = (a b : ℕ) → a < q → b < q → face.1 % q ≡ a → face.2 % q ≡ b → IsPart face.0 a b

  AreParts : List (FaceKind × ℕ × ℕ) → Type 0
  AreParts [] = Unit {0}
  AreParts (x ∷ xs) = IsPartAt x × AreParts xs

  all_parts : (xs : List (FaceKind × ℕ × ℕ)) → AreParts xs → All IsPartAt xs
  unfolding AreParts
  all_parts [] h = All-nil IsPartAt
  all_parts (x ∷ xs) h = All-cons IsPartAt x xs h.0 (all_parts xs h.1)

  border_are_parts : (kind : FaceKind) (c d : ℕ) → IsOn kind c d → AreParts (border_of kind c d)
  unfolding AreParts
  border_are_parts Vertex c d h = tt
  border_are_parts Horizontal c d h = (
    λ a b x y e g. inl (inl (moved Horizontal c d a b h e g)),
    (
      λ a b x y e g. inl (inr (inl (moved Horizontal c d (one_less q a) b h (before c a x e) g))),
      tt,
    ),
  )
  border_are_parts Vertical c d h = (
    λ a b x y e g. inl (inr (inr (inl (moved Vertical c d a b h e g)))),
    (
      λ a b x y e g. inl (inr
          (inr (inr (inl (moved Vertical c d a (one_less q b) h e (before d b y g)))))),
      tt,
    ),
  )
  border_are_parts Diagonal c d h = (
    λ a b x y e g. inl (inr
        (inr (inr (inr (inl (moved Diagonal c d (one_less q a) b h (before c a x e) g)))))),
    (
      λ a b x y e g. inl (inr
          (inr (inr (inr (inr (moved Diagonal c d a (one_less q b) h e (before d b y g))))))),
      tt,
    ),
  )
  border_are_parts Lower c d h = (
    λ a b x y e g. inr (inl (moved Lower c d a b h e g)),
    (
      λ a b x y e g. inr (inr (inl (moved Lower c d (one_less q a) b h (before c a x e) g))),
      (
        λ a b x y e g. inr (inr
            (inr (inl (moved Lower c d a (one_less q b) h e (before d b y g))))),
        (
          λ a b x y e g. inl (moved Lower c d a b h e g),
          (
            λ a b x y e g. inl (moved Lower c d a b h e g),
            (λ a b x y e g. inl (moved Lower c d a b h e g), tt),
          ),
        ),
      ),
    ),
  )
  border_are_parts Upper c d h = (
    λ a b x y e g. inr (inr
        (inr (inr (inl (moved Upper c d (one_less q a) b h (before c a x e) g))))),
    (
      λ a b x y e g. inr (inr
          (inr (inr (inr (inl (moved Upper c d a (one_less q b) h e (before d b y g))))))),
      (
        λ a b x y e g. inr (inr
            (inr (inr (inr (inr (moved Upper c d (one_less q a) (one_less q b) h (before c a x e)
            (before d b y g))))))),
        (
          λ a b x y e g. inr (moved Upper c d a (one_less q b) h e (before d b y g)),
          (
            λ a b x y e g. inr (moved Upper c d (one_less q a) b h (before c a x e) g),
            (λ a b x y e g. inr (moved Upper c d a b h e g), tt),
          ),
        ),
      ),
    ),
  )

  border_is_part : (kind : FaceKind) (c d : ℕ) → IsOn kind c d → All IsPartAt (border_of kind c d)
  border_is_part kind c d h = all_parts (border_of kind c d) (border_are_parts kind c d h)

  pub in_no_border : (kind : FaceKind) (a b : ℕ) → a < q → b < q → (IsPart kind a b → ⊥) →
      IsInNoBorder kind a b
  in_no_border kind a b first second alone other c d h k default below is =
      let part = border_is_part other c d h k default below a b first second
      (is.first_index ∙ mod-eq_of_lt first)
      (is.second_index ∙ mod-eq_of_lt second) in
      alone (subst (λ (x : FaceKind). IsPart x a b) is.kind part)
