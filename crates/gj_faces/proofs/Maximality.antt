-- When an additive face lies in the closure of one of higher dimension: by the tight pairs around
-- it.
use Rattle.std.proofs.Common.{◌≡◌, ◌⊎◌, inl, inr, ℕ, ◌+◌, ◌-◌, ◌%◌, ◌<◌, false, List, [], ◌∷◌, get_or, length, All, Any, refl, sym, ap, subst, lit<, ◌∙◌, arith}
use Rattle.std.proofs.Math.Nat.{add-mod_right}
use Rattle.std.proofs.lemmas.Bool.{true≢false}
use Rattle.std.proofs.lemmas.List.Elements.{All-nil, All-cons, All-weaker}
use Rattle.gj_lemmas.proofs.Lists.{All-one, All-two, All-three}
use Rattle.gj_shape.specs.Additive.{IsAdditive, IsSameFace, IsMaximalFace, border_of, edges_of}
use Rattle.gj_shape.specs.Faces.{corners_of}
use Rattle.gj_shape.specs.declared.faces.FaceKind.{FaceKind}
use Rattle.gj_shape.specs.declared.faces.FaceKind.TheVariants.{Vertex, Horizontal, Vertical, Diagonal, Lower, Upper}
use Rattle.gj_faces.specs.Triangles.{is_triangle}
use Rattle.gj_faces.proofs.Periods.{same_sum}
use Rattle.gj_faces.proofs.RunSteps.{IsPeriodic}

-- one index back, modulo the order, and one ahead of that
pub one_ahead : (q b : ℕ) → 0 < q → (b + (q - 1) + 1) % q ≡ b % q
one_ahead q b some =
    let e : b + (q - 1) + 1 ≡ b + q = omega arith in
    ap (λ n. n % q) e ∙ add-mod_right b q

pub one_back : (q c d : ℕ) → 0 < q → (c + 1) % q ≡ d % q → c % q ≡ (d + (q - 1)) % q
one_back q c d some h =
    let e : c + q ≡ c + 1 + (q - 1) = omega arith in
    sym (add-mod_right c q) ∙ ap (λ n. n % q) e ∙ same_sum q (c + 1) (q - 1) d (q - 1) h refl

-- further tight pairs with which the face is part of an additive one of higher dimension
abbrev pub IsExtended : ℕ → (ℕ → ℕ → Type 0) → FaceKind → ℕ → ℕ → Type 0
IsExtended q Tight Vertex a b =
    (Tight (a + 1) b ⊎ Tight (a + (q - 1)) b) ⊎ (Tight a (b + 1) ⊎ Tight a (b + (q - 1)))
    ⊎ (Tight (a + (q - 1)) (b + 1) ⊎ Tight (a + 1) (b + (q - 1)))
IsExtended q Tight Horizontal a b = Tight a (b + 1) ⊎ Tight (a + 1) (b + (q - 1))
IsExtended q Tight Vertical a b = Tight (a + 1) b ⊎ Tight (a + (q - 1)) (b + 1)
IsExtended q Tight Diagonal a b = Tight a b ⊎ Tight (a + 1) (b + 1)
IsExtended q Tight Lower a b = ⊥
IsExtended q Tight Upper a b = ⊥

abbrev pub dimension : FaceKind → ℕ
dimension Vertex = 0
dimension Horizontal = 1
dimension Vertical = 1
dimension Diagonal = 1
dimension Lower = 2
dimension Upper = 2

module _ (q : ℕ) (Tight : ℕ → ℕ → Type 0) (some : 0 < q) (periodic : IsPeriodic q Tight) where
  -- the face's own tight pairs, by the corners
  pub vertex : (a b : ℕ) → Tight a b → IsAdditive Tight Vertex a b
  vertex a b h = All-one (λ c. Tight c.0 c.1) (a, b) h

  pub horizontal : (a b : ℕ) → Tight a b → Tight (a + 1) b → IsAdditive Tight Horizontal a b
  horizontal a b h k = All-two (λ c. Tight c.0 c.1) (a, b) (a + 1, b) h k

  pub vertical : (a b : ℕ) → Tight a b → Tight a (b + 1) → IsAdditive Tight Vertical a b
  vertical a b h k = All-two (λ c. Tight c.0 c.1) (a, b) (a, b + 1) h k

  pub diagonal : (a b : ℕ) → Tight (a + 1) b → Tight a (b + 1) → IsAdditive Tight Diagonal a b
  diagonal a b h k = All-two (λ c. Tight c.0 c.1) (a + 1, b) (a, b + 1) h k

  pub lower : (a b : ℕ) → Tight a b → Tight (a + 1) b → Tight a (b + 1) → IsAdditive Tight Lower a b
  lower a b h k l = All-three (λ c. Tight c.0 c.1) (a, b) (a + 1, b) (a, b + 1) h k l

  pub upper : (a b : ℕ) → Tight (a + 1) b → Tight a (b + 1) → Tight (a + 1) (b + 1) →
      IsAdditive Tight Upper a b
  upper a b h k l = All-three (λ c. Tight c.0 c.1) (a + 1, b) (a, b + 1) (a + 1, b + 1) h k l

  pub corner : (kind : FaceKind) (a b k : ℕ) → k < length (corners_of kind a b) →
      IsAdditive Tight kind a b →
      Tight (get_or (corners_of kind a b) k (0, 0)).0 (get_or (corners_of kind a b) k (0, 0)).1
  corner kind a b k below h = h k (0, 0) below

  -- the same at indices with equal remainders
  at_same : {i j : ℕ} (k l : ℕ) → i % q ≡ k % q → j % q ≡ l % q → Tight i j → Tight k l
  at_same {i} {j} k l first second h = periodic i j k l first second h

  next : (i k : ℕ) → i % q ≡ k % q → (i + 1) % q ≡ (k + 1) % q
  next i k e = same_sum q i 1 k 1 e refl

  back : (i k : ℕ) → i % q ≡ k % q → (i + (q - 1)) % q ≡ (k + (q - 1)) % q
  back i k e = same_sum q i (q - 1) k (q - 1) e refl

  pub extended_at_same : (kind : FaceKind) (c d a b : ℕ) → c % q ≡ a % q → d % q ≡ b % q →
      IsExtended q Tight kind c d → IsExtended q Tight kind a b
  extended_at_same Vertex c d a b e g (inl (inl h)) = inl (inl (at_same (a + 1) b (next c a e) g h))
  extended_at_same Vertex c d a b e g (inl (inr h)) =
      inl (inr (at_same (a + (q - 1)) b (back c a e) g h))
  extended_at_same Vertex c d a b e g (inr (inl (inl h))) =
      inr (inl (inl (at_same a (b + 1) e (next d b g) h)))
  extended_at_same Vertex c d a b e g (inr (inl (inr h))) =
      inr (inl (inr (at_same a (b + (q - 1)) e (back d b g) h)))
  extended_at_same Vertex c d a b e g (inr (inr (inl h))) =
      inr (inr (inl (at_same (a + (q - 1)) (b + 1) (back c a e) (next d b g) h)))
  extended_at_same Vertex c d a b e g (inr (inr (inr h))) =
      inr (inr (inr (at_same (a + 1) (b + (q - 1)) (next c a e) (back d b g) h)))
  extended_at_same Horizontal c d a b e g (inl h) = inl (at_same a (b + 1) e (next d b g) h)
  extended_at_same Horizontal c d a b e g (inr h) =
      inr (at_same (a + 1) (b + (q - 1)) (next c a e) (back d b g) h)
  extended_at_same Vertical c d a b e g (inl h) = inl (at_same (a + 1) b (next c a e) g h)
  extended_at_same Vertical c d a b e g (inr h) =
      inr (at_same (a + (q - 1)) (b + 1) (back c a e) (next d b g) h)
  extended_at_same Diagonal c d a b e g (inl h) = inl (at_same a b e g h)
  extended_at_same Diagonal c d a b e g (inr h) =
      inr (at_same (a + 1) (b + 1) (next c a e) (next d b g) h)
  extended_at_same Lower c d a b e g h = h
  extended_at_same Upper c d a b e g h = h

  -- ---- what lies in the closure of an additive face is extended

  abbrev IsExtendedFace : FaceKind × ℕ × ℕ → Type 0
  IsExtendedFace face = IsExtended q Tight face.0 face.1 face.2

  all_faces_nil : All IsExtendedFace []
  all_faces_nil = All-nil IsExtendedFace

  more : (x : FaceKind × ℕ × ℕ) (xs : List (FaceKind × ℕ × ℕ)) → IsExtendedFace x →
      All IsExtendedFace xs → All IsExtendedFace (x ∷ xs)
  more x xs h k = All-cons IsExtendedFace x xs h k

  -- a pair one back along a row, and along a column
  west : (c d : ℕ) → Tight c d → Tight (c + 1 + (q - 1)) d
  west c d h = at_same (c + 1 + (q - 1)) d (one_back q c (c + 1) some refl) refl h

  south : (c d : ℕ) → Tight c d → Tight c (d + 1 + (q - 1))
  south c d h = at_same c (d + 1 + (q - 1)) refl (one_back q d (d + 1) some refl) h

  border_extended : (kind : FaceKind) (c d : ℕ) → IsAdditive Tight kind c d →
      All IsExtendedFace (border_of kind c d)
  border_extended Vertex c d h = all_faces_nil
  border_extended Horizontal c d h =
      let first = corner Horizontal c d 0 (lit< tt) h in
      let second = corner Horizontal c d 1 (lit< tt) h in
      more (Vertex, c, d) ((Vertex, c + 1, d) ∷ []) (inl (inl second))
      (more (Vertex, c + 1, d) [] (inl (inr (west c d first))) all_faces_nil)
  border_extended Vertical c d h =
      let first = corner Vertical c d 0 (lit< tt) h in
      let second = corner Vertical c d 1 (lit< tt) h in
      more (Vertex, c, d) ((Vertex, c, d + 1) ∷ []) (inr (inl (inl second)))
      (more (Vertex, c, d + 1) [] (inr (inl (inr (south c d first)))) all_faces_nil)
  border_extended Diagonal c d h =
      let first = corner Diagonal c d 0 (lit< tt) h in
      let second = corner Diagonal c d 1 (lit< tt) h in
      more (Vertex, c + 1, d) ((Vertex, c, d + 1) ∷ []) (inr (inr (inl (west c (d + 1) second))))
      (more (Vertex, c, d + 1) [] (inr (inr (inr (south (c + 1) d first)))) all_faces_nil)
  border_extended Lower c d h =
      let first = corner Lower c d 0 (lit< tt) h in
      let second = corner Lower c d 1 (lit< tt) h in
      let third = corner Lower c d 2 (lit< tt) h in
      let edges = edges_of Lower c d in
      more (Vertex, c, d) ((Vertex, c + 1, d) ∷ (Vertex, c, d + 1) ∷ edges) (inl (inl second))
      (more (Vertex, c + 1, d) ((Vertex, c, d + 1) ∷ edges) (inl (inr (west c d first)))
      (more (Vertex, c, d + 1) edges (inr (inl (inr (south c d first))))
      (more (Horizontal, c, d) ((Vertical, c, d) ∷ (Diagonal, c, d) ∷ []) (inl third)
      (more (Vertical, c, d) ((Diagonal, c, d) ∷ []) (inl second)
      (more (Diagonal, c, d) [] (inl first) all_faces_nil)))))
  border_extended Upper c d h =
      let first = corner Upper c d 0 (lit< tt) h in
      let second = corner Upper c d 1 (lit< tt) h in
      let third = corner Upper c d 2 (lit< tt) h in
      let edges = edges_of Upper c d in
      more (Vertex, c + 1, d) ((Vertex, c, d + 1) ∷ (Vertex, c + 1, d + 1) ∷ edges)
      (inr (inl (inl third)))
      (more (Vertex, c, d + 1) ((Vertex, c + 1, d + 1) ∷ edges) (inl (inl third))
      (more (Vertex, c + 1, d + 1) edges (inr (inl (inr (south (c + 1) d first))))
      (more (Horizontal, c, d + 1) ((Vertical, c + 1, d) ∷ (Diagonal, c, d) ∷ [])
      (inr (south (c + 1) d first))
      (more (Vertical, c + 1, d) ((Diagonal, c, d) ∷ []) (inr (west c (d + 1) second))
      (more (Diagonal, c, d) [] (inr third) all_faces_nil)))))

  -- ---- and what is extended lies in the closure of one

  -- an additive face of higher dimension with this one in its closure
  pub record IsPart (kind : FaceKind) (a b : ℕ) (other : FaceKind) (c d : ℕ) : Type 0 where
    pub additive : IsAdditive Tight other c d
    pub higher : dimension kind < dimension other
    pub border : Any (λ face. IsSameFace q face (kind, a, b)) (border_of other c d)

  abbrev pub IsPartOfAdditive : FaceKind → ℕ → ℕ → Type 0
  IsPartOfAdditive kind a b = (other : FaceKind) × (c : ℕ) × (d : ℕ) × IsPart kind a b other c d

  -- the face at this place of the border
  same_face : (kind : FaceKind) (a b c d : ℕ) → c % q ≡ a % q → d % q ≡ b % q →
      IsSameFace q (kind, c, d) (kind, a, b)
  same_face kind a b c d e g = record { kind = refl; first_index = e; second_index = g }

  pub grown : (kind : FaceKind) (a b : ℕ) → IsAdditive Tight kind a b →
      IsExtended q Tight kind a b →
      IsPartOfAdditive kind a b
  grown Vertex a b h (inl (inl east)) = (
    Horizontal,
    a,
    b,
    record {
      additive = horizontal a b (corner Vertex a b 0 (lit< tt) h) east;
      higher = lit< tt;
      border = (0, (Vertex, a, b), lit< tt, refl, same_face Vertex a b a b refl refl);
    },
  )
  grown Vertex a b h (inl (inr west_pair)) =
      let w = a + (q - 1) in
      let here = at_same (a + (q - 1) + 1) b (sym (one_ahead q a some)) refl
      (corner Vertex a b 0 (lit< tt) h) in (
        Horizontal,
        w,
        b,
        record {
          additive = horizontal w b west_pair here;
          higher = lit< tt;
          border = (
            1,
            (Vertex, w + 1, b),
            lit< tt,
            refl,
            same_face Vertex a b (w + 1) b
                (one_ahead q a some) refl,
          );
        },
      )
  grown Vertex a b h (inr (inl (inl north))) = (
    Vertical,
    a,
    b,
    record {
      additive = vertical a b (corner Vertex a b 0 (lit< tt) h) north;
      higher = lit< tt;
      border = (0, (Vertex, a, b), lit< tt, refl, same_face Vertex a b a b refl refl);
    },
  )
  grown Vertex a b h (inr (inl (inr south_pair))) =
      let s = b + (q - 1) in
      let here = at_same a (b + (q - 1) + 1) refl (sym (one_ahead q b some))
      (corner Vertex a b 0 (lit< tt) h) in (
        Vertical,
        a,
        s,
        record {
          additive = vertical a s south_pair here;
          higher = lit< tt;
          border = (
            1,
            (Vertex, a, s + 1),
            lit< tt,
            refl,
            same_face Vertex a b a (s + 1) refl
                (one_ahead q b some),
          );
        },
      )
  grown Vertex a b h (inr (inr (inl north_west))) =
      let w = a + (q - 1) in
      let here = at_same (a + (q - 1) + 1) b (sym (one_ahead q a some)) refl
      (corner Vertex a b 0 (lit< tt) h) in (
        Diagonal,
        w,
        b,
        record {
          additive = diagonal w b here north_west;
          higher = lit< tt;
          border = (
            0,
            (Vertex, w + 1, b),
            lit< tt,
            refl,
            same_face Vertex a b (w + 1) b
                (one_ahead q a some) refl,
          );
        },
      )
  grown Vertex a b h (inr (inr (inr south_east))) =
      let s = b + (q - 1) in
      let here = at_same a (b + (q - 1) + 1) refl (sym (one_ahead q b some))
      (corner Vertex a b 0 (lit< tt) h) in (
        Diagonal,
        a,
        s,
        record {
          additive = diagonal a s south_east here;
          higher = lit< tt;
          border = (
            1,
            (Vertex, a, s + 1),
            lit< tt,
            refl,
            same_face Vertex a b a (s + 1) refl
                (one_ahead q b some),
          );
        },
      )
  grown Horizontal a b h (inl north) = (
    Lower,
    a,
    b,
    record {
      additive = lower a b (corner Horizontal a b 0 (lit< tt) h)
          (corner Horizontal a b 1 (lit< tt) h) north;
      higher = lit< tt;
      border = (3, (Horizontal, a, b), lit< tt, refl, same_face Horizontal a b a b refl refl);
    },
  )
  grown Horizontal a b h (inr south_east) =
      let s = b + (q - 1) in
      let e = sym (one_ahead q b some) in
      let first = at_same a (b + (q - 1) + 1) refl e (corner Horizontal a b 0 (lit< tt) h) in
      let second = at_same (a + 1) (b + (q - 1) + 1) refl e (corner Horizontal a b 1 (lit< tt) h) in (
        Upper,
        a,
        s,
        record {
          additive = upper a s south_east first second;
          higher = lit< tt;
          border = (
            3,
            (Horizontal, a, s + 1),
            lit< tt,
            refl,
            same_face Horizontal a b a
                (s + 1) refl (one_ahead q b some),
          );
        },
      )
  grown Vertical a b h (inl east) = (
    Lower,
    a,
    b,
    record {
      additive = lower a b (corner Vertical a b 0 (lit< tt) h) east
          (corner Vertical a b 1 (lit< tt) h);
      higher = lit< tt;
      border = (4, (Vertical, a, b), lit< tt, refl, same_face Vertical a b a b refl refl);
    },
  )
  grown Vertical a b h (inr north_west) =
      let w = a + (q - 1) in
      let e = sym (one_ahead q a some) in
      let first = at_same (a + (q - 1) + 1) b e refl (corner Vertical a b 0 (lit< tt) h) in
      let second = at_same (a + (q - 1) + 1) (b + 1) e refl (corner Vertical a b 1 (lit< tt) h) in (
        Upper,
        w,
        b,
        record {
          additive = upper w b first north_west second;
          higher = lit< tt;
          border = (
            4,
            (Vertical, w + 1, b),
            lit< tt,
            refl,
            same_face Vertical a b (w + 1) b
                (one_ahead q a some) refl,
          );
        },
      )
  grown Diagonal a b h (inl here) = (
    Lower,
    a,
    b,
    record {
      additive = lower a b here (corner Diagonal a b 0 (lit< tt) h)
          (corner Diagonal a b 1 (lit< tt) h);
      higher = lit< tt;
      border = (5, (Diagonal, a, b), lit< tt, refl, same_face Diagonal a b a b refl refl);
    },
  )
  grown Diagonal a b h (inr north_east) = (
    Upper,
    a,
    b,
    record {
      additive = upper a b (corner Diagonal a b 0 (lit< tt) h)
          (corner Diagonal a b 1 (lit< tt) h) north_east;
      higher = lit< tt;
      border = (5, (Diagonal, a, b), lit< tt, refl, same_face Diagonal a b a b refl refl);
    },
  )
  grown Lower a b h extended = absurd extended
  grown Upper a b h extended = absurd extended

  -- ---- so an additive face is maximal exactly if it is not extended

  pub maximal_unless_extended : (kind : FaceKind) (a b : ℕ) → IsAdditive Tight kind a b →
      (IsExtended q Tight kind a b → ⊥) → IsMaximalFace q Tight kind a b
  maximal_unless_extended kind a b h alone = record {
    additive = h;
    maximal = λ other c d additive.
        All-weaker IsExtendedFace (λ face. IsSameFace q face (kind, a, b) → ⊥)
        (λ face extended same. alone (moved face extended same))
        (border_of other c d) (border_extended other c d additive);
  }
    where
      moved : (face : FaceKind × ℕ × ℕ) → IsExtendedFace face → IsSameFace q face (kind, a, b) →
          IsExtended q Tight kind a b
      moved face extended same =
          extended_at_same kind face.1 face.2 a b same.first_index same.second_index
          (subst (λ k. IsExtended q Tight k face.1 face.2) same.kind extended)

  pub maximal_is_not_extended : (kind : FaceKind) (a b : ℕ) → IsMaximalFace q Tight kind a b →
      IsExtended q Tight kind a b → ⊥
  maximal_is_not_extended kind a b h extended =
      let part = grown kind a b h.additive extended in
      let at = part.3.border in
      h.maximal part.0 part.1 part.2 part.3.additive at.0 at.1 at.2
      (subst (λ face. IsSameFace q face (kind, a, b)) (sym at.3) at.4)

  -- ---- at indices with equal remainders

  pub additive_at_same : (kind : FaceKind) (c d a b : ℕ) → c % q ≡ a % q → d % q ≡ b % q →
      IsAdditive Tight kind c d →
      IsAdditive Tight kind a b
  additive_at_same Vertex c d a b e g h =
      vertex a b (at_same a b e g (corner Vertex c d 0 (lit< tt) h))
  additive_at_same Horizontal c d a b e g h =
      horizontal a b (at_same a b e g (corner Horizontal c d 0 (lit< tt) h))
      (at_same (a + 1) b (next c a e) g (corner Horizontal c d 1 (lit< tt) h))
  additive_at_same Vertical c d a b e g h =
      vertical a b (at_same a b e g (corner Vertical c d 0 (lit< tt) h))
      (at_same a (b + 1) e (next d b g) (corner Vertical c d 1 (lit< tt) h))
  additive_at_same Diagonal c d a b e g h =
      diagonal a b (at_same (a + 1) b (next c a e) g (corner Diagonal c d 0 (lit< tt) h))
      (at_same a (b + 1) e (next d b g) (corner Diagonal c d 1 (lit< tt) h))
  additive_at_same Lower c d a b e g h =
      lower a b (at_same a b e g (corner Lower c d 0 (lit< tt) h))
      (at_same (a + 1) b (next c a e) g (corner Lower c d 1 (lit< tt) h))
      (at_same a (b + 1) e (next d b g) (corner Lower c d 2 (lit< tt) h))
  additive_at_same Upper c d a b e g h =
      upper a b (at_same (a + 1) b (next c a e) g (corner Upper c d 0 (lit< tt) h))
      (at_same a (b + 1) e (next d b g) (corner Upper c d 1 (lit< tt) h))
      (at_same (a + 1) (b + 1) (next c a e) (next d b g) (corner Upper c d 2 (lit< tt) h))

  pub maximal_at_same : (kind : FaceKind) (c d a b : ℕ) → c % q ≡ a % q → d % q ≡ b % q →
      IsMaximalFace q Tight kind c d →
      IsMaximalFace q Tight kind a b
  maximal_at_same kind c d a b e g h =
      maximal_unless_extended kind a b (additive_at_same kind c d a b e g h.additive)
      (λ extended. maximal_is_not_extended kind c d h
      (extended_at_same kind a b c d (sym e) (sym g) extended))

  -- ---- beside a maximal face that is no triangle its square has no other

  -- a corner of a maximal face
  held : (kind : FaceKind) (a b k : ℕ) → k < length (corners_of kind a b) →
      IsMaximalFace q Tight kind a b →
      Tight (get_or (corners_of kind a b) k (0, 0)).0 (get_or (corners_of kind a b) k (0, 0)).1
  held kind a b k below h = corner kind a b k below h.additive

  refused : (kind other : FaceKind) (a b : ℕ) → IsMaximalFace q Tight kind a b →
      IsExtended q Tight kind a b → kind ≡ other
  refused kind other a b h extended = absurd (maximal_is_not_extended kind a b h extended)

  pub no_other : (kind other : FaceKind) (a b : ℕ) → is_triangle kind ≡ false →
      IsMaximalFace q Tight kind a b →
      IsMaximalFace q Tight other a b → kind ≡ other
  no_other Vertex Vertex a b plain h k = refl
  no_other Vertex Horizontal a b plain h k =
      refused Vertex Horizontal a b h (inl (inl (held Horizontal a b 1 (lit< tt) k)))
  no_other Vertex Vertical a b plain h k =
      refused Vertex Vertical a b h (inr (inl (inl (held Vertical a b 1 (lit< tt) k))))
  no_other Vertex Diagonal a b plain h k =
      refused Vertex Diagonal a b h (inl (inl (held Diagonal a b 0 (lit< tt) k)))
  no_other Vertex Lower a b plain h k =
      refused Vertex Lower a b h (inl (inl (held Lower a b 1 (lit< tt) k)))
  no_other Vertex Upper a b plain h k =
      refused Vertex Upper a b h (inl (inl (held Upper a b 0 (lit< tt) k)))
  no_other Horizontal Vertex a b plain h k =
      sym (refused Vertex Horizontal a b k (inl (inl (held Horizontal a b 1 (lit< tt) h))))
  no_other Horizontal Horizontal a b plain h k = refl
  no_other Horizontal Vertical a b plain h k =
      refused Horizontal Vertical a b h (inl (held Vertical a b 1 (lit< tt) k))
  no_other Horizontal Diagonal a b plain h k =
      refused Horizontal Diagonal a b h (inl (held Diagonal a b 1 (lit< tt) k))
  no_other Horizontal Lower a b plain h k =
      refused Horizontal Lower a b h (inl (held Lower a b 2 (lit< tt) k))
  no_other Horizontal Upper a b plain h k =
      refused Horizontal Upper a b h (inl (held Upper a b 1 (lit< tt) k))
  no_other Vertical Vertex a b plain h k =
      sym (refused Vertex Vertical a b k (inr (inl (inl (held Vertical a b 1 (lit< tt) h)))))
  no_other Vertical Horizontal a b plain h k =
      refused Vertical Horizontal a b h (inl (held Horizontal a b 1 (lit< tt) k))
  no_other Vertical Vertical a b plain h k = refl
  no_other Vertical Diagonal a b plain h k =
      refused Vertical Diagonal a b h (inl (held Diagonal a b 0 (lit< tt) k))
  no_other Vertical Lower a b plain h k =
      refused Vertical Lower a b h (inl (held Lower a b 1 (lit< tt) k))
  no_other Vertical Upper a b plain h k =
      refused Vertical Upper a b h (inl (held Upper a b 0 (lit< tt) k))
  no_other Diagonal Vertex a b plain h k =
      refused Diagonal Vertex a b h (inl (held Vertex a b 0 (lit< tt) k))
  no_other Diagonal Horizontal a b plain h k =
      refused Diagonal Horizontal a b h (inl (held Horizontal a b 0 (lit< tt) k))
  no_other Diagonal Vertical a b plain h k =
      refused Diagonal Vertical a b h (inl (held Vertical a b 0 (lit< tt) k))
  no_other Diagonal Diagonal a b plain h k = refl
  no_other Diagonal Lower a b plain h k =
      refused Diagonal Lower a b h (inl (held Lower a b 0 (lit< tt) k))
  no_other Diagonal Upper a b plain h k =
      refused Diagonal Upper a b h (inr (held Upper a b 2 (lit< tt) k))
  no_other Lower other a b plain h k = absurd (true≢false plain)
  no_other Upper other a b plain h k = absurd (true≢false plain)
