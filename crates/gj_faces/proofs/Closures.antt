-- The closures of faces.
use Rattle.std.proofs.Common.{◌≡◌, ℕ, ◌+◌, ◌-◌, ◌*◌, ◌/◌, ◌%◌, ◌≤◌, List, [], ◌∷◌, All, sym, ap, subst, ◌∙◌, arith}
use Rattle.std.proofs.Math.Nat.{add-mul-mod_self_left}
use Rattle.std.proofs.lemmas.List.Elements.{All-nil, All-cons}
use Rattle.gj_lemmas.proofs.Quotients.{from_same_remainder}
use Rattle.gj_shape.specs.Additive.{IsInFace, IsInClosure, border_of}
use Rattle.gj_shape.specs.FunctionData.{FunctionData}
use Rattle.gj_shape.specs.declared.faces.FaceKind.{FaceKind}
use Rattle.gj_shape.specs.declared.faces.FaceKind.TheVariants.{Vertex, Horizontal, Vertical, Diagonal, Lower, Upper}

-- ---- faces with equal indices modulo the order

-- a face that is moved k squares on, and l squares up
moved_on : (m : ℕ) (kind : FaceKind) (a b k l x y : ℕ) → IsInFace m kind a b x y →
    IsInFace m kind (a + k) (b + l) (x + k * m) (y + l * m)
moved_on m Vertex a b k l x y h = (omega (arith, h.0), omega (arith, h.1))
moved_on m Horizontal a b k l x y h = (omega (arith, h.0), omega (arith, h.1), omega (arith, h.2))
moved_on m Vertical a b k l x y h = (omega (arith, h.0), omega (arith, h.1), omega (arith, h.2))
moved_on m Diagonal a b k l x y h = (omega (arith, h.0), omega (arith, h.1), omega (arith, h.2))
moved_on m Lower a b k l x y h = (omega (arith, h.0), omega (arith, h.1), omega (arith, h.2))
moved_on m Upper a b k l x y h = (omega (arith, h.0), omega (arith, h.1), omega (arith, h.2))

-- and back
moved_back : (m : ℕ) (kind : FaceKind) (a b k l x y : ℕ) →
    IsInFace m kind (a + k) (b + l) (x + k * m) (y + l * m) →
    IsInFace m kind a b x y
moved_back m Vertex a b k l x y h = (omega (arith, h.0), omega (arith, h.1))
moved_back m Horizontal a b k l x y h = (omega (arith, h.0), omega (arith, h.1), omega (arith, h.2))
moved_back m Vertical a b k l x y h = (omega (arith, h.0), omega (arith, h.1), omega (arith, h.2))
moved_back m Diagonal a b k l x y h = (omega (arith, h.0), omega (arith, h.1), omega (arith, h.2))
moved_back m Lower a b k l x y h = (omega (arith, h.0), omega (arith, h.1), omega (arith, h.2))
moved_back m Upper a b k l x y h = (omega (arith, h.0), omega (arith, h.1), omega (arith, h.2))

-- the coordinates of its points are not before its square
not_before : (m : ℕ) (kind : FaceKind) (a b x y : ℕ) → IsInFace m kind a b x y →
    (a * m ≤ x) × (b * m ≤ y)
not_before m Vertex a b x y h = (omega (arith, h.0), omega (arith, h.1))
not_before m Horizontal a b x y h = (h.0, omega (arith, h.2))
not_before m Vertical a b x y h = (omega (arith, h.0), h.1)
not_before m Diagonal a b x y h = (h.0, h.1)
not_before m Lower a b x y h = (h.0, h.1)
not_before m Upper a b x y h = (omega (arith, h.0, h.1, h.2), omega (arith, h.0, h.1, h.2))

-- so many squares of the function's order leave the remainder
same_place : (q m u x : ℕ) → (x + u * q * m) % (q * m) ≡ x % (q * m)
same_place q m u x =
    let e : x + u * q * m ≡ x + q * m * u = omega arith in
    ap (λ n. n % (q * m)) e ∙ add-mul-mod_self_left x (q * m) u

-- the closure of a face whose indices have the same remainders
pub closure_at_same : (f : FunctionData) (m : ℕ) (kind : FaceKind) (a b c d i j : ℕ) →
    a % f.order ≡ c % f.order →
    b % f.order ≡ d % f.order → IsInClosure f m kind a b i j → IsInClosure f m kind c d i j
closure_at_same f m kind a b c d i j e g h =
    let q = f.order in
    let first : a + c / f.order * f.order ≡ c + a / f.order * f.order =
    from_same_remainder a c q e in
    let second : b + d / f.order * f.order ≡ d + b / f.order * f.order =
    from_same_remainder b d q g in
    let x = h.0 + c / q * q * m in
    let y = h.1 + d / q * q * m in
    let there : IsInFace m kind (c + a / f.order * f.order) (d + b / f.order * f.order)
    (h.0 + c / f.order * f.order * m)
    (h.1 + d / f.order * f.order * m) =
    subst (λ n. IsInFace m kind n (d + b / q * q) x y) first
    (subst (λ n. IsInFace m kind (a + c / q * q) n x y) second
    (moved_on m kind a b (c / q * q) (d / q * q) h.0 h.1 h.4)) in
    let low = not_before m kind (c + a / q * q) (d + b / q * q) x y there in
    let across : h.0 + c / f.order * f.order * m ≡ h.0 + c / f.order * f.order * m - a / f.order
    * f.order * m + a / f.order
    * f.order * m = omega (arith, low.0) in
    let upward : h.1 + d / f.order * f.order * m ≡ h.1 + d / f.order * f.order * m - b / f.order
    * f.order * m + b / f.order
    * f.order * m = omega (arith, low.1) in
    let x' = x - a / q * q * m in
    let y' = y - b / q * q * m in (
      x',
      y',
      sym (same_place q m (a / q) x') ∙ ap (λ n. n % (q * m)) (sym across)
          ∙ same_place q m (c / q) h.0 ∙ h.2,
      sym (same_place q m (b / q) y') ∙ ap (λ n. n % (q * m)) (sym upward)
          ∙ same_place q m (d / q) h.1 ∙ h.3,
      moved_back m kind c d (a / q * q) (b / q * q) x' y'
          (subst (λ n. IsInFace m kind (c + a / q * q) (d + b / q * q) n (y' + b / q * q * m))
          across
          (subst (λ n. IsInFace m kind (c + a / q * q) (d + b / q * q) x n) upward there)),
    )

-- ---- the border of a face

-- each point of the face is one of the other face
abbrev pub IsWithin : ℕ → FaceKind → ℕ → ℕ → FaceKind × ℕ × ℕ → Type 0
IsWithin m kind c d face = (x y : ℕ) → IsInFace m face.0 face.1 face.2 x y → IsInFace m kind c d x y

module _ (m c d : ℕ) where
  more : (kind : FaceKind) (x : FaceKind × ℕ × ℕ) (xs : List (FaceKind × ℕ × ℕ)) →
      IsWithin m kind c d x →
      All (IsWithin m kind c d) xs → All (IsWithin m kind c d) (x ∷ xs)
  more kind x xs h k = All-cons (IsWithin m kind c d) x xs h k

  pub border_within : (kind : FaceKind) → All (IsWithin m kind c d) (border_of kind c d)
  border_within Vertex = All-nil (IsWithin m Vertex c d)
  border_within Horizontal =
      more Horizontal (Vertex, c, d) ((Vertex, c + 1, d) ∷ [])
      (λ x y h. (omega (arith, h.0, h.1), omega (arith, h.0, h.1), omega (arith, h.0, h.1)))
      (more Horizontal (Vertex, c + 1, d) []
      (λ x y h. (omega (arith, h.0, h.1), omega (arith, h.0, h.1), omega (arith, h.0, h.1)))
      (All-nil (IsWithin m Horizontal c d)))
  border_within Vertical =
      more Vertical (Vertex, c, d) ((Vertex, c, d + 1) ∷ [])
      (λ x y h. (omega (arith, h.0, h.1), omega (arith, h.0, h.1), omega (arith, h.0, h.1)))
      (more Vertical (Vertex, c, d + 1) []
      (λ x y h. (omega (arith, h.0, h.1), omega (arith, h.0, h.1), omega (arith, h.0, h.1)))
      (All-nil (IsWithin m Vertical c d)))
  border_within Diagonal =
      more Diagonal (Vertex, c + 1, d) ((Vertex, c, d + 1) ∷ [])
      (λ x y h. (omega (arith, h.0, h.1), omega (arith, h.0, h.1), omega (arith, h.0, h.1)))
      (more Diagonal (Vertex, c, d + 1) []
      (λ x y h. (omega (arith, h.0, h.1), omega (arith, h.0, h.1), omega (arith, h.0, h.1)))
      (All-nil (IsWithin m Diagonal c d)))
  border_within Lower =
      more Lower (Vertex, c, d)
      ((Vertex, c + 1, d) ∷ (Vertex, c, d + 1) ∷ (Horizontal, c, d) ∷ (Vertical, c, d)
      ∷ (Diagonal, c, d) ∷ [])
      (λ x y h. (omega (arith, h.0, h.1), omega (arith, h.0, h.1), omega (arith, h.0, h.1)))
      (more Lower (Vertex, c + 1, d)
      ((Vertex, c, d + 1) ∷ (Horizontal, c, d) ∷ (Vertical, c, d) ∷ (Diagonal, c, d) ∷ [])
      (λ x y h. (omega (arith, h.0, h.1), omega (arith, h.0, h.1), omega (arith, h.0, h.1)))
      (more Lower (Vertex, c, d + 1) ((Horizontal, c, d) ∷ (Vertical, c, d) ∷ (Diagonal, c, d) ∷ [])
      (λ x y h. (omega (arith, h.0, h.1), omega (arith, h.0, h.1), omega (arith, h.0, h.1)))
      (more Lower (Horizontal, c, d) ((Vertical, c, d) ∷ (Diagonal, c, d) ∷ [])
      (λ x y h. (
        omega (arith, h.0, h.1, h.2),
        omega (arith, h.0, h.1, h.2),
        omega
            (arith, h.0, h.1, h.2),
      ))
      (more Lower (Vertical, c, d) ((Diagonal, c, d) ∷ [])
      (λ x y h. (
        omega (arith, h.0, h.1, h.2),
        omega (arith, h.0, h.1, h.2),
        omega
            (arith, h.0, h.1, h.2),
      ))
      (more Lower (Diagonal, c, d) []
      (λ x y h. (
        omega (arith, h.0, h.1, h.2),
        omega (arith, h.0, h.1, h.2),
        omega
            (arith, h.0, h.1, h.2),
      ))
      (All-nil (IsWithin m Lower c d)))))))
  border_within Upper =
      more Upper (Vertex, c + 1, d)
      ((Vertex, c, d + 1) ∷ (Vertex, c + 1, d + 1) ∷ (Horizontal, c, d + 1)
      ∷ (Vertical, c + 1, d) ∷ (Diagonal, c, d) ∷ [])
      (λ x y h. (omega (arith, h.0, h.1), omega (arith, h.0, h.1), omega (arith, h.0, h.1)))
      (more Upper (Vertex, c, d + 1)
      ((Vertex, c + 1, d + 1) ∷ (Horizontal, c, d + 1) ∷ (Vertical, c + 1, d) ∷ (Diagonal, c, d)
      ∷ [])
      (λ x y h. (omega (arith, h.0, h.1), omega (arith, h.0, h.1), omega (arith, h.0, h.1)))
      (more Upper (Vertex, c + 1, d + 1)
      ((Horizontal, c, d + 1) ∷ (Vertical, c + 1, d) ∷ (Diagonal, c, d) ∷ [])
      (λ x y h. (omega (arith, h.0, h.1), omega (arith, h.0, h.1), omega (arith, h.0, h.1)))
      (more Upper (Horizontal, c, d + 1) ((Vertical, c + 1, d) ∷ (Diagonal, c, d) ∷ [])
      (λ x y h. (
        omega (arith, h.0, h.1, h.2),
        omega (arith, h.0, h.1, h.2),
        omega
            (arith, h.0, h.1, h.2),
      ))
      (more Upper (Vertical, c + 1, d) ((Diagonal, c, d) ∷ [])
      (λ x y h. (
        omega (arith, h.0, h.1, h.2),
        omega (arith, h.0, h.1, h.2),
        omega
            (arith, h.0, h.1, h.2),
      ))
      (more Upper (Diagonal, c, d) []
      (λ x y h. (
        omega (arith, h.0, h.1, h.2),
        omega (arith, h.0, h.1, h.2),
        omega
            (arith, h.0, h.1, h.2),
      ))
      (All-nil (IsWithin m Upper c d)))))))
