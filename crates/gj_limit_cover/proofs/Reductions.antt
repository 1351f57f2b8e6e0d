-- Faces at indices modulo the order.
use Rattle.std.proofs.Common.{◌≡◌, ℕ, ◌+◌, ◌%◌, Bool, inl, inr, refl, ◌∙◌}
use Rattle.std.proofs.Math.Nat.{mod-mod}
use Rattle.gj_faces.proofs.Periods.{same_sum}
use Rattle.gj_shape.specs.declared.faces.FaceKind.{FaceKind}
use Rattle.gj_shape.specs.declared.faces.FaceKind.TheVariants.{Vertex, Horizontal, Vertical, Diagonal, Lower, Upper}
use Rattle.gj_limit_cover.specs.LimitCover.{LinksBy, IsAdditiveFace, JoinsAs, Covers, ProjectsOn}
use Rattle.gj_limit_cover.proofs.Complexes.{IsComplex}

module _ (q : ℕ) (T : FaceKind → ℕ → ℕ → ℕ → Type 0) (complex : IsComplex q T) where
  sum_same : (a b : ℕ) → (a % q + b % q) % q ≡ (a + b) % q
  sum_same a b = same_sum q (a % q) (b % q) a b (mod-mod a q) (mod-mod b q)

  next_same : (a b : ℕ) → (a % q + b % q + 1) % q ≡ (a + b + 1) % q
  next_same a b = same_sum q (a % q + b % q) 1 (a + b) 1 (sum_same a b) refl

  additive_reduced : (kind : FaceKind) (a b : ℕ) → IsAdditiveFace T kind a b →
      IsAdditiveFace T kind (a % q) (b % q)
  additive_reduced Vertex a b x = complex.reduced Vertex a b 0 x
  additive_reduced Horizontal a b (x, y) =
      (complex.reduced Horizontal a b 0 x, complex.reduced Horizontal a b 1 y)
  additive_reduced Vertical a b (x, y) =
      (complex.reduced Vertical a b 0 x, complex.reduced Vertical a b 1 y)
  additive_reduced Diagonal a b (x, y) =
      (complex.reduced Diagonal a b 0 x, complex.reduced Diagonal a b 1 y)
  additive_reduced Lower a b (x, y, z) =
      (complex.reduced Lower a b 0 x, complex.reduced Lower a b 1 y, complex.reduced Lower a b 2 z)
  additive_reduced Upper a b (x, y, z) =
      (complex.reduced Upper a b 0 x, complex.reduced Upper a b 1 y, complex.reduced Upper a b 2 z)

  links_reduced : (kind : FaceKind) (a b i j : ℕ) → LinksBy q T kind a b i j →
      LinksBy q T kind (a % q) (b % q) i j
  links_reduced Vertex a b i j h = absurd h
  links_reduced Horizontal a b i j (x, y, e, g) = (
    complex.reduced Horizontal a b 0 x,
    complex.reduced Horizontal a b 1 y,
    mod-mod a q
        ∙ e,
    sum_same a b ∙ g,
  )
  links_reduced Vertical a b i j (x, y, e, g) = (
    complex.reduced Vertical a b 0 x,
    complex.reduced Vertical a b 1 y,
    mod-mod b q
        ∙ e,
    sum_same a b ∙ g,
  )
  links_reduced Diagonal a b i j (x, y, e, g) = (
    complex.reduced Diagonal a b 0 x,
    complex.reduced Diagonal a b 1 y,
    mod-mod a q
        ∙ e,
    mod-mod b q ∙ g,
  )
  links_reduced Lower a b i j (inl (x, y, e, g)) =
      inl (
        complex.reduced Lower a b 0 x,
        complex.reduced Lower a b 1 y,
        mod-mod a q
            ∙ e,
        sum_same a b ∙ g,
      )
  links_reduced Lower a b i j (inr (inl (x, y, e, g))) =
      inr (inl (
        complex.reduced Lower a b 0 x,
        complex.reduced Lower a b 2 y,
        mod-mod b q
            ∙ e,
        sum_same a b ∙ g,
      ))
  links_reduced Lower a b i j (inr (inr (x, y, e, g))) =
      inr (inr (
        complex.reduced Lower a b 1 x,
        complex.reduced Lower a b 2 y,
        mod-mod a q
            ∙ e,
        mod-mod b q ∙ g,
      ))
  links_reduced Upper a b i j (inl (x, y, e, g)) =
      inl (
        complex.reduced Upper a b 1 x,
        complex.reduced Upper a b 2 y,
        mod-mod a q
            ∙ e,
        next_same a b ∙ g,
      )
  links_reduced Upper a b i j (inr (inl (x, y, e, g))) =
      inr (inl (
        complex.reduced Upper a b 0 x,
        complex.reduced Upper a b 2 y,
        mod-mod b q
            ∙ e,
        next_same a b ∙ g,
      ))
  links_reduced Upper a b i j (inr (inr (x, y, e, g))) =
      inr (inr (
        complex.reduced Upper a b 0 x,
        complex.reduced Upper a b 1 y,
        mod-mod a q
            ∙ e,
        mod-mod b q ∙ g,
      ))

  pub joins_reduced : (asked : Bool) (i j : ℕ) (kind : FaceKind) (a b : ℕ) →
      JoinsAs q T asked i j kind a b → JoinsAs q T asked i j kind (a % q) (b % q)
  joins_reduced asked i j kind a b (x, inl l) =
      ((λ e. additive_reduced kind a b (x e)), inl (links_reduced kind a b i j l))
  joins_reduced asked i j kind a b (x, inr l) =
      ((λ e. additive_reduced kind a b (x e)), inr (links_reduced kind a b j i l))

  projects_reduced : (a b i sum next : ℕ) → next % q ≡ sum % q → ProjectsOn q a b sum i →
      ProjectsOn q (a % q) (b % q) next i
  projects_reduced a b i sum next e (inl h) = inl (mod-mod a q ∙ h)
  projects_reduced a b i sum next e (inr (inl h)) = inr (inl (mod-mod b q ∙ h))
  projects_reduced a b i sum next e (inr (inr h)) = inr (inr (e ∙ h))

  pub covers_reduced : (kind : FaceKind) (a b i : ℕ) → Covers q T kind a b i →
      Covers q T kind (a % q) (b % q) i
  covers_reduced Vertex a b i h = absurd h
  covers_reduced Horizontal a b i h = absurd h
  covers_reduced Vertical a b i h = absurd h
  covers_reduced Diagonal a b i h = absurd h
  covers_reduced Lower a b i (t, h) = (
    additive_reduced Lower a b t,
    projects_reduced a b i (a + b) (a % q + b % q) (sum_same a b)
        h,
  )
  covers_reduced Upper a b i (t, h) = (
    additive_reduced Upper a b t,
    projects_reduced a b i (a + b + 1) (a % q + b % q + 1)
        (next_same a b) h,
  )
