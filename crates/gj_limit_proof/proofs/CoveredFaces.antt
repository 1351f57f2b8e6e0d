-- Intervals that faces join or cover, as covered by limits.
use Rattle.std.proofs.Common.{◌≡◌, ℕ, ◌+◌, ◌%◌, inl, inr, refl, sym}
use Rattle.gj_shape.specs.FunctionData.{FunctionData}
use Rattle.gj_shape.specs.declared.faces.FaceKind.{FaceKind}
use Rattle.gj_shape.specs.declared.faces.FaceKind.TheVariants.{Vertex, Horizontal, Vertical, Diagonal, Lower, Upper}
use Rattle.gj_jumps.specs.LimitCover.{IsTightAt, Links, IsCoveredByLimits}
use Rattle.gj_jumps.specs.LimitCover.Links.{horizontal, vertical, diagonal, lower_horizontal, lower_vertical, lower_diagonal, upper_horizontal, upper_vertical, upper_diagonal}
use Rattle.gj_jumps.specs.LimitCover.IsCoveredByLimits.{lower, upper, to, from, turned}
use Rattle.gj_limit_cover.specs.LimitCover.{LinksBy, Joins, AreJoined, Covers}
use Rattle.gj_limit_cover.proofs.CoveredByLines.{IsLinked}

module _ (f : FunctionData) where
  abbrev T : FaceKind → ℕ → ℕ → ℕ → Type 0
  T = IsTightAt f

  linked_at : (x y i j : ℕ) → Links f x y → x % f.order ≡ i % f.order → y % f.order ≡ j % f.order →
      IsLinked f i j
  linked_at x y i j l e g =
      record { first = x; second = y; links = l; first_same = e; second_same = g }

  -- an edge links the intervals of its own
  linked : (kind : FaceKind) (a b i j : ℕ) → LinksBy f.order T kind a b i j → IsLinked f i j
  linked Vertex a b i j h = absurd h
  linked Horizontal a b i j (x, y, e, g) = linked_at a (a + b) i j (horizontal a b x y) e g
  linked Vertical a b i j (x, y, e, g) = linked_at b (a + b) i j (vertical a b x y) e g
  linked Diagonal a b i j (x, y, e, g) = linked_at a b i j (diagonal a b x y) e g
  linked Lower a b i j (inl (x, y, e, g)) = linked_at a (a + b) i j (lower_horizontal a b x y) e g
  linked Lower a b i j (inr (inl (x, y, e, g))) =
      linked_at b (a + b) i j (lower_vertical a b x y) e g
  linked Lower a b i j (inr (inr (x, y, e, g))) = linked_at a b i j (lower_diagonal a b x y) e g
  linked Upper a b i j (inl (x, y, e, g)) =
      linked_at a (a + b + 1) i j (upper_horizontal a b x y) e g
  linked Upper a b i j (inr (inl (x, y, e, g))) =
      linked_at b (a + b + 1) i j (upper_vertical a b x y) e g
  linked Upper a b i j (inr (inr (x, y, e, g))) = linked_at a b i j (upper_diagonal a b x y) e g

  -- an interval that is joined to a covered one is covered
  pub across : (kind : FaceKind) (a b i j : ℕ) → Joins f.order T kind a b i j →
      IsCoveredByLimits f j → IsCoveredByLimits f i
  across kind a b i j (inl h) covered =
      let l = linked kind a b i j h in
      turned l.first i l.first_same
      (from l.first l.second l.links (turned j l.second (sym l.second_same) covered))
  across kind a b i j (inr h) covered =
      let l = linked kind a b j i h in
      turned l.second i l.second_same
      (to l.first l.second l.links (turned j l.first (sym l.first_same) covered))

  -- so is one on which a triangle with slack 0 projects
  pub directly : (kind : FaceKind) (a b i : ℕ) → Covers f.order T kind a b i → IsCoveredByLimits f i
  directly Vertex a b i h = absurd h
  directly Horizontal a b i h = absurd h
  directly Vertical a b i h = absurd h
  directly Diagonal a b i h = absurd h
  directly Lower a b i (t, inl e) = turned a i e (lower a b t.0 t.1 t.2)
  directly Lower a b i (t, inr (inl e)) =
      turned b i e (to a b (lower_diagonal a b t.1 t.2) (lower a b t.0 t.1 t.2))
  directly Lower a b i (t, inr (inr e)) =
      turned (a + b) i e (to a (a + b) (lower_horizontal a b t.0 t.1) (lower a b t.0 t.1 t.2))
  directly Upper a b i (t, inl e) = turned a i e (upper a b t.0 t.1 t.2)
  directly Upper a b i (t, inr (inl e)) =
      turned b i e (to a b (upper_diagonal a b t.0 t.1) (upper a b t.0 t.1 t.2))
  directly Upper a b i (t, inr (inr e)) =
      turned (a + b + 1) i e
      (to a (a + b + 1) (upper_horizontal a b t.1 t.2) (upper a b t.0 t.1 t.2))

  -- intervals that are linked are joined
  pub joined_by : (i j : ℕ) → Links f i j → AreJoined f.order T i j
  joined_by _ _ (horizontal a b x y) = (Horizontal, a, b, inl (x, y, refl, refl))
  joined_by _ _ (vertical a b x y) = (Vertical, a, b, inl (x, y, refl, refl))
  joined_by _ _ (diagonal a b x y) = (Diagonal, a, b, inl (x, y, refl, refl))
  joined_by _ _ (lower_horizontal a b x y) = (Lower, a, b, inl (inl (x, y, refl, refl)))
  joined_by _ _ (lower_vertical a b x y) = (Lower, a, b, inl (inr (inl (x, y, refl, refl))))
  joined_by _ _ (lower_diagonal a b x y) = (Lower, a, b, inl (inr (inr (x, y, refl, refl))))
  joined_by _ _ (upper_horizontal a b x y) = (Upper, a, b, inl (inl (x, y, refl, refl)))
  joined_by _ _ (upper_vertical a b x y) = (Upper, a, b, inl (inr (inl (x, y, refl, refl))))
  joined_by _ _ (upper_diagonal a b x y) = (Upper, a, b, inl (inr (inr (x, y, refl, refl))))
