-- An interval has a cover line exactly if it is covered.
use Rattle.std.proofs.Common.{◌≡◌, ◌↔◌, ℕ, ◌+◌, ◌%◌, ◌<◌, inl, inr, refl, sym}
use Rattle.gj_shape.specs.Cover.{HasCoverLine}
use Rattle.gj_shape.specs.FunctionData.{FunctionData}
use Rattle.gj_shape.specs.declared.faces.FaceKind.{FaceKind}
use Rattle.gj_shape.specs.declared.faces.FaceKind.TheVariants.{Vertex, Horizontal, Vertical, Diagonal, Lower, Upper}
use Rattle.gj_jumps.specs.LimitCover.{IsTightAt, Links, IsCoveredByLimits}
use Rattle.gj_jumps.specs.LimitCover.Links.{horizontal, vertical, diagonal, lower_horizontal, lower_vertical, lower_diagonal, upper_horizontal, upper_vertical, upper_diagonal}
use Rattle.gj_jumps.specs.LimitCover.IsCoveredByLimits.{lower, upper, to, from, turned}
use Rattle.gj_cover.proofs.LineLists.{line_number, number_line}
use Rattle.gj_limit_cover.specs.LimitCover.{LinksBy, AreJoined, Covers, LeadsTo, here, onward, IsCovered, IsNextLine}
use Rattle.gj_limit_cover.specs.Progress.{IsProgress, IsComplete, progress_data}
use Rattle.gj_limit_cover.specs.declared.progress.Progress.{Progress}
use Rattle.gj_cover.proofs.Ends.{covered_number}
use Rattle.gj_limit_cover.specs.Linking.{limit_linking}
use Rattle.gj_limit_cover.proofs.Ends.{ended}
use Rattle.gj_limit_cover.proofs.Linked.{limit_linked}
use Rattle.gj_limit_cover.proofs.Joining.{joined_turned, leads_on, covered_on, covered_directly}

module _ (f : FunctionData) where
  abbrev q : ℕ
  q = f.order

  abbrev T : FaceKind → ℕ → ℕ → ℕ → Type 0
  T = IsTightAt f

  -- an edge that links two intervals links two that are the same modulo the order
  pub record IsLinked (i j : ℕ) : Type 0 where
    pub first : ℕ
    pub second : ℕ
    pub links : Links f first second
    pub first_same : first % q ≡ i % q
    pub second_same : second % q ≡ j % q

  linked_at : (x y i j : ℕ) → Links f x y → x % q ≡ i % q → y % q ≡ j % q → IsLinked i j
  linked_at x y i j l e g = record {
    first = x;
    second = y;
    links = l;
    first_same = e;
    second_same = g;
  }

  linked : (kind : FaceKind) (a b i j : ℕ) → LinksBy q T kind a b i j → IsLinked i j
  linked Vertex a b i j h = absurd h
  linked Horizontal a b i j (x, y, e, g) = linked_at a (a + b) i j (horizontal a b x y) e g
  linked Vertical a b i j (x, y, e, g) = linked_at b (a + b) i j (vertical a b x y) e g
  linked Diagonal a b i j (x, y, e, g) = linked_at a b i j (diagonal a b x y) e g
  linked Lower a b i j (inl (x, y, e, g)) = linked_at a (a + b) i j (lower_horizontal a b x y) e g
  linked Lower a b i j (inr (inl (x, y, e, g))) = linked_at b (a + b) i j (lower_vertical a b x y) e
      g
  linked Lower a b i j (inr (inr (x, y, e, g))) = linked_at a b i j (lower_diagonal a b x y) e g
  linked Upper a b i j (inl (x, y, e, g)) = linked_at a (a + b + 1) i j (upper_horizontal a b x y) e
      g
  linked Upper a b i j (inr (inl (x, y, e, g))) =
      linked_at b (a + b + 1) i j (upper_vertical a b x y) e g
  linked Upper a b i j (inr (inr (x, y, e, g))) = linked_at a b i j (upper_diagonal a b x y) e g

  across : (i j : ℕ) → AreJoined q T i j → IsCoveredByLimits f i → IsCoveredByLimits f j
  across i j (kind, a, b, inl h) covered =
      let l = linked kind a b i j h in
      turned l.second j l.second_same
      (to l.first l.second l.links (turned i l.first (sym l.first_same) covered))
  across i j (kind, a, b, inr h) covered =
      let l = linked kind a b j i h in
      turned l.first j l.first_same
      (from l.first l.second l.links (turned i l.second (sym l.second_same) covered))

  along : (i j : ℕ) → LeadsTo q T i j → IsCoveredByLimits f j → IsCoveredByLimits f i
  along i _ (here j e) covered = turned j i e covered
  along i _ (onward j next joined rest) covered = along i next rest (across j next joined covered)

  directly : (kind : FaceKind) (a b i : ℕ) → Covers q T kind a b i → IsCoveredByLimits f i
  directly Vertex a b i h = absurd h
  directly Horizontal a b i h = absurd h
  directly Vertical a b i h = absurd h
  directly Diagonal a b i h = absurd h
  directly Lower a b i (t, inl e) = turned a i e (lower a b t.0 t.1 t.2)
  directly Lower a b i (t, inr (inl e)) =
      turned b i e (to a b (lower_diagonal a b t.1 t.2) (lower a b t.0 t.1 t.2))
  directly Lower a b i (t, inr (inr e)) =
      turned (a + b) i e (to a (a + b) (lower_horizontal a b t.0 t.1) (lower a b t.0 t.1 t.2))
  directly Upper a b i (t, inl e) = turned a i e (upper a b t.0 t.1 t.2)
  directly Upper a b i (t, inr (inl e)) =
      turned b i e (to a b (upper_diagonal a b t.0 t.1) (upper a b t.0 t.1 t.2))
  directly Upper a b i (t, inr (inr e)) =
      turned (a + b + 1) i e
      (to a (a + b + 1) (upper_horizontal a b t.1 t.2) (upper a b t.0 t.1 t.2))

  by_limits : (i : ℕ) → IsCovered q T i → IsCoveredByLimits f i
  by_limits i (j, (kind, a, b, h), list) = along i j list (directly kind a b j h)

  joined_by : (i j : ℕ) → Links f i j → AreJoined q T i j
  joined_by _ _ (horizontal a b x y) = (Horizontal, a, b, inl (x, y, refl, refl))
  joined_by _ _ (vertical a b x y) = (Vertical, a, b, inl (x, y, refl, refl))
  joined_by _ _ (diagonal a b x y) = (Diagonal, a, b, inl (x, y, refl, refl))
  joined_by _ _ (lower_horizontal a b x y) = (Lower, a, b, inl (inl (x, y, refl, refl)))
  joined_by _ _ (lower_vertical a b x y) = (Lower, a, b, inl (inr (inl (x, y, refl, refl))))
  joined_by _ _ (lower_diagonal a b x y) = (Lower, a, b, inl (inr (inr (x, y, refl, refl))))
  joined_by _ _ (upper_horizontal a b x y) = (Upper, a, b, inl (inl (x, y, refl, refl)))
  joined_by _ _ (upper_vertical a b x y) = (Upper, a, b, inl (inr (inl (x, y, refl, refl))))
  joined_by _ _ (upper_diagonal a b x y) = (Upper, a, b, inl (inr (inr (x, y, refl, refl))))

  from_limits : (i : ℕ) → IsCoveredByLimits f i → IsCovered q T i
  from_limits _ (lower a b x y z) = covered_directly q T a (Lower, a, b, ((x, y, z), inl refl))
  from_limits _ (upper a b x y z) = covered_directly q T a (Upper, a, b, ((x, y, z), inl refl))
  from_limits _ (to i j l covered) =
      covered_on q T j i (joined_turned q T i j (joined_by i j l)) (from_limits i covered)
  from_limits _ (from i j l covered) = covered_on q T i j (joined_by i j l) (from_limits j covered)
  from_limits _ (turned i j e covered) =
      let (k, direct, list) = from_limits i covered in
      (k, direct, leads_on q T j i k list (here i e))

  pub covered_by_lines : (p : Progress) → IsProgress q T p → IsComplete q T p.lines.items →
      (i : ℕ) →
      i < q → HasCoverLine p.lines.items i ↔ IsCoveredByLimits f i
  covered_by_lines p h end i below = (
    λ line.
        let at = line_number p.lines.items p.component.items i h.numbers line in
        by_limits i (h.classes.covered i at.0 at.1),
    λ covered.
        let at = covered_number (limit_linking q T) (limit_linked q T) (IsNextLine q T)
        (progress_data p) h
        (ended q T p h end) i below (from_limits i covered) in
        number_line p.lines.items p.component.items i at.0 h.numbers at.1,
  )
