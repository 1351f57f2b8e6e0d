-- By lines that meet the rule `cover`, each interval with a line is covered, and a solution of the
-- system of limits rises alike on the intervals of one component.
use Rattle.std.proofs.Common.{◌≡◌, ℕ, ◌+◌, ◌%◌, inl, inr, ◌==◌, Bool, cond, ℤ, List, ◌∷◌, ◌++◌, map, length, get_or, filter, count_by, refl, sym, ap, ap₂, ◌∙◌}
use Rattle.std.proofs.lemmas.Bool.{eq-eqb}
use Rattle.std.proofs.lemmas.List.{map-append, length-map}
use Rattle.std.proofs.lemmas.List.Elements.{filter-append}
use Rattle.std.proofs.lemmas.List.Sums.{length-filter}
use Rattle.std.proofs.Math.Seq.{get_or-append_seam}
use Rattle.gj_shape.specs.Cover.{HasComponent}
use Rattle.gj_shape.specs.Cover.HasComponent.{opened, joined}
use Rattle.gj_shape.specs.FunctionData.{FunctionData}
use Rattle.gj_shape.specs.declared.extremality.CoverLine.{CoverLine}
use Rattle.gj_shape.specs.declared.faces.FaceKind.{FaceKind}
use Rattle.gj_shape.specs.declared.faces.FaceKind.TheVariants.{Vertex, Horizontal, Vertical, Diagonal, Lower, Upper}
use Rattle.gj_jumps.specs.LimitCover.{IsTightAt, Links, IsCoveredByLimits}
use Rattle.gj_jumps.specs.LimitCover.Links.{horizontal, vertical, diagonal, lower_horizontal, lower_vertical, lower_diagonal, upper_horizontal, upper_vertical, upper_diagonal}
use Rattle.gj_jumps.specs.LimitCover.IsCoveredByLimits.{lower, upper, to, from, turned}
use Rattle.gj_jumps.specs.LimitSystem.{Limits}
use Rattle.gj_jumps.specs.WholeLimits.{SolvesWholeLimits}
use Rattle.gj_limit_cover.specs.LimitCover.{LinksBy, Joins, AreJoined, Covers, here, onward}
use Rattle.gj_limit_cover.proofs.CoveredByLines.{IsLinked}
use Rattle.gj_limit_system.proofs.Slopes.{slope, leads}
use Rattle.gj_limit_check.proofs.PlainRules.{MeetLimitCovers}

-- ---- the lines that open a component

abbrev opens : CoverLine → Bool
opens l = l.from == l.interval

-- the interval of the opening line with the number
abbrev pub opened_by : List CoverLine → ℕ → ℕ
opened_by lines number = get_or (map (λ l. l.interval) (filter opens lines)) number 0

-- it stands behind as many opening lines
opened_at : (lines before : List CoverLine) (l : CoverLine) (after : List CoverLine) (number : ℕ) →
    lines ≡ before ++ l ∷ after →
    l.from ≡ l.interval → number ≡ count_by opens before → opened_by lines number ≡ l.interval
opened_at lines before l after number place same counted =
    let intervals : List CoverLine → List ℕ = λ ls. map (λ m. m.interval) (filter opens ls) in
    let own : intervals (l ∷ after) ≡ l.interval ∷ intervals after =
    ap (λ b. map (λ m. m.interval) (cond b (l ∷ filter opens after) (filter opens after)))
    (eq-eqb l.from l.interval same) in
    let split : intervals lines ≡ intervals before ++ l.interval ∷ intervals after =
    ap intervals place ∙ ap (map (λ m. m.interval)) (filter-append opens before (l ∷ after))
    ∙ map-append (λ m. m.interval) (filter opens before) (filter opens (l ∷ after))
    ∙ ap (λ xs. intervals before ++ xs) own in
    let index : number ≡ length (intervals before) =
    counted ∙ sym (length-filter opens before)
    ∙ sym (length-map (filter opens before) (λ m. m.interval)) in
    ap₂ (λ xs n. get_or xs n 0) split index
    ∙ get_or-append_seam (intervals before) l.interval (intervals after) 0

-- ---- faces

module _ (f : FunctionData) where
  abbrev T : FaceKind → ℕ → ℕ → ℕ → Type 0
  T = IsTightAt f

  linked_at : (x y i j : ℕ) → Links f x y → x % f.order ≡ i % f.order → y % f.order ≡ j % f.order →
      IsLinked f i j
  linked_at x y i j l e g =
      record { first = x; second = y; links = l; first_same = e; second_same = g }

  -- an edge links the intervals of its own
  linked : (kind : FaceKind) (a b i j : ℕ) → LinksBy f.order T kind a b i j → IsLinked f i j
  linked Vertex a b i j h = absurd h
  linked Horizontal a b i j (x, y, e, g) = linked_at a (a + b) i j (horizontal a b x y) e g
  linked Vertical a b i j (x, y, e, g) = linked_at b (a + b) i j (vertical a b x y) e g
  linked Diagonal a b i j (x, y, e, g) = linked_at a b i j (diagonal a b x y) e g
  linked Lower a b i j (inl (x, y, e, g)) = linked_at a (a + b) i j (lower_horizontal a b x y) e g
  linked Lower a b i j (inr (inl (x, y, e, g))) =
      linked_at b (a + b) i j (lower_vertical a b x y) e g
  linked Lower a b i j (inr (inr (x, y, e, g))) = linked_at a b i j (lower_diagonal a b x y) e g
  linked Upper a b i j (inl (x, y, e, g)) =
      linked_at a (a + b + 1) i j (upper_horizontal a b x y) e g
  linked Upper a b i j (inr (inl (x, y, e, g))) =
      linked_at b (a + b + 1) i j (upper_vertical a b x y) e g
  linked Upper a b i j (inr (inr (x, y, e, g))) = linked_at a b i j (upper_diagonal a b x y) e g

  -- an interval that is joined to a covered one is covered
  across : (kind : FaceKind) (a b i j : ℕ) → Joins f.order T kind a b i j → IsCoveredByLimits f j →
      IsCoveredByLimits f i
  across kind a b i j (inl h) covered =
      let l = linked kind a b i j h in
      turned l.first i l.first_same
      (from l.first l.second l.links (turned j l.second (sym l.second_same) covered))
  across kind a b i j (inr h) covered =
      let l = linked kind a b j i h in
      turned l.second i l.second_same
      (to l.first l.second l.links (turned j l.first (sym l.first_same) covered))

  -- so is one on which a triangle with slack 0 projects
  directly : (kind : FaceKind) (a b i : ℕ) → Covers f.order T kind a b i → IsCoveredByLimits f i
  directly Vertex a b i h = absurd h
  directly Horizontal a b i h = absurd h
  directly Vertical a b i h = absurd h
  directly Diagonal a b i h = absurd h
  directly Lower a b i (t, inl e) = turned a i e (lower a b t.0 t.1 t.2)
  directly Lower a b i (t, inr (inl e)) =
      turned b i e (to a b (lower_diagonal a b t.1 t.2) (lower a b t.0 t.1 t.2))
  directly Lower a b i (t, inr (inr e)) =
      turned (a + b) i e (to a (a + b) (lower_horizontal a b t.0 t.1) (lower a b t.0 t.1 t.2))
  directly Upper a b i (t, inl e) = turned a i e (upper a b t.0 t.1 t.2)
  directly Upper a b i (t, inr (inl e)) =
      turned b i e (to a b (upper_diagonal a b t.0 t.1) (upper a b t.0 t.1 t.2))
  directly Upper a b i (t, inr (inr e)) =
      turned (a + b + 1) i e
      (to a (a + b + 1) (upper_horizontal a b t.1 t.2) (upper a b t.0 t.1 t.2))

-- ---- lines

module _ (f : FunctionData) (lines : List CoverLine) (rules : MeetLimitCovers f lines) where
  pub covered_by_line : (number i : ℕ) → HasComponent lines number i → IsCoveredByLimits f i
  covered_by_line number _ (opened before l after place same counted) =
      directly f l.face.kind l.face.a l.face.b l.interval
      ((rules before l after place).opening same)
  covered_by_line number _ (joined before l after place other rest) =
      across f l.face.kind l.face.a l.face.b l.interval l.from
      ((rules before l after place).joining other)
      (covered_by_line number l.from rest)

  -- the slope on an interval is that on the interval of the opening line
  pub slope_of_component : (w : Limits ℤ) (solves : SolvesWholeLimits f w) (number i : ℕ) →
      HasComponent lines number i →
      slope f w solves (opened_by lines number) ≡ slope f w solves i
  slope_of_component w solves number _ (opened before l after place same counted) =
      ap (slope f w solves) (opened_at lines before l after number place same counted)
  slope_of_component w solves number _ (joined before l after place other rest) =
      let joined_to : AreJoined f.order (IsTightAt f) l.interval l.from =
      (l.face.kind, l.face.a, l.face.b, (rules before l after place).joining other) in
      slope_of_component w solves number l.from rest
      ∙ sym (leads f w solves l.from l.interval
      (onward l.interval l.from joined_to (here l.from refl)))
