-- Lines through the points of a fill-in, by cross products.
use Rattle.std.proofs.Common.{◌≡◌, ℕ, ◌+◌, ◌*◌, ℤ, pos, ◌+ℤ◌, ◌-ℤ◌, ◌*ℤ◌, neg_ℤ, [], ◌∷◌, refl, ap, sym, ◌∙◌}
use Rattle.gj_lemmas.proofs.Ring.{by_ring, ring}
use Rattle.gj_fill.specs.FillPoints.{IsOnLine}

-- the line through the value u/n at a/q, with u and the filled value over n
value_cross : (q n m a r : ℕ) (u s : ℤ) →
    ((pos m *ℤ u +ℤ pos r *ℤ s) *ℤ pos n -ℤ u *ℤ pos (n * m)) *ℤ (pos n *ℤ (pos (q * m) *ℤ pos q))
    ≡ (pos q *ℤ s *ℤ (pos (a * m + r) *ℤ pos q -ℤ pos a *ℤ pos (q * m))) *ℤ (pos (n * m) *ℤ pos n)
value_cross q n m a r u s =
    by_ring (pos q ∷ pos n ∷ pos m ∷ pos a ∷ pos r ∷ u ∷ s ∷ []) (search ring depth 60) refl

pub value_line : (q n m a r i : ℕ) (u s slope filled : ℤ) → i ≡ a * m + r → slope ≡ pos q *ℤ s →
    filled ≡ pos m *ℤ u +ℤ pos r *ℤ s →
    IsOnLine (record { top = slope; bottom = pos n })
    (record { x = record { top = pos a; bottom = pos q }; y = record { top = u; bottom = pos n } })
    (record { top = pos i; bottom = pos (q * m) }) (record { top = filled; bottom = pos (n * m) })
value_line q n m a r i u s slope filled place slope_is is =
    ap (λ z. (z *ℤ pos n -ℤ u *ℤ pos (n * m)) *ℤ (pos n *ℤ (pos (q * m) *ℤ pos q))) is
    ∙ value_cross q n m a r u s
    ∙ ap (λ z. (z *ℤ (pos (a * m + r) *ℤ pos q -ℤ pos a *ℤ pos (q * m))) *ℤ (pos (n * m) *ℤ pos n))
    (sym slope_is)
    ∙ ap (λ k. (slope *ℤ (pos k *ℤ pos q -ℤ pos a *ℤ pos (q * m))) *ℤ (pos (n * m) *ℤ pos n))
    (sym place)

-- to the next value
next_cross : (q n a : ℕ) (u s : ℤ) →
    ((u +ℤ s) *ℤ pos n -ℤ u *ℤ pos n) *ℤ (pos n *ℤ (pos q *ℤ pos q))
    ≡ (pos q *ℤ s *ℤ (pos (a + 1) *ℤ pos q -ℤ pos a *ℤ pos q)) *ℤ (pos n *ℤ pos n)
next_cross q n a u s = by_ring (pos q ∷ pos n ∷ pos a ∷ u ∷ s ∷ []) (search ring depth 60) refl

pub next_line : (q n a : ℕ) (u w s slope : ℤ) → slope ≡ pos q *ℤ s → w ≡ u +ℤ s →
    IsOnLine (record { top = slope; bottom = pos n })
    (record { x = record { top = pos a; bottom = pos q }; y = record { top = u; bottom = pos n } })
    (record { top = pos (a + 1); bottom = pos q }) (record { top = w; bottom = pos n })
next_line q n a u w s slope slope_is is =
    ap (λ z. (z *ℤ pos n -ℤ u *ℤ pos n) *ℤ (pos n *ℤ (pos q *ℤ pos q))) is ∙ next_cross q n a u s
    ∙ ap (λ z. (z *ℤ (pos (a + 1) *ℤ pos q -ℤ pos a *ℤ pos q)) *ℤ (pos n *ℤ pos n)) (sym slope_is)

-- to the crossing, if c is the rise plus t
pub crossing_line : (q n a : ℕ) (u s t c : ℤ) →
    IsOnLine (record { top = pos q *ℤ s; bottom = pos n })
    (record { x = record { top = pos a; bottom = pos q }; y = record { top = u; bottom = pos n } })
    (record { top = pos a *ℤ (s +ℤ t) +ℤ c; bottom = pos q *ℤ (s +ℤ t) })
    (record { top = u *ℤ (s +ℤ t) +ℤ s *ℤ c; bottom = pos n *ℤ (s +ℤ t) })
crossing_line q n a u s t c = by_ring (pos q ∷ pos n ∷ pos a ∷ u ∷ s ∷ t ∷ c ∷ [])
    (search ring depth 80 fits 4000) refl

-- from the crossing
behind_cross : (q n m a r : ℕ) (u s t c : ℤ) →
    ((pos m *ℤ u +ℤ pos m *ℤ c -ℤ pos r *ℤ t) *ℤ (pos n *ℤ (s +ℤ t)) -ℤ (u *ℤ (s +ℤ t) +ℤ s *ℤ c)
    *ℤ pos (n * m))
    *ℤ (pos n *ℤ (pos (q * m) *ℤ (pos q *ℤ (s +ℤ t))))
    ≡ (neg_ℤ (pos q *ℤ t)
    *ℤ (pos (a * m + r) *ℤ (pos q *ℤ (s +ℤ t)) -ℤ (pos a *ℤ (s +ℤ t) +ℤ c) *ℤ pos (q * m)))
    *ℤ (pos (n * m) *ℤ (pos n *ℤ (s +ℤ t)))
behind_cross q n m a r u s t c =
    by_ring (pos q ∷ pos n ∷ pos m ∷ pos a ∷ pos r ∷ u ∷ s ∷ t ∷ c ∷ [])
    (search ring depth 100 fits 4000) refl

pub behind_line : (q n m a r i : ℕ) (u s t c filled : ℤ) → i ≡ a * m + r →
    filled ≡ pos m *ℤ u +ℤ pos m *ℤ c -ℤ pos r *ℤ t →
    IsOnLine (record { top = neg_ℤ (pos q *ℤ t); bottom = pos n })
    (record {
      x = record { top = pos a *ℤ (s +ℤ t) +ℤ c; bottom = pos q *ℤ (s +ℤ t) };
      y = record { top = u *ℤ (s +ℤ t) +ℤ s *ℤ c; bottom = pos n *ℤ (s +ℤ t) };
    })
    (record { top = pos i; bottom = pos (q * m) }) (record { top = filled; bottom = pos (n * m) })
behind_line q n m a r i u s t c filled place is =
    ap (λ z. (z *ℤ (pos n *ℤ (s +ℤ t)) -ℤ (u *ℤ (s +ℤ t) +ℤ s *ℤ c) *ℤ pos (n * m))
    *ℤ (pos n *ℤ (pos (q * m) *ℤ (pos q *ℤ (s +ℤ t))))) is
    ∙ behind_cross q n m a r u s t c
    ∙ ap (λ k. (neg_ℤ (pos q *ℤ t)
    *ℤ (pos k *ℤ (pos q *ℤ (s +ℤ t)) -ℤ (pos a *ℤ (s +ℤ t) +ℤ c) *ℤ pos (q * m)))
    *ℤ (pos (n * m) *ℤ (pos n *ℤ (s +ℤ t)))) (sym place)

-- from the crossing to the next value
last_cross : (q n a : ℕ) (u s t c : ℤ) →
    ((u +ℤ c -ℤ t) *ℤ (pos n *ℤ (s +ℤ t)) -ℤ (u *ℤ (s +ℤ t) +ℤ s *ℤ c) *ℤ pos n)
    *ℤ (pos n *ℤ (pos q *ℤ (pos q *ℤ (s +ℤ t))))
    ≡ (neg_ℤ (pos q *ℤ t)
    *ℤ (pos (a + 1) *ℤ (pos q *ℤ (s +ℤ t)) -ℤ (pos a *ℤ (s +ℤ t) +ℤ c) *ℤ pos q))
    *ℤ (pos n *ℤ (pos n *ℤ (s +ℤ t)))
last_cross q n a u s t c = by_ring (pos q ∷ pos n ∷ pos a ∷ u ∷ s ∷ t ∷ c ∷ [])
    (search ring depth 100 fits 4000) refl

pub last_line : (q n a : ℕ) (u w s t c : ℤ) → w ≡ u +ℤ c -ℤ t →
    IsOnLine (record { top = neg_ℤ (pos q *ℤ t); bottom = pos n })
    (record {
      x = record { top = pos a *ℤ (s +ℤ t) +ℤ c; bottom = pos q *ℤ (s +ℤ t) };
      y = record { top = u *ℤ (s +ℤ t) +ℤ s *ℤ c; bottom = pos n *ℤ (s +ℤ t) };
    })
    (record { top = pos (a + 1); bottom = pos q }) (record { top = w; bottom = pos n })
last_line q n a u w s t c is =
    ap (λ z. (z *ℤ (pos n *ℤ (s +ℤ t)) -ℤ (u *ℤ (s +ℤ t) +ℤ s *ℤ c) *ℤ pos n)
    *ℤ (pos n *ℤ (pos q *ℤ (pos q *ℤ (s +ℤ t))))) is
    ∙ last_cross q n a u s t c
