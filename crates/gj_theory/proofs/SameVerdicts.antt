-- A table over two scales: a function and its refinement are minimal together, and extreme
-- together.
use Rattle.std.proofs.Common.{◌≡◌, ℕ, zero, suc, ◌+◌, ◌*◌, ◌<◌, ⊎_elim, ℤ, pos, ◌+ℤ◌, ◌*ℤ◌, ◌∷◌, [], refl, sym, subst, ap, ap₂, ◌∙◌, mul-pos, arith}
use Rattle.std.proofs.Math.Nat.{mul_assoc, mul_comm}
use Rattle.std.proofs.lemmas.Int.{ints}
use Rattle.gj_lemmas.proofs.Integers.{add_mul_z, mul_assoc_z, mul_cancel_right_z, mul_le_cancel_right_z, mul_le_mul_right_z, same_or_apart_z}
use Rattle.gj_lemmas.proofs.Ring.{by_ring, ring}
use Rattle.gj_shape.specs.Extreme.{IsExtremeTable, IsExtreme}
use Rattle.gj_shape.specs.FunctionData.{FunctionData, IsWithinBounds, IsContinuous}
use Rattle.gj_shape.specs.Refinement.{IsRefinement}
use Rattle.gj_shape.specs.Table.{table, IsMinimalTable, IsMinimalOnGrid, IsMinimal}
use Rattle.gj_theory.proofs.CoarseTables.{coarser_minimal}
use Rattle.gj_theory.proofs.Fillings.{function_finer_halves, halves_deny}

-- ---- one table over two scales

-- u over r has the entries of t over s
abbrev pub HasSameEntries : (ℕ → ℤ) → ℕ → (ℕ → ℤ) → ℕ → Type 0
HasSameEntries t s u r = (i : ℕ) → u i *ℤ pos s ≡ t i *ℤ pos r

pub minimal_over : (t u : ℕ → ℤ) (n k s r : ℕ) → 0 < s → HasSameEntries t s u r →
    IsMinimalTable t n k s → IsMinimalTable u n k r
minimal_over t u n k s r some same h = record {
  has_period = λ i. mul_cancel_right_z (u (i + n)) (u i) (pos s)
      (same (i + n) ∙ ap (λ z. z *ℤ pos r) (h.has_period i) ∙ sym (same i)) (omega arith);
  zero_at_zero = mul_cancel_right_z (u 0) (pos 0) (pos s)
      (same 0 ∙ ap (λ z. z *ℤ pos r) h.zero_at_zero ∙ omega (arith, ints)) (omega arith);
  nonnegative = λ i.
      let here = same i in
      let scaled = mul_le_mul_right_z (pos 0) (t i) (pos r) (omega (arith, ints))
      (h.nonnegative i) in
      mul_le_cancel_right_z (pos 0) (u i) (pos s) (omega (arith, ints)) (omega (arith, ints));
  subadditive = λ i j.
      let first = same i in
      let second = same j in
      let both = same (i + j) in
      let left = add_mul_z (u i) (u j) (pos s) in
      let right = add_mul_z (t i) (t j) (pos r) in
      let scaled = mul_le_mul_right_z (t (i + j)) (t i +ℤ t j) (pos r) (omega (arith, ints))
      (h.subadditive i j) in
      mul_le_cancel_right_z (u (i + j)) (u i +ℤ u j) (pos s) (omega (arith, ints))
      (omega (arith, ints));
  symmetric = λ i j opposite.
      mul_cancel_right_z (u i +ℤ u j) (pos r) (pos s)
      (add_mul_z (u i) (u j) (pos s) ∙ ap₂ (λ x y. x +ℤ y) (same i) (same j)
      ∙ sym (add_mul_z (t i) (t j) (pos r))
      ∙ ap (λ z. z *ℤ pos r) (h.symmetric i j opposite) ∙ turned s r)
      (omega arith);
}
  where
    turned : (s r : ℕ) → pos s *ℤ pos r ≡ pos r *ℤ pos s
    turned s r = omega (arith, ints)

scaled_average : (a b t u s r c : ℤ) → a +ℤ b ≡ c *ℤ u → u *ℤ s ≡ t *ℤ r →
    a *ℤ s +ℤ b *ℤ s ≡ (c *ℤ r) *ℤ t
scaled_average a b t u s r c e same =
    sym (add_mul_z a b s) ∙ ap (λ z. z *ℤ s) e ∙ mul_assoc_z c u s ∙ ap (λ z. c *ℤ z) same
    ∙ by_ring (c ∷ t ∷ r ∷ []) (search ring depth 20) refl

pub extreme_over : (t u : ℕ → ℤ) (n k s r : ℕ) → 0 < s → 0 < r → HasSameEntries t s u r →
    IsExtremeTable t n k s → IsExtremeTable u n k r
extreme_over t u n k s r s_some r_some same h = record {
  minimal = minimal_over t u n k s r s_some same h.minimal;
  no_average = λ c a b c_some first second average i.
      mul_cancel_right_z (a i) (b i) (pos s)
      (h.no_average (c * r) (λ j. a j *ℤ pos s) (λ j. b j *ℤ pos s) (mul-pos c_some r_some)
      (times_scale c a c_some first) (times_scale c b c_some second)
      (λ j. scaled_average (a j) (b j) (t j) (u j) (pos s) (pos r) (pos (2 * c)) (average j)
      (same j)
      ∙ ap (λ (m : ℕ). pos m *ℤ t j) (mul_assoc 2 c r))
      i)
      (omega arith);
}
  where
    times_scale : (c : ℕ) (a : ℕ → ℤ) → 0 < c → IsMinimalTable a n k (c * r) →
        IsMinimalTable (λ j. a j *ℤ pos s) n k (c * r * s)
    times_scale c a c_some minimal =
        minimal_over a (λ j. a j *ℤ pos s) n k (c * r) (c * r * s) (mul-pos c_some r_some)
        (λ j. mul_assoc_z (a j) (pos s) (pos (c * r)) ∙ ap (λ (m : ℕ). a j *ℤ pos m) (omega arith))
        minimal

-- ---- coarser grids

-- if the table of a continuous function on a finer grid is extreme, that on the grid is
pub coarser_extreme : (f : FunctionData) (d m : ℕ) → IsWithinBounds f → IsContinuous f → 0 < d →
    0 < m →
    IsExtremeTable (table f (d * m)) (f.order * (d * m)) (f.place * (d * m)) (f.scale * (d * m)) →
    IsExtremeTable (table f d) (f.order * d) (f.place * d) (f.scale * d)
coarser_extreme f d m l continuous d_some m_some h = record {
  minimal = coarser_minimal f d m l d_some m_some h.minimal;
  no_average = λ c a b c_some first second average i.
      ⊎_elim (λ same. same)
      (λ differ. absurd (halves_deny (table f (d * m)) (f.order * (d * m)) (f.place * (d * m))
      (f.scale * (d * m)) c _ _
      (function_finer_halves f d m c a b l continuous d_some m_some
      (record {
        factor = c_some;
        first = first;
        second = second;
        average = average;
        index =
            i;
        different = differ;
      }))
      h))
      (same_or_apart_z (a i) (b i));
}

-- ---- a function and its refinement

-- the scales of the tables of both on one grid, and their period and place
times_some : (f g : FunctionData) (times : ℕ) → IsWithinBounds g → IsRefinement f times g →
    0 < times
times_some f g times l r = by_cases times r.order
  where
    by_cases : (t : ℕ) → g.order ≡ f.order * t → 0 < t
    by_cases zero e = let low = l.order_low in absurd (omega arith)
    by_cases (suc t) e = omega arith

pub refined_minimal : (f g : FunctionData) (times : ℕ) → IsWithinBounds f → IsWithinBounds g →
    IsRefinement f times g →
    IsMinimal f → IsMinimal g
refined_minimal f g times l h r minimal m some =
    let t_some = times_some f g times h r in
    let period : g.order * m ≡ f.order * (times * m) = ap (λ q. q * m) r.order
    ∙ mul_assoc f.order times m in
    let place : g.place * m ≡ f.place * (times * m) = ap (λ q. q * m) r.place
    ∙ mul_assoc f.place times m in
    let low = l.scale_low in
    rw (period, place)
    (minimal_over (table f (times * m)) (table g m) (f.order * (times * m)) (f.place * (times * m))
    (f.scale * (times * m)) (g.scale * m)
    (mul-pos (omega arith) (mul-pos t_some some)) (λ i. r.same_values m i some)
    (minimal (times * m) (mul-pos t_some some)))

pub minimal_refined : (f g : FunctionData) (times : ℕ) → IsWithinBounds f → IsWithinBounds g →
    IsRefinement f times g →
    IsMinimal g → IsMinimal f
minimal_refined f g times l h r minimal m some =
    let t_some = times_some f g times h r in
    let period : g.order * m ≡ f.order * (times * m) = ap (λ q. q * m) r.order
    ∙ mul_assoc f.order times m in
    let place : g.place * m ≡ f.place * (times * m) = ap (λ q. q * m) r.place
    ∙ mul_assoc f.place times m in
    let low = h.scale_low in
    let fine : IsMinimalOnGrid f (times * m) =
    rw (← period, ← place)
    (minimal_over (table g m) (table f (times * m)) (g.order * m) (g.place * m) (g.scale * m)
    (f.scale * (times * m))
    (mul-pos (omega arith) some) (λ i. sym (r.same_values m i some)) (minimal m some)) in
    coarser_minimal f m times l some t_some (subst (IsMinimalOnGrid f) (mul_comm times m) fine)

pub refined_extreme : (f g : FunctionData) (times : ℕ) → IsWithinBounds f → IsWithinBounds g →
    IsRefinement f times g →
    IsExtreme f → IsExtreme g
refined_extreme f g times l h r extreme m some =
    let t_some = times_some f g times h r in
    let period : g.order * m ≡ f.order * (times * m) = ap (λ q. q * m) r.order
    ∙ mul_assoc f.order times m in
    let place : g.place * m ≡ f.place * (times * m) = ap (λ q. q * m) r.place
    ∙ mul_assoc f.place times m in
    let low = l.scale_low in
    let g_low = h.scale_low in
    rw (period, place)
    (extreme_over (table f (times * m)) (table g m) (f.order * (times * m)) (f.place * (times * m))
    (f.scale * (times * m)) (g.scale * m)
    (mul-pos (omega arith) (mul-pos t_some some)) (mul-pos (omega arith) some)
    (λ i. r.same_values m i some)
    (extreme (times * m) (mul-pos t_some some)))

abbrev IsExtremeOnGrid : FunctionData → ℕ → Type 0
IsExtremeOnGrid f m = IsExtremeTable (table f m) (f.order * m) (f.place * m) (f.scale * m)

pub extreme_refined : (f g : FunctionData) (times : ℕ) → IsWithinBounds f → IsWithinBounds g →
    IsContinuous f → IsRefinement f times g →
    IsExtreme g → IsExtreme f
extreme_refined f g times l h continuous r extreme m some =
    let t_some = times_some f g times h r in
    let period : g.order * m ≡ f.order * (times * m) = ap (λ q. q * m) r.order
    ∙ mul_assoc f.order times m in
    let place : g.place * m ≡ f.place * (times * m) = ap (λ q. q * m) r.place
    ∙ mul_assoc f.place times m in
    let low = l.scale_low in
    let g_low = h.scale_low in
    let fine : IsExtremeOnGrid f (times * m) =
    rw (← period, ← place)
    (extreme_over (table g m) (table f (times * m)) (g.order * m) (g.place * m) (g.scale * m)
    (f.scale * (times * m))
    (mul-pos (omega arith) some) (mul-pos (omega arith) (mul-pos t_some some))
    (λ i. sym (r.same_values m i some)) (extreme m some)) in
    coarser_extreme f m times l continuous some t_some
    (subst (IsExtremeOnGrid f) (mul_comm times m) fine)
