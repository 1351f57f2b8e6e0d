-- The tables of a function and of that of n x: on each grid the entries are the same, and both are
-- minimal or neither is.
use Rattle.std.proofs.Common.{◌≡◌, ℕ, ◌+◌, ◌-◌, ◌*◌, ◌%◌, ◌<◌, ℤ, pos, ◌*ℤ◌, [], ◌∷◌, refl, sym, ap, ap₂, ◌∙◌, mul-pos, arith}
use Rattle.std.proofs.Math.Nat.{mul_comm}
use Rattle.gj_lemmas.proofs.Integers.{mul_cancel_right_z}
use Rattle.gj_lemmas.proofs.Quotients.{same_remainder}
use Rattle.gj_lemmas.proofs.Ring.{by_ring, ring}
use Rattle.gj_shape.specs.FunctionData.{FunctionData, IsWithinBounds}
use Rattle.gj_shape.specs.Table.{table, IsMinimalTable, IsMinimal}
use Rattle.gj_shape.proofs.TableLemmas.{table_finer, table_period}
use Rattle.gj_theory.proofs.SameVerdicts.{minimal_over}
use Rattle.gj_transform.specs.Transforms.{IsTimesOf}
use Rattle.gj_transform.proofs.Multiples.{minimal_at_multiples, minimal_of_longer}

-- on each grid both have the same entries, each over its own scale
pub times_entries : (f g : FunctionData) (n j m i : ℕ) → 0 < n → 0 < m → IsTimesOf f n j g →
    table g m i *ℤ pos (f.scale * m) ≡ table f m i *ℤ pos (g.scale * m)
times_entries f g n j m i n_some m_some r =
    let finer : table f (n * m) (n * i) ≡ pos n *ℤ table f m i =
    ap₂ (table f) (mul_comm n m) (mul_comm n i) ∙ table_finer f m n i m_some n_some in
    mul_cancel_right_z (table g m i *ℤ pos (f.scale * m)) (table f m i *ℤ pos (g.scale * m)) (pos n)
    (left_z (table g m i) ∙ r.same_values m i m_some ∙ ap (λ z. z *ℤ pos (g.scale * m)) finer
    ∙ right_z (table f m i) (g.scale * m))
    (omega arith)
  where
    left_z : (x : ℤ) → x *ℤ pos (f.scale * m) *ℤ pos n ≡ x *ℤ pos (f.scale * (n * m))
    left_z x = by_ring (x ∷ pos f.scale ∷ pos n ∷ pos m ∷ []) (search ring depth 20) refl

    right_z : (x : ℤ) (k : ℕ) → pos n *ℤ x *ℤ pos k ≡ x *ℤ pos k *ℤ pos n
    right_z x k = by_ring (x ∷ pos n ∷ pos k ∷ []) (search ring depth 20) refl

-- the period and the place of its tables
period_is : (f g : FunctionData) (n j m : ℕ) → IsTimesOf f n j g → g.order * m ≡ f.order * m * n
period_is f g n j m r = ap (λ q. q * m) r.order ∙ omega arith

place_is : (f g : FunctionData) (n j m : ℕ) → IsTimesOf f n j g →
    g.place * m ≡ f.place * m + j * (f.order * m)
place_is f g n j m r = ap (λ k. k * m) r.place ∙ omega arith

pub times_minimal : (f g : FunctionData) (n j : ℕ) → IsWithinBounds f → 0 < n → IsTimesOf f n j g →
    IsMinimal f → IsMinimal g
times_minimal f g n j l n_some r minimal m some =
    let low = l.scale_low in
    let q = f.order * m in
    let k = f.place * m in
    let N = q * n in
    let K = k + j * q in
    let place : (K * 1) % q ≡ k % q = same_remainder (K * 1) k 0 j q (omega arith) in
    let table_is : (i : ℕ) →
    table g m i *ℤ pos (f.scale * m) ≡ table f m (i * 1) *ℤ pos (g.scale * m) =
    λ i. let one : i ≡ i * 1 = omega arith in
    times_entries f g n j m i n_some some r ∙ ap (λ x. table f m x *ℤ pos (g.scale * m)) one in
    rw (period_is f g n j m r, place_is f g n j m r)
    (minimal_over (λ i. table f m (i * 1)) (table g m) N K (f.scale * m) (g.scale * m)
    (mul-pos (omega arith) some) table_is
    (minimal_at_multiples (table f m) q k (f.scale * m) 1 n N K (omega arith) place
    (minimal m some)))

pub minimal_of_times : (f g : FunctionData) (n j : ℕ) → IsWithinBounds f → IsWithinBounds g →
    0 < n → IsTimesOf f n j g →
    IsMinimal g → IsMinimal f
minimal_of_times f g n j l h n_some r minimal m some =
    let low = h.scale_low in
    let q = f.order * m in
    let k = f.place * m in
    let w = n - 1 in
    let n_is : n ≡ w + 1 = omega arith in
    let period : g.order * m ≡ q * (w + 1) = period_is f g n j m r ∙ ap (λ x. q * x) n_is in
    let whole : IsMinimalTable (table g m) (q * (w + 1)) (k + j * q) (g.scale * m) =
    rw (← period, ← place_is f g n j m r) (minimal m some) in
    minimal_of_longer (table f m) q k j (f.scale * m) w (λ i. table_period f m i some l)
    (minimal_over (table g m) (table f m) (q * (w + 1)) (k + j * q) (g.scale * m) (f.scale * m)
    (mul-pos (omega arith) some)
    (λ i. sym (times_entries f g n j m i n_some some r)) whole)
