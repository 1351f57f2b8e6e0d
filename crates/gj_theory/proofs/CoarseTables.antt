-- The table on a coarser grid is minimal, and so a continuous function is minimal if its table on
-- any grid is.
use Rattle.std.proofs.Common.{◌≡◌, ℕ, ◌+◌, ◌*◌, ◌%◌, ◌<◌, ℤ, pos, ◌+ℤ◌, ◌*ℤ◌, sym, subst, ap, ◌∙◌, arith}
use Rattle.std.proofs.lemmas.Int.{ints}
use Rattle.std.proofs.Math.Nat.{one-mul}
use Rattle.gj_lemmas.proofs.Integers.{add_mul_z, mul_cancel_right_z, mul_le_cancel_right_z}
use Rattle.gj_shape.specs.FunctionData.{FunctionData, IsWithinBounds, IsContinuous}
use Rattle.gj_shape.specs.Table.{table, IsMinimalOnGrid, IsMinimal}
use Rattle.gj_shape.proofs.TableLemmas.{table_finer, table_period}
use Rattle.gj_theory.proofs.CarriedSteps.{same_place}
use Rattle.gj_theory.proofs.Continuous.{minimal_from_own_grid}

-- if the table on a finer grid is minimal, that on the grid is
pub coarser_minimal : (f : FunctionData) (d m : ℕ) → IsWithinBounds f → 0 < d → 0 < m →
    IsMinimalOnGrid f (d * m) → IsMinimalOnGrid f d
coarser_minimal f d m l d_some m_some h = record {
  has_period = λ i. table_period f d i d_some l;
  zero_at_zero =
      let start : 0 * m ≡ 0 = omega arith in
      let none = h.zero_at_zero in
      let finer = table_finer f d m 0 d_some m_some in
      mul_cancel_right_z (table f d 0) (pos 0) (pos m)
      (turned (table f d 0) ∙ sym finer ∙ ap (table f (d * m)) start ∙ none ∙ omega (arith, ints))
      (omega arith);
  nonnegative = λ i.
      let finer = table_finer f d m i d_some m_some in
      let least = h.nonnegative (i * m) in
      mul_le_cancel_right_z (pos 0) (table f d i) (pos m) (omega (arith, ints))
      (omega (arith, ints));
  subadditive = λ i j.
      let sum : table f (d * m) ((i + j) * m) ≡ table f (d * m) (i * m + j * m) =
      ap (table f (d * m)) (omega arith) in
      let first = table_finer f d m i d_some m_some in
      let second = table_finer f d m j d_some m_some in
      let both = table_finer f d m (i + j) d_some m_some in
      let below = h.subadditive (i * m) (j * m) in
      let split = add_mul_z (table f d i) (table f d j) (pos m) in
      mul_le_cancel_right_z (table f d (i + j)) (table f d i +ℤ table f d j) (pos m)
      (omega (arith, ints)) (omega (arith, ints));
  symmetric = λ i j opposite.
      let first = table_finer f d m i d_some m_some in
      let second = table_finer f d m j d_some m_some in
      let sum : i * m + j * m ≡ (i + j) * m + 0 = omega arith in
      let place : f.place * (d * m) ≡ f.place * d * m + 0 = omega arith in
      let period : f.order * d * m ≡ f.order * (d * m) = omega arith in
      let there : (i * m + j * m) % (f.order * (d * m))
      ≡ (f.place * (d * m)) % (f.order * (d * m)) =
      subst (λ (q : ℕ). (i * m + j * m) % q ≡ (f.place * (d * m)) % q) period
      (same_place (i + j) (f.place * d) (f.order * d) m 0 (i * m + j * m)
      (f.place * (d * m)) opposite sum place) in
      let whole = h.symmetric (i * m) (j * m) there in
      let split = add_mul_z (table f d i) (table f d j) (pos m) in
      let scale : pos (f.scale * (d * m)) ≡ pos (f.scale * d) *ℤ pos m = ap pos (omega arith) in
      mul_cancel_right_z (table f d i +ℤ table f d j) (pos (f.scale * d)) (pos m)
      (omega (arith, ints)) (omega arith);
}
  where
    turned : (x : ℤ) → x *ℤ pos m ≡ pos m *ℤ x
    turned x = omega (arith, ints)

pub minimal_from_any_grid : (f : FunctionData) (m : ℕ) → IsWithinBounds f → IsContinuous f → 0 < m →
    IsMinimalOnGrid f m → IsMinimal f
minimal_from_any_grid f m l c some h =
    minimal_from_own_grid f l c
    (coarser_minimal f 1 m l (omega arith) some (subst (IsMinimalOnGrid f) (sym (one-mul m)) h))
