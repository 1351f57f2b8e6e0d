-- The limits and values of a function on a finer grid, from those at both ends of an interval.
use Rattle.std.proofs.Common.{◌≡◌, ℕ, zero, suc, inl, inr, ◌+◌, ◌-◌, ◌*◌, ◌<◌, ◌≤◌, ℤ, pos, ◌+ℤ◌, ◌*ℤ◌, List, ap, ap₂, ◌∙◌, arith}
use Rattle.std.proofs.lemmas.Bool.{cases_lt}
use Rattle.gj_lemmas.proofs.Integers.{first_only_z, second_only_z}
use Rattle.gj_lemmas.proofs.Quotients.{parts_of_place}
use Rattle.gj_shape.specs.FunctionData.{FunctionData, at}
use Rattle.gj_shape.specs.Refinement.{refined, entry_or_value}

-- the limits at the ends of the interval a, each with its weight
abbrev pub between : FunctionData → ℕ → ℕ → ℕ → ℤ
between f a u r = pos u *ℤ at f.right a +ℤ pos r *ℤ at f.left (a + 1)

-- x is m times what the line on the closed interval a has at i/(order m)
pub record IsOnLine (f : FunctionData) (m : ℕ) (x : ℤ) (i a r : ℕ) : Type 0 where
  pub place : i ≡ a * m + r
  pub within : r ≤ m
  pub is : (u : ℕ) → u + r ≡ m → x ≡ between f a u r

-- x is m times the value at i/(order m), a multiple of 1/order
pub record IsAtMultiple (f : FunctionData) (m : ℕ) (x : ℤ) (i a : ℕ) : Type 0 where
  pub place : i ≡ a * m
  pub is : x ≡ pos m *ℤ at f.value a

-- ---- what a list is on the finer grid

entry_inside : (f : FunctionData) (xs : List ℤ) (m a r u : ℕ) → 0 < r → u + r ≡ m →
    entry_or_value f xs m a r ≡ between f a u r
entry_inside f xs m a zero u some whole = absurd (omega arith)
entry_inside f xs m a (suc r) u some whole =
    let weight : m - suc r ≡ u = omega arith in
    ap (λ n. pos n *ℤ at f.right a +ℤ pos (suc r) *ℤ at f.left (a + 1)) weight

entry_right : (f : FunctionData) (m a r u : ℕ) → u + r ≡ m →
    entry_or_value f f.right m a r ≡ between f a u r
entry_right f m a zero u whole =
    let weight : m ≡ u = omega arith in
    ap (λ n. pos n *ℤ at f.right a) weight ∙ first_only_z u (at f.right a) (at f.left (a + 1))
entry_right f m a (suc r) u whole = entry_inside f f.right m a (suc r) u (omega arith) whole

refined_at : (f : FunctionData) (xs : List ℤ) (m i a r : ℕ) → i ≡ a * m + r → r < m →
    refined f xs m i ≡ entry_or_value f xs m a r
refined_at f xs m i a r e below =
    let parts = parts_of_place i a m r e below in ap₂ (entry_or_value f xs m) parts.0 parts.1

-- ---- limits and values

pub right_on_line : (f : FunctionData) (m i a r : ℕ) → i ≡ a * m + r → r < m →
    IsOnLine f m (refined f f.right m i) i a r
right_on_line f m i a r e below = record {
  place = e;
  within = omega arith;
  is = λ u whole. refined_at f f.right m i a r e below ∙ entry_right f m a r u whole;
}

pub value_on_line : (f : FunctionData) (m i a r : ℕ) → i ≡ a * m + r → 0 < r → r < m →
    IsOnLine f m (refined f f.value m i) i a r
value_on_line f m i a r e some below = record {
  place = e;
  within = omega arith;
  is = λ u whole. refined_at f f.value m i a r e below ∙ entry_inside f f.value m a r u some whole;
}

pub left_on_line : (f : FunctionData) (m i a r : ℕ) → i ≡ a * m + r → 0 < r → r ≤ m →
    IsOnLine f m (refined f f.left m i) i a r
left_on_line f m i a r e some within = record {
  place = e;
  within = within;
  is = λ u whole. elim (cases_lt r m) [
    | inl below ↦ refined_at f f.left m i a r e below ∙ entry_inside f f.left m a r u some whole
    | inr full ↦
        let none : 0 ≡ u = omega arith in
        let all : m ≡ r = omega arith in
        refined_at f f.left m i (a + 1) 0 (omega arith) (omega arith)
        ∙ ap (λ n. pos n *ℤ at f.left (a + 1)) all
        ∙ second_only_z r (at f.right a) (at f.left (a + 1))
        ∙ ap (λ n. between f a n r) none
  ];
}

pub value_at_multiple : (f : FunctionData) (m i a : ℕ) → i ≡ a * m → 0 < m →
    IsAtMultiple f m (refined f f.value m i) i a
value_at_multiple f m i a e some = record {
  place = e;
  is = refined_at f f.value m i a 0 (omega arith) some;
}
