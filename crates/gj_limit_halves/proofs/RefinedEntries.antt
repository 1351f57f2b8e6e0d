-- What a list of limits or values is on a finer grid, by the two parts of the index.
use Rattle.std.proofs.Common.{◌≡◌, ◌≢◌, ℕ, zero, suc, ◌+◌, ◌-◌, ◌*◌, ◌/◌, ◌%◌, ◌<◌, ℤ, pos, ◌+ℤ◌, ◌*ℤ◌, List, length, get_or, refl, ap, ◌∙◌, arith}
use Rattle.std.proofs.lemmas.Nat.{div_below}
use Rattle.gj_shape.specs.FunctionData.{FunctionData, at}
use Rattle.gj_shape.specs.Refinement.{refined, entry_or_value}
use Rattle.gj_shape.proofs.AtLemmas.{at_below}

pub start_below : (q m i : ℕ) → 0 < m → i < q * m → i / m < q
start_below q m i some below = div_below i m q some below

-- at a multiple of 1/order
pub refined_at_multiple : (f : FunctionData) (xs : List ℤ) (m i : ℕ) → length xs ≡ f.order → 0 < m →
    i < f.order * m →
    i % m ≡ 0 →
    refined f xs m i ≡ pos m *ℤ get_or xs (i / m) (pos 0)
refined_at_multiple f xs m i len some below e =
    ap (entry_or_value f xs m (i / m)) e
    ∙ ap (λ x. pos m *ℤ x)
    (at_below xs (i / m) (let start = start_below f.order m i some below in
    omega (arith, start, len)))

-- between two
inside : (f : FunctionData) (xs : List ℤ) (m a r : ℕ) → r ≢ 0 →
    entry_or_value f xs m a r ≡ pos (m - r) *ℤ at f.right a +ℤ pos r *ℤ at f.left (a + 1)
inside f xs m a zero some = absurd (some refl)
inside f xs m a (suc r) some = refl

pub refined_inside : (f : FunctionData) (xs : List ℤ) (m i : ℕ) → i % m ≢ 0 →
    refined f xs m i ≡ pos (m - i % m) *ℤ at f.right (i / m) +ℤ pos (i % m) *ℤ at f.left (i / m + 1)
refined_inside f xs m i some = inside f xs m (i / m) (i % m) some
