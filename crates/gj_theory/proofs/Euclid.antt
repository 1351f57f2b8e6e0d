-- Euclid's algorithm modulo m.
use Rattle.std.proofs.Common.{◌≡◌, ◌≢◌, ℕ, ◌/◌, ◌%◌, ◌<◌, None, Some, ℤ, pos, ◌+ℤ◌, ◌-ℤ◌, ◌*ℤ◌, [], ◌∷◌, refl, sym, ap, subst, ◌∙◌, arith}
use Rattle.std.specs.Int.{IsGcd}
use Rattle.std.proofs.lemmas.Int.{ints}
use Rattle.std.proofs.lemmas.Nat.{div-add-mod'}
use Rattle.std.proofs.lemmas.Nat.Gcd.{IsGcd-from_mod, IsGcd-from_zero, IsGcd-swap}
use Rattle.gj_lemmas.proofs.Divisors.{gcd_is_gcd_of}
use Rattle.gj_lemmas.proofs.Ring.{by_ring, ring}
use Rattle.gj_shape.specs.Residues.{residue, inverse, IsZeroModulo}
use Rattle.gj_theory.proofs.Inverses.{inverse_only, inverse_none}
use Rattle.gj_theory.proofs.Modulo.{zero_is, zero_none, zero_sum, zero_difference, zero_times, residue_same}

-- ---- Euclid's algorithm

-- two remainders are these multiples of x modulo m, and have the greatest common divisor of x and m
pub record IsEuclid (m x remainder next factor next_factor : ℕ) : Type 0 where
  pub first : IsZeroModulo m (pos remainder -ℤ pos factor *ℤ pos x)
  pub second : IsZeroModulo m (pos next -ℤ pos next_factor *ℤ pos x)
  pub gcd : (g : ℕ) → IsGcd remainder next g → IsGcd x m g
  pub low : factor < m
  pub next_low : next_factor < m

pub euclid_start : (m x : ℕ) → 1 < m → IsEuclid m x m x 0 1
euclid_start m x large = record {
  first = (pos 1, omega (arith, ints));
  second = (pos 0, omega (arith, ints));
  gcd = λ g h. IsGcd-swap m x g h;
  low = omega arith;
  next_low = large;
}

pub euclid_step : (m x r n s t f : ℕ) → IsEuclid m x r n s t → 0 < m → f < m →
    pos f ≡ residue m (pos s -ℤ pos (r / n) *ℤ pos t) → IsEuclid m x n (r % n) t f
euclid_step m x r n s t f h some low is =
    let z = pos s -ℤ pos (r / n) *ℤ pos t in
    let apart : IsZeroModulo m (z -ℤ pos f) = subst (λ (y : ℤ). IsZeroModulo m (z -ℤ y)) (sym is)
    (residue_same m z some) in
    record {
      first = h.second;
      second = zero_is m (pos (r % n) -ℤ pos f *ℤ pos x)
          (((pos r -ℤ pos s *ℤ pos x) -ℤ pos (r / n) *ℤ (pos n -ℤ pos t *ℤ pos x)) +ℤ pos x
          *ℤ (z -ℤ pos f))
          (ap (λ y. y -ℤ pos f *ℤ pos x) rest
          ∙ regroup (pos r) (pos (r / n)) (pos n) (pos s) (pos t) (pos x) (pos f))
          (zero_sum m ((pos r -ℤ pos s *ℤ pos x) -ℤ pos (r / n) *ℤ (pos n -ℤ pos t *ℤ pos x))
          (pos x *ℤ (z -ℤ pos f))
          (zero_difference m (pos r -ℤ pos s *ℤ pos x) (pos (r / n) *ℤ (pos n -ℤ pos t *ℤ pos x))
          h.first
          (zero_times m (pos (r / n)) (pos n -ℤ pos t *ℤ pos x) h.second))
          (zero_times m (pos x) (z -ℤ pos f) apart));
      gcd = λ g k. h.gcd g (IsGcd-from_mod r n g k);
      low = h.next_low;
      next_low = low;
    }
  where
    rest : pos (r % n) ≡ pos r -ℤ pos (r / n) *ℤ pos n
    rest = let split = div-add-mod' r n in omega (arith, ints)

    regroup : (r q n s t x f : ℤ) →
        (r -ℤ q *ℤ n) -ℤ f *ℤ x ≡ ((r -ℤ s *ℤ x) -ℤ q *ℤ (n -ℤ t *ℤ x)) +ℤ x *ℤ ((s -ℤ q *ℤ t) -ℤ f)
    regroup r q n s t x f = by_ring (r ∷ q ∷ n ∷ s ∷ t ∷ x ∷ f ∷ []) (search ring depth 20) refl

pub euclid_inverse : (m x n s t r : ℕ) → 1 < m → IsEuclid m x r n s t → r ≡ 1 →
    inverse m (pos x) ≡ Some s
euclid_inverse m x n s t r large h one =
    inverse_only m s (pos x) large h.low
    (zero_is m (pos s *ℤ pos x -ℤ pos 1) (pos 0 -ℤ (pos r -ℤ pos s *ℤ pos x)) (omega (arith, ints))
    (zero_difference m (pos 0) (pos r -ℤ pos s *ℤ pos x) (zero_none m) h.first))

pub euclid_none : (m x n s t r : ℕ) → 1 < m → IsEuclid m x r n s t → n ≡ 0 → r ≢ 1 →
    inverse m (pos x) ≡ None
euclid_none m x n s t r large h none apart =
    (inverse_none m (pos x) large).1
    (λ one. apart (gcd_is_gcd_of x m r
    (h.gcd r (subst (λ (k : ℕ). IsGcd r k r) (sym none) (IsGcd-from_zero r 0 refl))) ∙ one))
