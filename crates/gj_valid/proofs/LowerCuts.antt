-- Where a table lies below another, the coefficients that it gives are at most the other's.
use Rattle.std.proofs.Common.{◌≡◌, ℕ, ◌+◌, ◌*◌, ◌%◌, ◌<◌, [], ◌∷◌, ℤ, pos, ◌-ℤ◌, ◌*ℤ◌, ◌≤ℤ◌, ◌<ℤ◌, refl, sym, ap, ◌∙◌, arith}
use Rattle.std.proofs.Math.Nat.{mul-pos}
use Rattle.std.proofs.lemmas.Int.{ints}
use Rattle.gj_frac.specs.declared.Frac.{Frac}
use Rattle.gj_frac.specs.Fraction.{LessValue, fraction_of, denominator}
use Rattle.gj_lemmas.proofs.Integers.{mul_assoc_z, mul_cancel_right_z, mul_le_mul_right_z, mul_lt_mul_right_z, mul_positive_z, positive_some_z, sub_mul_z, swap_last_z}
use Rattle.gj_lemmas.proofs.Quotients.{same_at_remainder}
use Rattle.gj_lemmas.proofs.Ring.{by_ring, ring}
use Rattle.gj_shape.specs.Table.{IsMinimalTable}
use Rattle.gj_shape.specs.Valid.{IsValidTable}
use Rattle.gj_shape.proofs.ValueLemmas.{congruent_rests}
use Rattle.gj_theory.specs.Cuts.{IsEntryAt}
use Rattle.gj_valid.proofs.MinimalBelow.{minimal_below}

-- the place of a fraction is the same in each table of one period
same_index : (t u : ℕ → ℤ) (n s r : ℕ) (x y z : Frac) (first : IsEntryAt t n s x y)
    (second : IsEntryAt u n r x z) →
    first.index % n ≡ second.index % n
same_index t u n s r x y z first second =
    let k = first.index_is.0 in
    let l = second.index_is.0 in
    let place : first.place ≡ second.place =
    mul_cancel_right_z first.place second.place (denominator x)
    (sym first.place_is ∙ second.place_is)
    (positive_some_z (denominator x) x.lowest.positive) in
    let one = first.index_is.1 in
    let two = second.index_is.1 in
    let split = sub_mul_z k l (pos n) in
    congruent_rests first.index second.index n (k -ℤ l, omega (arith, ints))

higher_side : (p b c s : ℤ) → (p *ℤ b) *ℤ (c *ℤ s) ≡ (p *ℤ s) *ℤ (c *ℤ b)
higher_side p b c s = by_ring (p ∷ b ∷ c ∷ s ∷ []) (search ring depth 30) refl

higher_entry : (t q c b : ℤ) → (t *ℤ q) *ℤ (c *ℤ b) ≡ (c *ℤ t) *ℤ (b *ℤ q)
higher_entry t q c b = by_ring (t ∷ q ∷ c ∷ b ∷ []) (search ring depth 30) refl

-- a/b is u/(c s) and p/q is t/s, with u at most c t
not_above : (a b p q u t c s : ℤ) → a *ℤ (c *ℤ s) ≡ u *ℤ b → p *ℤ s ≡ t *ℤ q → u ≤ℤ (c *ℤ t) →
    pos 0 <ℤ b → pos 0 <ℤ q → pos 0 <ℤ (c *ℤ s) → (p *ℤ b) <ℤ (a *ℤ q) → ⊥
not_above a b p q u t c s lower higher below b_some q_some s_some above =
    let product = mul_positive_z b q b_some q_some in
    let most = mul_le_mul_right_z u (c *ℤ t) (b *ℤ q) (omega (arith, ints)) below in
    let less = mul_lt_mul_right_z (p *ℤ b) (a *ℤ q) (c *ℤ s) s_some above in
    let left : (p *ℤ b) *ℤ (c *ℤ s) ≡ (c *ℤ t) *ℤ (b *ℤ q) =
    higher_side p b c s ∙ ap (λ z. z *ℤ (c *ℤ b)) higher ∙ higher_entry t q c b in
    let right : (a *ℤ q) *ℤ (c *ℤ s) ≡ u *ℤ (b *ℤ q) =
    swap_last_z a q (c *ℤ s) ∙ ap (λ z. z *ℤ q) lower ∙ mul_assoc_z u b q in
    omega (arith, ints)

lower_coefficient : (t u : ℕ → ℤ) (n s c : ℕ) (x lower higher : Frac) → 0 < s → 0 < c →
    ((i : ℕ) → u (i + n) ≡ u i) →
    ((i : ℕ) → u i ≤ℤ (pos c *ℤ t i)) → IsEntryAt u n (c * s) x lower → IsEntryAt t n s x higher →
    LessValue (fraction_of higher) (fraction_of lower) → ⊥
lower_coefficient t u n s c x lower higher s_some c_some period below first second above =
    let same = same_at_remainder u n period first.index second.index
    (same_index u t n (c * s) s x lower higher first second) in
    let here = below second.index in
    let scale : pos (c * s) ≡ pos c *ℤ pos s = omega (arith, ints) in
    let some = mul-pos c_some s_some in
    not_above lower.num lower.den higher.num higher.den (u first.index) (t second.index) (pos c)
    (pos s)
    (ap (λ z. lower.num *ℤ z) (sym scale) ∙ first.entry_is) second.entry_is
    (omega (arith, ints)) lower.lowest.positive
    higher.lowest.positive (omega (arith, ints)) above

pub lower_cuts : (t : ℕ → ℤ) (n k s : ℕ) → 0 < n → 0 < s → IsValidTable t n k s →
    (c : ℕ) × (u : ℕ → ℤ) × (0 < c) × IsMinimalTable u n k (c * s) ×
    ((x lower higher : Frac) → IsEntryAt u n (c * s) x lower → IsEntryAt t n s x higher →
    LessValue (fraction_of higher) (fraction_of lower) → ⊥)
lower_cuts t n k s n_some s_some valid =
    let (c, u, c_some, minimal, below) = minimal_below t n k s n_some valid in (
      c,
      u,
      c_some,
      minimal,
      λ x lower higher. lower_coefficient t u n s c x lower higher s_some
          c_some minimal.has_period below,
    )
