-- When a number of a rounding does not fit.
use Rattle.std.proofs.Common.{◌≡◌, ◌<◌, ◌⊎◌, ⊎_elim, ◌^◌, inr, ℕ, List, [], ◌∷◌, ◌++◌, Option, Some, None, Result, Ok, Err, OnErr, ℤ, pos, negsuc, neg_ℤ, ◌+ℤ◌, ◌-ℤ◌, ◌*ℤ◌, ◌<ℤ◌, unsigned_abs, refl, sym, ap, subst, subst₂, ◌∙◌, arith}
use Rattle.std.proofs.lemmas.Int.{ints}
use Rattle.std.specs.Result.{result_ok, IsErrAnd}
use Rattle.gj_frac.specs.declared.Frac.{Frac}
use Rattle.gj_frac.specs.Floor.{IsFloor}
use Rattle.gj_lemmas.proofs.Integers.{mul_nonnegative_z, neg_mul_z}
use Rattle.gj_lemmas.proofs.Ring.{by_ring, ring}
use Rattle.gj_fields.specs.Rational.{rational, neg_ℚ}
use Rattle.gj_problem.specs.Moves.{IsBelowOnGrid}
use Rattle.gj_problem.specs.RoundedCuts.{IsWideChange, IsWideMove}
use Rattle.gj_problem.proofs.MovedEntries.{double_neg}

pub err_if_none : {T E : Type 0} (r : Result T E) (o : Option T) (P : Type 0) → o ≡ result_ok r →
    (o ≡ None → P) → OnErr r P
err_if_none (Ok x) o P is h = tt
err_if_none (Err e) o P is h = h is

err_same : {T E : Type 0} (d f : E) → ◌≡◌ {A = Result T E} (Err d) (Err f) → d ≡ f
err_same d f e = cc

-- the exit of a `?` hands on the fault that was found
pub handed_on : {S T E : Type 0} (r : Result T E) (e f : E) → IsErrAnd r (λ fault. fault ≡ e) →
    r ≡ Err f → ◌≡◌ {A = Result S E} (Err e) (Err f)
handed_on (Ok x) e f is same = absurd is
handed_on {S} {T} {E} (Err d) e f is same = let make : E → Result S E = λ x. Err x in
    ap make (sym is ∙ err_same {T = T} d f same)

less_one : (p d : ℤ) → p *ℤ (d -ℤ pos 1) ≡ p *ℤ d -ℤ p
less_one p d = by_ring (p ∷ d ∷ []) (search ring depth 40) refl

-- the floor of what fits fits
pub floor_small : (s : Frac) (k : ℤ) (m : ℕ) → IsFloor s k → unsigned_abs s.num < m →
    unsigned_abs k ≡ m → ⊥
floor_small s (pos a) m floor fits is =
    let some = s.lowest.positive in
    let low = mul_nonnegative_z (pos a) (s.den -ℤ pos 1) (omega (arith, ints))
    (omega (arith, ints)) in
    let split = less_one (pos a) s.den in
    let at_most = floor.at_most in
    omega (arith, ints)
floor_small s (negsuc a) m floor fits is =
    let some = s.lowest.positive in
    let low = mul_nonnegative_z (pos a) (s.den -ℤ pos 1) (omega (arith, ints))
    (omega (arith, ints)) in
    let split = less_one (pos a) s.den in
    let same : negsuc a +ℤ pos 1 ≡ neg_ℤ (pos a) = omega (arith, ints) in
    let above = subst (λ (z : ℤ). s.num <ℤ (z *ℤ s.den)) same floor.next_above in
    let turned = neg_mul_z (pos a) s.den in
    omega (arith, ints)

-- neither the grid nor a floor is what a part cannot be
pub not_none : (n : ℕ) (d z k : ℤ) (s : Frac) → d ≡ pos n → z ≡ k → 0 < n → n < 2 ^ 64 →
    IsFloor s k →
    (d ≡ pos 0) ⊎ ((unsigned_abs z ≡ 2 ^ 127) ⊎ (unsigned_abs d ≡ 2 ^ 127)) → ⊥
not_none n d z k s d_is z_is some small floor =
    ⊎_elim (λ (a : d ≡ pos 0). omega (arith, ints))
    (⊎_elim (λ (b : unsigned_abs z ≡ 2 ^ 127). floor_small s k (2 ^ 127) floor s.lowest.num_fits
    (ap unsigned_abs (sym z_is) ∙ b))
    (λ (b : unsigned_abs d ≡ 2 ^ 127). let same : n ≡ 2 ^ 127 = ap unsigned_abs (sym d_is) ∙ b in
    omega arith))

pub raised_wide : (n : ℕ) (x m z value l : Frac) (upper : Option Frac) →
    rational m ≡ neg_ℚ (rational x) → IsBelowOnGrid n (rational m) (rational z) →
    rational value ≡ neg_ℚ (rational z) → IsWideChange x value l → IsWideMove n (Some l) upper x
raised_wide n x m z value l upper m_is below value_is wide =
    inr (
      value,
      subst₂ (IsBelowOnGrid n) m_is (sym (ap neg_ℚ value_is ∙ double_neg (rational z)))
          below,
      wide,
    )

pub no_more : {A : Type 0} (xs : List A) → xs ≡ xs ++ []
no_more [] = refl
no_more (x ∷ xs) = ap (λ ys. x ∷ ys) (no_more xs)
