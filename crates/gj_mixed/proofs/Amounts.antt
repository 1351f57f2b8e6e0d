-- Fractions that are at least 0 as amounts over one denominator.
use Rattle.std.proofs.Common.{◌≡◌, ℕ, ◌*◌, ◌<◌, List, [], ◌∷◌, map, All, ℤ, pos, ◌*ℤ◌, unsigned_abs, refl, sym, ap, ◌∙◌, arith}
use Rattle.std.proofs.Math.Nat.{mul-pos}
use Rattle.std.proofs.lemmas.Int.{ints}
use Rattle.std.proofs.lemmas.List.Elements.{All-head, All-tail}
use Rattle.gj_frac.specs.Fraction.{Fraction}
use Rattle.gj_lemmas.proofs.Integers.{abs_positive_z, mul_assoc_z, mul_left_comm_z, pos_abs_z}
use Rattle.gj_lemmas.proofs.Ring.{by_ring, ring}
use Rattle.gj_mixed.specs.MixedRows.{IsNonnegativeAmount, AreAmountsOver}

first_amount : (n d e : ℤ) → n *ℤ (d *ℤ e) ≡ (n *ℤ e) *ℤ d
first_amount n d e = by_ring (n ∷ d ∷ e ∷ []) (search ring depth 30) refl

-- over d times the denominator the amounts are d times as large
over_more : (d e : ℕ) (zs : List Fraction) (amounts : List ℕ) → AreAmountsOver e zs amounts →
    AreAmountsOver (d * e) zs (map (λ a. d * a) amounts)
over_more d e [] [] h = tt
over_more d e [] (a ∷ amounts) h = absurd h
over_more d e (z ∷ zs) [] h = absurd h
over_more d e (z ∷ zs) (a ∷ amounts) h = (
  mul_left_comm_z z.top (pos d) (pos e) ∙ ap (λ n. pos d *ℤ n) h.0
      ∙ sym (mul_assoc_z (pos d) (pos a) z.bottom),
  over_more d e zs amounts h.1,
)

pub amounts_over_one : (zs : List Fraction) → All IsNonnegativeAmount zs →
    (e : ℕ) × (amounts : List ℕ) × (0 < e) × AreAmountsOver e zs amounts
amounts_over_one [] h = (1, [], omega arith, tt)
amounts_over_one (z ∷ zs) h =
    let is = All-head IsNonnegativeAmount z zs h in
    let (e, amounts, some, are) = amounts_over_one zs (All-tail IsNonnegativeAmount z zs h) in
    let n = unsigned_abs z.top in
    let d = unsigned_abs z.bottom in
    let n_is : pos n ≡ z.top = pos_abs_z z.top is.top_low in
    let d_is : pos d ≡ z.bottom = pos_abs_z z.bottom (omega (arith, ints, is.bottom_positive)) in (
      d * e,
      n * e ∷ map (λ a. d * a) amounts,
      mul-pos (abs_positive_z z.bottom is.bottom_positive) some,
      (
        ap (λ x. x *ℤ pos (d * e)) (sym n_is) ∙ first_amount (pos n) (pos d) (pos e)
            ∙ ap (λ x. pos (n * e) *ℤ x) d_is,
        over_more d e zs amounts are,
      ),
    )
