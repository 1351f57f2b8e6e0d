-- The mixed-integer cut of fractions whose parts fit into 64 bits, by natural numbers.
use Rattle.std.proofs.Common.{◌≡◌, ℕ, ◌*◌, ◌-◌, ◌<◌, ◌≤◌, ◌^◌, ℤ, pos, ◌-ℤ◌, ◌*ℤ◌, ◌<ℤ◌, ◌≤ℤ◌, unsigned_abs, Some, Result, Ok, Err, sym, ap, ap₂, subst₂, ◌∙◌, arith, to_z, of_z}
use Rattle.std.proofs.lemmas.Int.{ints, to_z-of_z}
use Rattle.std.proofs.Math.Nat.{mul-pos, mul-le-mul_right, mul-lt-mul_of_pos_right}
use Rattle.std.specs.Int.{FitsUnsigned, int_rem_euclid}
use Rattle.std.specs.Result.{OkIff, result_ok}
use Rattle.gj_frac.specs.declared.Frac.{Frac}
use Rattle.gj_frac.specs.Fraction.{IsRatio, IsInside}
use Rattle.gj_frac.proofs.Floors.{rest_from_floor}
use Rattle.gj_rule.proofs.ClosedForm.{read, reads_as, IsRestOf, rising_value, falling_value}
use Rattle.gj_theory.specs.Cuts.{IsGmicValue}
use lib.IntN.{pos-*ℤ-pos}
use mir.Syntax.{w32, w64}
use mir.Val.{SFits}

-- ---- numbers that were converted

-- what a conversion gave, if it gave anything
given_by : {T E : Type 0} (r : Result T E) (P : Type 0) (v n : T) → OkIff r P v →
    Some n ≡ result_ok r → P × (n ≡ v)
given_by (Ok m) P v n h e = let same : n ≡ m = cc in (h.0, same ∙ h.1)
given_by (Err d) P v n h e = absurd (cc)

-- a part as 32 bits without sign
pub as_natural : {E : Type 0} (r : Result ℕ E) (part z : ℤ) (n : ℕ) → part ≡ z →
    unsigned_abs z < 2 ^ 127 →
    OkIff r (FitsUnsigned w32 (read part)) (unsigned_abs (read part)) → Some n ≡ result_ok r →
    pos n ≡ z
as_natural r part z n part_is fits h e =
    let same = reads_as part z part_is fits in
    let given = given_by r _ _ n h e in
    let low : pos 0 ≤ℤ read part = given.0.0 in
    let value : n ≡ unsigned_abs (read part) = given.1 in
    let back : pos n ≡ read part = omega (arith, ints) in
    back ∙ same

-- a part as 64 bits with sign
pub as_signed : {E : Type 0} (r : Result ℤ E) (part z n : ℤ) → part ≡ z → unsigned_abs z < 2 ^ 127 →
    OkIff r (SFits w64 (read part)) (read part) → Some n ≡ result_ok r → to_z w64 (of_z w64 n) ≡ z
as_signed r part z n part_is fits h e =
    let given = given_by r _ _ n h e in
    ap (λ m. to_z w64 (of_z w64 m)) given.1 ∙ to_z-of_z w64 (read part) given.0
    ∙ reads_as part z part_is fits

-- ---- the natural numbers

-- f is a/b, x has the denominator d, and its floor leaves r/d
pub record AreNaturalParts (f x : Frac) (a b r d : ℕ) : Type 0 where
  pub num_is : pos a ≡ f.num
  pub den_is : pos b ≡ f.den
  pub below_is : pos d ≡ x.den
  pub rest_is : pos r ≡ int_rem_euclid x.num x.den
  pub rest_below : r < d

module _ (f x : Frac) (inside : IsInside f) (a b r d : ℕ)
    (parts : AreNaturalParts f x a b r d) where
  num_positive : 0 < a
  num_positive = let e = parts.num_is in let h = inside.0 in omega (arith, ints)

  num_low : a < b
  num_low = let e = parts.num_is in let e' = parts.den_is in let h = inside.1 in omega (arith, ints)

  below_positive : 0 < d
  below_positive = let e = parts.below_is in let h = x.lowest.positive in omega (arith, ints)

  -- the place is not 0, and not 1
  pub place_some : 0 < a * d
  place_some = mul-pos num_positive below_positive

  pub place_low : a * d < d * b
  place_low = let h : a * d < b * d = mul-lt-mul_of_pos_right num_low below_positive in omega arith

  -- the rest is at most 1
  pub part_low : r * b ≤ d * b
  part_low = let h = parts.rest_below in mul-le-mul_right b (omega arith)

  is_rest : IsRestOf x (pos r) (pos d)
  is_rest w floor = (parts.rest_is ∙ rest_from_floor x w floor, parts.below_is)

  part_is : pos r *ℤ f.den ≡ pos (r * b)
  part_is = ap (λ z. pos r *ℤ z) (sym parts.den_is) ∙ pos-*ℤ-pos r b

  place_is : f.num *ℤ pos d ≡ pos (a * d)
  place_is = ap (λ z. z *ℤ pos d) (sym parts.num_is) ∙ pos-*ℤ-pos a d

  one_is : pos d *ℤ f.den ≡ pos (d * b)
  one_is = ap (λ z. pos d *ℤ z) (sym parts.den_is) ∙ pos-*ℤ-pos d b

  pub rising_is : r * b ≤ a * d → (v : Frac) → IsRatio v (pos (r * b)) (pos (a * d)) →
      IsGmicValue f x v
  rising_is low v is =
      let below : (pos r *ℤ f.den) ≤ℤ (f.num *ℤ pos d) =
      subst₂ (λ m n. m ≤ℤ n) (sym part_is) (sym place_is) (omega (arith, ints)) in
      rising_value f x v (pos r) (pos d) is_rest (λ above. omega (arith, ints))
      (subst₂ (IsRatio v) (sym part_is) (sym place_is) is)

  pub falling_is : a * d < r * b → (v : Frac) →
      IsRatio v (pos (d * b - r * b)) (pos (d * b - a * d)) → IsGmicValue f x v
  falling_is high v is =
      let above : (f.num *ℤ pos d) <ℤ (pos r *ℤ f.den) =
      subst₂ (λ m n. m <ℤ n) (sym place_is) (sym part_is) (omega (arith, ints)) in
      let rest_low = part_low in
      let low = place_low in
      let top : pos (d * b - r * b) ≡ pos (d * b) -ℤ pos (r * b) = omega (arith, ints) in
      let bottom : pos (d * b - a * d) ≡ pos (d * b) -ℤ pos (a * d) = omega (arith, ints) in
      falling_value f x v (pos r) (pos d) is_rest above
      (subst₂ (IsRatio v) (top ∙ ap₂ (λ m n. m -ℤ n) (sym one_is) (sym part_is))
      (bottom ∙ ap₂ (λ m n. m -ℤ n) (sym one_is) (sym place_is)) is)
