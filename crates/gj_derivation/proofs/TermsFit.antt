-- The terms of a cut are spread over the columns without a number that does not fit.
use Rattle.std.proofs.Common.{◌≡◌, ⊎_elim, ℕ, zero, suc, ◌+◌, ◌/◌, ◌<◌, ◌≤◌, List, [], ◌∷◌, ◌++◌, length, get_or, ℤ, pos, ◌+ℤ◌, ◌*ℤ◌, unsigned_abs, refl, sym, ap, ap₂, subst, ◌∙◌, arith}
use Rattle.std.proofs.lemmas.Int.{ints}
use Rattle.std.proofs.Math.Nat.{eq-one_of_dvd-one}
use Rattle.std.specs.Int.{◌∣◌}
use Rattle.gj_lemmas.proofs.Integers.{one_mul_z, mul_comm_z}
use Rattle.gj_frac.specs.declared.Frac.{Frac}
use Rattle.gj_frac.specs.Fraction.{Fits}
use Rattle.gj_frac.specs.Fits.{FitsProduct, FitsSum}
use Rattle.gj_fields.specs.Rational.{Rational, whole, rational, ◌+ℚ◌, ◌*ℚ◌}
use Rattle.gj_fields.proofs.RationalLaws.{whole_top, whole_bottom}
use Rattle.gj_fields.proofs.RationalRing.{by_ring_q, ring_q}
use Rattle.gj_problem.specs.declared.problem.Entry.{Entry}
use Rattle.gj_problem.specs.Problems.{value_at, sum_at, AreTermsWithin}
use Rattle.gj_problem.specs.Steps.{IsWideAt}
use Rattle.gj_derivation.specs.Derivations.{unit}
use Rattle.gj_derivation.specs.Checks.{IsWideTerms}
use Rattle.gj_derivation.proofs.CheckedSums.{dot_unit}
use lib.IntN.{zero-*ℤ}

-- ---- once, added to 0

pub num_of_whole : (x : Frac) (z : ℤ) → rational x ≡ whole z → x.num ≡ z
num_of_whole x z is = ap (λ (q : Rational). q.top) is ∙ whole_top z

pub den_of_whole : (x : Frac) (z : ℤ) → rational x ≡ whole z → x.den ≡ pos 1
den_of_whole x z is = ap (λ (q : Rational). q.bottom) is ∙ whole_bottom z

once_fits : (f v : Frac) → f.num ≡ pos 1 → f.den ≡ pos 1 → FitsProduct f v
once_fits f v num den = (
  v,
  ap (λ a. v.num *ℤ (a *ℤ v.den)) den ∙ ap (λ z. v.num *ℤ z) (one_mul_z v.den)
      ∙ sym (ap (λ a. (a *ℤ v.num) *ℤ v.den) num ∙ ap (λ z. z *ℤ v.den) (one_mul_z v.num)),
)

once_z : (z : ℤ) → z *ℤ pos 1 ≡ z
once_z z = mul_comm_z z (pos 1) ∙ one_mul_z z

added_to_zero : (x z : Frac) → x.num ≡ pos 0 → x.den ≡ pos 1 → FitsSum x z
added_to_zero x z num den g is =
    let one : g ≡ 1 = eq-one_of_dvd-one (subst (λ (d : ℤ). g ∣ unsigned_abs d) den is.0) in
    let part : unsigned_abs x.den / g ≡ 1 = ap₂ (λ (d : ℤ) (h : ℕ). unsigned_abs d / h) den one in
    let none : x.num *ℤ pos (unsigned_abs z.den / g) ≡ pos 0 =
    ap (λ a. a *ℤ pos (unsigned_abs z.den / g)) num ∙ zero-*ℤ (pos (unsigned_abs z.den / g)) in
    let all : z.num *ℤ pos (unsigned_abs x.den / g) ≡ z.num = ap (λ (n : ℕ). z.num *ℤ pos n) part
    ∙ once_z z.num in
    let under : pos (unsigned_abs x.den / g) *ℤ z.den ≡ z.den = ap (λ (n : ℕ). pos n *ℤ z.den) part
    ∙ one_mul_z z.den in
    let nothing : Fits (pos 0) = omega arith in
    record {
      first = subst Fits (sym none) nothing;
      second = subst Fits (sym all) z.lowest.num_fits;
      total = subst Fits (sym (ap₂ (λ a b. a +ℤ b) none all ∙ zero_first z.num)) z.lowest.num_fits;
      bottom = subst Fits (sym under) z.lowest.den_fits;
    }
  where
    zero_first : (n : ℤ) → pos 0 +ℤ n ≡ n
    zero_first n = omega (arith, ints)

pub not_wide_at : (x f v : Frac) → rational x ≡ whole (pos 0) → rational f ≡ whole (pos 1) →
    IsWideAt x f v → ⊥
not_wide_at x f v none one wide =
    ⊎_elim
    (λ (no_product : FitsProduct f v → ⊥). no_product (once_fits f v (num_of_whole f (pos 1) one)
    (den_of_whole f (pos 1) one)))
    (λ (h : (z : Frac) × ((z.num *ℤ (f.den *ℤ v.den)) ≡ ((f.num *ℤ v.num) *ℤ z.den))
    × (FitsSum x z → ⊥)).
    h.2 (added_to_zero x h.0 (num_of_whole x (pos 0) none) (den_of_whole x (pos 0) none)))
    wide

-- ---- terms in the order of their columns

pub terms_end : (j n : ℕ) (es : List Entry) → AreTermsWithin j n es → j ≤ n
terms_end j n [] h = h
terms_end j n (e ∷ es) h = let rest = terms_end (e.column + 1) n es h.2 in omega (arith, h.0)

terms_low : (j n : ℕ) (before : List Entry) (e : Entry) (after : List Entry) →
    AreTermsWithin j n (before ++ e ∷ after) → j ≤ e.column
terms_low j n [] e after h = h.0
terms_low j n (b ∷ before) e after h = let rest = terms_low (b.column + 1) n before e after h.2 in
    omega (arith, h.0)

terms_below : (j n : ℕ) (before : List Entry) (e : Entry) (after : List Entry) →
    AreTermsWithin j n (before ++ e ∷ after) → e.column < n
terms_below j n [] e after h = let rest = terms_end (e.column + 1) n after h.2 in omega arith
terms_below j n (b ∷ before) e after h = terms_below (b.column + 1) n before e after h.2

pub other_unit : (i j : ℕ) → j < i → value_at (unit i) j ≡ whole (pos 0)
other_unit zero j below = absurd (omega arith)
other_unit (suc i) zero below = refl
other_unit (suc i) (suc j) below = other_unit i j (omega arith)

nothing_more : (v : Rational) → v *ℚ whole (pos 0) +ℚ whole (pos 0) ≡ whole (pos 0)
nothing_more v = by_ring_q (v ∷ []) (search ring_q depth 40) refl

none_before : (j n : ℕ) (before : List Entry) (e : Entry) (after : List Entry) →
    AreTermsWithin j n (before ++ e ∷ after) →
    sum_at (unit e.column) before ≡ whole (pos 0)
none_before j n [] e after h = refl
none_before j n (b ∷ before) e after h =
    let low = terms_low (b.column + 1) n before e after h.2 in
    ap₂ (λ v w. rational b.value *ℚ v +ℚ w) (other_unit e.column b.column (omega arith))
    (none_before (b.column + 1) n before e after h.2)
    ∙ nothing_more (rational b.value)

nothing_reached : (f : Rational) → whole (pos 0) +ℚ f *ℚ whole (pos 0) ≡ whole (pos 0)
nothing_reached f = by_ring_q (f ∷ []) (search ring_q depth 40) refl

pub terms_fit : (n : ℕ) (es : List Entry) → AreTermsWithin 0 n es → IsWideTerms n es → ⊥
terms_fit n es terms h =
    let w = h.wide in
    let e = w.entry in
    let placed : AreTermsWithin 0 n (w.before ++ e ∷ w.after) =
    subst (AreTermsWithin 0 n) w.place terms in
    let column : e.column < n = terms_below 0 n w.before e w.after placed in
    let count = w.count in
    let all = h.count in
    ⊎_elim
    (λ (past : length w.reached ≤ e.column). absurd (omega arith))
    (λ (k : (x : Frac) × (get_or w.reached e.column x ≡ x) × IsWideAt x h.one e.value).
    let none : rational k.0 ≡ whole (pos 0) =
    sym (ap rational k.1) ∙ sym (dot_unit w.reached e.column k.0 (omega arith))
    ∙ w.adds (unit e.column)
    ∙ ap₂ (λ a b. a +ℚ rational h.one *ℚ b) (h.are_none (unit e.column))
    (none_before 0 n w.before e w.after placed)
    ∙ nothing_reached (rational h.one) in
    not_wide_at k.0 h.one e.value none h.one_is k.2)
    w.wide
