-- Sums over one denominator, as sums of fractions that fit.
use Rattle.std.proofs.Common.{◌≡◌, ⊎_elim, inr, ℕ, zero, suc, ◌+◌, ◌*◌, ◌/◌, ◌%◌, ◌<◌, ◌≤◌, ℤ, pos, ◌+ℤ◌, ◌*ℤ◌, ◌<ℤ◌, unsigned_abs, int_div, List, [], ◌∷◌, ◌++◌, length, take, replicate, get_or, refl, sym, ap, ap₂, subst, subst₂, ◌∙◌, ◌^◌, arith}
use Rattle.std.specs.Prelude.{slice_set}
use Rattle.std.specs.List.{AllZip}
use Rattle.std.proofs.lemmas.Int.{ints}
use Rattle.std.proofs.lemmas.Nat.Gcd.{dvd_of_mod-eq-zero}
use Rattle.std.proofs.Math.Nat.{div-mul_cancel}
use Rattle.std.proofs.lemmas.List.{take_more}
use Rattle.gj_frac.specs.declared.Frac.{Frac}
use Rattle.gj_frac.specs.Fraction.{Fits, IsRatio, SameValue, fraction_of, product_of, sum_of}
use Rattle.gj_frac.specs.SameParts.{same_value_same}
use Rattle.gj_frac.proofs.Reduced.{quotient_of_divisor, coprime_signed_quotients, quotient_fits}
use Rattle.gj_frac.proofs.OneDenominator.{fits_sum_over}
use Rattle.gj_lemmas.specs.Divisors.{gcd_of}
use Rattle.gj_lemmas.proofs.Divisors.{gcd_of_is, gcd_positive}
use Rattle.gj_lemmas.proofs.Integers.{abs_add_z, abs_positive_z, pos-*ℤ-pos, mul_assoc_z, mul_comm_z, mul_lt_cancel_right_z, mul_positive_z, positive_some_z, swap_last_z}
use Rattle.gj_lemmas.proofs.Ratios.{ratio_along, ratio_sum, ratio_product}
use Rattle.gj_fields.specs.Rational.{Rational, whole, rational, ◌+ℚ◌, ◌*ℚ◌, ◌-ℚ◌}
use Rattle.gj_problem.specs.declared.problem.Entry.{Entry}
use Rattle.gj_problem.specs.declared.problem.Problem.{Problem}
use Rattle.gj_problem.specs.Problems.{sum_at}
use Rattle.gj_problem.specs.Aggregates.{Weighted, IsAggregate, HasNoSlack}
use Rattle.gj_problem.specs.WideRows.{IsWideNext, IsWideSlack}
use Rattle.gj_problem.specs.Rows.{dot}
use Rattle.gj_problem.specs.Steps.{IsWideAt}
use Rattle.gj_problem.specs.OneDenominator.{IsOneDenominator, IsTimes, IsSumWith}
use Rattle.gj_problem.specs.Combinations.{IsOver, AreOver, HasNone, IsEntryAdded, AreEntriesAdded, IsAdded, IsConstraintAdded}
use Rattle.gj_problem.proofs.AddedSums.{multiple_value, entry_added, entries_added, nothing_added, inequality_added, dot_zero, whole_ratio, none_weighted}
use Rattle.gj_fields.proofs.RationalRing.{by_ring_q, ring_q}
use Rattle.gj_problem.proofs.MadePieces.{zip_joined}
use Rattle.gj_problem.proofs.NarrowSums.{narrow_at, narrow_entry, narrow_at_first, narrow_next}
use lib.IntN.{zero-*ℤ}
use Rattle.gj_problem.proofs.Prefixes.{default_unused, aggregate_next}

-- ---- one number

-- n/d in lowest terms fits if n and d do
pub fraction_over : (n d : ℤ) → pos 0 <ℤ d → Fits n → Fits d → (z : Frac) × IsRatio z n d
fraction_over n d some n_fits d_fits =
    let g = gcd_of (unsigned_abs n) (unsigned_abs d) in
    let h = gcd_of_is (unsigned_abs n) (unsigned_abs d) in
    let g_some : 0 < g = gcd_positive _ _ g h (inr (abs_positive_z d some)) in
    let p = int_div n (pos g) in
    let q = int_div d (pos g) in
    let p_is : p *ℤ pos g ≡ n = quotient_of_divisor n (pos g) h.0 in
    let q_is : q *ℤ pos g ≡ d = quotient_of_divisor d (pos g) h.1 in
    let g_above : pos 0 <ℤ pos g = omega (arith, ints) in
    let above : (pos 0 *ℤ pos g) <ℤ (q *ℤ pos g) = omega (arith, ints) in (
      record {
        num = p;
        den = q;
        lowest = record {
          positive = mul_lt_cancel_right_z (pos 0) q (pos g) g_above above;
          num_fits = quotient_fits p (pos g) n g_above p_is n_fits;
          den_fits = quotient_fits q (pos g) d g_above q_is d_fits;
          coprime = coprime_signed_quotients n d (pos g) p q h g_some p_is q_is;
        };
      },
      ap (λ z. p *ℤ z) (sym q_is) ∙ ap (λ z. p *ℤ z) (mul_comm_z q (pos g))
          ∙ sym (mul_assoc_z p (pos g) q) ∙ ap (λ z. z *ℤ q) p_is,
    )

-- one fraction is n/d
pub one_over : (n d : ℤ) → pos 0 <ℤ d → (x y : Frac) → IsRatio x n d → IsRatio y n d → x ≡ y
one_over n d some x y h k =
    same_value_same x y (ratio_along x.num x.den n d y.num y.den (positive_some_z d some) h (sym k))

-- it is also n k / d k
pub scaled_ratio : (x : Frac) (n d k : ℤ) → IsRatio x n d → IsRatio x (n *ℤ k) (d *ℤ k)
scaled_ratio x n d k h = sym (mul_assoc_z x.num d k) ∙ ap (λ z. z *ℤ k) h ∙ swap_last_z n x.den k

-- the product of m/d and a/e fits if both parts of m a / d e do
pub product_over : (f v : Frac) (m a d e : ℤ) → pos 0 <ℤ d → pos 0 <ℤ e → IsRatio f m d →
    IsRatio v a e → Fits (m *ℤ a) → Fits (d *ℤ e) →
    (p : Frac) × IsRatio p (m *ℤ a) (d *ℤ e)
    × SameValue (fraction_of p) (product_of (fraction_of f) (fraction_of v))
product_over f v m a d e d_some e_some f_is v_is top bottom =
    let some = mul_positive_z d e d_some e_some in
    let (p, p_is) = fraction_over (m *ℤ a) (d *ℤ e) some top bottom in (
      p,
      p_is,
      ratio_along p.num p.den (m *ℤ a) (d *ℤ e) (f.num *ℤ v.num) (f.den *ℤ v.den)
          (positive_some_z (d *ℤ e) some) p_is
          (sym (ratio_product f.num f.den v.num v.den m d a e f_is v_is)),
    )

-- z is x with the multiple of v added, and all numbers on the way fit
pub record IsMultipleAdded (x f v z : Frac) : Type 0 where
  pub value : rational z ≡ rational x +ℚ rational f *ℚ rational v
  pub narrow : IsWideAt x f v → ⊥

-- so it is where all numerators over one denominator fit
pub multiple_over : (x f v : Frac) (n m a d e : ℤ) → pos 0 <ℤ d → pos 0 <ℤ e → IsRatio f m d →
    IsRatio v a e → Fits (d *ℤ e) →
    IsOver (d *ℤ e) n x → Fits (m *ℤ a) → Fits (n +ℤ m *ℤ a) →
    (z : Frac) × IsOver (d *ℤ e) (n +ℤ m *ℤ a) z × IsMultipleAdded x f v z
multiple_over x f v n m a d e d_some e_some f_is v_is bottom x_is product total =
    let w = d *ℤ e in
    let some = mul_positive_z d e d_some e_some in
    let zero_not = positive_some_z w some in
    let (p, p_is, p_value) = product_over f v m a d e d_some e_some f_is v_is product bottom in
    let (z, z_is) = fraction_over (n +ℤ m *ℤ a) w some total bottom in
    let z_value : SameValue (fraction_of z) (sum_of (fraction_of x) (fraction_of p)) =
    ratio_along z.num z.den (n +ℤ m *ℤ a) w (x.num *ℤ p.den +ℤ p.num *ℤ x.den)
    (x.den *ℤ p.den) zero_not z_is
    (sym (ratio_sum x.num x.den p.num p.den n (m *ℤ a) w x_is.ratio p_is)) in (
      z,
      record { fits = total; ratio = z_is },
      record {
        value = multiple_value x f v p z p_value z_value;
        narrow = narrow_at x f v p p_value
            (fits_sum_over x p n (m *ℤ a) w x_is.ratio p_is zero_not bottom x_is.fits product
            total);
      },
    )

-- a small number with a small product
pub sum_with : (n f v p t : ℤ) → t ≡ n +ℤ p → p ≡ f *ℤ v → unsigned_abs n ≤ 2 ^ 125 →
    unsigned_abs p ≤ 2 ^ 125 → IsSumWith n f v t
sum_with n f v p t t_is p_is n_small p_small =
    let size = abs_add_z n p in
    record {
      is = t_is ∙ ap (λ z. n +ℤ z) p_is;
      product_fits = subst Fits p_is (omega arith);
      fits = subst Fits (sym t_is) (omega arith);
    }

-- the numerator of x over a multiple of its denominator
pub small_ratio : (x : Frac) (e n : ℤ) (c d : ℕ) → pos c ≡ e → pos d ≡ x.den → n ≡ x.num →
    c % d ≡ 0 → IsRatio x (n *ℤ pos (c / d)) e
small_ratio x e n c d c_is d_is n_is rest =
    let whole : c / d * d ≡ c = div-mul_cancel d (dvd_of_mod-eq-zero d rest) in
    let over : pos (c / d) *ℤ x.den ≡ e = ap (λ z. pos (c / d) *ℤ z) (sym d_is)
    ∙ pos-*ℤ-pos (c / d) d ∙ ap pos whole ∙ c_is in
    ap (λ z. x.num *ℤ z) (sym over) ∙ sym (mul_assoc_z x.num (pos (c / d)) x.den)
    ∙ ap (λ z. (z *ℤ pos (c / d)) *ℤ x.den) (sym n_is)

-- ---- all coefficients

pub over_length : (d : ℤ) (ns : List ℤ) (cs : List Frac) → AreOver d ns cs → length ns ≡ length cs
over_length d [] [] h = refl
over_length d [] (c ∷ cs) h = absurd h
over_length d (n ∷ ns) [] h = absurd h
over_length d (n ∷ ns) (c ∷ cs) h = ap suc (over_length d ns cs h.1)

over_at : (d : ℤ) (ns : List ℤ) (cs : List Frac) (i : ℕ) (a : ℤ) (b : Frac) → AreOver d ns cs →
    i < length ns → IsOver d (get_or ns i a) (get_or cs i b)
over_at d [] cs i a b h below = absurd (omega arith)
over_at d (n ∷ ns) [] i a b h below = absurd h
over_at d (n ∷ ns) (c ∷ cs) zero a b h below = h.0
over_at d (n ∷ ns) (c ∷ cs) (suc i) a b h below = over_at d ns cs i a b h.1 (omega arith)

over_set : (d : ℤ) (ns : List ℤ) (cs : List Frac) (i : ℕ) (n : ℤ) (c : Frac) → AreOver d ns cs →
    IsOver d n c → AreOver d (slice_set ns i n) (slice_set cs i c)
over_set d [] [] i n c h is = h
over_set d [] (b ∷ cs) i n c h is = absurd h
over_set d (m ∷ ns) [] i n c h is = absurd h
over_set d (m ∷ ns) (b ∷ cs) zero n c h is = (is, h.1)
over_set d (m ∷ ns) (b ∷ cs) (suc i) n c h is = (h.0, over_set d ns cs i n c h.1 is)

set_length : (cs : List Frac) (i : ℕ) (c : Frac) → length (slice_set cs i c) ≡ length cs
set_length [] i c = refl
set_length (b ∷ cs) zero c = refl
set_length (b ∷ cs) (suc i) c = ap suc (set_length cs i c)

-- all numerators and the denominator are multiplied
pub over_scaled : (d k : ℤ) (ns ms : List ℤ) (cs : List Frac) → AreOver d ns cs →
    AllZip (IsTimes k) ns ms →
    AreOver (d *ℤ k) ms cs
over_scaled d k [] [] [] h by = h
over_scaled d k [] [] (c ∷ cs) h by = absurd h
over_scaled d k [] (m ∷ ms) cs h by = absurd by
over_scaled d k (n ∷ ns) [] cs h by = absurd by
over_scaled d k (n ∷ ns) (m ∷ ms) [] h by = absurd h
over_scaled d k (n ∷ ns) (m ∷ ms) (c ∷ cs) h by = (
  record {
    fits = by.0.fits;
    ratio = subst (λ (z : ℤ). IsRatio c z (d *ℤ k)) (sym by.0.is)
        (scaled_ratio c n d k h.0.ratio);
  },
  over_scaled d k ns ms cs h.1 by.1,
)

-- the same fractions are over the greater denominator
pub grown_parts : (d e k : ℤ) (ns ms : List ℤ) (n m : ℤ) (cs : List Frac) (r : Frac) → e ≡ d *ℤ k →
    AllZip (IsTimes k) ns ms → m ≡ n *ℤ k → Fits m →
    AreOver d ns cs → IsOver d n r → AreOver e ms cs × IsOver e m r
grown_parts d e k ns ms n m cs r e_is by m_is m_fits h right = (
  subst (λ (z : ℤ). AreOver z ms cs) (sym e_is) (over_scaled d k ns ms cs h by),
  record {
    fits = m_fits;
    ratio = subst₂ (λ (x z : ℤ). IsRatio r x z) (sym m_is) (sym e_is)
        (scaled_ratio r n d k right.ratio);
  },
)

pub grown_factors : (a b k f : ℤ) → IsOneDenominator a b → pos 0 <ℤ k → f ≡ a *ℤ k → Fits (f *ℤ b) →
    IsOneDenominator f b
grown_factors a b k f h some f_is fits = record {
  factors_some = subst (λ (z : ℤ). pos 0 <ℤ z) (sym f_is) (mul_positive_z a k h.factors_some some);
  numbers_some = h.numbers_some;
  fits = fits;
}

pub grown_numbers : (a b k g : ℤ) → IsOneDenominator a b → pos 0 <ℤ k → g ≡ b *ℤ k → Fits (a *ℤ g) →
    IsOneDenominator a g
grown_numbers a b k g h some g_is fits = record {
  factors_some = h.factors_some;
  numbers_some = subst (λ (z : ℤ). pos 0 <ℤ z) (sym g_is) (mul_positive_z b k h.numbers_some some);
  fits = fits;
}

-- one list of fractions is over them
pub one_list_over : (d : ℤ) → pos 0 <ℤ d → (ns : List ℤ) (cs ds : List Frac) → AreOver d ns cs →
    AllZip (λ (n : ℤ) (x : Frac). IsRatio x n d) ns ds → ds ≡ cs
one_list_over d some [] [] [] h k = refl
one_list_over d some [] (c ∷ cs) ds h k = absurd h
one_list_over d some [] [] (e ∷ ds) h k = absurd k
one_list_over d some (n ∷ ns) [] ds h k = absurd h
one_list_over d some (n ∷ ns) (c ∷ cs) [] h k = absurd k
one_list_over d some (n ∷ ns) (c ∷ cs) (e ∷ ds) h k =
    ap₂ (λ (x : Frac) (xs : List Frac). x ∷ xs) (one_over n d some e c k.0 h.0.ratio)
    (one_list_over d some ns cs ds h.1 k.1)

-- zeros
over_zeros : (d : ℤ) (n : ℕ) (z : Frac) → IsRatio z (pos 0) d →
    AreOver d (replicate n (pos 0)) (replicate n z)
over_zeros d zero z is = tt
over_zeros d (suc n) z is = (record { fits = omega arith; ratio = is }, over_zeros d n z is)

replicate_length : (n : ℕ) (z : Frac) → length (replicate n z) ≡ n
replicate_length zero z = refl
replicate_length (suc n) z = ap suc (replicate_length n z)

-- nothing, against a whole number
pub none_over : (columns right : ℕ) (d m : ℤ) (ns : List ℤ) → pos 0 <ℤ d →
    ns ≡ replicate columns (pos 0) → m ≡ pos right *ℤ d → Fits m →
    right < 2 ^ 32 → (cs : List Frac) × (r : Frac) × AreOver (d *ℤ pos 1) ns cs
    × IsOver (d *ℤ pos 1) m r × HasNone columns right cs r
none_over columns right d m ns some ns_are m_is m_fits small =
    let (z, z_is) = fraction_over (pos 0) (pos 1) (omega (arith, ints)) (omega arith)
    (omega arith) in
    let (r, r_is) = fraction_over (pos right) (pos 1) (omega (arith, ints)) (omega arith)
    (omega arith) in
    let unit : pos 1 *ℤ d ≡ d *ℤ pos 1 = mul_comm_z (pos 1) d in
    let zero_over : IsRatio z (pos 0) (d *ℤ pos 1) =
    subst₂ (λ (x y : ℤ). IsRatio z x y) (zero-*ℤ d) unit (scaled_ratio z (pos 0) (pos 1) d z_is) in (
      replicate columns z,
      r,
      subst (λ (l : List ℤ). AreOver (d *ℤ pos 1) l (replicate columns z)) (sym ns_are)
          (over_zeros (d *ℤ pos 1) columns z zero_over),
      record {
        fits = m_fits;
        ratio = subst₂ (λ (x y : ℤ). IsRatio r x y) (sym m_is) unit
            (scaled_ratio r (pos right) (pos 1) d r_is);
      },
      record {
        count = replicate_length columns z;
        none = λ (point : List Rational). dot_zero columns z point (whole_ratio z (pos 0) z_is);
        right_is = whole_ratio r (pos right) r_is;
      },
    )

-- one more fraction
pub next_over : (d : ℤ) (ns : List ℤ) (xs ys : List Frac) (i : ℕ) (a : ℤ) (x : Frac) →
    i < length ns →
    AllZip (λ (n : ℤ) (y : Frac). IsRatio y n d) (take i ns) xs → IsRatio x (get_or ns i a) d →
    ys ≡ xs ++ x ∷ [] →
    AllZip (λ (n : ℤ) (y : Frac). IsRatio y n d) (take (i + 1) ns) ys
next_over d ns xs ys i a x below h is ys_are =
    let R : ℤ → Frac → Type 0 = λ n y. IsRatio y n d in
    subst₂ (AllZip R) (sym (take_more ns i a below)) (sym ys_are)
    (zip_joined R (take i ns) (get_or ns i a ∷ []) xs (x ∷ []) h (is, tt))

-- ---- one more entry

pub entry_over : (ns ms : List ℤ) (cs : List Frac) (factor : Frac) (e : Entry) (n m a d k : ℤ) →
    pos 0 <ℤ d → pos 0 <ℤ k → Fits (d *ℤ k) →
    IsRatio factor m d → IsRatio e.value a k → AreOver (d *ℤ k) ns cs → e.column < length ns →
    n ≡ get_or ns e.column n →
    Fits (m *ℤ a) → Fits (n +ℤ m *ℤ a) → ms ≡ slice_set ns e.column (n +ℤ m *ℤ a) →
    (ds : List Frac) × AreOver (d *ℤ k) ms ds × IsEntryAdded cs factor e ds
entry_over ns ms cs factor e n m a d k d_some k_some bottom f_is v_is over below here product total
    ms_is =
    let j = e.column in
    let x : Frac = get_or cs j e.value in
    let j_below : j < length cs =
    subst (λ (l : ℕ). j < l) (over_length (d *ℤ k) ns cs over) below in
    let x_here : x ≡ get_or cs j x = default_unused cs j e.value x j_below in
    let x_is : IsOver (d *ℤ k) n x =
    subst (λ (z : ℤ). IsOver (d *ℤ k) z x) (sym here)
    (over_at (d *ℤ k) ns cs j n e.value over below) in
    let (z, z_is, added) =
    multiple_over x factor e.value n m a d k d_some k_some f_is v_is bottom x_is product
    total in (
      slice_set cs j z,
      subst (λ (l : List ℤ). AreOver (d *ℤ k) l (slice_set cs j z)) (sym ms_is)
          (over_set (d *ℤ k) ns cs j (n +ℤ m *ℤ a) z over z_is),
      record {
        count = set_length cs j z;
        adds = λ (point : List Rational). entry_added cs point j x z factor e.value j_below x_here
            added.value;
        fits = narrow_entry cs factor x e j_below x_here added.narrow;
      },
    )

pub no_entries : (cs : List Frac) (factor : Frac) → AreEntriesAdded cs factor [] cs
no_entries cs factor = record {
  count = refl;
  adds = λ (point : List Rational). nothing_added (dot cs point) (rational factor);
  fit = narrow_at_first cs factor;
}

pub next_entry : (cs now next : List Frac) (factor : Frac) (es : List Entry) (i : ℕ) (e : Entry) →
    i < length es → e ≡ get_or es i e →
    AreEntriesAdded cs factor (take i es) now → IsEntryAdded now factor e next →
    AreEntriesAdded cs factor (take (i + 1) es) next
next_entry cs now next factor es i e below here so_far added = record {
  count = added.count ∙ so_far.count;
  adds = λ (point : List Rational).
      entries_added point es i e (rational factor) (dot cs point) (dot now point)
      (dot next point) below here (so_far.adds point)
      (added.adds point);
  fit = narrow_next cs factor es i e now below here so_far.count so_far.adds so_far.fit added.fits;
}

-- ---- an inequality

pub inequality_over : (cs ds : List Frac) (r s factor right : Frac) (es : List Entry) →
    AreEntriesAdded cs factor es ds →
    IsMultipleAdded r factor right s → IsAdded cs r factor es right ds s
inequality_over cs ds r s factor right es entries added = record {
  count = entries.count;
  adds = λ (point : List Rational). inequality_added (dot cs point) (dot ds point)
      (sum_at point es) r s factor right (entries.adds point) added.value;
  entries_fit = entries.fit;
  right_fits = added.narrow;
}

-- ---- a constraint

pub constraint_added : (p : Problem) (cs : List Frac) (r : Frac) (w : Weighted) (ds : List Frac)
    (s : Frac) →
    IsAdded cs r w.multiplier w.constraint.entries w.constraint.right ds s →
    ((HasNoSlack w → ⊥) → IsWideSlack p w → ⊥) →
    IsConstraintAdded p cs r w ds s
constraint_added p cs r w ds s added narrow = record {
  count = added.count;
  adds = added.adds;
  fits = λ (wide : IsWideNext p cs r w).
      ⊎_elim (⊎_elim added.entries_fit added.right_fits)
      (λ (k : (HasNoSlack w → ⊥) × IsWideSlack p w). narrow k.0 k.1) wide.wide;
}

-- a constraint with the multiplier 0 adds nothing
pub constraint_left_out : (p : Problem) (cs : List Frac) (r : Frac) (w : Weighted) →
    w.multiplier.num ≡ pos 0 → IsConstraintAdded p cs r w cs r
constraint_left_out p cs r w none = record {
  count = refl;
  adds = λ (point : List Rational).
      none_weighted w.multiplier (dot cs point -ℚ rational r)
      (sum_at point w.constraint.entries -ℚ rational w.constraint.right) none;
  fits = λ (wide : IsWideNext p cs r w). wide.named none;
}

zero_less : whole (pos 0) -ℚ whole (pos 0) ≡ whole (pos 0)
zero_less = by_ring_q [] (search ring_q depth 30) refl

pub none_is_aggregate : (p : Problem) (columns : ℕ) (cs : List Frac) (r : Frac) →
    columns ≡ length p.columns → HasNone columns 0 cs r →
    IsAggregate p [] cs r
none_is_aggregate p columns cs r columns_are none = record {
  count = none.count ∙ columns_are;
  adds = λ (point : List Rational). ap₂ (λ a b. a -ℚ b) (none.none point) none.right_is ∙ zero_less;
}

pub aggregate_with : (p : Problem) (ws vs : List Weighted) (w : Weighted) (cs ds : List Frac)
    (r s : Frac) → vs ≡ ws ++ w ∷ [] →
    IsAggregate p ws cs r → IsConstraintAdded p cs r w ds s → IsAggregate p vs ds s
aggregate_with p ws vs w cs ds r s vs_are sum added = record {
  count = added.count ∙ sum.count;
  adds = λ (point : List Rational).
      aggregate_next point ws vs w (dot cs point -ℚ rational r) (dot ds point -ℚ rational s) vs_are
      (sum.adds point) (added.adds point);
}
