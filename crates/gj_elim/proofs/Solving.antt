-- A kept row is solved.
use Rattle.std.proofs.Common.{◌≡◌, ℕ, ◌+◌, ◌<◌, ◌≤◌, ◌^◌, ◌⊎◌, inl, inr, ◌↔◌, ℤ, pos, ◌+ℤ◌, ◌*ℤ◌, neg_ℤ, ◌<ℤ◌, ◌-ℤ◌, int_div, FitsSigned, to_z, of_z, List, ◌∷◌, ◌++◌, length, map, drop, set, get_or, unsigned_abs, sym, ap, ap₂, subst, ◌∙◌, arith}
use Rattle.std.specs.List.{zip}
use Rattle.std.proofs.lemmas.Bool.{cases_lt}
use Rattle.std.proofs.lemmas.Int.{ints, to_z-of_z}
use Rattle.std.proofs.lemmas.List.{drop_more, length-map}
use mir.Syntax.{w128}
use Rattle.gj_lemmas.specs.Divisors.{gcd_of}
use Rattle.gj_shape.specs.SlopeRows.{total}
use Rattle.gj_shape.specs.Elimination.{at_column, scaled, products_behind, partial_sums, solving_gcd, solving_products, solved_at, marked_in_solving, Passes}
use Rattle.gj_theory.proofs.Entries.{at_scaled}
use Rattle.gj_frac.specs.Fraction.{Fits}
use Rattle.gj_lemmas.proofs.Integers.{mul_comm_z}
use Rattle.gj_lemmas.proofs.Divisors.{gcd_of_is}
use Rattle.gj_frac.proofs.Reduced.{quotient_of_divisor}
use Rattle.gj_theory.proofs.WideNumbers.{fits_width, read_fitting}
use Rattle.gj_theory.proofs.DividedRows.{smaller, negated_fits, read_negated, read_signed_quotient}
use Rattle.gj_theory.proofs.Passing.{first_passes, later_passes, passes_cases, front_passes, back_passes, either_passes, passes_at, none_pass}

-- ---- the sum of products

-- the products from an index on
abbrev pub products_from : ℕ → List ℤ → List ℤ → List ℤ
products_from i row w = map (λ p. p.0 *ℤ p.1) (zip (drop i row) (drop i w))

products_next : (row w : List ℤ) (i : ℕ) → i < length row → i < length w →
    products_from i row w ≡ (at_column row i *ℤ at_column w i) ∷ products_from (i + 1) row w
products_next row w i in_row in_w =
    ap₂ (λ xs ys. map (λ p. p.0 *ℤ p.1) (zip xs ys)) (drop_more row i (pos 0) in_row)
    (drop_more w i (pos 0) in_w)

-- the numbers that are marked if so much is summed up
abbrev pub marked_from : ℤ → List ℤ → List ℤ
marked_from t ps = ps ++ partial_sums t ps

pub record IsSummed (row w : List ℤ) (column i : ℕ) (t : ℤ) : Type 0 where
  pub value : total (products_behind column row w) ≡ t +ℤ total (products_from i row w)
  pub fits : Fits t
  pub marked : Passes (marked_from (pos 0) (products_behind column row w))
      ↔ Passes (marked_from t (products_from i row w))

-- one more product
marked_more : (t p : ℤ) (ps : List ℤ) → Fits p → Fits (t +ℤ p) →
    (Passes (marked_from t (p ∷ ps)) ↔ Passes (marked_from (t +ℤ p) ps))
marked_more t p ps first second = (
  λ h. go (passes_cases p (ps ++ partial_sums t (p ∷ ps)) h),
  λ h. later_passes p (ps ++ partial_sums t (p ∷ ps))
      (back (either_passes ps (partial_sums (t +ℤ p) ps) h)),
)
  where
    sums : Passes ps ⊎ Passes ((t +ℤ p) ∷ partial_sums (t +ℤ p) ps) →
        Passes (marked_from (t +ℤ p) ps)
    sums (inl h) = front_passes ps (partial_sums (t +ℤ p) ps) h
    sums (inr h) = last (passes_cases (t +ℤ p) (partial_sums (t +ℤ p) ps) h)
      where
        last : (2 ^ 127 ≤ unsigned_abs (t +ℤ p)) ⊎ Passes (partial_sums (t +ℤ p) ps) →
            Passes (marked_from (t +ℤ p) ps)
        last (inl large) = absurd (omega arith)
        last (inr h) = back_passes ps (partial_sums (t +ℤ p) ps) h

    go : (2 ^ 127 ≤ unsigned_abs p) ⊎ Passes (ps ++ partial_sums t (p ∷ ps)) →
        Passes (marked_from (t +ℤ p) ps)
    go (inl large) = absurd (omega arith)
    go (inr h) = sums (either_passes ps (partial_sums t (p ∷ ps)) h)

    back : Passes ps ⊎ Passes (partial_sums (t +ℤ p) ps) → Passes (ps ++ partial_sums t (p ∷ ps))
    back (inl h) = front_passes ps (partial_sums t (p ∷ ps)) h
    back (inr h) =
        back_passes ps (partial_sums t (p ∷ ps))
        (later_passes (t +ℤ p) (partial_sums (t +ℤ p) ps) h)

pub summed_more : (row w : List ℤ) (column i : ℕ) (t p z : ℤ) → IsSummed row w column i t →
    i < length row →
    length row ≡ length w → p ≡ at_column row i *ℤ at_column w i → Fits p → z ≡ t +ℤ p → Fits z →
    IsSummed row w column (i + 1) z
summed_more row w column i t p z h inside len p_is p_fits z_is z_fits =
    let next : products_from i row w ≡ p ∷ products_from (i + 1) row w =
    products_next row w i inside (omega arith)
    ∙ ap (λ x. x ∷ products_from (i + 1) row w) (sym p_is) in
    let more = marked_more t p (products_from (i + 1) row w) p_fits (subst Fits z_is z_fits) in
    let whole : Passes (marked_from (pos 0) (products_behind column row w))
    ↔ Passes (marked_from t (p ∷ products_from (i + 1) row w)) =
    subst (λ (ps : List ℤ). (Passes (marked_from (pos 0) (products_behind column row w))
    ↔ Passes (marked_from t ps))) next h.marked in
    subst (IsSummed row w column (i + 1)) (sym z_is) record {
      value = h.value ∙ ap (λ ps. t +ℤ total ps) next
          ∙ regroup t p (total (products_from (i + 1) row w));
      fits = subst Fits z_is z_fits;
      marked = (λ q. more.0 (whole.0 q), λ q. whole.1 (more.1 q));
    }
  where
    regroup : (t p s : ℤ) → t +ℤ (p +ℤ s) ≡ (t +ℤ p) +ℤ s
    regroup t p s = omega (arith, ints)

pub summed_wide_product : (row w : List ℤ) (column i : ℕ) (t : ℤ) → IsSummed row w column i t →
    i < length row →
    length row ≡ length w → (Fits (at_column row i *ℤ at_column w i) → ⊥) →
    Passes (marked_from (pos 0) (products_behind column row w))
summed_wide_product row w column i t h inside len wide =
    let p : ℤ = at_column row i *ℤ at_column w i in
    let ps : List ℤ = products_from (i + 1) row w in
    let large : 2 ^ 127 ≤ unsigned_abs p = not_fitting p wide in
    h.marked.1 (subst (λ (qs : List ℤ). Passes (marked_from t qs))
    (sym (products_next row w i inside (omega arith)))
    (first_passes p (ps ++ partial_sums t (p ∷ ps)) large))
  where
    not_fitting : (x : ℤ) → (Fits x → ⊥) → 2 ^ 127 ≤ unsigned_abs x
    not_fitting x none = by_size (cases_lt (unsigned_abs x) (2 ^ 127))
      where
        by_size : (unsigned_abs x < 2 ^ 127) ⊎ (2 ^ 127 ≤ unsigned_abs x) → 2 ^ 127 ≤ unsigned_abs x
        by_size (inl small) = absurd (none small)
        by_size (inr large) = large

pub summed_wide_sum : (row w : List ℤ) (column i : ℕ) (t p : ℤ) → IsSummed row w column i t →
    i < length row →
    length row ≡ length w → p ≡ at_column row i *ℤ at_column w i → (Fits (t +ℤ p) → ⊥) →
    Passes (marked_from (pos 0) (products_behind column row w))
summed_wide_sum row w column i t p h inside len p_is wide =
    let ps : List ℤ = products_from (i + 1) row w in
    let next : products_from i row w ≡ p ∷ ps =
    products_next row w i inside (omega arith)
    ∙ ap (λ x. x ∷ products_from (i + 1) row w) (sym p_is) in
    h.marked.1 (subst (λ (qs : List ℤ). Passes (marked_from t qs)) (sym next)
    (back_passes (p ∷ ps) (partial_sums t (p ∷ ps))
    (first_passes (t +ℤ p) (partial_sums (t +ℤ p) ps) (not_fitting (t +ℤ p) wide))))
  where
    not_fitting : (x : ℤ) → (Fits x → ⊥) → 2 ^ 127 ≤ unsigned_abs x
    not_fitting x none = by_size (cases_lt (unsigned_abs x) (2 ^ 127))
      where
        by_size : (unsigned_abs x < 2 ^ 127) ⊎ (2 ^ 127 ≤ unsigned_abs x) → 2 ^ 127 ≤ unsigned_abs x
        by_size (inl small) = absurd (none small)
        by_size (inr large) = large

-- ---- the multiplied numbers

pub scaled_wide : (u : ℤ) (w : List ℤ) (i : ℕ) → i < length w →
    (Fits (u *ℤ get_or w i (pos 0)) → ⊥) → Passes (scaled u w)
scaled_wide u w i inside wide =
    by_size (cases_lt (unsigned_abs (u *ℤ get_or w i (pos 0))) (2 ^ 127))
  where
    by_size : (unsigned_abs (u *ℤ get_or w i (pos 0)) < 2 ^ 127)
        ⊎ (2 ^ 127 ≤ unsigned_abs (u *ℤ get_or w i (pos 0))) →
        Passes (scaled u w)
    by_size (inl small) = absurd (wide small)
    by_size (inr large) =
        let len = length-map w (λ x. u *ℤ x) in
        passes_at (scaled u w) i (omega arith)
        (subst (λ (x : ℤ). 2 ^ 127 ≤ unsigned_abs x) (sym (at_scaled u w i)) large)

pub scaled_narrow : (u : ℤ) (w : List ℤ) (i : ℕ) → length w ≤ i →
    ((k : ℕ) → k < i → Fits (u *ℤ at_column w k)) →
    Passes (scaled u w) → ⊥
scaled_narrow u w i past fit =
    let len = length-map w (λ x. u *ℤ x) in
    none_pass (scaled u w) (λ k below. subst Fits (sym (at_scaled u w k)) (fit k (omega arith)))

-- ---- the row is solved

-- the divisor by which the row is solved, and what the code has for the factor and the number
pub record AreSolving (row w : List ℤ) (j : ℕ) (t d u z : ℤ) : Type 0 where
  pub factor : u ≡ int_div (at_column row j) (pos (solving_gcd row j w))
  pub number : z ≡ neg_ℤ (int_div (total (products_behind j row w)) (pos (solving_gcd row j w)))
  pub fits : FitsSigned w128
      (pos 0 -ℤ to_z w128 (of_z w128 (int_div (to_z w128 (of_z w128 t)) (to_z w128 (of_z w128 d)))))

pub solving_of : (row w : List ℤ) (j : ℕ) (t d : ℤ) → t ≡ total (products_behind j row w) → Fits t →
    d ≡ pos (gcd_of (unsigned_abs t) (unsigned_abs (at_column row j))) → pos 0 <ℤ d →
    FitsSigned w128 d →
    FitsSigned w128 (at_column row j) →
    AreSolving row w j t d
    (to_z w128 (of_z w128
    (int_div (to_z w128 (of_z w128 (at_column row j))) (to_z w128 (of_z w128 d)))))
    (to_z w128 (of_z w128
    (pos 0 -ℤ to_z w128 (of_z w128
    (int_div (to_z w128 (of_z w128 t)) (to_z w128 (of_z w128 d)))))))
solving_of row w j t d t_is t_fits d_is some d_fits pivot_fits =
    let g : ℕ = gcd_of (unsigned_abs t) (unsigned_abs (at_column row j)) in
    let same : d ≡ pos (solving_gcd row j w) =
    d_is ∙ ap (λ x. pos (gcd_of (unsigned_abs x) (unsigned_abs (at_column row j)))) t_is in
    let g_some : 0 < g = omega (arith, ints) in
    let exact : int_div t (pos g) *ℤ pos g ≡ t =
    quotient_of_divisor t (pos g) (gcd_of_is (unsigned_abs t) (unsigned_abs (at_column row j))).0 in
    let small : Fits (int_div t (pos g)) =
    by_size (smaller g (int_div t (pos g)) t g_some (mul_comm_z (pos g) (int_div t (pos g))
    ∙ exact)) in
    let small_d : Fits (int_div t d) = subst (λ (x : ℤ). Fits (int_div t x)) (sym d_is) small in
    let inner : int_div (to_z w128 (of_z w128 t)) (to_z w128 (of_z w128 d)) ≡ int_div t d =
    ap₂ int_div (read_fitting t t_fits) (to_z-of_z w128 d d_fits) in
    let turned : pos 0 -ℤ to_z w128 (of_z w128 (int_div t d)) ≡ neg_ℤ (int_div t d) =
    ap (λ x. pos 0 -ℤ x) (read_fitting (int_div t d) small_d) ∙ minus (int_div t d) in record {
      factor = read_signed_quotient (at_column row j) d pivot_fits d_fits some
          ∙ ap (int_div (at_column row j)) same;
      number = ap (λ x. to_z w128 (of_z w128 (pos 0 -ℤ to_z w128 (of_z w128 x)))) inner
          ∙ read_negated (int_div t d) small_d
          ∙ ap₂ (λ x y. neg_ℤ (int_div x y)) t_is same;
      fits = subst (FitsSigned w128)
          (sym (ap (λ x. pos 0 -ℤ to_z w128 (of_z w128 x)) inner ∙ turned))
          (fits_width (neg_ℤ (int_div t d)) (negated_fits (int_div t d) small_d));
    }
  where
    by_size : unsigned_abs
        (int_div t (pos (gcd_of (unsigned_abs t) (unsigned_abs (at_column row j)))))
        ≤ unsigned_abs t →
        Fits (int_div t (pos (gcd_of (unsigned_abs t) (unsigned_abs (at_column row j)))))
    by_size h = omega arith

    minus : (x : ℤ) → pos 0 -ℤ x ≡ neg_ℤ x
    minus x = omega (arith, ints)

pub solved_value : (row w multiplied : List ℤ) (j : ℕ) (t d u z : ℤ) → AreSolving row w j t d u z →
    multiplied ≡ scaled u w →
    set multiplied j z ≡ solved_at row j w
unfolding solved_at
solved_value row w multiplied j t d u z h is =
    ap₂ (λ xs x. set xs j x) (is ∙ ap (λ x. scaled x w) h.factor) h.number

pub solved_wide_sum : (row w : List ℤ) (j : ℕ) →
    Passes (marked_from (pos 0) (products_behind j row w)) →
    Passes (marked_in_solving row j w)
unfolding marked_in_solving
solved_wide_sum row w j p = front_passes (marked_from (pos 0) (products_behind j row w))
    (solving_products row j w) p

pub solved_wide : (row w : List ℤ) (j : ℕ) (t d u z : ℤ) → AreSolving row w j t d u z →
    Passes (scaled u w) →
    Passes (marked_in_solving row j w)
unfolding marked_in_solving
solved_wide row w j t d u z h p =
    back_passes (marked_from (pos 0) (products_behind j row w)) (solving_products row j w)
    (subst (λ (x : ℤ). Passes (scaled x w)) h.factor p)

pub solved_narrow : (row w : List ℤ) (j : ℕ) (t d u z : ℤ) → AreSolving row w j t d u z →
    (Passes (marked_from (pos 0) (products_behind j row w)) → ⊥) → (Passes (scaled u w) → ⊥) →
    Passes (marked_in_solving row j w) → ⊥
unfolding marked_in_solving
solved_narrow row w j t d u z h sums products p =
    by_part (either_passes (marked_from (pos 0) (products_behind j row w))
    (solving_products row j w) p)
  where
    by_part : Passes (marked_from (pos 0) (products_behind j row w))
        ⊎ Passes (solving_products row j w) → ⊥
    by_part (inl q) = sums q
    by_part (inr q) = products (subst (λ (x : ℤ). Passes (scaled x w)) (sym h.factor) q)
