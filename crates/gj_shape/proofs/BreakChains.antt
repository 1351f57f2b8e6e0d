-- Breakpoints that pass all tests together pass them one after another.
use Rattle.std.proofs.Common.{◌≡◌, ℕ, ◌*◌, ◌<◌, ◌≤◌, inl, List, [], ◌∷◌, ◌++◌, map, unsigned_abs, refl, sym, ap, ap₂, subst, ◌∙◌, append_assoc, arith}
use Rattle.std.specs.Int.{◌∣◌}
use Rattle.std.proofs.Math.Nat.{mul_comm}
use Rattle.std.proofs.lemmas.Nat.Gcd.{dvd_antisymm, le_of_dvd}
use Rattle.std.proofs.lemmas.List.{map-append}
use Rattle.std.proofs.lemmas.List.Concat.{flat_map-append}
use Rattle.std.proofs.lemmas.List.Elements.{All-head}
use Rattle.gj_lemmas.specs.Divisors.{IsLcm}
use Rattle.gj_lemmas.proofs.Divisors.{cofactor, gcd_exists, gcd_positive, lcm_from_gcd}
use Rattle.gj_lemmas.proofs.Lists.{All-front, All-back}
use Rattle.gj_frac.specs.declared.Frac.{Frac}
use Rattle.gj_frac.specs.Fraction.{denominator}
use Rattle.gj_shape.specs.Given.{IsCommonDenominator, AreWithinBounds, IsLeastCommonDenominator}
use Rattle.gj_shape.specs.Points.{all_fractions, fractions_of}
use Rattle.gj_shape.specs.Breaks.{BreakList, AreBreaks, Follows, points_at, point_at}
use Rattle.gj_shape.specs.declared.breaks.Break.{Break}
use Rattle.gj_shape.proofs.LeastDenominator.{Divides, within_bounds_closed}
use Rattle.gj_shape.proofs.BreakLists.{places_of, breaks_more, order_some, place_divides}

-- ---- forward

-- breakpoints with one that follows pass all tests
pub breaks_kept : (s t : BreakList) (b : Break) → AreBreaks s → Follows s b t → AreBreaks t
breaks_kept s t b are h =
    let same : t ≡ record { place = s.place; order = t.order; breaks = s.breaks ++ b ∷ [] } =
    ap₂ (λ (p : Frac) (bs : List Break). record { place = p; order = t.order; breaks = bs })
    h.place_is h.breaks_are in
    subst AreBreaks (sym same) (breaks_more s b t.order are (subst (Follows s b) same h))

-- ---- backward

-- two numbers above 0 have a least common multiple
lcm_exists : (a b : ℕ) → 0 < a → (m : ℕ) × IsLcm a b m
lcm_exists a b some =
    let (g, is) = gcd_exists a b in
    let (c, from) = cofactor g a is.0 in
    (c * b, lcm_from_gcd a b g c is (from ∙ mul_comm g c) (gcd_positive a b g is (inl some)))

-- the denominator of each further breakpoint divides the order of all, and so do those of f and of
-- the breakpoints before it
order_divides : (whole s : BreakList) (b : Break) (back : List Break) → AreBreaks whole →
    AreBreaks s → s.place ≡ whole.place →
    whole.breaks ≡ s.breaks ++ b ∷ back → (s.order ∣ whole.order) × Divides whole.order b.x
order_divides whole s b back all are place split =
    let later = b.x ∷ map (λ c. c.x) back in
    let places : places_of whole ≡ places_of s ++ later =
    ap₂ (λ p bs. p ∷ map (λ c. c.x) bs) (sym place) split
    ∙ ap (λ xs. s.place ∷ xs) (map-append (λ c. c.x) s.breaks (b ∷ back)) in
    let common : IsCommonDenominator (places_of s ++ later) whole.order =
    subst (λ xs. IsCommonDenominator xs whole.order) places all.order_is.common in (
      are.order_is.least whole.order (All-front (Divides whole.order) (places_of s) later common),
      All-head (Divides whole.order) b.x (map (λ c. c.x) back)
          (All-back (Divides whole.order) (places_of s) later common),
    )

-- the fractions of the first breakpoints of some that are within bounds
first_within : (front back : List Break) →
    AreWithinBounds (all_fractions (points_at (front ++ back))) →
    AreWithinBounds (all_fractions (points_at front))
first_within front back h =
    let split : all_fractions (points_at (front ++ back)) ≡ all_fractions (points_at front)
    ++ all_fractions (points_at back) =
    ap all_fractions (map-append point_at front back)
    ∙ flat_map-append fractions_of (points_at front) (points_at back) in
    within_bounds_closed (all_fractions (points_at front)) (all_fractions (points_at back))
    (subst AreWithinBounds split h)

-- behind the first breakpoints of some that pass all tests the next one follows
pub next_follows : (whole s : BreakList) (b : Break) (back : List Break) → AreBreaks whole →
    AreBreaks s → s.place ≡ whole.place →
    whole.breaks ≡ s.breaks ++ b ∷ back →
    (order : ℕ) × Follows s b
    (record { place = s.place; order = order; breaks = s.breaks ++ b ∷ [] })
next_follows whole s b back all are place split =
    let divides = order_divides whole s b back all are place split in
    let (order, lcm) = lcm_exists s.order (unsigned_abs (denominator b.x)) (order_some s are) in
    let at_most = le_of_dvd (order_some whole all) (lcm.2 whole.order divides.0 divides.1) in
    let few = all.few in
    let regrouped : whole.breaks ≡ s.breaks ++ b ∷ [] ++ back = split
    ∙ sym (append_assoc s.breaks (b ∷ []) back) in (
      order,
      record {
        next = all.ascending s.breaks b back split;
        place_is = refl;
        order_is = lcm;
        few = omega arith;
        breaks_are = refl;
        within = first_within (s.breaks ++ b ∷ []) back
            (subst (λ bs. AreWithinBounds (all_fractions (points_at bs))) regrouped all.within);
      },
    )

-- f and the breakpoints have one order
pub one_break_list : (s t : BreakList) → AreBreaks s → AreBreaks t → s.place ≡ t.place →
    s.breaks ≡ t.breaks → s ≡ t
one_break_list s t are all place breaks =
    let places : places_of s ≡ places_of t = ap₂ (λ p bs. p ∷ map (λ c. c.x) bs) place breaks in
    let least : IsLeastCommonDenominator (places_of t) s.order =
    subst (λ xs. IsLeastCommonDenominator xs s.order) places are.order_is in
    let order : s.order ≡ t.order =
    dvd_antisymm (least.least t.order all.order_is.common)
    (all.order_is.least s.order least.common) in
    ap (λ p. record { place = p; order = s.order; breaks = s.breaks }) place
    ∙ ap₂ (λ n bs. record { place = t.place; order = n; breaks = bs }) order breaks

-- the denominator of f is at most 1,000
pub place_denominator : (s : BreakList) → AreBreaks s → unsigned_abs (denominator s.place) ≤ 1000
place_denominator s are =
    let at_most = le_of_dvd (order_some s are) (place_divides s are) in
    let few = are.few in
    omega arith
