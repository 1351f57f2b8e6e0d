-- The breakpoints of a fill-in ascend from 0 and lie below 1.
use Rattle.std.proofs.Common.{◌≡◌, ℕ, zero, suc, ◌+◌, ◌<◌, Bool, true, false, ◌&&◌, cond, ℤ, pos, ◌+ℤ◌, ◌*ℤ◌, ◌<ℤ◌, neg_ℤ, int_lt, List, [], ◌∷◌, ◌++◌, map, flat_map, refl, ap, subst, ◌∙◌, append_assoc, arith}
use Rattle.std.specs.List.{range_with_len, AllZip}
use Rattle.std.proofs.lemmas.Int.{ints}
use Rattle.gj_lemmas.proofs.Integers.{mul_positive_z, mul_le_mul_right_z, zero_factor_z, mul_comm_z}
use Rattle.gj_lemmas.proofs.Ratios.{ratio_less}
use Rattle.gj_lemmas.proofs.Ring.{by_ring, ring}
use Rattle.gj_frac.specs.declared.Frac.{Frac}
use Rattle.gj_frac.specs.Fraction.{LessValue, SameValue, IsRatio, fraction_of}
use Rattle.gj_shape.specs.Breaks.{AreAscending}
use Rattle.gj_shape.specs.FunctionData.{FunctionData, at}
use Rattle.gj_shape.specs.TwoSlopes.{rise}
use Rattle.gj_shape.specs.declared.breaks.Break.{Break}
use Rattle.gj_fill.specs.FillPoints.{GraphPoint, IsPairOf, value_point, crossing_point, points_from, fill_points}
use Rattle.gj_fill.proofs.FillPoints.{EachNext, next_at}

-- the pair as a breakpoint
abbrev pub even_break : Frac × Frac → Break
even_break pair = record { x = pair.0; left = pair.1; value = pair.1; right = pair.1 }

-- the breakpoint lies where the point does
abbrev IsPlacedAt : GraphPoint → Break → Type 0
IsPlacedAt p b = SameValue (fraction_of b.x) p.x

-- c is behind b, and below 1
abbrev IsBehind : Break → Break → Type 0
IsBehind b c =
    LessValue (fraction_of b.x) (fraction_of c.x)
    × LessValue (fraction_of c.x) (record { top = pos 1; bottom = pos 1 })

-- by numerators over one denominator
less_over : (x y : Frac) (n m w : ℤ) → pos 0 <ℤ w → IsRatio x n w → IsRatio y m w → n <ℤ m →
    LessValue (fraction_of x) (fraction_of y)
less_over x y n m w some first second less =
    (ratio_less x.num x.den y.num y.den n m w x.lowest.positive y.lowest.positive some first
    second).1 less

below_one : (x : Frac) (n w : ℤ) → pos 0 <ℤ w → IsRatio x n w → n <ℤ w →
    LessValue (fraction_of x) (record { top = pos 1; bottom = pos 1 })
below_one x n w some first less =
    (ratio_less x.num x.den (pos 1) (pos 1) n w w x.lowest.positive (omega (arith, ints)) some first
    (omega (arith, ints))).1 less

-- a/q over a finer denominator
finer : (x : Frac) (a q : ℕ) (w : ℤ) → IsRatio x (pos a) (pos q) →
    IsRatio x (pos a *ℤ w) (pos q *ℤ w)
finer x a q w h =
    by_ring (x.num ∷ pos q ∷ w ∷ []) (search ring depth 20) refl ∙ ap (λ z. z *ℤ w) h
    ∙ by_ring (pos a ∷ x.den ∷ w ∷ []) (search ring depth 20) refl

-- breakpoints that ascend from a/q on
record Climbs (q a : ℕ) (breaks : List Break) : Type 0 where
  pub first : (b : Break) (rest : List Break) → breaks ≡ b ∷ rest →
      IsRatio b.x (pos a) (pos q) × (a < q)
  pub chain : EachNext IsBehind breaks

same_first : (b c : Break) (bs cs : List Break) → b ∷ bs ≡ c ∷ cs → b ≡ c
same_first b c bs cs e = cc

climb_one : (q a : ℕ) (b : Break) (breaks : List Break) → a < q → IsRatio b.x (pos a) (pos q) →
    Climbs q (a + 1) breaks →
    Climbs q a (b ∷ breaks)
climb_one q a b breaks low at h = record {
  first = λ c rest e. (
    subst (λ (d : Break). IsRatio d.x (pos a) (pos q))
        (same_first b c breaks rest e) at,
    low,
  );
  chain = chained breaks h;
}
  where
    chained : (breaks : List Break) → Climbs q (a + 1) breaks → EachNext IsBehind (b ∷ breaks)
    chained [] k = tt
    chained (c ∷ rest) k =
        let next = k.first c rest refl in
        let some : pos 0 <ℤ pos q = omega (arith, ints) in (
          (
            less_over b.x c.x (pos a) (pos (a + 1)) (pos q) some at next.0 (omega (arith, ints)),
            below_one c.x (pos (a + 1)) (pos q) some next.0 (let l = next.1 in omega (arith, ints)),
          ),
          k.chain,
        )

-- with a crossing, part of w of the way to the next
climb_two : (q a : ℕ) (part w : ℤ) (b c : Break) (breaks : List Break) → a < q → pos 0 <ℤ part →
    part <ℤ w →
    IsRatio b.x (pos a) (pos q) → IsRatio c.x (pos a *ℤ w +ℤ part) (pos q *ℤ w) →
    Climbs q (a + 1) breaks →
    Climbs q a (b ∷ c ∷ breaks)
climb_two q a part w b c breaks low some less at crossing h = record {
  first = λ d rest e. (
    subst (λ (x : Break). IsRatio x.x (pos a) (pos q))
        (same_first b d (c ∷ breaks) rest e) at,
    low,
  );
  chain = (
    (
      less_over b.x c.x (pos a *ℤ w) (pos a *ℤ w +ℤ part) (pos q *ℤ w) wide
          (finer b.x a q w at) crossing (omega (arith, ints)),
      below_one c.x (pos a *ℤ w +ℤ part) (pos q *ℤ w) wide crossing (before q low),
    ),
    chained breaks h,
  );
}
  where
    w_some : pos 0 <ℤ w
    w_some = omega (arith, ints)

    wide : pos 0 <ℤ (pos q *ℤ w)
    wide = mul_positive_z (pos q) w (omega (arith, ints)) w_some

    more : pos (a + 1) *ℤ w ≡ pos a *ℤ w +ℤ w
    more = by_ring (pos a ∷ w ∷ []) (search ring depth 20) refl

    before : (n : ℕ) → a < n → (pos a *ℤ w +ℤ part) <ℤ (pos n *ℤ w)
    before n l =
        let up = mul_le_mul_right_z (pos (a + 1)) (pos n) w (omega (arith, ints, w_some))
        (omega (arith, ints)) in
        omega (arith, ints, more)

    chained : (breaks : List Break) → Climbs q (a + 1) breaks → EachNext IsBehind (c ∷ breaks)
    chained [] k = tt
    chained (d ∷ rest) k =
        let next = k.first d rest refl in
        let plain : pos 0 <ℤ pos q = omega (arith, ints) in (
          (
            less_over c.x d.x (pos a *ℤ w +ℤ part) (pos (a + 1) *ℤ w) (pos q *ℤ w) wide crossing
                (finer d.x (a + 1) q w next.0)
                (before (a + 1) (omega arith)),
            below_one d.x (pos (a + 1)) (pos q) plain next.0 (let l = next.1 in
                omega (arith, ints)),
          ),
          k.chain,
        )

-- ---- the breakpoints of a fill-in

-- the points behind a/order are at the first breakpoints of the list
climbs : (f : FunctionData) (s t : ℤ) (a n : ℕ) (breaks : List Break) → a + n ≡ f.order →
    AllZip IsPlacedAt (flat_map (points_from f s t) (range_with_len a n)) breaks →
    Climbs f.order a breaks
climbs f s t a zero [] end h = record { first = λ b rest e. absurd (cc); chain = tt }
climbs f s t a zero (b ∷ breaks) end h = absurd h
climbs f s t a (suc n) breaks end h =
    by_tests (λ more k. climbs f s t (a + 1) n more (omega arith) k) (int_lt (neg_ℤ t) (rise f a))
    (int_lt (rise f a) s) refl refl breaks h
  where
    rest : List GraphPoint
    rest = flat_map (points_from f s t) (range_with_len (a + 1) n)

    low : a < f.order
    low = omega arith

    by_tests : ((more : List Break) → AllZip IsPlacedAt rest more → Climbs f.order (a + 1) more) →
        (x y : Bool) → int_lt (neg_ℤ t) (rise f a) ≡ x → int_lt (rise f a) s ≡ y →
        (breaks : List Break) →
        AllZip IsPlacedAt (cond (x && y) (value_point f a ∷ crossing_point f s t a ∷ [])
        (value_point f a ∷ []) ++ rest) breaks →
        Climbs f.order a breaks
    by_tests later true true e g [] k = absurd k
    by_tests later true true e g (b ∷ []) k = absurd (k.1)
    by_tests later true true e g (b ∷ c ∷ more) k =
        climb_two f.order a (rise f a +ℤ t) (s +ℤ t) b c more low (omega (arith, ints))
        (omega (arith, ints)) k.0 k.1.0 (later more k.1.1)
    by_tests later true false e g [] k = absurd k
    by_tests later true false e g (b ∷ more) k = climb_one f.order a b more low k.0 (later more k.1)
    by_tests later false y e g [] k = absurd k
    by_tests later false y e g (b ∷ more) k = climb_one f.order a b more low k.0 (later more k.1)

fill_breaks_ascend : (f : FunctionData) (s t : ℤ) (n : ℕ) (breaks : List Break) → 0 < f.order →
    n ≡ f.order →
    AllZip IsPlacedAt (flat_map (points_from f s t) (range_with_len 0 n)) breaks →
    AreAscending breaks
fill_breaks_ascend f s t n breaks some end are front b back place =
    let all = climbs f s t 0 n breaks (omega arith) are in
    record {
      first = λ none.
          let here : breaks ≡ b ∷ back = place ∙ ap (λ ps. ps ++ b ∷ back) none in
          let ratio : b.x.num *ℤ pos f.order ≡ pos 0 *ℤ b.x.den = (all.first b back here).0 in
          zero_factor_z f.order b.x.num some (mul_comm_z (pos f.order) b.x.num ∙ ratio
          ∙ omega (arith, ints));
      further = λ before c split.
          let whole : breaks ≡ before ++ c ∷ b ∷ back =
          place ∙ ap (λ ps. ps ++ b ∷ back) split ∙ append_assoc before (c ∷ []) (b ∷ back) in
          next_at IsBehind before c b back (subst (EachNext IsBehind) whole all.chain);
    }

placed : (points : List GraphPoint) (pairs : List (Frac × Frac)) → AllZip IsPairOf points pairs →
    AllZip IsPlacedAt points (map even_break pairs)
placed [] [] h = tt
placed [] (pair ∷ pairs) h = absurd h
placed (p ∷ points) [] h = absurd h
placed (p ∷ points) (pair ∷ pairs) h = (h.0.x, placed points pairs h.1)

pub fill_points_ascend : (f : FunctionData) (s t : ℤ) (pairs : List (Frac × Frac)) → 0 < f.order →
    AllZip IsPairOf (fill_points f s t) pairs → AreAscending (map even_break pairs)
fill_points_ascend f s t pairs some h =
    fill_breaks_ascend f s t f.order (map even_break pairs) some refl
    (placed (fill_points f s t) pairs h)
