-- Lines between two fractions, and places on a grid.
use Rattle.std.proofs.Common.{◌≡◌, ℕ, ◌+◌, ◌-◌, ◌*◌, ◌<◌, ◌≤◌, ◌^◌, ℤ, pos, ◌+ℤ◌, ◌*ℤ◌, ◌<ℤ◌, [], ◌∷◌, unsigned_abs, refl, sym, ap, ap₂, subst, ◌∙◌, arith}
use Rattle.std.proofs.Math.Nat.{mul-pos, mul-le-mul_right}
use Rattle.std.proofs.lemmas.Int.{ints, unsigned_abs-mul}
use Rattle.std.proofs.lemmas.List.Elements.{All-head, All-tail}
use Rattle.std.proofs.lemmas.Nat.Gcd.{le_of_dvd}
use Rattle.gj_frac.specs.declared.Frac.{Frac}
use Rattle.gj_frac.specs.Fraction.{SameValue, LessValue, IsRatio, fraction_of, numerator, denominator}
use Rattle.gj_frac.proofs.SameValues.{is_along}
use Rattle.gj_lemmas.specs.Divisors.{IsLcm}
use Rattle.gj_lemmas.proofs.Divisors.{lcm_positive}
use Rattle.gj_lemmas.proofs.Integers.{abs_add_z}
use Rattle.gj_lemmas.proofs.Ratios.{ratio_less}
use Rattle.gj_lemmas.proofs.Ring.{by_ring, ring}
use Rattle.gj_shape.specs.Breaks.{on_line}
use Rattle.gj_shape.specs.Given.{IsSmall, AreWithinBounds, numerator_over}
use Rattle.gj_shape.proofs.GivenFractions.{is_small}
use Rattle.gj_shape.proofs.LeastDenominator.{Divides, denominator_some}
use Rattle.gj_shape.proofs.OverScale.{denominator_is, over_scale, divides_from_over}

-- ---- a common denominator of two fractions

pub record IsScaleOf (x y : Frac) (m : ℕ) : Type 0 where
  pub low : 1 ≤ m
  pub high : m < 2 ^ 31
  pub first : Divides m x
  pub second : Divides m y

-- both denominators are below 2^31
pub denominators_below : (x y : Frac) → AreWithinBounds (x ∷ y ∷ []) →
    (unsigned_abs (denominator x) < 2 ^ 31) × (unsigned_abs (denominator y) < 2 ^ 31)
denominators_below x y within =
    let (d, low, high, all) = within.common in
    let some : 0 < d = omega arith in
    let a : unsigned_abs (denominator x) ≤ d =
    le_of_dvd some (All-head (Divides d) x (y ∷ []) all) in
    let b : unsigned_abs (denominator y) ≤ d =
    le_of_dvd some (All-head (Divides d) y [] (All-tail (Divides d) x (y ∷ []) all)) in
    (omega arith, omega arith)

-- their least common multiple is one
pub scale_from_lcm : (x y : Frac) (m : ℕ) → AreWithinBounds (x ∷ y ∷ []) →
    IsLcm (unsigned_abs (denominator x)) (unsigned_abs (denominator y)) m → IsScaleOf x y m
scale_from_lcm x y m within lcm =
    let (d, low, high, all) = within.common in
    let some : 0 < d = omega arith in
    let below : m ≤ d = le_of_dvd some (lcm.2 d (All-head (Divides d) x (y ∷ []) all)
    (All-head (Divides d) y [] (All-tail (Divides d) x (y ∷ []) all))) in
    let positive : 0 < m =
    lcm_positive (unsigned_abs (denominator x)) (unsigned_abs (denominator y)) m lcm
    (denominator_some x) (denominator_some y) in
    record { low = omega arith; high = omega arith; first = lcm.0; second = lcm.1 }

-- ---- on a line

line_left_z : (c r n : ℕ) (ud wd u w : ℤ) →
    (pos c *ℤ u +ℤ pos r *ℤ w) *ℤ (ud *ℤ wd *ℤ pos n) ≡ u *ℤ ud *ℤ (wd *ℤ pos c *ℤ pos n) +ℤ w *ℤ wd
    *ℤ (ud *ℤ pos r *ℤ pos n)
line_left_z c r n ud wd u w = by_ring (pos c ∷ pos r ∷ pos n ∷ ud ∷ wd ∷ u ∷ w ∷ [])
    (search ring depth 30) refl

line_right_z : (c r n s : ℕ) (ud wd un wn : ℤ) →
    un *ℤ pos s *ℤ (wd *ℤ pos c *ℤ pos n) +ℤ wn *ℤ pos s *ℤ (ud *ℤ pos r *ℤ pos n)
    ≡ (un *ℤ wd *ℤ pos c +ℤ wn *ℤ ud *ℤ pos r) *ℤ pos (s * n)
line_right_z c r n s ud wd un wn =
    by_ring (pos c ∷ pos r ∷ pos n ∷ pos s ∷ ud ∷ wd ∷ un ∷ wn ∷ []) (search ring depth 30) refl

-- what the line from u to w has after r of n steps, over a common denominator
pub line_over_scale : (u w x : Frac) (s n r : ℕ) → IsScaleOf u w s → 0 < n →
    IsRatio x (pos (n - r) *ℤ numerator_over s u +ℤ pos r *ℤ numerator_over s w) (pos (s * n)) →
    SameValue (fraction_of x) (on_line u w n r)
line_over_scale u w x s n r scale n_some is =
    let s_some = scale.low in
    let some : 0 < s * n = mul-pos s_some n_some in
    let a = over_scale s u scale.first in
    let b = over_scale s w scale.second in
    let c = n - r in
    let ud = denominator u in
    let wd = denominator w in
    let line = on_line u w n r in
    let across : (pos c *ℤ numerator_over s u +ℤ pos r *ℤ numerator_over s w) *ℤ (ud *ℤ wd *ℤ pos n)
    ≡ (numerator u *ℤ wd *ℤ pos c +ℤ numerator w *ℤ ud *ℤ pos r) *ℤ pos (s * n) =
    line_left_z c r n ud wd (numerator_over s u) (numerator_over s w)
    ∙ ap₂ (λ p q. p *ℤ (wd *ℤ pos c *ℤ pos n) +ℤ q *ℤ (ud *ℤ pos r *ℤ pos n)) (sym a) (sym b)
    ∙ line_right_z c r n s ud wd (numerator u) (numerator w) in
    is_along x _ (pos (s * n)) line.top line.bottom (omega arith) is across

top_weighted : (a b c r m k : ℕ) → m ≤ 2 ^ 20 * a → k ≤ 2 ^ 20 * b →
    m * (b * c) + k * (a * r) ≤ 2 ^ 20 * (a * b * (c + r))
top_weighted a b c r m k h l =
    let first = mul-le-mul_right (b * c) h in
    let second = mul-le-mul_right (a * r) l in
    omega arith

-- the line between two small fractions has small fractions
pub on_line_small : (u w x : Frac) (n r : ℕ) → IsSmall u → IsSmall w → r < n →
    SameValue (fraction_of x) (on_line u w n r) →
    IsSmall x
on_line_small u w x n r u_small w_small below is =
    let c = n - r in
    let un = numerator u in
    let wn = numerator w in
    let ud = denominator u in
    let wd = denominator w in
    let a = unsigned_abs ud in
    let b = unsigned_abs wd in
    let m = unsigned_abs un in
    let k = unsigned_abs wn in
    let top = un *ℤ wd *ℤ pos c +ℤ wn *ℤ ud *ℤ pos r in
    let some : 0 < a * b * n = mul-pos (mul-pos (denominator_some u) (denominator_some w))
    (omega arith) in
    let bottom : ud *ℤ wd *ℤ pos n ≡ pos (a * b * n) =
    ap₂ (λ p q. p *ℤ q *ℤ pos n) (sym (denominator_is u)) (sym (denominator_is w)) in
    let first : unsigned_abs (un *ℤ wd *ℤ pos c) ≡ m * b * c = unsigned_abs-mul (un *ℤ wd) (pos c)
    ∙ ap (λ z. z * c) (unsigned_abs-mul un wd) in
    let second : unsigned_abs (wn *ℤ ud *ℤ pos r) ≡ k * a * r = unsigned_abs-mul (wn *ℤ ud) (pos r)
    ∙ ap (λ z. z * r) (unsigned_abs-mul wn ud) in
    let sum = abs_add_z (un *ℤ wd *ℤ pos c) (wn *ℤ ud *ℤ pos r) in
    let weighted = top_weighted a b c r m k u_small w_small in
    let whole : c + r ≡ n = omega arith in
    let size : 2 ^ 20 * (a * b * (c + r)) ≡ 2 ^ 20 * (a * b * n) =
    ap (λ z. 2 ^ 20 * (a * b * z)) whole in
    let one : m * b * c ≡ m * (b * c) = omega arith in
    let two : k * a * r ≡ k * (a * r) = omega arith in
    let small : unsigned_abs top ≤ 2 ^ 20 * (a * b * n) = omega arith in
    is_small x top (a * b * n) some small (subst (λ z. IsRatio x top z) bottom is)

-- ---- places

-- x is p/q, with p below q
abbrev pub IsPlaceOn : ℕ → Frac → Type 0
IsPlaceOn q x = (p : ℕ) × (p < q) × IsRatio x (pos p) (pos q)

pub place_divides : (q : ℕ) (x : Frac) → IsPlaceOn q x → Divides q x
place_divides q x (p, below, is) = divides_from_over q x (pos p) is

-- p/q is p'/q only if p is p'
pub less_pos : (m n : ℕ) → pos m <ℤ pos n → m < n
less_pos m n h = omega (arith, ints)

-- the places ascend with the fractions
pub less_places : (q : ℕ) (x y : Frac) (m n : ℕ) → 0 < q →
    LessValue (fraction_of x) (fraction_of y) →
    IsRatio x (pos m) (pos q) → IsRatio y (pos n) (pos q) → m < n
less_places q x y m n some less a b =
    let positive : pos 0 <ℤ pos q = omega (arith, ints) in
    less_pos m n
    ((ratio_less (numerator x) (denominator x) (numerator y) (denominator y) (pos m) (pos n)
    (pos q) x.lowest.positive
    y.lowest.positive positive a b).0 less)
