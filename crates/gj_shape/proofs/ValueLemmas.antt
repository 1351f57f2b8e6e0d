-- The value of a function at a fraction, read off its table at any index of the place.
use Rattle.std.proofs.Common.{◌≡◌, ℕ, zero, suc, ◌+◌, ◌-◌, ◌*◌, ◌/◌, ◌%◌, ◌^◌, ◌<◌, ◌≤◌, ℤ, pos, negsuc, ◌+ℤ◌, ◌*ℤ◌, List, [], ◌∷◌, length, get_or, unsigned_abs, sym, ap, ap₂, subst, subst₂, ◌∙◌, refl, arith}
use Rattle.std.proofs.Math.Nat.{div-add-mod', mod-lt, mul-le-mul_left}
use Rattle.std.proofs.lemmas.Int.{ints}
use Rattle.std.specs.Int.{int_rem_euclid}
use Rattle.std.specs.Prelude.{neg_ℤ}
use Rattle.gj_frac.specs.declared.Frac.{Frac}
use Rattle.gj_frac.specs.Fraction.{IsRatio, numerator, denominator}
use Rattle.gj_lemmas.proofs.Integers.{add_mul_z, first_only_z}
use Rattle.gj_lemmas.proofs.Quotients.{same_remainder, same_at_remainder}
use Rattle.gj_lemmas.proofs.Ring.{by_ring, ring}
use Rattle.gj_shape.specs.FunctionData.{FunctionData, IsWithinBounds, at}
use Rattle.gj_shape.specs.Refinement.{entry_or_value}
use Rattle.gj_shape.specs.Table.{table, entry}
use Rattle.gj_shape.specs.Values.{IsCongruent, IsValueAt}
use Rattle.gj_shape.specs.Violation.{IsPoint, value_of}
use Rattle.gj_shape.proofs.AtLemmas.{at_below}
use Rattle.gj_shape.proofs.TableLemmas.{table_period}

-- a number is congruent to its remainder
pub congruent_to_remainder : (n : ℤ) (p : ℕ) → 0 < p → IsCongruent n (int_rem_euclid n (pos p)) p
congruent_to_remainder (pos a) p some =
    let split = div-add-mod' a p in
    (pos (a / p), omega (arith, ints))
congruent_to_remainder (negsuc a) p some =
    let split = div-add-mod' a p in
    let below = mod-lt a some in
    (negsuc (a / p), omega (arith, ints))

-- a number put together again from its parts
rejoined : (place d e : ℕ) → e ≡ d → place / e * d + place % e ≡ place
rejoined place d e same = ap (λ k. place / k * d + place % k) same ∙ div-add-mod' place d

-- a number is congruent to its remainder by m d, put together again from its parts by d
pub congruent_to_parts : (n : ℤ) (m d e place : ℕ) → 0 < m * d → e ≡ d →
    pos place ≡ int_rem_euclid n (pos (m * d)) →
    IsCongruent n (pos (place / e * d + place % e)) (m * d)
congruent_to_parts n m d e place some same is =
    subst (λ z. IsCongruent n z (m * d)) (sym (ap pos (rejoined place d e same) ∙ is))
    (congruent_to_remainder n (m * d) some)

scaled_remainder : (r d e : ℕ) (k : ℤ) →
    (pos r +ℤ k *ℤ pos d) *ℤ pos e ≡ pos (r * e) +ℤ k *ℤ pos (e * d)
scaled_remainder r d e k = by_ring (pos r ∷ k ∷ pos d ∷ pos e ∷ []) (search ring depth 30) refl

-- a number times m is congruent to its remainder by d times m, put together again from its parts by e
pub congruent_to_scaled : (n : ℤ) (m d e rest : ℕ) → 0 < d → e ≡ d →
    pos rest ≡ int_rem_euclid n (pos d) →
    IsCongruent (n *ℤ pos m) (pos (rest * m / e * d + rest * m % e)) (m * d)
congruent_to_scaled n m d e rest some same is =
    let (k, split) = congruent_to_remainder n d some in
    let whole : n ≡ pos rest +ℤ k *ℤ pos d = split ∙ ap (λ z. z +ℤ k *ℤ pos d) (sym is) in (
      k,
      ap (λ z. z *ℤ pos m) whole ∙ scaled_remainder rest d m k
          ∙ ap (λ j. pos j +ℤ k *ℤ pos (m * d)) (sym (rejoined (rest * m) d e same)),
    )

pub congruent_join : (i n j : ℤ) (p : ℕ) → IsCongruent i n p → IsCongruent n j p → IsCongruent i j p
congruent_join i n j p (k, e) (l, g) =
    let both = add_mul_z k l (pos p) in
    (k +ℤ l, omega (arith, ints))

pub congruent_back : (i j : ℤ) (p : ℕ) → IsCongruent i j p → IsCongruent j i p
congruent_back i j p (k, e) = (neg_ℤ k, turned_z i j k (pos p) e)
  where
    turned_z : (i j k n : ℤ) → i ≡ j +ℤ k *ℤ n → j ≡ i +ℤ neg_ℤ k *ℤ n
    turned_z i j k n e =
        by_ring (j ∷ k ∷ n ∷ []) (search ring depth 20) refl ∙ ap (λ z. z +ℤ neg_ℤ k *ℤ n) (sym e)

-- each whole number is congruent to a natural one
pub natural_index : (a : ℤ) (p : ℕ) → 0 < p → (i : ℕ) × IsCongruent (pos i) a p
natural_index (pos a) p some = (a, (pos 0, omega (arith, ints)))
natural_index (negsuc a) zero some = absurd (omega arith)
natural_index (negsuc a) (suc m) some = (suc a * m, (pos (suc a), omega (arith, ints)))

-- an index on a grid, moved to a finer one
pub moved_index_z : (a k : ℤ) (n d e : ℕ) →
    (a +ℤ k *ℤ pos (n * d)) *ℤ pos e ≡ a *ℤ pos e +ℤ k *ℤ pos (n * (d * e))
moved_index_z a k n d e = by_ring (a ∷ k ∷ pos n ∷ pos d ∷ pos e ∷ []) (search ring depth 30) refl

-- natural numbers that are congruent have one remainder
pub congruent_rests : (i j p : ℕ) → IsCongruent (pos i) (pos j) p → i % p ≡ j % p
congruent_rests i j p (pos k, e) = same_remainder i j 0 k p (omega (arith, ints))
congruent_rests i j p (negsuc k, e) = same_remainder i j (suc k) 0 p (omega (arith, ints))

-- the entry of the list of values is the entry of the table
pub entry_of_values : (f : FunctionData) (m a r : ℕ) →
    entry_or_value f f.value m a r ≡ entry f m a r
entry_of_values f m a zero = refl
entry_of_values f m a (suc r) = refl

-- what the table has at one index that is congruent to n is the value at n/(order d)
pub value_from_place : (f : FunctionData) (n : ℤ) (d i : ℕ) (x : Frac) → IsWithinBounds f → 0 < d →
    IsCongruent n (pos i) (f.order * d) → IsRatio x (table f d i) (pos (f.scale * d)) →
    IsValueAt f n d x
value_from_place f n d i x h some e is j k =
    let rests : j % (f.order * d) ≡ i % (f.order * d) =
    congruent_rests j i _ (congruent_join (pos j) n (pos i) _ k e) in
    let same : table f d i ≡ table f d j =
    same_at_remainder (table f d) (f.order * d) (λ a. table_period f d a some h) i j (sym rests) in
    subst (λ t. IsRatio x t (pos (f.scale * d))) same is

-- the value at a point that is not negative, at its own index
pub value_at_point : (f : FunctionData) (x y : Frac) (n d : ℕ) → IsPoint x n d →
    IsValueAt f (numerator x *ℤ pos f.order) (unsigned_abs (denominator x)) y →
    IsRatio y (value_of f n d) (pos (f.scale * d))
value_at_point f x y n d point is =
    let at_point : IsValueAt f (pos n *ℤ pos f.order) d y =
    subst₂ (λ a b. IsValueAt f (a *ℤ pos f.order) (unsigned_abs b) y) point.numerator_is
    point.denominator_is is in
    at_point (n * f.order) (pos 0, omega (arith, ints))

-- the entry of a list at a multiple of 1/order
pub entry_of_list : (f : FunctionData) (xs : List ℤ) (m a r : ℕ) → r ≡ 0 → a < length xs →
    entry_or_value f xs m a r ≡ pos m *ℤ get_or xs a (pos 0)
entry_of_list f xs m a r e below = ap (entry_or_value f xs m a) e
    ∙ ap (λ z. pos m *ℤ z) (at_below xs a below)

at_by_remainder : (xs : List ℤ) (i n : ℕ) → length xs ≡ n → at xs i ≡ get_or xs (i % n) (pos 0)
unfolding at
at_by_remainder xs i n e = ap (λ k. get_or xs (i % k) (pos 0)) e

-- the value between two neighbouring multiples of 1/order
pub entry_of_limits : (f : FunctionData) (xs : List ℤ) (m a r : ℕ) → IsWithinBounds f → 0 < r →
    a < f.order →
    entry_or_value f xs m a r ≡ pos (m - r) *ℤ get_or f.right a (pos 0) +ℤ pos r *ℤ get_or f.left
    ((a + 1) % f.order) (pos 0)
entry_of_limits f xs m a zero h some below = absurd (omega arith)
entry_of_limits f xs m a (suc r) h some below =
    let length_is = h.right_length in
    ap₂ (λ x y. pos (m - suc r) *ℤ x +ℤ pos (suc r) *ℤ y) (at_below f.right a (omega arith))
    (at_by_remainder f.left (a + 1) f.order h.left_length)

-- a number between itself and itself, where nothing remains
pub nothing_remains : (m r : ℕ) (v : ℤ) → r ≡ 0 → pos m *ℤ v ≡ pos (m - r) *ℤ v +ℤ pos r *ℤ v
nothing_remains m zero v none =
    let whole : m - 0 ≡ m = omega arith in
    subst (λ n. pos m *ℤ v ≡ pos n *ℤ v +ℤ pos 0 *ℤ v) (sym whole) (first_only_z m v v)
nothing_remains m (suc r) v none = absurd (omega arith)

-- a mean of numbers of 32 bits by weights of which the sum has 32 bits
pub mean_below : (m r a b : ℕ) → r < m → m < 2 ^ 32 → a < 2 ^ 32 → b < 2 ^ 32 →
    (m - r) * a + r * b < 2 ^ 64
mean_below m r a b below few a_few b_few =
    let start : (m - r) * a ≤ (m - r) * 4294967295 = mul-le-mul_left (m - r) (omega arith) in
    let end : r * b ≤ r * 4294967295 = mul-le-mul_left r (omega arith) in
    omega arith
