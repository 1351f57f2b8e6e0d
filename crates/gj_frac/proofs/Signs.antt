-- How two fractions compare by their signs, and by their absolute values if the signs agree.
use Rattle.std.proofs.Common.{◌≡◌, ℕ, ◌*◌, ◌<◌, ℤ, pos, ◌*ℤ◌, ◌<ℤ◌, ◌≤ℤ◌, neg_ℤ, unsigned_abs, sym, ap, ◌∙◌, arith}
use Rattle.std.proofs.lemmas.Int.{ints}
use Rattle.std.specs.Cmp.{int_cmp_is, ranks}
use Rattle.std.specs.declared.cmp.Ordering.{Ordering}
use Rattle.std.specs.declared.cmp.Ordering.TheVariants.{Less, Equal, Greater}
use Rattle.std.specs.Ordering.{MatchOrdering, nat_cmp, int_cmp}
use Rattle.gj_lemmas.proofs.Integers.{pos_abs_z, neg_mul_z, mul_lt_mul_right_z, mul_nonnegative_z}

rank_positive : (x y : ℕ) (r : Ordering) → MatchOrdering r (x < y) (x ≡ y) (y < x) →
    MatchOrdering r (pos x <ℤ pos y) (pos x ≡ pos y) (pos y <ℤ pos x)
rank_positive x y Less h = omega (arith, ints)
rank_positive x y Equal h = ap pos h
rank_positive x y Greater h = omega (arith, ints)

-- numbers that are not negative compare as naturals
cmp_positive : (x y : ℕ) → int_cmp (pos x) (pos y) ≡ nat_cmp x y
cmp_positive x y = sym
    (int_cmp_is (pos x) (pos y) (nat_cmp x y) (rank_positive x y (nat_cmp x y) (ranks x y)))

rank_turned : (x y : ℕ) (r : Ordering) → MatchOrdering r (y < x) (y ≡ x) (x < y) →
    MatchOrdering r (neg_ℤ (pos x) <ℤ neg_ℤ (pos y)) (neg_ℤ (pos x) ≡ neg_ℤ (pos y))
    (neg_ℤ (pos y) <ℤ neg_ℤ (pos x))
rank_turned x y Less h = omega (arith, ints)
rank_turned x y Equal h = ap (λ n. neg_ℤ (pos n)) (sym h)
rank_turned x y Greater h = omega (arith, ints)

-- with both signs turned they compare the other way round
cmp_turned : (x y : ℕ) → int_cmp (neg_ℤ (pos x)) (neg_ℤ (pos y)) ≡ nat_cmp y x
cmp_turned x y = sym
    (int_cmp_is (neg_ℤ (pos x)) (neg_ℤ (pos y)) (nat_cmp y x)
    (rank_turned x y (nat_cmp y x) (ranks y x)))

-- a negative number is its absolute value with the sign turned
neg_abs_z : (z : ℤ) → z <ℤ pos 0 → z ≡ neg_ℤ (pos (unsigned_abs z))
neg_abs_z z h = omega (arith, ints)

-- n/d and m/e, neither negative, compare by their absolute values
pub cmp_not_negative : (n d m e : ℤ) → pos 0 ≤ℤ n → pos 0 ≤ℤ m → pos 0 <ℤ d → pos 0 <ℤ e →
    int_cmp (n *ℤ e) (m *ℤ d) ≡ nat_cmp (unsigned_abs n * unsigned_abs e)
    (unsigned_abs m * unsigned_abs d)
cmp_not_negative n d m e n_some m_some d_some e_some =
    let n_is = sym (pos_abs_z n n_some) in
    let m_is = sym (pos_abs_z m m_some) in
    let d_is = sym (pos_abs_z d (omega (arith, ints))) in
    let e_is = sym (pos_abs_z e (omega (arith, ints))) in
    (λ i. int_cmp (n_is i *ℤ e_is i) (m_is i *ℤ d_is i))
    ∙ cmp_positive (unsigned_abs n * unsigned_abs e) (unsigned_abs m * unsigned_abs d)

-- both negative, they compare by their absolute values the other way round
pub cmp_negative : (n d m e : ℤ) → n <ℤ pos 0 → m <ℤ pos 0 → pos 0 <ℤ d → pos 0 <ℤ e →
    int_cmp (n *ℤ e) (m *ℤ d) ≡ nat_cmp (unsigned_abs m * unsigned_abs d)
    (unsigned_abs n * unsigned_abs e)
cmp_negative n d m e n_some m_some d_some e_some =
    let n_is = neg_abs_z n n_some in
    let m_is = neg_abs_z m m_some in
    let d_is = sym (pos_abs_z d (omega (arith, ints))) in
    let e_is = sym (pos_abs_z e (omega (arith, ints))) in
    let first : n *ℤ e ≡ neg_ℤ (pos (unsigned_abs n * unsigned_abs e)) =
    (λ i. n_is i *ℤ e_is i) ∙ neg_mul_z (pos (unsigned_abs n)) (pos (unsigned_abs e)) in
    let second : m *ℤ d ≡ neg_ℤ (pos (unsigned_abs m * unsigned_abs d)) =
    (λ i. m_is i *ℤ d_is i) ∙ neg_mul_z (pos (unsigned_abs m)) (pos (unsigned_abs d)) in
    (λ i. int_cmp (first i) (second i))
    ∙ cmp_turned (unsigned_abs n * unsigned_abs e) (unsigned_abs m * unsigned_abs d)

negative_below : (n d m e : ℤ) → n <ℤ pos 0 → pos 0 ≤ℤ m → pos 0 <ℤ d → pos 0 <ℤ e →
    (n *ℤ e) <ℤ (m *ℤ d)
negative_below n d m e n_some m_some d_some e_some =
    let left = mul_lt_mul_right_z n (pos 0) e e_some n_some in
    let right = mul_nonnegative_z m d m_some (omega (arith, ints)) in
    omega (arith, ints)

-- a negative fraction is less than one that is not negative
pub cmp_negative_first : (n d m e : ℤ) → n <ℤ pos 0 → pos 0 ≤ℤ m → pos 0 <ℤ d → pos 0 <ℤ e →
    int_cmp (n *ℤ e) (m *ℤ d) ≡ Less
cmp_negative_first n d m e n_some m_some d_some e_some =
    sym (int_cmp_is _ _ Less (negative_below n d m e n_some m_some d_some e_some))

-- and the other way round
pub cmp_negative_second : (n d m e : ℤ) → pos 0 ≤ℤ n → m <ℤ pos 0 → pos 0 <ℤ d → pos 0 <ℤ e →
    int_cmp (n *ℤ e) (m *ℤ d) ≡ Greater
cmp_negative_second n d m e n_some m_some d_some e_some =
    sym (int_cmp_is _ _ Greater (negative_below m e n d m_some n_some e_some d_some))
