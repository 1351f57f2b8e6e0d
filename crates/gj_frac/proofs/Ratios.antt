-- How two ratios of naturals compare: by their whole parts, and then by their rests.
use Rattle.std.proofs.Common.{◌≡◌, ℕ, ◌+◌, ◌*◌, ◌/◌, ◌%◌, ◌<◌, ◌≤◌, ◌⊎◌, ⊎_elim, true, false, sym, ap, subst, ◌∙◌, arith}
use Rattle.std.proofs.Math.Nat.{mul-lt-mul_of_pos_right, mul-le-mul_right, mul-pos, zero-mul}
use Rattle.std.proofs.lemmas.Nat.{div-add-mod', mod_below}
use Rattle.std.specs.Cmp.{nat_cmp_is, ranks}
use Rattle.std.specs.declared.cmp.Ordering.{Ordering}
use Rattle.std.specs.declared.cmp.Ordering.TheVariants.{Less, Equal, Greater}
use Rattle.std.specs.Ordering.{MatchOrdering, nat_cmp, is_ne}

shifted_rank : (x y u v : ℕ) → x + v ≡ y + u → (r : Ordering) →
    MatchOrdering r (u < v) (u ≡ v) (v < u) →
    MatchOrdering r (x < y) (x ≡ y) (y < x)
shifted_rank x y u v e Less h = omega arith
shifted_rank x y u v e Equal h = omega arith
shifted_rank x y u v e Greater h = omega arith

-- pairs with one difference compare alike
pub cmp_shifted : (x y u v : ℕ) → x + v ≡ y + u → nat_cmp x y ≡ nat_cmp u v
cmp_shifted x y u v e =
    sym (nat_cmp_is x y (nat_cmp u v) (shifted_rank x y u v e (nat_cmp u v) (ranks u v)))

products_shifted : (q b r d s : ℕ) → (q * b + r) * d + s * b ≡ (q * d + s) * b + r * d
products_shifted q b r d s = omega arith

-- ratios with one whole part compare as their rests
pub cmp_rests : (a b c d : ℕ) → a / b ≡ c / d →
    nat_cmp (a * d) (c * b) ≡ nat_cmp (a % b * d) (c % d * b)
cmp_rests a b c d e =
    let first = div-add-mod' a b in
    let second : a / b * d + c % d ≡ c = ap (λ q. q * d + c % d) e ∙ div-add-mod' c d in
    cmp_shifted (a * d) (c * b) (a % b * d) (c % d * b)
    (ap (λ n. n * d + c % d * b) (sym first) ∙ products_shifted (a / b) b (a % b) d (c % d)
    ∙ ap (λ n. n * b + a % b * d) second)

-- a ratio with the smaller whole part is smaller
pub less_by_whole : (a b c d : ℕ) → 0 < b → 0 < d → a / b < c / d → a * d < c * b
less_by_whole a b c d b_some d_some h =
    let first = div-add-mod' a b in
    let small = mod_below a b b_some in
    let second = div-add-mod' c d in
    let below : a < (a / b + 1) * b = omega arith in
    let below' : a * d < (a / b + 1) * b * d = mul-lt-mul_of_pos_right below d_some in
    let between : (a / b + 1) * (b * d) ≤ c / d * (b * d) =
    mul-le-mul_right (b * d) (omega arith) in
    let above : c / d * d ≤ c = omega arith in
    let above' : c / d * d * b ≤ c * b = mul-le-mul_right b above in
    omega arith

rank_by_whole : (a b c d : ℕ) → 0 < b → 0 < d → (r : Ordering) → is_ne r ≡ true →
    MatchOrdering r (a / b < c / d) (a / b ≡ c / d) (c / d < a / b) →
    MatchOrdering r (a * d < c * b) (a * d ≡ c * b) (c * b < a * d)
rank_by_whole a b c d b_some d_some Less n h = less_by_whole a b c d b_some d_some h
rank_by_whole a b c d b_some d_some Equal n h = absurd (cc)
rank_by_whole a b c d b_some d_some Greater n h = less_by_whole c d a b d_some b_some h

-- whole parts that differ decide
pub cmp_by_whole : (a b c d : ℕ) (r : Ordering) → 0 < b → 0 < d → r ≡ nat_cmp (a / b) (c / d) →
    is_ne r ≡ true →
    r ≡ nat_cmp (a * d) (c * b)
cmp_by_whole a b c d r b_some d_some e n =
    nat_cmp_is (a * d) (c * b) r
    (rank_by_whole a b c d b_some d_some r n
    (subst (λ o. MatchOrdering o (a / b < c / d) (a / b ≡ c / d) (c / d < a / b)) (sym e)
    (ranks (a / b) (c / d))))

same_from_rank : (x y : ℕ) (r : Ordering) → is_ne r ≡ false →
    MatchOrdering r (x < y) (x ≡ y) (y < x) → x ≡ y
same_from_rank x y Less n h = absurd (cc)
same_from_rank x y Equal n h = h
same_from_rank x y Greater n h = absurd (cc)

-- numbers of which neither is less are equal
pub same_from_cmp : (x y : ℕ) (r : Ordering) → r ≡ nat_cmp x y → is_ne r ≡ false → x ≡ y
same_from_cmp x y r e n =
    same_from_rank x y (nat_cmp x y) (ap is_ne (sym e) ∙ n) (ranks x y)

-- 0 times anything is less than a product of two numbers above 0
zero_below : (r d s b : ℕ) → r ≡ 0 → 0 < s → 0 < b → r * d < s * b
zero_below r d s b z s_some b_some =
    let left : r * d ≡ 0 = ap (λ n. n * d) z ∙ zero-mul d in
    let right = mul-pos s_some b_some in
    omega arith

rank_by_zero : (r b s d : ℕ) → 0 < b → 0 < d → (r ≡ 0) ⊎ (s ≡ 0) → (o : Ordering) →
    MatchOrdering o (r < s) (r ≡ s) (s < r) →
    MatchOrdering o (r * d < s * b) (r * d ≡ s * b) (s * b < r * d)
rank_by_zero r b s d b_some d_some z Less h =
    zero_below r d s b (⊎_elim (λ e. e) (λ e. absurd (omega arith)) z) (omega arith) b_some
rank_by_zero r b s d b_some d_some z Equal h =
    let left : r ≡ 0 = ⊎_elim (λ e. e) (λ e. h ∙ e) z in
    let right : s ≡ 0 = sym h ∙ left in
    ap (λ n. n * d) left ∙ zero-mul d ∙ sym (ap (λ n. n * b) right ∙ zero-mul b)
rank_by_zero r b s d b_some d_some z Greater h =
    zero_below s b r d (⊎_elim (λ e. absurd (omega arith)) (λ e. e) z) (omega arith) d_some

-- rests of which one is 0 decide
pub cmp_by_zero : (r b s d : ℕ) → 0 < b → 0 < d → (r ≡ 0) ⊎ (s ≡ 0) →
    nat_cmp r s ≡ nat_cmp (r * d) (s * b)
cmp_by_zero r b s d b_some d_some z =
    nat_cmp_is (r * d) (s * b) (nat_cmp r s)
    (rank_by_zero r b s d b_some d_some z (nat_cmp r s) (ranks r s))
