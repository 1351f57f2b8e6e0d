-- Sums of steps: one more step, their size, and the two ends of the heights.
use Rattle.std.proofs.Common.{◌≡◌, ℕ, ◌+◌, ◌*◌, ◌<◌, ◌≤◌, pos, ◌+ℤ◌, ◌-ℤ◌, neg_ℤ, cond, List, Bool, true, false, not, length, take, get_or, unsigned_abs, ap, ◌∙◌, arith}
use Rattle.std.proofs.Math.Nat.{mul-le-mul_left, mul-le-mul_right, mul_comm}
use Rattle.std.proofs.lemmas.Int.{ints}
use Rattle.std.proofs.lemmas.List.{take_all}
use Rattle.std.proofs.lemmas.List.Sums.{count_by_more_yes, count_by_more_no, count_by-le-length, sum_by-take-le}
use Rattle.gj_family.specs.Signs.{rises, falls, sum_of_steps, height}

-- one more rise
pub sum_rise : (up down : ℕ) (signs : List Bool) (i : ℕ) (d : Bool) → i < length signs →
    get_or signs i d ≡ true →
    sum_of_steps up down signs (i + 1) ≡ sum_of_steps up down signs i +ℤ pos up
sum_rise up down signs i d h e =
    let more = count_by_more_yes (λ sign. sign) signs i d h e in
    let same = count_by_more_no (λ sign. not sign) signs i d h (ap not e) in
    let a = ap (λ n. n * up) more in
    let b = ap (λ n. n * down) same in
    omega (arith, ints)

-- one more fall
pub sum_fall : (up down : ℕ) (signs : List Bool) (i : ℕ) (d : Bool) → i < length signs →
    get_or signs i d ≡ false →
    sum_of_steps up down signs (i + 1) ≡ sum_of_steps up down signs i +ℤ neg_ℤ (pos down)
sum_fall up down signs i d h e =
    let same = count_by_more_no (λ sign. sign) signs i d h e in
    let more = count_by_more_yes (λ sign. not sign) signs i d h (ap not e) in
    let a = ap (λ n. n * up) same in
    let b = ap (λ n. n * down) more in
    omega (arith, ints)

-- up to a thousand times up to a thousand
pub product_small : (m n : ℕ) → m ≤ 1000 → n ≤ 1000 → m * n ≤ 1000000
product_small m n hm hn =
    let high = mul-le-mul_right n hm in
    let more = mul-le-mul_left 1000 hn in
    omega arith

-- a sum of steps is at most a million in absolute value
pub sum_small : (up down : ℕ) (signs : List Bool) (i : ℕ) → up ≤ 1000 → down ≤ 1000 →
    length signs ≤ 1000 →
    unsigned_abs (sum_of_steps up down signs i) ≤ 1000000
sum_small up down signs i hu hd few =
    let r = count_by-le-length (λ sign. sign) signs in
    let t = count_by-le-length (λ sign. not sign) signs in
    let r' = sum_by-take-le (λ sign. cond sign 1 0) signs i in
    let t' = sum_by-take-le (λ sign. cond (not sign) 1 0) signs i in
    let a = product_small (rises (take i signs)) up (omega arith) hu in
    let b = product_small (falls (take i signs)) down (omega arith) hd in
    omega (arith, ints)

-- the height is 0 at both ends
pub height_start : (signs : List Bool) → height signs 0 ≡ pos 0
height_start signs = omega (arith, ints)

pub height_end : (signs : List Bool) (i : ℕ) → length signs ≤ i → height signs i ≡ pos 0
height_end signs i h =
    let same = mul_comm (rises signs) (falls signs) in
    ap (λ before. pos (rises before * falls signs) -ℤ pos (falls before * rises signs))
    (take_all i signs h)
    ∙ omega (arith, ints)

-- there are at most as many rises, and falls, as signs
pub counts_small : (signs : List Bool) → (rises signs ≤ length signs) × (falls signs ≤ length signs)
counts_small signs =
    (count_by-le-length (λ sign. sign) signs, count_by-le-length (λ sign. not sign) signs)
