-- Eight bytes in lanes: where the digits at their front end, and what these are worth.
use Rattle.std.proofs.Common.{◌≡◌, ◌≢◌, ℕ, zero, suc, ◌+◌, ◌-◌, ◌*◌, ◌%◌, ◌^◌, ◌<◌, ◌≤◌, List, [], ◌∷◌, length, map, replicate, take, drop, get_or, ltb, Bool, true, false, cond, not, Fits, w8, inl, inr, eq-zero-or-pos, refl, sym, ap, subst, ◌∙◌, arith}
use Rattle.std.specs.Int.Count.{count_trailing_zeros}
use Rattle.std.specs.List.{prefix_len}
use Rattle.std.specs.Simd.Lanes.{zip2, fold_l, mask_l, top, Each1}
use Rattle.std.proofs.lemmas.Bool.{cases_Bool, cases_lt}
use Rattle.std.proofs.lemmas.Bool.Decides.{nat_tests}
use Rattle.std.specs.Char.{digit_value}
use Rattle.std.specs.Str.Parse.{AllDigits, digits_value, digits_value_after}
use Rattle.std.proofs.Math.Nat.{pow-suc, pow-le-pow_right, one-le-pow, mul-le-mul_left, mul-le-mul_right}
use Rattle.std.proofs.lemmas.Nat.{pow-add}
use Rattle.std.proofs.lemmas.Int.Digits.{digits_value-lt}
use Rattle.gj_lex.proofs.Decimals.{room_is_below}
use Rattle.std.proofs.lemmas.List.{length-take-le, take-take, get_or-take}
use Rattle.std.proofs.lemmas.Simd.{zip2_splat, zip2_splat_left, map-map, length-zip2, tops_compared, mask_l-mod, trailing_mask_l, below_from_Fits, chunk-fits}
use Rattle.std.proofs.lemmas.Str.{digit_value_digit}
use Rattle.std.proofs.lemmas.Str.Parse.{digit_from_value}

-- the number of digits behind those of another
value_after_is : (n : ℕ) (ds : List ℕ) →
    digits_value_after 10 n ds ≡ n * 10 ^ length ds + digits_value 10 ds
value_after_is n [] = omega arith
value_after_is n (c ∷ cs) =
    let p = 10 ^ length cs in
    let power : n * 10 ^ suc (length cs) ≡ n * (p * 10) =
    ap (λ q. n * q) (pow-suc 10 (length cs)) in
    omega (
      arith,
      power,
      value_after_is (n * 10 + digit_value c) cs,
      value_after_is
          (0 * 10 + digit_value c) cs,
    )

-- what lanes of one byte and of four give, where the result wraps
abbrev pub sub_lanes : ℕ → ℕ → ℕ
sub_lanes x y = (x + (2 ^ 8 - y)) % 2 ^ 8

abbrev pub add_lanes : ℕ → ℕ → ℕ
add_lanes x y = (x + y) % 2 ^ 32

abbrev pub mul_lanes : ℕ → ℕ → ℕ
mul_lanes x y = (x * y) % 2 ^ 32

-- ---- what the digits are worth

-- what a byte is above `0`: one below it wraps
abbrev above_zero : ℕ → ℕ
above_zero b = sub_lanes b 48

-- a digit is worth that
digit_above_zero : (b : ℕ) → digit_value b < 10 → above_zero b ≡ digit_value b
digit_above_zero b digit =
    let range = digit_from_value b digit in
    omega (arith, range, digit_value_digit b range)

-- what a digit at each of n places is worth, if k of them count
abbrev weights : ℕ → ℕ → List ℕ
weights k zero = []
weights zero (suc n) = 0 ∷ weights zero n
weights (suc k) (suc n) = 10 ^ k ∷ weights k n

-- the sum of the digits by their weights is their number
sum_by_weights : (s k : ℕ) (bs : List ℕ) → k ≤ length bs → AllDigits 10 (take k bs) →
    s + 10 ^ k ≤ 2 ^ 32 →
    fold_l add_lanes s (zip2 mul_lanes (map above_zero bs) (weights k (length bs)))
    ≡ s + digits_value 10 (take k bs)
sum_by_weights s zero [] within digits room = omega arith
sum_by_weights s (suc k) [] within digits room = absurd (omega arith)
sum_by_weights s zero (b ∷ bs) within digits room =
    let same : add_lanes s (mul_lanes (above_zero b) 0) ≡ s = omega arith in
    ap (λ t. fold_l add_lanes t (zip2 mul_lanes (map above_zero bs) (weights 0 (length bs)))) same
    ∙ sum_by_weights s zero bs (omega arith) tt room
sum_by_weights s (suc k) (b ∷ bs) within digits room =
    let p = 10 ^ k in
    let d = digit_value b in
    let power : 10 ^ suc k ≡ p * 10 = pow-suc 10 k in
    let long : length (take k bs) ≡ k = length-take-le k bs (omega arith) in
    let front : digits_value_after 10 (0 * 10 + d) (take k bs)
    ≡ d * p + digits_value 10 (take k bs) =
    value_after_is (0 * 10 + d) (take k bs)
    ∙ (λ i. (0 * 10 + d) * 10 ^ long i + digits_value 10 (take k bs))
    ∙ ap (λ n. n * p + digits_value 10 (take k bs)) (omega arith) in
    let most : p * d ≤ p * 9 = mul-le-mul_left p (omega (arith, digits.0)) in
    let all : s + p * 10 ≤ 2 ^ 32 = subst (λ q. s + q ≤ 2 ^ 32) power room in
    let small : (d * p) % 2 ^ 32 ≡ d * p = omega (arith, all, most) in
    let sum : (s + d * p) % 2 ^ 32 ≡ s + d * p =
    omega (arith, all, most, one-le-pow k 10 (omega arith)) in
    let lane : mul_lanes (above_zero b) p ≡ d * p =
    ap (λ n. (n * p) % 2 ^ 32) (digit_above_zero b digits.0) ∙ small in
    let same : add_lanes s (mul_lanes (above_zero b) p) ≡ s + d * p = ap (add_lanes s) lane ∙ sum in
    ap (λ t. fold_l add_lanes t (zip2 mul_lanes (map above_zero bs) (weights k (length bs)))) same
    ∙ sum_by_weights (s + d * p) k bs (omega arith) digits.1 (omega (arith, all, most))
    ∙ omega (arith, front)

-- the weights of eight digits, and zeros
abbrev pub weight_table : List ℕ
weight_table =
    10_000_000 ∷ 1_000_000 ∷ 100_000 ∷ 10_000 ∷ 1_000 ∷ 100 ∷ 10 ∷ 1 ∷ 0 ∷ 0 ∷ 0 ∷ 0 ∷ 0 ∷ 0 ∷ 0 ∷ 0
    ∷ []

-- those of k digits begin 8 - k places on
weights_there : (k : ℕ) → k ≤ 8 → take 8 (take (16 - (8 - k)) (drop (8 - k) weight_table))
    ≡ weights k 8
weights_there zero le = refl
weights_there (suc zero) le = refl
weights_there (suc (suc zero)) le = refl
weights_there (suc (suc (suc zero))) le = refl
weights_there (suc (suc (suc (suc zero)))) le = refl
weights_there (suc (suc (suc (suc (suc zero))))) le = refl
weights_there (suc (suc (suc (suc (suc (suc zero)))))) le = refl
weights_there (suc (suc (suc (suc (suc (suc (suc zero))))))) le = refl
weights_there (suc (suc (suc (suc (suc (suc (suc (suc zero)))))))) le = refl
weights_there (suc (suc (suc (suc (suc (suc (suc (suc (suc k))))))))) le = absurd (omega arith)

-- the number that the first k of eight bytes spell
pub value_by_lanes : (word : List ℕ) (k : ℕ) → 8 ≤ length word → k ≤ 8 →
    AllDigits 10 (take k word) →
    fold_l add_lanes 0 (zip2 mul_lanes
    (map (λ x. x) (zip2 sub_lanes (take 8 word) (replicate 8 48)))
    (take 8 (take (16 - (8 - k)) (drop (8 - k) weight_table)))) ≡ digits_value 10 (take k word)
value_by_lanes word k long le digits =
    let bs = take 8 word in
    let eight : length bs ≡ 8 = length-take-le 8 word long in
    let front : take k bs ≡ take k word = take-take k 8 word le in
    let lanes : map (λ x. x) (zip2 sub_lanes bs (replicate 8 48)) ≡ map above_zero bs =
    ap (map (λ x. x)) (zip2_splat sub_lanes bs 8 48 eight) ∙ map-map (λ x. x) above_zero bs in
    let room : 10 ^ k ≤ 10 ^ 8 = pow-le-pow_right (omega arith) le in
    let by : take 8 (take (16 - (8 - k)) (drop (8 - k) weight_table)) ≡ weights k (length bs) =
    weights_there k le ∙ ap (weights k) (sym eight) in
    (λ i. fold_l add_lanes 0 (zip2 mul_lanes (lanes i) (by i)))
    ∙ sum_by_weights 0 k bs (omega (arith, eight)) (subst (AllDigits 10) (sym front) digits)
    (omega (arith, room))
    ∙ ap (λ ds. 0 + digits_value 10 ds) front ∙ omega arith

-- ---- where the digits end

-- whether a lane is above 9
abbrev is_above_nine : ℕ → Bool
is_above_nine d = ltb 9 d

-- just those of bytes that are no digits are
lane_of_digit : (b : ℕ) → b < 256 → is_above_nine (above_zero b) ≡ false → digit_value b < 10
lane_of_digit b small lane =
    let low : above_zero b < 10 = grind (arith, nat_tests) in
    let range : (48 ≤ b) × (b ≤ 57) = (omega arith, omega arith) in
    omega (arith, range, digit_value_digit b range)

lane_of_other : (b : ℕ) → is_above_nine (above_zero b) ≡ true → 10 ≤ digit_value b
lane_of_other b lane = elim (cases_lt (digit_value b) 10) [
  | inl digit ↦
      let range = digit_from_value b digit in
      absurd (grind (arith, nat_tests))
  | inr other ↦ other
]

-- which of the bytes are no digits
abbrev other_lanes : List ℕ → List Bool
other_lanes bs = map (λ b. is_above_nine (above_zero b)) bs

-- how many stand before the first of these
abbrev lanes_before : List ℕ → ℕ
lanes_before bs = prefix_len (λ b. not (is_above_nine (above_zero b))) bs

-- the first k are digits, and what follows is none
abbrev EndAt : List ℕ → ℕ → Type 0
EndAt bs k = (k < length bs) × AllDigits 10 (take k bs) × (10 ≤ digit_value (get_or bs k 0))

-- so the digits end at the first of these, if there is one
digits_end_there : (bs : List ℕ) → Each1 (λ b. b < 256) bs → 0 < mask_l (other_lanes bs) →
    EndAt bs (lanes_before bs)
digits_end_there [] small some = absurd (omega arith)
digits_end_there (b ∷ bs) small some = elim (cases_Bool (is_above_nine (above_zero b))) [
  | inl other ↦
      let none : lanes_before (b ∷ bs) ≡ zero =
      ap (λ t. cond (not t) (1 + lanes_before bs) 0) other in
      subst (EndAt (b ∷ bs)) (sym none) (omega arith, tt, lane_of_other b other)
  | inr digit ↦
      let one : lanes_before (b ∷ bs) ≡ suc (lanes_before bs) =
      ap (λ t. cond (not t) (1 + lanes_before bs) 0) digit ∙ omega arith in
      let mask : mask_l (other_lanes (b ∷ bs)) ≡ 0 + 2 * mask_l (other_lanes bs) =
      ap (λ t. cond t 1 0 + 2 * mask_l (other_lanes bs)) digit in
      let rest = digits_end_there bs small.1 (omega (arith, some, mask)) in
      subst (EndAt (b ∷ bs)) (sym one)
      (omega (arith, rest.0), (lane_of_digit b small.0 digit, rest.1), rest.2)
]

-- and without one all are digits
all_digits_there : (bs : List ℕ) → Each1 (λ b. b < 256) bs → mask_l (other_lanes bs) ≡ 0 →
    AllDigits 10 bs
all_digits_there [] small none = tt
all_digits_there (b ∷ bs) small none = elim (cases_Bool (is_above_nine (above_zero b))) [
  | inl other ↦
      let mask : mask_l (other_lanes (b ∷ bs)) ≡ 1 + 2 * mask_l (other_lanes bs) =
      ap (λ t. cond t 1 0 + 2 * mask_l (other_lanes bs)) other in
      absurd (omega (arith, none, mask))
  | inr digit ↦
      let mask : mask_l (other_lanes (b ∷ bs)) ≡ 0 + 2 * mask_l (other_lanes bs) =
      ap (λ t. cond t 1 0 + 2 * mask_l (other_lanes bs)) digit in
      (lane_of_digit b small.0 digit, all_digits_there bs small.1 (omega (arith, none, mask)))
]

-- the mask of those of the first eight bytes that are no digits
abbrev pub others : List ℕ → ℕ
others word = mask_l (map (top 7) (zip2 (λ a b. cond (ltb a b) (2 ^ 8 - 1) 0) (replicate 8 9)
    (zip2 sub_lanes (take 8 word) (replicate 8 48)))) % 2 ^ 64

module _ (word : List ℕ) (long : 8 ≤ length word) (fits : (k : ℕ) → Fits w8 (get_or word k 0)) where
  eight : length (take 8 word) ≡ 8
  eight = length-take-le 8 word long

  small : Each1 (λ b. b < 256) (take 8 word)
  small = below_from_Fits w8 (take 8 word) (chunk-fits w8 0 8 word fits)

  others_are : others word ≡ mask_l (other_lanes (take 8 word))
  others_are =
      let bs = take 8 word in
      let ds = zip2 sub_lanes bs (replicate 8 48) in
      let lanes : ds ≡ map above_zero bs = zip2_splat sub_lanes bs 8 48 eight in
      let all : length ds ≡ 8 = length-zip2 sub_lanes bs (replicate 8 48) eight ∙ eight in
      ap (λ ms. mask_l ms % 2 ^ 64) (tops_compared w8 ltb (replicate 8 9) ds)
      ∙ mask_l-mod (zip2 ltb (replicate 8 9) ds) 64
      (omega (arith, length-zip2 ltb (replicate 8 9) ds (sym all)))
      ∙ ap mask_l (zip2_splat_left ltb 9 8 ds all ∙ ap (map is_above_nine) lanes
      ∙ map-map is_above_nine above_zero bs)

  pub all_by_lanes : others word ≡ 0 → AllDigits 10 (take 8 word)
  all_by_lanes none = all_digits_there (take 8 word) small (sym others_are ∙ none)

  -- the zeros below the lowest bit of the mask are for digits
  pub end_by_lanes : others word ≢ 0 →
      (count_trailing_zeros 64 (others word) < 8)
      × AllDigits 10 (take (count_trailing_zeros 64 (others word)) word)
      × (10 ≤ digit_value (get_or word (count_trailing_zeros 64 (others word)) 0))
  end_by_lanes some =
      let bs = take 8 word in
      let there : 0 < mask_l (other_lanes bs) =
      elim (eq-zero-or-pos (mask_l (other_lanes bs)))
      [ inl none ↦ absurd (some (others_are ∙ none)) | inr more ↦ more ] in
      let zeros : count_trailing_zeros 64 (others word) ≡ lanes_before bs =
      ap (count_trailing_zeros 64) others_are
      ∙ trailing_mask_l (λ b. is_above_nine (above_zero b)) 64 bs (omega (arith, eight)) there in
      let end = digits_end_there bs small there in
      let k = lanes_before bs in
      let below : lanes_before bs < 8 = omega (arith, end.0, eight) in
      subst (λ n. (n < 8) × AllDigits 10 (take n word) × (10 ≤ digit_value (get_or word n 0)))
      (sym zeros) (
        below,
        subst (AllDigits 10) (take-take k 8 word (omega (arith, below))) end.1,
        subst (λ b. 10 ≤ digit_value b) (get_or-take 8 word k 0 below) end.2,
      )

-- ---- a number and the digits behind it

-- the powers of 10 below 10 ^ 8
abbrev pub power_table : List ℕ
power_table = 1 ∷ 10 ∷ 100 ∷ 1_000 ∷ 10_000 ∷ 100_000 ∷ 1_000_000 ∷ 10_000_000 ∷ []

power_there : (k : ℕ) → k < 8 → get_or power_table k 0 ≡ 10 ^ k
power_there zero l = refl
power_there (suc zero) l = refl
power_there (suc (suc zero)) l = refl
power_there (suc (suc (suc zero))) l = refl
power_there (suc (suc (suc (suc zero)))) l = refl
power_there (suc (suc (suc (suc (suc zero))))) l = refl
power_there (suc (suc (suc (suc (suc (suc zero)))))) l = refl
power_there (suc (suc (suc (suc (suc (suc (suc zero))))))) l = refl
power_there (suc (suc (suc (suc (suc (suc (suc (suc k)))))))) l = absurd (omega arith)

module _ (front : ℕ) (word : List ℕ) (k value : ℕ) (below : k < 8) (within : k ≤ length word)
    (digits : AllDigits 10 (take k word))
    (is : value ≡ digits_value 10 (take k word)) where
  length_front : length (take k word) ≡ k
  length_front = length-take-le k word within

  pub value_is_joined : front * get_or power_table k 0 + value
      ≡ digits_value_after 10 front (take k word)
  value_is_joined =
      (λ i. front * (power_there k below ∙ ap (λ n. 10 ^ n) (sym length_front)) i + is i)
      ∙ sym (value_after_is front (take k word))

  pub joined_has_room : (front + 1) * 10 ^ length word ≤ 10 ^ 19 →
      (front * get_or power_table k 0 + value + 1) * 10 ^ (length word - k) ≤ 10 ^ 19
  joined_has_room room =
      let p = 10 ^ k in
      let q = 10 ^ (length word - k) in
      let all : 10 ^ length word ≡ p * q = ap (λ n. 10 ^ n) (omega arith)
      ∙ pow-add 10 k (length word - k) in
      let small : value < p =
      subst (λ v. v < p) (sym is)
      (subst (λ n. digits_value 10 (take k word) < 10 ^ n) length_front
      (digits_value-lt 10 (take k word) digits)) in
      let most : (front * p + value + 1) * q ≤ (front + 1) * p * q =
      mul-le-mul_right q (omega (arith, small)) in
      let least : (front + 1) * (p * q) ≤ 10 ^ 19 =
      subst (λ n. (front + 1) * n ≤ 10 ^ 19) all room in
      subst (λ n. (front * n + value + 1) * q ≤ 10 ^ 19) (sym (power_there k below))
      (omega (arith, most, least))

  pub joined_fits : (front + 1) * 10 ^ length word ≤ 10 ^ 19 →
      front * get_or power_table k 0 + value < 2 ^ 64
  joined_fits room = omega (
    arith,
    room_is_below (front * get_or power_table k 0 + value) (length word - k) (10 ^ 19)
        (joined_has_room room),
  )
