-- The digits of numbers of 128 bits: what std says of 64 bits, and reading from the left with a
-- limit.
use Rattle.std.proofs.Common.{◌≡◌, ℕ, zero, suc, ◌+◌, ◌-◌, ◌*◌, ◌/◌, ◌%◌, ◌^◌, ◌<◌, ◌≤◌, List, [], ◌∷◌, ◌++◌, length, get_or, take, drop, decimal, Option, None, Some, IfSome, sym, ◌∙◌, ap, subst, arith, append_assoc, append-nil, length-append, add-one, refl, take-append-drop}
use lib.ListN.{get_or-append, set}
use Rattle.std.specs.Char.{digit_value}
use Rattle.std.specs.Option.{SomeIff}
use Rattle.std.specs.Str.Parse.{AllDigits, digits_value, digits_value_after}
use Rattle.std.proofs.lemmas.Str.{digit_value_digit}
use Rattle.std.proofs.lemmas.Str.Parse.{digit_from_value, digit_at}
use Rattle.std.proofs.lemmas.Fmt.{decimal_digit, decimal_step_wide, decimal_by_steps_wide, decimal_is_IsNumeral_wide, length-decimal-le_wide}
use Rattle.std.proofs.lemmas.List.{drop-set}
use Rattle.std.proofs.Math.Nat.{pow-suc, mul-le-mul_left, one-le-pow}

-- digits after a number only add to it
pub value_after_at_least : (n : ℕ) (ds : List ℕ) → n ≤ digits_value_after 10 n ds
value_after_at_least n [] = omega arith
value_after_at_least n (c ∷ cs) = omega (arith, value_after_at_least (n * 10 + digit_value c) cs)

-- digits after those of a number above 0 are the last digits of the number that they make
decimal_of_value_after : (n : ℕ) (ds : List ℕ) → 0 < n → AllDigits 10 ds →
    digits_value_after 10 n ds < 10 ^ 64 →
    decimal (digits_value_after 10 n ds) ≡ decimal n ++ ds
decimal_of_value_after n [] some d small = sym (append-nil (decimal n))
decimal_of_value_after n (c ∷ cs) some d small =
    let m : ℕ = n * 10 + digit_value c in
    let k = digit_value_digit c (digit_from_value c d.0) in
    let front : m / 10 ≡ n = omega (arith, d.0) in
    let end : 48 + m % 10 ≡ c = omega (arith, d.0) in
    decimal_of_value_after m cs (omega arith) d.1 small
    ∙ ap (λ x. x ++ cs) (decimal_step_wide m (omega arith)
    (omega (arith, value_after_at_least m cs)) ∙ (λ i. decimal (front i) ++ (end i ∷ [])))
    ∙ append_assoc (decimal n) (c ∷ []) cs

-- digits with no leading zero, or `0` alone, are the digits of their value
pub decimal_of_value : (ds : List ℕ) → AllDigits 10 ds → 0 < length ds →
    (get_or ds 0 0 ≡ 48 → length ds ≡ 1) →
    digits_value 10 ds < 10 ^ 64 → decimal (digits_value 10 ds) ≡ ds
decimal_of_value [] d some lead small = absurd (omega arith)
decimal_of_value (c ∷ []) d some lead small =
    let k = digit_value_digit c (digit_from_value c d.0) in
    decimal_digit (0 * 10 + digit_value c) (omega (arith, d.0)) ∙ ap (λ x. x ∷ []) (omega arith)
decimal_of_value (c ∷ e ∷ cs) d some lead small =
    let k = digit_value_digit c (digit_from_value c d.0) in
    let no : c ≡ 48 → ⊥ = λ z. omega (arith, lead z) in
    let is : 48 + (0 * 10 + digit_value c) ≡ c = omega arith in
    decimal_of_value_after (0 * 10 + digit_value c) (e ∷ cs) (omega arith) d.1 small
    ∙ ap (λ x. x ++ (e ∷ cs)) (decimal_digit (0 * 10 + digit_value c) (omega (arith, d.0))
    ∙ ap (λ x. x ∷ []) is)

-- the digits of a number above 0 begin with no zero
decimal_first : (n : ℕ) → n < 10 ^ 64 → 0 < n → 48 < get_or (decimal n) 0 0
decimal_first n small some = (decimal_by_steps_wide
    (λ m ds. (0 < length ds) × (0 < m → 48 < get_or ds 0 0))
    (λ m l. (omega arith, λ a. omega arith))
    (λ m ds l h. (
      omega (arith, length-append ds ((48 + m % 10) ∷ [])),
      λ a. omega (arith, get_or-append ds ((48 + m % 10) ∷ []) 0 0 h.0, h.1 (omega arith)),
    )) n small).1 some

-- the digits of a number begin with a zero only at 0
pub decimal_leading_zero : (n : ℕ) → n < 10 ^ 64 → get_or (decimal n) 0 0 ≡ 48 →
    length (decimal n) ≡ 1
decimal_leading_zero zero small lead = ap length (decimal_digit 0 (omega arith))
decimal_leading_zero (suc n) small lead =
    absurd (omega (arith, decimal_first (suc n) small (omega arith)))

-- a number is the value of its digits
pub value_of_decimal : (n : ℕ) → n < 10 ^ 64 → digits_value 10 (decimal n) ≡ n
value_of_decimal n small = (decimal_is_IsNumeral_wide n small).1

-- numbers with the same digits are equal
pub same_from_decimal : (m n : ℕ) → m < 10 ^ 64 → n < 10 ^ 64 → decimal m ≡ decimal n → m ≡ n
same_from_decimal m n p q e = sym (value_of_decimal m p) ∙ ap (digits_value 10) e
    ∙ value_of_decimal n q

-- one digit more behind those of a number
value_after_suc : (n : ℕ) (bs : List ℕ) (i : ℕ) → i < length bs →
    digits_value_after 10 n (take (suc i) bs) ≡ digits_value_after 10 n (take i bs) * 10
    + digit_value (get_or bs i 0)
value_after_suc n [] i h = absurd (omega arith)
value_after_suc n (c ∷ cs) zero h = refl
value_after_suc n (c ∷ cs) (suc i) h = value_after_suc (n * 10 + digit_value c) cs i (omega arith)

-- the same at the next index of a loop
pub value_after_more : (n : ℕ) (bs : List ℕ) (i : ℕ) → i < length bs →
    digits_value_after 10 n (take (i + 1) bs) ≡ digits_value_after 10 n (take i bs) * 10
    + digit_value (get_or bs i 0)
value_after_more n bs i h = rw add-one (value_after_suc n bs i h)

-- the digits of two runs, one after the other
pub value_after_append : (n : ℕ) (xs ys : List ℕ) →
    digits_value_after 10 n (xs ++ ys) ≡ digits_value_after 10 (digits_value_after 10 n xs) ys
value_after_append n [] ys = refl
value_after_append n (c ∷ cs) ys = value_after_append (n * 10 + digit_value c) cs ys

-- the first digits make no larger number
value_after_take_le : (n : ℕ) (bs : List ℕ) (i : ℕ) →
    digits_value_after 10 n (take i bs) ≤ digits_value_after 10 n bs
value_after_take_le n bs i =
    let parts : digits_value_after 10 n (take i bs ++ drop i bs) ≡ digits_value_after 10 n bs =
    ap (digits_value_after 10 n)
    (take-append-drop i bs) in
    omega (
      arith,
      value_after_at_least (digits_value_after 10 n (take i bs))
          (drop i bs),
      value_after_append n (take i bs) (drop i bs),
    )

-- if a byte is no digit, or the number so far is too large with it, the whole word is no number
-- within the limit
pub no_number_from_there : (start : ℕ) (word : List ℕ) (i front limit : ℕ) → i < length word →
    front ≡ digits_value_after 10 start (take i word) →
    ¬ ((digit_value (get_or word i 0) < 10)
    × (front * 10 + digit_value (get_or word i 0) < limit)) →
    ¬ (AllDigits 10 word × (digits_value_after 10 start word < limit))
no_number_from_there start word i front limit l is refuted (d, small) =
    let r = digit_at word i d l in
    let k = digit_value_digit (get_or word i 0) r in
    let step : digits_value_after 10 start (take (i + 1) word) ≡ front * 10 + digit_value
    (get_or word i 0) = value_after_more start word i l
    ∙ ap (λ v. v * 10 + digit_value (get_or word i 0)) (sym is) in
    refuted (omega arith, omega (arith, step, value_after_take_le start word (i + 1)))

-- a number of 128 bits has a digit
pub decimal_some : (n : ℕ) → n < 2 ^ 128 → 0 < length (decimal n)
decimal_some n small = (decimal_is_IsNumeral_wide n (omega arith)).0.0

-- and has at most 39
pub decimal_at_most : (n : ℕ) → n < 2 ^ 128 → length (decimal n) ≤ 39
decimal_at_most n small = length-decimal-le_wide 39 n (omega arith) (omega arith) (omega arith)

-- one digit fewer without the last
pub length-decimal-step : (n : ℕ) → 10 ≤ n → n < 2 ^ 128 →
    length (decimal n) ≡ length (decimal (n / 10)) + 1
length-decimal-step n large small = ap length (decimal_step_wide n large (omega arith))
    ∙ length-append (decimal (n / 10)) ((48 + n % 10) ∷ [])

-- a byte written just before what is written
pub written_before : (text : List ℕ) (start byte : ℕ) → 0 < start → start ≤ length text →
    drop (start - 1) (set text (start - 1) byte) ≡ byte ∷ drop start text
written_before text start byte some within =
    let after : start - 1 + 1 ≡ start = omega arith in
    drop-set text (start - 1) byte (omega arith) ∙ ap (λ k. byte ∷ drop k text) after

-- the last digit written before what is written: the other digits are left to write
pub digit_written : (text : List ℕ) (start n : ℕ) → 0 < start → start ≤ length text → 10 ≤ n →
    n < 2 ^ 128 →
    decimal n ++ drop start text ≡ decimal (n / 10) ++ drop (start - 1)
    (set text (start - 1) (48 + n % 10))
digit_written text start n some within large small =
    ap (λ ds. ds ++ drop start text) (decimal_step_wide n large (omega arith))
    ∙ append_assoc (decimal (n / 10)) ((48 + n % 10) ∷ []) (drop start text)
    ∙ ap (λ ds. decimal (n / 10) ++ ds) (sym (written_before text start (48 + n % 10) some within))

-- the only digit written before what is written: no digit is left
pub last_digit_written : (text : List ℕ) (start n : ℕ) → 0 < start → start ≤ length text → n < 10 →
    decimal n ++ drop start text ≡ drop (start - 1) (set text (start - 1) (48 + n % 10))
last_digit_written text start n some within small =
    let one : n % 10 ≡ n = omega arith in
    ap (λ ds. ds ++ drop start text) (decimal_digit n small)
    ∙ ap (λ d. (48 + d) ∷ drop start text) (sym one)
    ∙ sym (written_before text start (48 + n % 10) some within)

-- what is read from the left is the number that has these digits
pub read_digits_found : (word : List ℕ) (r : Option ℕ) →
    SomeIff r (AllDigits 10 word × (digits_value 10 word < 2 ^ 127)) (digits_value 10 word) →
    0 < length word → (get_or word 0 0 ≡ 48 → length word ≡ 1) →
    IfSome r (λ n. (n < 2 ^ 127) × (word ≡ decimal n))
read_digits_found word None h some lead = tt
read_digits_found word (Some n) h some lead =
    let small : digits_value 10 word < 10 ^ 64 = omega (arith, h.0.1) in (
      omega (arith, h.0.1, h.1),
      sym (decimal_of_value word h.0.0 some lead small)
          ∙ ap decimal (sym h.1),
    )

-- a number whose digits stand there is read
pub read_digits_only : (word : List ℕ) (r : Option ℕ) →
    SomeIff r (AllDigits 10 word × (digits_value 10 word < 2 ^ 127)) (digits_value 10 word) →
    (n : ℕ) → n < 2 ^ 127 → word ≡ decimal n → r ≡ Some n
read_digits_only word None h n small e =
    let spelled = decimal_is_IsNumeral_wide n (omega arith) in
    let value : digits_value 10 word ≡ n = ap (digits_value 10) e ∙ spelled.1 in
    absurd (h (subst (AllDigits 10) (sym e) spelled.0.1, omega arith))
read_digits_only word (Some m) h n small e =
    ap Some (h.1 ∙ ap (digits_value 10) e ∙ value_of_decimal n (omega arith))

-- if a byte is no digit the word is no number
pub no_digit_there : (start : ℕ) (word : List ℕ) (i limit : ℕ) → i < length word →
    ¬ (digit_value (get_or word i 0) < 10) →
    ¬ (AllDigits 10 word × (digits_value_after 10 start word < limit))
no_digit_there start word i limit l none (d, small) =
    let r = digit_at word i d l in
    let k = digit_value_digit (get_or word i 0) r in
    none (omega arith)

-- room for all digits that are left is room for one of them, and then for the others
pub room_behind_digit : (v d n i limit : ℕ) → i < n → d < 10 → (v + 1) * 10 ^ (n - i) ≤ limit →
    (v * 10 + d + 1) * 10 ^ (n - (i + 1)) ≤ limit
room_behind_digit v d n i limit l digit room =
    let left : n - i ≡ suc (n - (i + 1)) = omega arith in
    let p = 10 ^ (n - (i + 1)) in
    let power : 10 ^ (n - i) ≡ p * 10 = ap (λ k. 10 ^ k) left ∙ pow-suc 10 (n - (i + 1)) in
    let room' : (v + 1) * (p * 10) ≤ limit = subst (λ k. (v + 1) * k ≤ limit) power room in
    let below : p * (d + 1) ≤ p * 10 = mul-le-mul_left p (omega arith) in
    omega (arith, room', below)

-- a number that has room for digits is below the limit
pub room_is_below : (v k limit : ℕ) → (v + 1) * 10 ^ k ≤ limit → v < limit
room_is_below v k limit room =
    let ten : 0 < 10 = omega arith in
    let some : 1 ≤ 10 ^ k = one-le-pow k 10 ten in
    let more : (v + 1) * 1 ≤ (v + 1) * 10 ^ k = mul-le-mul_left (v + 1) some in
    omega (arith, room, more)
