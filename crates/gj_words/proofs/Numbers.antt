-- Numbers in digits, without a leading zero.
use Rattle.std.proofs.Common.{◌≡◌, ◌∙◌, ◌<◌, ◌≤◌, ◌^◌, ℕ, zero, suc, List, [], ◌∷◌, Some, IfSome, Result, Ok, Err, decimal, get_or, refl, sym, ap, subst, inl, inr, arith}
use Rattle.std.proofs.lemmas.Bool.{cases_lt}
use Rattle.std.proofs.lemmas.Fmt.{decimal-digits_value, decimal_digit, decimal_is_IsNumeral, decimal_nonempty, first_decimal, parse-decimal}
use Rattle.std.proofs.lemmas.Str.Parse.{IsNumeralModel, not_in_digits, numerals_by_value, parse_plain, tells_digits}
use Rattle.std.specs.Result.{result_ok}
use Rattle.std.specs.Str.Parse.{AllDigits, ParsesUnsigned, digits_value}

own : IsNumeralModel (AllDigits 10) (digits_value 10)
own = numerals_by_value (AllDigits 10) tells_digits

-- a number above zero begins with a digit above zero
pub first_of_number : (n : ℕ) → 1 ≤ n → n < 2 ^ 32 →
    (49 ≤ get_or (decimal n) 0 0) × (get_or (decimal n) 0 0 ≤ 57)
first_of_number n some small =
    let first : ℕ = get_or (decimal n) 0 0 in
    let above : 48 < get_or (decimal n) 0 0 = first_decimal n (omega arith) (omega arith) in
    let digits : AllDigits 10 (decimal n) = (decimal_is_IsNumeral n (omega arith)).0.1 in
    elim (cases_lt 57 (get_or (decimal n) 0 0)) [
      | inl large ↦ absurd
          (not_in_digits own (decimal n) _ digits (λ r. omega arith) 0
          (decimal_nonempty n (omega arith)) refl)
      | inr within ↦ (omega arith, omega arith)
    ]

-- each number begins with a digit
pub first_of_digits : (n : ℕ) → n < 2 ^ 32 → 48 ≤ get_or (decimal n) 0 0
first_of_digits zero small = let at : get_or (decimal 0) 0 0 ≡ 48 =
    ap (λ ds. get_or ds 0 0) (decimal_digit 0 (omega arith)) in omega arith
first_of_digits (suc k) small = omega (arith, (first_of_number (suc k) (omega arith) small).0)

-- a text that begins so and is read as a number spells it
pub number_spelled : {E : Type 0} (word : List ℕ) (r : Result ℕ E) (n : ℕ) → 49 ≤ get_or word 0 0 →
    ParsesUnsigned 32 10 word r → result_ok r ≡ Some n
    → (1 ≤ n) × (word ≡ decimal n)
number_spelled {E} word (Ok m) n first h is =
    let plain = parse_plain own {E = E} 32 word (Ok m) h (λ plus. omega arith) in
    let same : m ≡ n = cc in
    let spelled : decimal (digits_value 10 word) ≡ word
    = decimal-digits_value own word plain.0.0 plain.0.1 (λ zero. omega arith)
    (omega (arith, plain.0.2)) in
    let word_is : word ≡ decimal n = sym spelled ∙ ap decimal (sym plain.1 ∙ same) in
    (above_zero n (subst (λ w. 49 ≤ get_or w 0 0) word_is first), word_is)
  where
    above_zero : (k : ℕ) → 49 ≤ get_or (decimal k) 0 0 → 1 ≤ k
    above_zero zero first = let at : get_or (decimal 0) 0 0 ≡ 48 =
        ap (λ ds. get_or ds 0 0) (decimal_digit 0 (omega arith)) in omega arith
    above_zero (suc k) first = omega arith
number_spelled word (Err e) n first h is = cc

-- the digits of a number are read as it
pub number_read : {E : Type 0} (word : List ℕ) (r : Result ℕ E) (n : ℕ) → n < 2 ^ 32 →
    ParsesUnsigned 32 10 word r
    → word ≡ decimal n → result_ok r ≡ Some n
number_read word r n small h e =
    ap result_ok (parse-decimal 32 n word r (omega arith) (omega arith) e h)

-- 0 is spelled so
pub zero_spelled : decimal 0 ≡ 48 ∷ []
zero_spelled = decimal_digit 0 (omega arith)

-- a word spells one number
pub one_number : (n m : ℕ) → n < 2 ^ 32 → m < 2 ^ 32 → decimal n ≡ decimal m → n ≡ m
one_number n m a b e = sym (decimal_is_IsNumeral n (omega arith)).1 ∙ ap (digits_value 10) e
    ∙ (decimal_is_IsNumeral m (omega arith)).1

-- a word that spells a number and is not `0` begins with a digit above zero
pub begins_so : (word : List ℕ) (n : ℕ) → n < 2 ^ 32 → (word ≡ 48 ∷ [] → ⊥) → word ≡ decimal n →
    (49 ≤ get_or word 0 0) × (get_or word 0 0 ≤ 57)
begins_so word zero small other e = absurd (other (e ∙ zero_spelled))
begins_so word (suc k) small other e =
    let first = first_of_number (suc k) (omega arith) small in
    let at : get_or word 0 0 ≡ get_or (decimal (suc k)) 0 0 = ap (λ ds. get_or ds 0 0) e in
    (omega (arith, at, first.0), omega (arith, at, first.1))

-- what is read of a word that begins so is the number that it spells
pub read_spells : {E : Type 0} (word : List ℕ) (r : Result ℕ E) → 49 ≤ get_or word 0 0 →
    ParsesUnsigned 32 10 word r
    → IfSome (result_ok r) (λ n. word ≡ decimal n)
read_spells {E} word (Ok m) first h = (number_spelled {E = E} word (Ok m) m first h refl).1
read_spells word (Err e) first h = tt
