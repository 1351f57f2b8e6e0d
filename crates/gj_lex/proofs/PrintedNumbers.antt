-- Texts that begin with a printed number.
use Rattle.std.proofs.Common.{◌≡◌, ◌≢◌, ℕ, zero, suc, ℤ, pos, negsuc, neg_ℤ, unsigned_abs, ◌+◌, ◌-◌, ◌<◌, ◌≤◌, ◌^◌, min, List, [], ◌∷◌, ◌++◌, length, get_or, take, drop, decimal, inl, inr, refl, sym, ap, subst, ◌∙◌, append_assoc, length-append, take-append-drop, arith}
use Rattle.std.specs.Char.{digit_value}
use Rattle.std.specs.Fmt.{signed_decimal}
use Rattle.std.specs.Str.Parse.{AllDigits, digits_value}
use Rattle.std.proofs.Math.Seq.{take-append_seam, take-append-add, drop-append_seam}
use Rattle.std.proofs.lemmas.Bool.{cases_lt}
use Rattle.std.proofs.lemmas.Fmt.{decimal_is_IsNumeral_wide, length-decimal-le_wide}
use Rattle.std.proofs.lemmas.Int.{ints}
use Rattle.std.proofs.lemmas.Str.Parse.{digit_from_value, digits_value_short, numerals_by_value, tells_digits}
use Rattle.gj_frac.specs.declared.Frac.{Frac}
use Rattle.gj_lex.specs.LeadingText.{BeginsWithNoDigit}
use Rattle.gj_lex.specs.NumberText.{denominator_text, fraction_text}
use Rattle.gj_lex.proofs.CanonicalTexts.{denominator_more, denominator_one}
use Rattle.gj_lex.proofs.Decimals.{decimal_leading_zero, decimal_of_value, decimal_some, value_of_decimal}
use Rattle.gj_lex.proofs.LeadingDigits.{digits_end}

-- the number that few digits spell is small
pub few_digits_small : (ds : List ℕ) → AllDigits 10 ds → length ds ≤ 18 →
    digits_value 10 ds < 10 ^ 18
few_digits_small ds digits few =
    digits_value_short (numerals_by_value (AllDigits 10) tells_digits) ds 18 digits few

-- digits that begin with no zero, or with one alone, are printed for their number
pub number_printed : (text front rest : List ℕ) (len number : ℕ) → front ≡ take len text →
    rest ≡ drop len text → AllDigits 10 (take len text) →
    number ≡ digits_value 10 (take len text) → number < 10 ^ 18 → 0 < length front →
    (get_or front 0 0 ≡ 48 → length front ≡ 1) →
    text ≡ decimal number ++ rest
number_printed text front rest len number front_is rest_is digits value small some lead =
    let digits_of : AllDigits 10 front = subst (AllDigits 10) (sym front_is) digits in
    let value_of : digits_value 10 front ≡ number = ap (digits_value 10) front_is ∙ sym value in
    let printed : decimal number ≡ front =
    ap decimal (sym value_of)
    ∙ decimal_of_value front digits_of some lead (omega (arith, value_of, small)) in
    sym (take-append-drop len text) ∙ ap (λ t. t ++ drop len text) (sym front_is ∙ sym printed)
    ∙ ap (λ t. decimal number ++ t) (sym rest_is)

-- ---- a number that stands there is read

-- where a text begins with no digit, so does its front
no_digit_ahead : (j : ℕ) (rest : List ℕ) → BeginsWithNoDigit rest → 0 < length (take j rest) →
    10 ≤ digit_value (get_or (take j rest) 0 0)
no_digit_ahead zero rest none some = absurd (omega arith)
no_digit_ahead (suc j) [] none some = absurd (omega arith)
no_digit_ahead (suc j) (b ∷ rest) none some = elim (cases_lt (digit_value b) 10) [
  | inl digit ↦ absurd (none (digit_from_value b digit))
  | inr other ↦ other
]

-- the digits at the front of a text are those that stand there, if no more than 18 are read and no
-- digit stands behind them
pub digits_stand : (text front ds rest : List ℕ) (m k : ℕ) → front ≡ take m text →
    m ≡ min (length text) 18 → AllDigits 10 (take k front) →
    k ≤ length front → (k < length front → 10 ≤ digit_value (get_or front k 0)) →
    AllDigits 10 ds → length ds ≤ 18 → BeginsWithNoDigit rest → text ≡ ds ++ rest → k ≡ length ds
digits_stand text front ds rest m k front_is m_is digits within end spelled few none text_is =
    let all = length-append ds rest in
    let seam : m ≡ length ds + (m - length ds) = omega (arith, m_is, few, all, ap length text_is) in
    let ahead = take (m - length ds) rest in
    let same : front ≡ ds ++ ahead =
    front_is ∙ ap (take m) text_is ∙ ap (λ j. take j (ds ++ rest)) seam
    ∙ take-append-add ds rest (m - length ds) in
    digits_end ds ahead k (subst (λ w. AllDigits 10 (take k w)) same digits)
    (subst (λ w. k ≤ length w) same within)
    (subst (λ w. k < length w → 10 ≤ digit_value (get_or w k 0)) same end) spelled
    (no_digit_ahead (m - length ds) rest none)

-- as those of a printed number
pub number_stands : (text front rest : List ℕ) (m k n : ℕ) → front ≡ take m text →
    m ≡ min (length text) 18 → AllDigits 10 (take k front) →
    k ≤ length front → (k < length front → 10 ≤ digit_value (get_or front k 0)) → n < 10 ^ 18 →
    BeginsWithNoDigit rest →
    text ≡ decimal n ++ rest → k ≡ length (decimal n)
number_stands text front rest m k n front_is m_is digits within end small none text_is =
    digits_stand text front (decimal n) rest m k front_is m_is digits within end
    (decimal_is_IsNumeral_wide n (omega (arith, small))).0.1
    (length-decimal-le_wide 18 n (omega arith) small (omega (arith, small))) none text_is

-- the digits that stand there, and what follows them
pub front_taken : (text ds rest : List ℕ) (k : ℕ) → text ≡ ds ++ rest → k ≡ length ds →
    take k text ≡ ds
front_taken text ds rest k text_is k_is = ap (λ i. take i text) k_is
    ∙ ap (take (length ds)) text_is ∙ take-append_seam ds rest

pub front_dropped : (text ds rest : List ℕ) (k : ℕ) → text ≡ ds ++ rest → k ≡ length ds →
    drop k text ≡ rest
front_dropped text ds rest k text_is k_is = ap (λ i. drop i text) k_is
    ∙ ap (drop (length ds)) text_is ∙ drop-append_seam ds rest

module _ (text rest : List ℕ) (k n : ℕ) (small : n < 10 ^ 18) (text_is : text ≡ decimal n ++ rest)
    (k_is : k ≡ length (decimal n)) where
  -- they are its digits
  pub digits_taken : take k text ≡ decimal n
  digits_taken = front_taken text (decimal n) rest k text_is k_is

  -- and the rest follows them
  pub digits_dropped : drop k text ≡ rest
  digits_dropped = front_dropped text (decimal n) rest k text_is k_is

  -- there is a digit, and no zero before others
  pub digits_canonical : (front : List ℕ) → front ≡ take k text →
      (0 < length front) × (get_or front 0 0 ≡ 48 → length front ≡ 1)
  digits_canonical front front_is =
      let same : front ≡ decimal n = front_is ∙ digits_taken in
      subst (λ ds. (0 < length ds) × (get_or ds 0 0 ≡ 48 → length ds ≡ 1)) (sym same)
      (decimal_some n (omega (arith, small)), decimal_leading_zero n (omega (arith, small)))

  -- which spell the number
  pub digits_spell : digits_value 10 (take k text) ≡ n
  digits_spell = ap (digits_value 10) digits_taken ∙ value_of_decimal n (omega (arith, small))

-- a `/` and a number from 2 on are printed for that denominator
pub denominator_printed : (text digits rest : List ℕ) (d : ℕ) → text ≡ 47 ∷ digits →
    digits ≡ decimal d ++ rest → 2 ≤ d →
    text ≡ denominator_text d ++ rest
denominator_printed text digits rest d text_is digits_is two =
    text_is ∙ ap (λ t. 47 ∷ t) digits_is ∙ ap (λ t. t ++ rest) (sym (denominator_more d two))

-- ---- what stands behind a sign or a `/`

-- digits begin with no `-`
no_minus_before : (ds bs rest : List ℕ) → AllDigits 10 ds → 0 < length ds → 45 ∷ bs ≢ ds ++ rest
no_minus_before [] bs rest digits some e = absurd (omega arith)
no_minus_before (c ∷ cs) bs rest digits some e =
    let same : 45 ≡ c = ap (λ t. get_or t 0 0) e in
    omega (arith, digit_from_value c digits.0)

number_no_minus : (n : ℕ) (bs rest : List ℕ) → n < 10 ^ 18 → 45 ∷ bs ≢ decimal n ++ rest
number_no_minus n bs rest small e =
    let spelled = decimal_is_IsNumeral_wide n (omega (arith, small)) in
    no_minus_before (decimal n) bs rest spelled.0.1 spelled.0.0 e

-- a whole number that begins with a `-` is below 0, and its digits follow
pub minus_number : (text digits rest : List ℕ) (n : ℤ) → unsigned_abs n < 10 ^ 18 →
    text ≡ 45 ∷ digits → text ≡ signed_decimal n ++ rest →
    (n ≡ neg_ℤ (pos (unsigned_abs n))) × (0 < unsigned_abs n)
    × (digits ≡ decimal (unsigned_abs n) ++ rest)
minus_number text digits rest (pos n) small minus is =
    absurd (number_no_minus n digits rest small (sym minus ∙ is))
minus_number text digits rest (negsuc n) small minus is =
    (refl, omega arith, ap (drop 1) (sym minus ∙ is))

-- a denominator that begins with no `/` is 1
pub plain_denominator : (text rest : List ℕ) (d : ℕ) → 0 < d → ((bs : List ℕ) → text ≢ 47 ∷ bs) →
    text ≡ denominator_text d ++ rest →
    (d ≡ 1) × (text ≡ rest)
plain_denominator text rest zero some other is = absurd (omega arith)
plain_denominator text rest (suc zero) some other is =
    (refl, is ∙ ap (λ t. t ++ rest) denominator_one)
plain_denominator text rest (suc (suc d)) some other is =
    absurd (other (decimal (suc (suc d)) ++ rest)
    (is ∙ ap (λ t. t ++ rest) (denominator_more (suc (suc d)) (omega arith))))

-- one that begins with a `/` is at least 2, and its digits follow, if no `/` stands behind it
pub slash_denominator : (text digits rest : List ℕ) (d : ℕ) → 0 < d → get_or rest 0 0 ≢ 47 →
    text ≡ 47 ∷ digits → text ≡ denominator_text d ++ rest →
    (2 ≤ d) × (digits ≡ decimal d ++ rest)
slash_denominator text digits rest zero some other slash is = absurd (omega arith)
slash_denominator text digits rest (suc zero) some other slash is =
    absurd (other (ap (λ t. get_or t 0 0) (sym (is ∙ ap (λ t. t ++ rest) denominator_one) ∙ slash)))
slash_denominator text digits rest (suc (suc d)) some other slash is = (
  omega arith,
  ap (drop 1)
      (sym slash ∙ is ∙ ap (λ t. t ++ rest) (denominator_more (suc (suc d)) (omega arith))),
)

-- no digit stands behind a numerator
no_digit_behind : (d : ℕ) (rest : List ℕ) → 0 < d → BeginsWithNoDigit rest →
    BeginsWithNoDigit (denominator_text d ++ rest)
no_digit_behind zero rest some none = absurd (omega arith)
no_digit_behind (suc zero) rest some none =
    subst (λ t. BeginsWithNoDigit (t ++ rest)) (sym denominator_one) none
no_digit_behind (suc (suc d)) rest some none =
    subst (λ t. BeginsWithNoDigit (t ++ rest)) (sym (denominator_more (suc (suc d)) (omega arith)))
    (λ digit. omega (arith, digit))

-- a fraction that stands there is its numerator, and then its denominator
pub fraction_stands : (text rest : List ℕ) (x : Frac) → BeginsWithNoDigit rest →
    text ≡ fraction_text x ++ rest →
    (text ≡ signed_decimal x.num ++ (denominator_text (unsigned_abs x.den) ++ rest))
    × (0 < unsigned_abs x.den) ×
    BeginsWithNoDigit (denominator_text (unsigned_abs x.den) ++ rest)
fraction_stands text rest x none is =
    let positive = x.lowest.positive in
    let some : 0 < unsigned_abs x.den = omega (arith, ints) in (
      is ∙ append_assoc (signed_decimal x.num) (denominator_text (unsigned_abs x.den)) rest,
      some,
      no_digit_behind (unsigned_abs x.den) rest some none,
    )
