-- How numbers of a problem are spelled (own): as in all lenient texts; with an exponent; or in
-- hexadecimal, as C prints them (C11, 7.21.6.1, the conversion `a`).
use Rattle.std.specs.Prelude.{ℕ, pos, ◌≡◌, ◌⊎◌, ◌<◌, ◌+◌, ◌*◌, ◌^◌, if◌then◌else◌, List, [], ◌∷◌}
use Rattle.std.specs.Prelude.{◌++◌, codes, length}
use Rattle.std.specs.Str.Parse.{IsNumeral, digits_value, starts_with_minus, without_leading_sign}
use Rattle.gj_frac.specs.declared.Frac.{Frac}
use Rattle.gj_frac.specs.Fraction.{IsRatio, with_sign}
use Rattle.gj_lex.specs.SpelledNumbers.{IsFractionWord}
use Rattle.gj_lex.specs.declared.spelling.Spelling.TheVariants.{Lenient}
use Rattle.gj_problem_text.specs.declared.numbers.Notation.{Notation}
use Rattle.gj_problem_text.specs.declared.numbers.Notation.TheVariants.{Decimal, Hexadecimal}

-- the base of the digits
abbrev pub radix : Notation → ℕ
radix Decimal = 10
radix Hexadecimal = 16

-- that of the power, and with which power of it a digit is worth less at the next place
abbrev pub base : Notation → ℕ
base Decimal = 10
base Hexadecimal = 2

abbrev pub per_place : Notation → ℕ
per_place Decimal = 1
per_place Hexadecimal = 4

-- what stands in front of the digits, and between them and the exponent
abbrev pub IsPrefix : Notation → List ℕ → Type 0
IsPrefix Decimal front = front ≡ []
IsPrefix Hexadecimal front = (front ≡ codes "0x") ⊎ (front ≡ codes "0X")

abbrev pub marks : Notation → ℕ × ℕ
marks Decimal = (101, 69)
marks Hexadecimal = (112, 80)

abbrev pub IsMark : Notation → ℕ → Type 0
IsMark s b = (b ≡ (marks s).0) ⊎ (b ≡ (marks s).1)

-- digits, or digits, a `.` and digits: all of them make the number `top`, and so many stand behind
-- the point
pub data IsMantissa (radix : ℕ) (word : List ℕ) (top places : ℕ) : Type 0 where
  whole : IsNumeral radix word → top ≡ digits_value radix word → places ≡ 0 →
      IsMantissa radix word top places
  point : (front back : List ℕ) → word ≡ front ++ 46 ∷ back → IsNumeral radix front →
      IsNumeral radix back →
      top ≡ digits_value radix (front ++ back) → places ≡ length back →
      IsMantissa radix word top places

-- the size of an exponent that is not below 0, and of one that is; the other of the two is 0
abbrev pub raised : List ℕ → ℕ
raised word = if starts_with_minus word then 0 else digits_value 10 (without_leading_sign word)

abbrev pub lowered : List ℕ → ℕ
lowered word = if starts_with_minus word then digits_value 10 (without_leading_sign word) else 0

-- digits and an exponent, which is a sign or none and digits, make the number n/d; that of the
-- digits is at most 2^127 - 1 without the point
pub record IsScaled (s : Notation) (word : List ℕ) (n d : ℕ) : Type 0 where
  pub mantissa : List ℕ
  pub mark : ℕ
  pub exponent : List ℕ
  pub parts : word ≡ mantissa ++ mark ∷ exponent
  pub is_mark : IsMark s mark
  pub top : ℕ
  pub places : ℕ
  pub is_mantissa : IsMantissa (radix s) mantissa top places
  pub top_fits : top < 2 ^ 127
  pub is_exponent : IsNumeral 10 (without_leading_sign exponent)
  pub n_is : n ≡ top * base s ^ raised exponent
  pub d_is : d ≡ base s ^ (lowered exponent + per_place s * places)

-- the word spells x with an exponent: a sign or none, what stands in front of digits, and these
pub record IsScaledWord (s : Notation) (word : List ℕ) (x : Frac) : Type 0 where
  pub front : List ℕ
  pub rest : List ℕ
  pub parts : without_leading_sign word ≡ front ++ rest
  pub is_prefix : IsPrefix s front
  pub n : ℕ
  pub d : ℕ
  pub scaled : IsScaled s rest n d
  pub value : IsRatio x (with_sign (starts_with_minus word) n) (pos d)

-- the word spells the number
abbrev pub IsNumberWord : List ℕ → Frac → Type 0
IsNumberWord word x = IsFractionWord Lenient word x ⊎ ((s : Notation) × IsScaledWord s word x)
