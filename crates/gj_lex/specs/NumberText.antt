-- How numbers are spelled (own): in canonical texts each in one way, in lenient texts in many.
use Rattle.std.specs.Prelude.{ℕ, ℤ, pos, neg_ℤ, ◌≡◌, ◌≢◌, ◌⊎◌, ◌<◌, ◌^◌, List, [], ◌∷◌, ◌++◌, length, nat_le, if◌then◌else◌, codes, decimal, unsigned_abs}
use Rattle.std.specs.Fmt.{signed_decimal}
use Rattle.std.specs.Char.{IsAsciiDigit}
use Rattle.std.specs.Str.Parse.{IsNumeral, digits_value, starts_with_minus, without_leading_sign}
use Rattle.gj_frac.specs.declared.Frac.{Frac}
use Rattle.gj_frac.specs.Fraction.{numerator, denominator}

-- what stands for a denominator: nothing for 1, and else a `/` and its digits, without a leading
-- zero
unfoldable pub denominator_text : ℕ → List ℕ
denominator_text d = if nat_le 2 d then codes "/" ++ decimal d else []

-- the text of n/d: a `-` if n is below 0, the digits of n without a leading zero, and the
-- denominator
abbrev pub ratio_text : ℤ → ℤ → List ℕ
ratio_text n d = signed_decimal n ++ denominator_text (unsigned_abs d)

-- the canonical text of a fraction; a `Frac` is in lowest terms, with a denominator above 0
abbrev pub fraction_text : Frac → List ℕ
fraction_text x = ratio_text (numerator x) (denominator x)

-- the line of a word and a count, with its line feed
abbrev pub count_line : List ℕ → ℕ → List ℕ
count_line word n = (word ++ decimal n) ++ 10 ∷ []

-- a digit, a `-` or a `/`
abbrev pub IsNumberByte : ℕ → Type 0
IsNumberByte b = IsAsciiDigit b ⊎ (b ≡ 45) ⊎ (b ≡ 47)

-- a byte that neither parts words nor ends a line: no tab, no LF, no CR and no space
pub record IsWordByte (b : ℕ) : Type 0 where
  pub no_tab : b ≢ 9
  pub no_line_feed : b ≢ 10
  pub no_carriage_return : b ≢ 13
  pub no_space : b ≢ 32

-- the word writes top/bottom without a sign: digits; or digits, a `/` and digits; or digits, a `.`
-- and digits, and all digits are the numerator
pub data IsWritten (word : List ℕ) (top bottom : ℕ) : Type 0 where
  whole : IsNumeral 10 word → top ≡ digits_value 10 word → bottom ≡ 1 → IsWritten word top bottom
  ratio : (front back : List ℕ) → word ≡ front ++ 47 ∷ back → IsNumeral 10 front →
      IsNumeral 10 back →
      top ≡ digits_value 10 front → bottom ≡ digits_value 10 back → IsWritten word top bottom
  point : (front back : List ℕ) → word ≡ front ++ 46 ∷ back → IsNumeral 10 front →
      IsNumeral 10 back →
      top ≡ digits_value 10 (front ++ back) → bottom ≡ 10 ^ length back → IsWritten word top bottom

-- the word writes n/d in lenient form: a `-`, a `+` or no sign, and then two numbers that are at
-- most 2^127 - 1 as written, the denominator not 0; leading zeros are allowed
pub record IsNumberText (word : List ℕ) (n : ℤ) (d : ℕ) : Type 0 where
  pub top : ℕ
  pub written : IsWritten (without_leading_sign word) top d
  pub top_fits : top < 2 ^ 127
  pub bottom_fits : d < 2 ^ 127
  pub bottom_some : 0 < d
  pub value : n ≡ (if starts_with_minus word then neg_ℤ (pos top) else pos top)
