-- Words that spell numbers, in either spelling (own).
use Rattle.std.specs.Prelude.{ℕ, ℤ, pos, ◌≡◌, ◌<◌, List, All, length, slice_index}
use Rattle.std.specs.Char.{IsAsciiDigit}
use Rattle.std.specs.Str.Parse.{IsNumeral, digits_value}
use Rattle.gj_frac.specs.declared.Frac.{Frac}
use Rattle.gj_frac.specs.Fraction.{IsRatio}
use Rattle.gj_lex.specs.NumberText.{IsNumberText, fraction_text}
use Rattle.gj_lex.specs.declared.spelling.Spelling.{Spelling}
use Rattle.gj_lex.specs.declared.spelling.Spelling.TheVariants.{Lenient, Strict}

-- a count in digits, without a leading zero
pub record IsCount (word : List ℕ) : Type 0 where
  pub some : 0 < length word
  pub digits : All IsAsciiDigit word
  pub no_leading_zero : slice_index word 0 ≡ 48 → length word ≡ 1

-- the word spells the count: digits, in strict spelling without a leading zero
abbrev pub IsCountWord : Spelling → List ℕ → ℕ → Type 0
IsCountWord Lenient word n = IsNumeral 10 word × (n ≡ digits_value 10 word)
IsCountWord Strict word n = IsCount word × (n ≡ digits_value 10 word)

-- the word spells the fraction: in lenient form, or in strict spelling as its canonical text
abbrev pub IsFractionWord : Spelling → List ℕ → Frac → Type 0
IsFractionWord Lenient word x = (n : ℤ) × (d : ℕ) × IsNumberText word n d × IsRatio x n (pos d)
IsFractionWord Strict word x = word ≡ fraction_text x
