-- What a text begins with (own).
use Rattle.std.specs.Prelude.{ℕ, ◌≡◌, ◌<◌, ◌≤◌, List, [], ◌∷◌, ◌++◌, length}
use Rattle.std.specs.Char.{IsAsciiDigit}
use Rattle.std.specs.Str.Parse.{IsNumeral, digits_value}

-- the text is empty, or its first byte is no digit
abbrev pub BeginsWithNoDigit : List ℕ → Type 0
BeginsWithNoDigit [] = Unit {0}
BeginsWithNoDigit (b ∷ text) = IsAsciiDigit b → ⊥

-- the text begins with at most 18 digits, a `/` and at most 18 digits, which are not all 0, and no
-- digit follows these
pub record BeginsWithShortRatio (text : List ℕ) : Type 0 where
  pub front : List ℕ
  pub back : List ℕ
  pub rest : List ℕ
  pub text_is : text ≡ front ++ 47 ∷ (back ++ rest)
  pub front_digits : IsNumeral 10 front
  pub front_few : length front ≤ 18
  pub back_digits : IsNumeral 10 back
  pub back_few : length back ≤ 18
  pub some : 0 < digits_value 10 back
  pub ended : BeginsWithNoDigit rest
