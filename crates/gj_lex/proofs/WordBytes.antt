-- A canonical number is one word: it is not empty, and no byte of it parts words or ends a line.
use Rattle.std.proofs.Common.{ℕ, zero, suc, ◌^◌, ◌<◌, inl, inr, ℤ, pos, negsuc, unsigned_abs, List, [], ◌∷◌, length, decimal, refl, sym, subst, arith, length-append}
use Rattle.std.specs.List.{All}
use Rattle.std.specs.Char.{IsAsciiDigit}
use Rattle.std.specs.Str.Parse.{AllDigits}
use Rattle.std.specs.Fmt.{signed_decimal}
use Rattle.std.proofs.lemmas.List.Elements.{All-append, All-cons, All-head, All-nil, All-tail, All-weaker}
use Rattle.std.proofs.lemmas.Str.{digit_value_digit}
use Rattle.std.proofs.lemmas.Str.Parse.{digit_from_value}
use Rattle.std.proofs.lemmas.Fmt.{decimal_is_IsNumeral_wide}
use Rattle.gj_frac.specs.declared.Frac.{Frac}
use Rattle.gj_lex.specs.NumberText.{denominator_text, fraction_text, IsNumberByte, IsWordByte}
use Rattle.gj_lex.proofs.Decimals.{decimal_some}
use Rattle.gj_lex.proofs.CanonicalTexts.{denominator_small, denominator_more}

-- a word is not empty, and no byte of it parts words or ends a line
abbrev pub IsPlain : List ℕ → Type 0
IsPlain w = (0 < length w) × All IsWordByte w

-- bytes whose values are those of digits are digits
pub all_from_digits : (ds : List ℕ) → AllDigits 10 ds → All IsAsciiDigit ds
all_from_digits [] d = All-nil IsAsciiDigit
all_from_digits (c ∷ cs) d = All-cons IsAsciiDigit c cs (digit_from_value c d.0)
    (all_from_digits cs d.1)

-- and digits have such values
pub digits_from_all : (ds : List ℕ) → All IsAsciiDigit ds → AllDigits 10 ds
digits_from_all [] h = tt
digits_from_all (c ∷ cs) h =
    let d = All-head IsAsciiDigit c cs h in
    let v = digit_value_digit c d in
    (omega (arith, d), digits_from_all cs (All-tail IsAsciiDigit c cs h))

-- ---- counts

-- the digits of a number are digits
pub decimal_bytes : (n : ℕ) → n < 2 ^ 127 → All IsAsciiDigit (decimal n)
decimal_bytes n small = all_from_digits (decimal n) (decimal_is_IsNumeral_wide n (omega arith)).0.1

-- and so bytes of a canonical text
decimal_number_bytes : (n : ℕ) → n < 2 ^ 127 → All IsNumberByte (decimal n)
decimal_number_bytes n small = All-weaker IsAsciiDigit IsNumberByte (λ b h. inl h) (decimal n)
    (decimal_bytes n small)

-- ---- fractions

-- the bytes of a numerator
signed_bytes : (n : ℤ) → unsigned_abs n < 2 ^ 127 → All IsNumberByte (signed_decimal n)
signed_bytes (pos n) small = decimal_number_bytes n (omega arith)
signed_bytes (negsuc n) small = All-cons IsNumberByte 45 (decimal (suc n)) (inr (inl refl))
    (decimal_number_bytes (suc n) (omega arith))

-- the bytes of a denominator
denominator_bytes : (d : ℕ) → d < 2 ^ 127 → All IsNumberByte (denominator_text d)
denominator_bytes zero small = subst (All IsNumberByte) (sym (denominator_small 0 (omega arith)))
    (All-nil IsNumberByte)
denominator_bytes (suc zero) small =
    subst (All IsNumberByte) (sym (denominator_small 1 (omega arith))) (All-nil IsNumberByte)
denominator_bytes (suc (suc d)) small =
    subst (All IsNumberByte) (sym (denominator_more (suc (suc d)) (omega arith)))
    (All-cons IsNumberByte 47 (decimal (suc (suc d))) (inr (inr refl))
    (decimal_number_bytes (suc (suc d)) small))

-- a canonical text has digits, a `-` and a `/` in it, and nothing else
pub fraction_bytes : (x : Frac) → All IsNumberByte (fraction_text x)
fraction_bytes x =
    All-append IsNumberByte (signed_decimal x.num) (denominator_text (unsigned_abs x.den))
    (signed_bytes x.num x.lowest.num_fits)
    (denominator_bytes (unsigned_abs x.den) x.lowest.den_fits)

-- a numerator is not empty
signed_some : (n : ℤ) → unsigned_abs n < 2 ^ 127 → 0 < length (signed_decimal n)
signed_some (pos n) small = decimal_some n (omega arith)
signed_some (negsuc n) small = omega arith

-- a canonical text is not empty
pub fraction_some : (x : Frac) → 0 < length (fraction_text x)
fraction_some x = omega (
  arith,
  signed_some x.num x.lowest.num_fits,
  length-append (signed_decimal x.num)
      (denominator_text (unsigned_abs x.den)),
)

-- ---- words

-- a digit parts no words
digit_in_word : (b : ℕ) → IsAsciiDigit b → IsWordByte b
digit_in_word b h = record {
  no_tab = λ e. omega (arith, h);
  no_line_feed = λ e. omega (arith, h);
  no_carriage_return = λ e. omega (arith, h);
  no_space = λ e. omega (arith, h);
}

-- nor does a `-` or a `/`
number_byte_in_word : (b : ℕ) → IsNumberByte b → IsWordByte b
number_byte_in_word b (inl h) = digit_in_word b h
number_byte_in_word b (inr (inl h)) = record {
  no_tab = λ e. omega arith;
  no_line_feed = λ e. omega arith;
  no_carriage_return = λ e. omega arith;
  no_space = λ e. omega arith;
}
number_byte_in_word b (inr (inr h)) = record {
  no_tab = λ e. omega arith;
  no_line_feed = λ e. omega arith;
  no_carriage_return = λ e. omega arith;
  no_space = λ e. omega arith;
}

-- no byte of a number's digits parts words or ends a line
pub decimal_is_word : (n : ℕ) → n < 2 ^ 127 → All IsWordByte (decimal n)
decimal_is_word n small = All-weaker IsAsciiDigit IsWordByte digit_in_word (decimal n)
    (decimal_bytes n small)

-- nor does one of a canonical text
pub fraction_is_word : (x : Frac) → All IsWordByte (fraction_text x)
fraction_is_word x = All-weaker IsNumberByte IsWordByte number_byte_in_word (fraction_text x)
    (fraction_bytes x)
