-- A word spells one fraction and one count; canonical words are lenient ones, and short.
use Rattle.std.proofs.Common.{◌≡◌, ◌↔◌, ℕ, zero, suc, ◌<◌, ◌≤◌, ◌^◌, ℤ, pos, negsuc, neg_ℤ, unsigned_abs, if◌then◌else◌, Bool, true, false, not, IsTrue, Option, None, Some, IfNone, IsSomeAnd, List, [], ◌∷◌, ◌++◌, length, get_or, decimal, refl, sym, ap, subst, ◌∙◌, arith, append-nil, length-append}
use Rattle.std.specs.List.{All}
use Rattle.std.specs.Char.{IsAsciiDigit, digit_value}
use Rattle.std.specs.Fmt.{signed_decimal}
use Rattle.std.specs.Str.Parse.{AllDigits, IsNumeral, digits_value, starts_with_minus, without_leading_sign}
use Rattle.std.proofs.Math.Dec.{eqb}
use Rattle.std.proofs.lemmas.Bool.{ne_eqb}
use Rattle.std.proofs.lemmas.Fmt.{decimal_is_IsNumeral_wide, length-decimal-le_wide}
use Rattle.std.proofs.lemmas.Int.{ints}
use Rattle.std.proofs.lemmas.List.Elements.{All-head}
use Rattle.std.proofs.lemmas.Str.Parse.{digit_from_value, without_leading_plus_none}
use Rattle.gj_lemmas.proofs.Integers.{pos_abs_z}
use Rattle.gj_frac.specs.declared.Frac.{Frac}
use Rattle.gj_frac.specs.Fraction.{IsRatio, denominator}
use Rattle.gj_frac.proofs.SameValues.{same_from_is}
use Rattle.gj_lex.specs.NumberText.{denominator_text, fraction_text, IsWritten, IsNumberText}
use Rattle.gj_lex.specs.NumberText.IsWritten.{whole, ratio, point}
use Rattle.gj_lex.specs.SpelledNumbers.{IsCount, IsCountWord, IsFractionWord}
use Rattle.gj_lex.specs.declared.spelling.Spelling.{Spelling}
use Rattle.gj_lex.specs.declared.spelling.Spelling.TheVariants.{Lenient, Strict}
use Rattle.gj_lex.proofs.Decimals.{decimal_some, decimal_at_most, decimal_leading_zero}
use Rattle.gj_lex.proofs.CanonicalTexts.{denominator_one, denominator_small, denominator_more, same_from_fraction_text}
use Rattle.gj_lex.proofs.WordBytes.{IsPlain, all_from_digits, digits_from_all, decimal_bytes, decimal_is_word, fraction_is_word, fraction_some}

-- ---- the mark of a number

-- `/` and `.` are no digits
slash_no_digit : digit_value 47 < 10 → ⊥
slash_no_digit h = let r = digit_from_value 47 h in omega (arith, r)

dot_no_digit : digit_value 46 < 10 → ⊥
dot_no_digit h = let r = digit_from_value 46 h in omega (arith, r)

-- so they are not among digits
mark_in_digits : (front back : List ℕ) (m : ℕ) → AllDigits 10 (front ++ m ∷ back) →
    digit_value m < 10
mark_in_digits [] back m d = d.0
mark_in_digits (c ∷ front) back m d = mark_in_digits front back m d.1

-- and digits end at the first of them
cut_same : (a b r s : List ℕ) (m k : ℕ) → AllDigits 10 a → AllDigits 10 b →
    (digit_value m < 10 → ⊥) →
    (digit_value k < 10 → ⊥) →
    a ++ m ∷ r ≡ b ++ k ∷ s → (a ≡ b) × (m ≡ k) × (r ≡ s)
cut_same [] [] r s m k p q nm nk e = (refl, cc, cc)
cut_same [] (y ∷ b) r s m k p q nm nk e =
    absurd (let same : m ≡ y = cc in nm (subst (λ c. digit_value c < 10) (sym same) q.0))
cut_same (x ∷ a) [] r s m k p q nm nk e =
    absurd (let same : k ≡ x = cc in nk (subst (λ c. digit_value c < 10) (sym same) p.0))
cut_same (x ∷ a) (y ∷ b) r s m k p q nm nk e =
    let head : x ≡ y = cc in
    let tail : a ++ m ∷ r ≡ b ++ k ∷ s = cc in
    let same = cut_same a b r s m k p.1 q.1 nm nk tail in
    (ap (λ c. c ∷ a) head ∙ ap (λ t. y ∷ t) same.0, same.1, same.2)

-- ---- a number without a sign

one_written : (w : List ℕ) (n d m e : ℕ) → IsWritten w n d → IsWritten w m e → (n ≡ m) × (d ≡ e)
one_written w n d m e (whole digits top bottom) (whole digits' top' bottom') =
    (top ∙ sym top', bottom ∙ sym bottom')
one_written w n d m e (whole digits top bottom) (ratio front back is first second top' bottom') =
    absurd (slash_no_digit (mark_in_digits front back 47 (subst (AllDigits 10) is digits.1)))
one_written w n d m e (whole digits top bottom) (point front back is first second top' bottom') =
    absurd (dot_no_digit (mark_in_digits front back 46 (subst (AllDigits 10) is digits.1)))
one_written w n d m e (ratio front back is first second top bottom) (whole digits top' bottom') =
    absurd (slash_no_digit (mark_in_digits front back 47 (subst (AllDigits 10) is digits.1)))
one_written w n d m e (point front back is first second top bottom) (whole digits top' bottom') =
    absurd (dot_no_digit (mark_in_digits front back 46 (subst (AllDigits 10) is digits.1)))
one_written w n d m e (ratio a r is first second top bottom)
    (ratio b s is' first' second' top' bottom') =
    let same = cut_same a b r s 47 47 first.1 first'.1 slash_no_digit slash_no_digit
    (sym is ∙ is') in (
      top ∙ ap (digits_value 10) same.0 ∙ sym top',
      bottom ∙ ap (digits_value 10) same.2
          ∙ sym bottom',
    )
one_written w n d m e (ratio a r is first second top bottom)
    (point b s is' first' second' top' bottom') =
    let same = cut_same a b r s 47 46 first.1 first'.1 slash_no_digit dot_no_digit (sym is ∙ is') in
    absurd (let marks : 47 ≡ 46 = same.1 in omega arith)
one_written w n d m e (point a r is first second top bottom)
    (ratio b s is' first' second' top' bottom') =
    let same = cut_same a b r s 46 47 first.1 first'.1 dot_no_digit slash_no_digit (sym is ∙ is') in
    absurd (let marks : 46 ≡ 47 = same.1 in omega arith)
one_written w n d m e (point a r is first second top bottom)
    (point b s is' first' second' top' bottom') =
    let same = cut_same a b r s 46 46 first.1 first'.1 dot_no_digit dot_no_digit (sym is ∙ is') in (
      top ∙ ap (λ t. digits_value 10 (t ++ r)) same.0 ∙ ap (λ t. digits_value 10 (b ++ t)) same.2
          ∙ sym top',
      bottom ∙ ap (λ t. 10 ^ length t) same.2 ∙ sym bottom',
    )

-- ---- canonical numbers are lenient ones

-- digits begin with no sign
pub no_sign : (ds rest : List ℕ) → 0 < length ds → All IsAsciiDigit ds →
    (starts_with_minus (ds ++ rest) ≡ false) × (without_leading_sign (ds ++ rest) ≡ ds ++ rest)
no_sign [] rest some h = absurd (omega arith)
no_sign (c ∷ cs) rest some h =
    let d = All-head IsAsciiDigit c cs h in
    let minus : eqb c 45 ≡ false = ne_eqb c 45 (λ e. omega (arith, d)) in
    let plus = without_leading_plus_none (c ∷ cs ++ rest) (λ e. omega (arith, d)) in
    (minus, rw minus plus)

written_whole : (a : ℕ) → a < 2 ^ 127 → IsWritten (decimal a) a 1
written_whole a small = let n = decimal_is_IsNumeral_wide a (omega arith) in
    whole n.0 (sym n.1) refl

written_ratio : (a d : ℕ) → a < 2 ^ 127 → d < 2 ^ 127 → 0 < d →
    IsWritten (decimal a ++ denominator_text d) a d
written_ratio a zero small small' some = absurd (omega arith)
written_ratio a (suc zero) small small' some =
    subst (λ w. IsWritten w a 1)
    (sym (ap (λ t. decimal a ++ t) denominator_one ∙ append-nil (decimal a)))
    (written_whole a small)
written_ratio a (suc (suc d)) small small' some =
    let n = decimal_is_IsNumeral_wide a (omega arith) in
    let m = decimal_is_IsNumeral_wide (suc (suc d)) (omega arith) in
    ratio (decimal a) (decimal (suc (suc d)))
    (ap (λ t. decimal a ++ t) (denominator_more (suc (suc d)) (omega arith))) n.0 m.0 (sym n.1)
    (sym m.1)

number_text : (n : ℤ) (d : ℕ) → unsigned_abs n < 2 ^ 127 → d < 2 ^ 127 → 0 < d →
    IsNumberText (signed_decimal n ++ denominator_text d) n d
number_text (pos n) d small small' some =
    let s = no_sign (decimal n) (denominator_text d) (decimal_some n (omega arith))
    (decimal_bytes n small) in
    record {
      top = n;
      written = subst (λ w. IsWritten w n d) (sym s.1) (written_ratio n d small small' some);
      top_fits = small;
      bottom_fits = small';
      bottom_some = some;
      value = rw s.0 refl;
    }
number_text (negsuc n) d small small' some = record {
  top = suc n;
  written = written_ratio (suc n) d small small' some;
  top_fits = small;
  bottom_fits = small';
  bottom_some = some;
  value = refl;
}

-- ---- one fraction and one count

lenient_fraction : (w : List ℕ) (x y : Frac) → IsFractionWord Lenient w x →
    IsFractionWord Lenient w y → x ≡ y
lenient_fraction w x y (n, d, text, is) (m, e, text', is') =
    let same = one_written (without_leading_sign w) text.top d text'.top e text.written
    text'.written in
    let value : n ≡ m = text.value
    ∙ ap (λ t. if starts_with_minus w then neg_ℤ (pos t) else pos t) same.0
    ∙ sym text'.value in
    let along : IsRatio y n (pos d) = subst (λ k. IsRatio y k (pos d)) (sym value)
    (subst (λ k. IsRatio y m (pos k)) (sym same.1) is') in
    same_from_is x y n (pos d) (λ z. omega (arith, text.bottom_some)) is along

pub one_fraction : (s : Spelling) (w : List ℕ) (x y : Frac) → IsFractionWord s w x →
    IsFractionWord s w y → x ≡ y
one_fraction Lenient w x y h k = lenient_fraction w x y h k
one_fraction Strict w x y h k = same_from_fraction_text x y (sym h ∙ k)

-- a count is digits, and their number
pub count_is_numeral : (s : Spelling) (w : List ℕ) (n : ℕ) → IsCountWord s w n →
    IsNumeral 10 w × (n ≡ digits_value 10 w)
count_is_numeral Lenient w n h = h
count_is_numeral Strict w n (h, is) = ((h.some, digits_from_all w h.digits), is)

pub one_count : (s : Spelling) (w : List ℕ) (n m : ℕ) → IsCountWord s w n → IsCountWord s w m →
    n ≡ m
one_count s w n m h k = (count_is_numeral s w n h).1 ∙ sym (count_is_numeral s w m k).1

-- ---- canonical words

pub canonical_fraction : (s : Spelling) (x : Frac) → IsFractionWord s (fraction_text x) x
canonical_fraction Lenient x =
    let d = unsigned_abs (denominator x) in
    let some : 0 < d = omega (arith, ints, x.lowest.positive) in
    let is : pos d ≡ denominator x =
    pos_abs_z (denominator x) (omega (arith, ints, x.lowest.positive)) in (
      x.num,
      d,
      number_text x.num d x.lowest.num_fits x.lowest.den_fits some,
      subst
          (λ z. IsRatio x x.num z) (sym is) refl,
    )
canonical_fraction Strict x = refl

pub canonical_count : (s : Spelling) (n : ℕ) → n < 2 ^ 127 → IsCountWord s (decimal n) n
canonical_count Lenient n small = let h = decimal_is_IsNumeral_wide n (omega arith) in
    (h.0, sym h.1)
canonical_count Strict n small = (
  record {
    some = decimal_some n (omega arith);
    digits = decimal_bytes n small;
    no_leading_zero = decimal_leading_zero n (omega arith);
  },
  sym (decimal_is_IsNumeral_wide n (omega arith)).1,
)

-- ---- a strict word is a lenient one

-- ---- words of a line

pub fraction_is_plain : (x : Frac) → IsPlain (fraction_text x)
fraction_is_plain x = (fraction_some x, fraction_is_word x)

pub count_is_plain : (n : ℕ) → n < 2 ^ 127 → IsPlain (decimal n)
count_is_plain n small = (decimal_some n (omega arith), decimal_is_word n small)

-- ---- short words

denominator_is_short : (d : ℕ) → d < 2 ^ 127 → length (denominator_text d) ≤ 40
denominator_is_short zero small = omega (arith, ap length (denominator_small 0 (omega arith)))
denominator_is_short (suc zero) small = omega (arith, ap length denominator_one)
denominator_is_short (suc (suc d)) small =
    omega (
      arith,
      ap length (denominator_more (suc (suc d)) (omega arith)),
      decimal_at_most
          (suc (suc d)) (omega arith),
    )

numerator_is_short : (n : ℤ) → unsigned_abs n < 2 ^ 127 → length (signed_decimal n) ≤ 40
numerator_is_short (pos n) small = omega (arith, decimal_at_most n (omega arith))
numerator_is_short (negsuc n) small = omega (arith, decimal_at_most (suc n) (omega arith))

pub fraction_is_short : (x : Frac) → length (fraction_text x) ≤ 80
fraction_is_short x =
    omega (
      arith,
      numerator_is_short x.num x.lowest.num_fits,
      denominator_is_short (unsigned_abs x.den) x.lowest.den_fits,
      length-append (signed_decimal x.num) (denominator_text (unsigned_abs x.den)),
    )

pub count_is_short : (n : ℕ) → n < 2 ^ 32 → length (decimal n) ≤ 10
count_is_short n small = length-decimal-le_wide 10 n (omega arith) (omega arith) (omega arith)

-- ---- what readers find

-- a word that is read as no number spells none
pub no_fraction : (s : Spelling) (w : List ℕ) (r : Option Frac) → s ≡ Lenient →
    ((n : ℤ) (d : ℕ) → IsNumberText w n d → IsSomeAnd r (λ x. IsRatio x n (pos d))) →
    IfNone r ((x : Frac) → IsFractionWord s w x → ⊥)
no_fraction s w None is only = λ x h. let (n, d, text, ratio_is) =
    subst (λ t. IsFractionWord t w x) is h in only n d text
no_fraction s w (Some y) is only = tt

-- a numeral is a count unless a zero leads it
pub strict_count_by_tests : (w : List ℕ) (z : Bool) → IsNumeral 10 w →
    (IsTrue z ↔ ((1 < length w) × (get_or w 0 0 ≡ 48))) →
    (IsTrue (not z) ↔ IsCount w)
strict_count_by_tests w true n zero_leads = (
  λ h. absurd (let e : false ≡ true = h in cc),
  λ h. let leads = zero_leads.0 refl in absurd (omega (arith, leads, h.no_leading_zero leads.1)),
)
strict_count_by_tests w false n zero_leads = (
  λ h. record {
    some = n.0;
    digits = all_from_digits w n.1;
    no_leading_zero = λ e. one (length w) n.0
        (λ l. absurd (let no : false ≡ true = zero_leads.1 (l, e) in cc));
  },
  λ h. refl,
)
  where
    one : (k : ℕ) → 0 < k → (1 < k → ⊥) → k ≡ 1
    one k some few = omega (arith, few)

-- and what is no numeral is no count
pub count_by_no_numeral : (w : List ℕ) (b : Bool) → (IsTrue b ↔ IsNumeral 10 w) → b ≡ false →
    (IsTrue b ↔ IsCount w)
count_by_no_numeral w b numeral is = (
  λ h. absurd (let e : b ≡ true = h in cc),
  λ h. numeral.1 (h.some, digits_from_all w h.digits),
)
