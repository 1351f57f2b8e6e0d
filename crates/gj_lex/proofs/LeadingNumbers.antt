-- Numbers at the front of a text, and the bytes of numbers in lenient form.
use Rattle.std.proofs.Common.{◌≡◌, ◌≢◌, ℕ, suc, ◌+◌, ◌^◌, ◌<◌, ◌≤◌, List, [], ◌∷◌, ◌++◌, length, get_or, take, drop, pos, Bool, true, false, eqb, refl, sym, ◌∙◌, ap, subst, inl, inr, arith, append-nil, append_assoc, length-append, take-append-drop}
use Rattle.std.specs.Char.{IsAsciiDigit, digit_value}
use Rattle.std.specs.Int.{from_bool}
use Rattle.std.specs.List.{All}
use Rattle.std.specs.Str.Parse.{AllDigits, IsNumeral, digits_value, digits_value_after, starts_with_minus, without_leading_sign}
use Rattle.std.proofs.lemmas.Bool.{cases_Bool}
use Rattle.std.proofs.lemmas.Bool.Decides.{nat_tests}
use Rattle.std.proofs.lemmas.List.{length-take-le}
use Rattle.std.proofs.lemmas.Str.{digit_value_digit}
use Rattle.std.proofs.lemmas.Str.Parse.{digit_from_value}
use Rattle.std.proofs.lemmas.List.Elements.{All-append, All-cons, All-nil, All-weaker}
use Rattle.std.proofs.Math.Seq.{drop-append_seam}
use Rattle.gj_frac.specs.declared.Frac.{Frac}
use Rattle.gj_frac.specs.Fraction.{IsRatio, with_sign}
use Rattle.gj_lex.specs.LeadingText.{BeginsWithNoDigit}
use Rattle.gj_lex.specs.NumberText.{IsWritten}
use Rattle.gj_lex.specs.NumberText.IsWritten.{whole, ratio, point}
use Rattle.gj_lex.specs.SpelledNumbers.{IsFractionWord}
use Rattle.gj_lex.specs.declared.spelling.Spelling.TheVariants.{Lenient}
use Rattle.gj_lex.proofs.PrintedNumbers.{few_digits_small}
use Rattle.gj_lex.proofs.SignedNumbers.{number_found}
use Rattle.gj_lex.proofs.SpelledWords.{no_sign}
use Rattle.gj_lex.proofs.WordBytes.{all_from_digits}
use Rattle.gj_lex.proofs.WrittenNumbers.{point_value}

-- ---- without a sign

-- the text begins with a word that writes the number, and `rest` follows it
abbrev pub BeginsWithWritten : List ℕ → ℕ → ℕ → List ℕ → Type 0
BeginsWithWritten text n d rest = (word : List ℕ) × (text ≡ word ++ rest) × IsWritten word n d

-- what follows a word of so many bytes
behind_word : (text word back : List ℕ) (k : ℕ) → text ≡ word ++ back → length word ≡ k →
    text ≡ word ++ drop k text
behind_word text word back k is long =
    let same : drop k text ≡ back = ap (λ i. drop i text) (sym long) ∙ ap (drop (length word)) is
    ∙ drop-append_seam word back in
    is ∙ ap (λ b. word ++ b) (sym same)

-- the two parts of a text that is split
pub parts_of_split : (text near far : List ℕ) (m : ℕ) → near ≡ take m text → far ≡ drop m text →
    text ≡ near ++ far
parts_of_split text near far m front back = sym (take-append-drop m text)
    ∙ (λ i. sym front i ++ sym back i)

-- two runs of digits are one
digits_joined : (xs ys : List ℕ) → AllDigits 10 xs → AllDigits 10 ys → AllDigits 10 (xs ++ ys)
digits_joined [] ys first second = second
digits_joined (x ∷ xs) ys first second = (first.0, digits_joined xs ys first.1 second)

module _ (text near far : List ℕ) (parts : text ≡ near ++ far) (k : ℕ)
    (digits : AllDigits 10 (take k near)) (within : k ≤ length near)
    (some : 0 < k) (top : ℕ) (is : top ≡ digits_value 10 (take k near)) where
  numeral : IsNumeral 10 (take k near)
  numeral = (omega (arith, length-take-le k near within), digits)

  -- digits, at most 18 of them
  pub number_read : (rest : List ℕ) → rest ≡ drop k text → length near ≤ 18 →
      (word : List ℕ) × (text ≡ word ++ rest) × IsNumeral 10 word × (top ≡ digits_value 10 word)
      × (top < 10 ^ 18)
  number_read rest rest_is few =
      let front = take k near in
      let near_is : text ≡ front ++ (drop k near ++ far) =
      parts ∙ ap (λ b. b ++ far) (sym (take-append-drop k near))
      ∙ append_assoc front (drop k near) far in
      let long : length front ≡ k = length-take-le k near within in (
        front,
        behind_word text front (drop k near ++ far) k near_is long
            ∙ ap (λ b. front ++ b) (sym rest_is),
        numeral,
        is,
        omega (arith, is, few_digits_small front digits (omega (arith, long, within, few))),
      )

  -- and nothing else
  pub whole_read : (rest : List ℕ) → rest ≡ drop k text → length near ≤ 18 →
      (word : List ℕ) × (text ≡ word ++ rest) × IsWritten word top 1 × (top < 10 ^ 18) × (0 ≤ 18)
  whole_read rest rest_is few =
      let (word, text_is, digits_of, value, small) = number_read rest rest_is few in
      (word, text_is, whole digits_of value refl, small, omega arith)

  -- digits, a point and digits
  pub point_begins : (ds : List ℕ) → drop k near ≡ 46 ∷ ds → (j value : ℕ) →
      AllDigits 10 (take j ds) → j ≤ length ds → 0 < j →
      value ≡ digits_value_after 10 top (take j ds) →
      BeginsWithWritten text value (10 ^ j) (drop (k + 1 + j) text)
  point_begins ds at j value more short few value_is =
      let front = take k near in
      let back = take j ds in
      let long : length back ≡ j = length-take-le j ds short in
      let word = front ++ 46 ∷ back in
      let all : length word ≡ k + 1 + j =
      omega (arith, length-append front (46 ∷ back), length-take-le k near within, long) in
      let near_is : near ≡ word ++ drop j ds =
      sym (take-append-drop k near)
      ∙ ap (λ b. front ++ b) (at ∙ ap (λ b. 46 ∷ b) (sym (take-append-drop j ds)))
      ∙ sym (append_assoc front (46 ∷ back) (drop j ds)) in (
        word,
        behind_word text word (drop j ds ++ far) (k + 1 + j)
            (parts ∙ ap (λ b. b ++ far) near_is ∙ append_assoc word (drop j ds) far) all,
        point front back refl numeral (omega arith, more)
            (point_value front back top value is value_is) (ap (λ n. 10 ^ n) (sym long)),
      )

  -- if these are at most 18 bytes, the number is below 10^18
  pub point_small : (ds : List ℕ) → drop k near ≡ 46 ∷ ds → (j value : ℕ) →
      AllDigits 10 (take j ds) → j ≤ length ds →
      value ≡ digits_value_after 10 top (take j ds) → length near ≤ 18 → value < 10 ^ 18
  point_small ds at j value more short value_is few =
      let front = take k near in
      let back = take j ds in
      let long : length near ≡ k + suc (length ds) =
      ap length (sym (take-append-drop k near)) ∙ length-append front (drop k near)
      ∙ (λ i. length-take-le k near within i + length (at i)) in
      let all : length (front ++ back) ≤ 18 =
      omega (
        arith,
        length-append front back,
        length-take-le k near within,
        length-take-le j ds
            short,
        long,
        short,
        few,
      ) in
      omega (
        arith,
        point_value front back top value is value_is,
        few_digits_small (front ++ back)
            (digits_joined front back digits more) all,
      )

-- no digit stands first
pub no_digit_first : (text near far : List ℕ) (k : ℕ) → text ≡ near ++ far →
    (length near ≡ 0 → length text ≡ 0) → k ≡ 0 →
    (k < length near → 10 ≤ digit_value (get_or near k 0)) → BeginsWithNoDigit text
no_digit_first [] near far k is some none other = tt
no_digit_first (b ∷ text) [] far k is some none other = absurd (omega (arith, some refl))
no_digit_first (b ∷ text) (c ∷ near) far k is some none other = λ digit.
    let same : b ≡ c = cc is in
    let here : 10 ≤ digit_value c = subst (λ i. 10 ≤ digit_value (get_or (c ∷ near) i 0)) none
    (other (omega arith)) in
    let value = digit_value_digit b digit in
    omega (arith, digit, ap digit_value same)

-- where no digit stands first, no number does
pub no_numeral_first : (text ds rest : List ℕ) → BeginsWithNoDigit text → IsNumeral 10 ds →
    text ≡ ds ++ rest → ⊥
no_numeral_first text [] rest none digits is = absurd (omega (arith, digits.0))
no_numeral_first [] (d ∷ ds) rest none digits is = cc is
no_numeral_first (b ∷ text) (d ∷ ds) rest none digits is =
    let same : b ≡ d = cc is in
    none (subst IsAsciiDigit (sym same) (digit_from_value d digits.1.0))

-- a number, a `/` and a number
pub ratio_begins : (text behind after front back rest : List ℕ) (n d : ℕ) →
    text ≡ front ++ behind → behind ≡ 47 ∷ after → after ≡ back ++ rest → IsNumeral 10 front →
    IsNumeral 10 back → n ≡ digits_value 10 front → d ≡ digits_value 10 back →
    BeginsWithWritten text n d rest
ratio_begins text behind after front back rest n d text_is slash after_is first second top bottom = (
  front ++ 47 ∷ back,
  text_is ∙ ap (λ b. front ++ b) (slash ∙ ap (λ b. 47 ∷ b) after_is)
      ∙ sym (append_assoc front (47 ∷ back) rest),
  ratio front back refl first second top bottom,
)

-- ---- with a sign

-- the text begins with a word that spells the fraction, and `rest` follows it
abbrev pub BeginsWithFraction : List ℕ → Frac → List ℕ → Type 0
BeginsWithFraction text x rest = (word : List ℕ) × (text ≡ word ++ rest)
    × IsFractionWord Lenient word x

-- what is written without a sign begins with none
written_has_no_sign : (word : List ℕ) (n d : ℕ) → IsWritten word n d →
    (starts_with_minus word ≡ false) × (without_leading_sign word ≡ word)
written_has_no_sign word n d (whole digits top bottom) =
    subst (λ w. (starts_with_minus w ≡ false) × (without_leading_sign w ≡ w)) (append-nil word)
    (no_sign word [] digits.0 (all_from_digits word digits.1))
written_has_no_sign word n d (ratio front back is first second top bottom) =
    subst (λ w. (starts_with_minus w ≡ false) × (without_leading_sign w ≡ w)) (sym is)
    (no_sign front (47 ∷ back) first.0 (all_from_digits front first.1))
written_has_no_sign word n d (point front back is first second top bottom) =
    subst (λ w. (starts_with_minus w ≡ false) × (without_leading_sign w ≡ w)) (sym is)
    (no_sign front (46 ∷ back) first.0 (all_from_digits front first.1))

pub plain_begins : (text behind rest : List ℕ) (n d : ℕ) (x : Frac) → behind ≡ text →
    BeginsWithWritten behind n d rest → n < 2 ^ 127 → d < 2 ^ 127 →
    0 < d → IsRatio x (pos n) (pos d) → BeginsWithFraction text x rest
plain_begins text behind rest n d x is (word, parts, written) small low some value =
    let signs = written_has_no_sign word n d written in (
      word,
      sym is ∙ parts,
      number_found word word false n d x (sym signs.1)
          (sym signs.0) written small low some value,
    )

pub minus_begins : (text behind rest : List ℕ) (n d : ℕ) (x : Frac) → text ≡ 45 ∷ behind →
    BeginsWithWritten behind n d rest → n < 2 ^ 127 →
    d < 2 ^ 127 → 0 < d → IsRatio x (with_sign true n) (pos d) → BeginsWithFraction text x rest
minus_begins text behind rest n d x is (word, parts, written) small low some value = (
  45 ∷ word,
  is ∙ ap (λ b. 45 ∷ b) parts,
  number_found
      (45 ∷ word) word true n d x refl refl written small low some value,
)

-- a text that begins with a `-`
pub behind_minus : (text : List ℕ) → true ≡ starts_with_minus text → text ≡ 45 ∷ drop 1 text
behind_minus [] is = cc is
behind_minus (c ∷ cs) is = let minus : c ≡ 45 = grind (arith, nat_tests) in ap (λ b. b ∷ cs) minus

-- both, by what the text begins with
pub signed_begins : (text behind rest : List ℕ) (minus : Bool) (n d : ℕ) (x : Frac) →
    minus ≡ starts_with_minus text →
    behind ≡ drop (from_bool minus) text → BeginsWithWritten behind n d rest → n < 2 ^ 127 →
    d < 2 ^ 127 → 0 < d →
    IsRatio x (with_sign minus n) (pos d) → BeginsWithFraction text x rest
signed_begins text behind rest false n d x first is begins =
    plain_begins text behind rest n d x is begins
signed_begins text behind rest true n d x first is begins =
    minus_begins text behind rest n d x (behind_minus text first ∙ ap (λ b. 45 ∷ b) (sym is)) begins

-- ---- the bytes of numbers

-- a sign, a mark or a digit: none is a comma, a space or a tab
pub record IsLenientByte (b : ℕ) : Type 0 where
  pub high : 43 ≤ b
  pub no_comma : b ≢ 44

byte_of_digits : (ds : List ℕ) → AllDigits 10 ds → All IsLenientByte ds
byte_of_digits ds h =
    All-weaker IsAsciiDigit IsLenientByte
    (λ b d. record { high = omega (arith, d); no_comma = λ e. omega (arith, d) }) ds
    (all_from_digits ds h)

mark_between : (front back : List ℕ) (m : ℕ) → AllDigits 10 front → AllDigits 10 back →
    IsLenientByte m → All IsLenientByte (front ++ m ∷ back)
mark_between front back m first second mark =
    All-append IsLenientByte front (m ∷ back) (byte_of_digits front first)
    (All-cons IsLenientByte m back mark (byte_of_digits back second))

written_bytes : (word : List ℕ) (n d : ℕ) → IsWritten word n d → All IsLenientByte word
written_bytes word n d (whole digits top bottom) = byte_of_digits word digits.1
written_bytes word n d (ratio front back is first second top bottom) =
    subst (All IsLenientByte) (sym is)
    (mark_between front back 47 first.1 second.1
    (record { high = omega arith; no_comma = λ e. omega arith }))
written_bytes word n d (point front back is first second top bottom) =
    subst (All IsLenientByte) (sym is)
    (mark_between front back 46 first.1 second.1
    (record { high = omega arith; no_comma = λ e. omega arith }))

signed_bytes : (word : List ℕ) → All IsLenientByte (without_leading_sign word) →
    All IsLenientByte word
signed_bytes [] h = All-nil IsLenientByte
signed_bytes (c ∷ cs) h = elim (cases_Bool (eqb c 45)) [
  | inl minus ↦
      let is : c ≡ 45 = grind (arith, nat_tests) in
      All-cons IsLenientByte c cs (record { high = omega arith; no_comma = λ e. omega arith })
      (rw minus at h)
  | inr other ↦ elim (cases_Bool (eqb c 43)) [
    | inl plus ↦
        let is : c ≡ 43 = grind (arith, nat_tests) in
        All-cons IsLenientByte c cs (record { high = omega arith; no_comma = λ e. omega arith })
        (rw (other, plus) at h)
    | inr none ↦ rw (other, none) at h
  ]
]

-- no byte of a number in lenient form is a comma, a space or a tab
pub lenient_bytes : (word : List ℕ) (x : Frac) → IsFractionWord Lenient word x →
    All IsLenientByte word
lenient_bytes word x (n, d, text, is) =
    signed_bytes word (written_bytes (without_leading_sign word) text.top d text.written)
