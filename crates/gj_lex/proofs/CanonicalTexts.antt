-- The laws of canonical texts.
use Rattle.std.proofs.Common.{◌≡◌, ◌≢◌, ℕ, zero, suc, ◌^◌, ◌<◌, ◌≤◌, ℤ, pos, negsuc, neg_ℤ, ◌*ℤ◌, ◌<ℤ◌, unsigned_abs, List, [], ◌∷◌, ◌++◌, length, get_or, take, drop, decimal, Option, None, Some, IsSome, IfSome, Bool, true, false, unwrap_or, cond, nat_lt, ◌==◌, refl, sym, ◌∙◌, ap, subst, arith}
use Rattle.std.specs.List.{position, position_or_len}
use Rattle.std.specs.Str.Parse.{AllDigits}
use Rattle.std.specs.Fmt.{signed_decimal}
use Rattle.std.specs.Int.{IsGcd}
use Rattle.std.proofs.Math.Seq.{take-append_seam, drop-append_seam}
use lib.Pointwise.{pointwise}
use mir.Val.{to_z, of_z}
use mir.Syntax.{w128}
use Rattle.std.proofs.lemmas.Bool.{ne_eqb, le-leb}
use Rattle.std.proofs.lemmas.Bool.Decides.{nat_tests}
use Rattle.std.proofs.Math.Dec.{eqb}
use Rattle.std.proofs.lemmas.Int.{ints}
use Rattle.std.proofs.lemmas.List.Sums.{prefix_len-le-length}
use Rattle.std.proofs.lemmas.Str.Parse.{digit_from_value}
use Rattle.std.proofs.lemmas.Fmt.{decimal_is_IsNumeral_wide}
use Rattle.gj_frac.specs.declared.Frac.{Frac}
use Rattle.gj_frac.specs.Fraction.{IsRatio}
use Rattle.gj_frac.specs.Lowest.{IsLowest}
use Rattle.gj_frac.specs.SameParts.{same_parts_same}
use Rattle.gj_lemmas.proofs.Divisors.{same_ratio}
use Rattle.gj_lemmas.proofs.Integers.{mul_cancel_right_z, positive_some_z, abs_neg_z}
use Rattle.gj_lex.specs.NumberText.{denominator_text, ratio_text, fraction_text}
use Rattle.gj_lex.proofs.Decimals.{same_from_decimal}

-- ---- the first byte

-- a word that begins with a byte is that byte and the rest
begins_with : (byte : ℕ) (word : List ℕ) → pointwise eqb (take 1 word) (byte ∷ []) ≡ true →
    word ≡ byte ∷ drop 1 word
begins_with byte [] h = cc
begins_with byte (b ∷ bs) h =
    let same : b ≡ byte = grind (arith, nat_tests) in
    ap (λ c. c ∷ bs) same

-- a word without a byte is empty
pub empty_word : (word : List ℕ) → true ≡ (length word == 0) → word ≡ []
empty_word [] e = refl
empty_word (b ∷ bs) e = absurd (grind (arith, nat_tests))

-- a whole number within the limit stands in 128 bits
pub within_bits : (a n : ℤ) → a ≡ n → unsigned_abs n < 2 ^ 127 → to_z w128 (of_z w128 a) ≡ n
within_bits a n same small = omega (arith, ints)

-- ---- the denominator

-- nothing is written for a denominator below 2
pub denominator_small : (d : ℕ) → d < 2 → denominator_text d ≡ []
unfolding denominator_text
denominator_small zero h = refl
denominator_small (suc zero) h = refl
denominator_small (suc (suc d)) h = absurd (omega arith)

-- nor for 1
pub denominator_one : denominator_text 1 ≡ []
denominator_one = denominator_small 1 (omega arith)

-- from 2 on a `/` and the digits are
pub denominator_more : (d : ℕ) → 2 ≤ d → denominator_text d ≡ 47 ∷ decimal d
unfolding denominator_text
denominator_more d h = rw (le-leb 2 d h) refl

-- only the denominator 1 is not written
pub denominator_none : (d : ℕ) → 0 < d → [] ≡ denominator_text d → d ≡ 1
denominator_none zero some e = absurd (omega arith)
denominator_none (suc zero) some e = refl
denominator_none (suc (suc d)) some e =
    absurd (omega (arith, ap length (e ∙ denominator_more (suc (suc d)) (omega arith))))

-- a denominator that is written is at least 2
pub denominator_some : (d : ℕ) (word : List ℕ) → 0 < d → 0 < length word →
    word ≡ denominator_text d → (2 ≤ d) × (word ≡ 47 ∷ decimal d)
denominator_some zero word some long e = absurd (omega arith)
denominator_some (suc zero) word some long e =
    absurd (omega (arith, ap length (e ∙ denominator_one)))
denominator_some (suc (suc d)) word some long e =
    (omega arith, e ∙ denominator_more (suc (suc d)) (omega arith))

-- the text of a denominator begins with a `/`, if it is not empty
denominator_begins : (d : ℕ) → 0 < d → 0 < length (denominator_text d) →
    get_or (denominator_text d) 0 0 ≡ 47
denominator_begins d some long =
    ap (λ bs. get_or bs 0 0) (denominator_some d (denominator_text d) some long refl).1

-- what is read behind the `/` is a denominator of at least 2
pub denominator_read : (word digits : List ℕ) (d : ℤ) →
    pointwise eqb (take 1 word) (47 ∷ []) ≡ true → digits ≡ drop 1 word →
    pos 0 <ℤ d → word ≡ denominator_text (unsigned_abs d) →
    (2 ≤ unsigned_abs d) × (digits ≡ decimal (unsigned_abs d))
denominator_read word digits d slash rest some e =
    let whole = begins_with 47 word slash in
    let h = denominator_some (unsigned_abs d) word (omega (arith, ints))
    (omega (arith, ap length whole)) e in
    (h.0, rest ∙ ap (drop 1) h.1)

-- a `/` and the digits of a number of at least 2 are a denominator
pub denominator_found : (word digits : List ℕ) (d : ℕ) →
    pointwise eqb (take 1 word) (47 ∷ []) ≡ true → digits ≡ drop 1 word →
    digits ≡ decimal d → 2 ≤ d → word ≡ denominator_text d
denominator_found word digits d slash rest spelled two =
    begins_with 47 word slash ∙ ap (λ bs. 47 ∷ bs) (sym rest ∙ spelled)
    ∙ sym (denominator_more d two)

-- a word that is not empty and has no `/` at its front is no denominator
pub denominator_refused : (word : List ℕ) (d : ℤ) → false ≡ (length word == 0) →
    pointwise eqb (take 1 word) (47 ∷ []) ≡ false →
    pos 0 <ℤ d → word ≢ denominator_text (unsigned_abs d)
denominator_refused word d long other some e =
    let h = denominator_some (unsigned_abs d) word (omega (arith, ints))
    (grind (arith, nat_tests)) e in
    let slash : pointwise eqb (take 1 word) (47 ∷ []) ≡ true = rw h.1 refl in
    cc

-- denominators with the same text are equal
denominator_same : (d e : ℕ) → 0 < d → 0 < e → d < 2 ^ 127 → e < 2 ^ 127 →
    denominator_text d ≡ denominator_text e → d ≡ e
denominator_same zero e p q small small' same = absurd (omega arith)
denominator_same (suc zero) e p q small small' same =
    sym (denominator_none e q (sym denominator_one ∙ same))
denominator_same (suc (suc d)) e p q small small' same =
    let left = denominator_more (suc (suc d)) (omega arith) in
    let long : 0 < length (denominator_text (suc (suc d))) = omega (arith, ap length left) in
    let right = denominator_some e (denominator_text (suc (suc d))) q long same in
    same_from_decimal (suc (suc d)) e (omega arith) (omega arith) (ap (drop 1) (sym left ∙ right.1))

-- ---- the numerator

-- no number's digits begin with a `-`
digits_no_minus : (n : ℕ) (bs : List ℕ) → n < 2 ^ 127 → 45 ∷ bs ≢ decimal n
digits_no_minus n bs small e =
    omega (
      arith,
      digit_from_value 45
          (subst (AllDigits 10) (sym e) (decimal_is_IsNumeral_wide n (omega arith)).0.1).0,
    )

-- what follows a `-` is the digits of a number above 0
negative_text : (bs : List ℕ) (n : ℤ) → unsigned_abs n < 2 ^ 127 → 45 ∷ bs ≡ signed_decimal n →
    (0 < unsigned_abs n) × (bs ≡ decimal (unsigned_abs n)) × (n ≡ neg_ℤ (pos (unsigned_abs n)))
negative_text bs (pos n) small e = absurd (digits_no_minus n bs (omega arith) e)
negative_text bs (negsuc n) small e = (omega arith, ap (drop 1) e, refl)

-- what is read behind a `-` is a number above 0
pub negative_read : (word digits : List ℕ) (n : ℤ) → pointwise eqb (take 1 word) (45 ∷ []) ≡ true →
    digits ≡ drop 1 word →
    unsigned_abs n < 2 ^ 127 → word ≡ signed_decimal n →
    (0 < unsigned_abs n) × (digits ≡ decimal (unsigned_abs n)) × (n ≡ neg_ℤ (pos (unsigned_abs n)))
negative_read word digits n minus rest small e =
    let h = negative_text (drop 1 word) n small (sym (begins_with 45 word minus) ∙ e) in
    (h.0, rest ∙ h.1, h.2)

-- whole numbers with the same text are equal
signed_same : (m n : ℤ) → unsigned_abs m < 2 ^ 127 → unsigned_abs n < 2 ^ 127 →
    signed_decimal m ≡ signed_decimal n → m ≡ n
signed_same (pos m) (pos n) p q e = ap pos (same_from_decimal m n (omega arith) (omega arith) e)
signed_same (pos m) (negsuc n) p q e = absurd (digits_no_minus m _ (omega arith) (sym e))
signed_same (negsuc m) (pos n) p q e = absurd (digits_no_minus n _ (omega arith) e)
signed_same (negsuc m) (negsuc n) p q e =
    let same : suc m ≡ suc n = same_from_decimal (suc m) (suc n) (omega arith) (omega arith)
    (ap (drop 1) e) in
    ap negsuc (omega arith)

-- ---- the place between the two

-- whether a byte is a `/`
abbrev pub is_slash : ℕ → Bool
is_slash b = b == 47

-- the first `/`, or the end, is where `position` says
pub position_unwrapped : (p : ℕ → Bool) (xs : List ℕ) →
    unwrap_or (position p xs) (length xs) ≡ position_or_len p xs
position_unwrapped p xs = within (position_or_len p xs) (length xs) (prefix_len-le-length _ xs)
  where
    within : (k n : ℕ) → k ≤ n → unwrap_or (cond (nat_lt k n) (Some k) None) n ≡ k
    within k n h = grind arith

-- digits have no `/` among them
slash_after_digits : (ds bs : List ℕ) → AllDigits 10 ds → (0 < length bs → get_or bs 0 0 ≡ 47) →
    position_or_len is_slash (ds ++ bs) ≡ length ds
slash_after_digits [] [] d h = refl
slash_after_digits [] (b ∷ bs) d h = let e : b ≡ 47 = h (omega arith) in rw e refl
slash_after_digits (c ∷ cs) bs d h =
    let r = digit_from_value c d.0 in
    let no_slash : (c == 47) ≡ false = ne_eqb c 47 (λ e. omega arith) in
    rw no_slash (omega (arith, slash_after_digits cs bs d.1 h))

-- the numerator of a canonical text ends at its first `/`
numerator_ends : (n : ℤ) (d : ℕ) → unsigned_abs n < 2 ^ 127 → 0 < d →
    position_or_len is_slash (signed_decimal n ++ denominator_text d) ≡ length (signed_decimal n)
numerator_ends (pos n) d small some =
    slash_after_digits (decimal n) (denominator_text d)
    (decimal_is_IsNumeral_wide n (omega arith)).0.1 (denominator_begins d some)
numerator_ends (negsuc n) d small some =
    omega (
      arith,
      slash_after_digits (decimal (suc n)) (denominator_text d)
          (decimal_is_IsNumeral_wide (suc n) (omega arith)).0.1
          (denominator_begins d some),
    )

-- the two parts of a canonical text are what stands before its first `/` and what begins there
pub parts_of_text : (word : List ℕ) (n d : ℤ) → unsigned_abs n < 2 ^ 127 → pos 0 <ℤ d →
    word ≡ ratio_text n d →
    (take (position_or_len is_slash word) word ≡ signed_decimal n)
    × (drop (position_or_len is_slash word) word ≡ denominator_text (unsigned_abs d))
parts_of_text word n d small some e =
    let ends = ap (position_or_len is_slash) e
    ∙ numerator_ends n (unsigned_abs d) small (omega (arith, ints)) in (
      ap (λ k. take k word) ends ∙ ap (take (length (signed_decimal n))) e
          ∙ take-append_seam (signed_decimal n) (denominator_text (unsigned_abs d)),
      ap (λ k. drop k word) ends ∙ ap (drop (length (signed_decimal n))) e
          ∙ drop-append_seam (signed_decimal n) (denominator_text (unsigned_abs d)),
    )

-- ---- the fraction

-- a fraction that is n/d in lowest terms has the parts n and d
pub lowest_parts : (x : Frac) (n d : ℤ) → IsRatio x n d → IsLowest n d → (x.num ≡ n) × (x.den ≡ d)
lowest_parts x n d is h =
    same_ratio x.num x.den n d x.lowest.coprime h.coprime x.lowest.positive h.positive is

-- a fraction that is n/d and has the denominator d has the numerator n
pub same_numerator : (x : Frac) (n d : ℤ) → IsRatio x n d → x.den ≡ d → x.num ≡ n
same_numerator x n d is e =
    mul_cancel_right_z x.num n d (is ∙ ap (λ z. n *ℤ z) e)
    (subst (λ z. unsigned_abs z ≢ 0) e (positive_some_z x.den x.lowest.positive))

-- a fraction with its sign turned has the same denominator
pub turned_parts : (x z : Frac) → IsRatio z (neg_ℤ x.num) x.den →
    (z.num ≡ neg_ℤ x.num) × (z.den ≡ x.den)
turned_parts x z is =
    let same = sym (abs_neg_z x.num) in
    lowest_parts z (neg_ℤ x.num) x.den is (record {
      positive = x.lowest.positive;
      num_fits = subst (λ k. k < 2 ^ 127) same x.lowest.num_fits;
      den_fits = x.lowest.den_fits;
      coprime = subst (λ k. IsGcd k (unsigned_abs x.den) 1) same x.lowest.coprime;
    })

-- what is in lowest terms is so without its sign
pub lowest_size : (n d : ℤ) → IsLowest n d → IsLowest (pos (unsigned_abs n)) d
lowest_size n d h = record {
  positive = h.positive;
  num_fits = h.num_fits;
  den_fits = h.den_fits;
  coprime = h.coprime;
}

-- what is read from the two parts of a fraction is that fraction
pub canonical_only : (r : Option Frac) (x : Frac) (n d : ℤ) → n ≡ x.num → d ≡ x.den →
    (IsLowest n d → IsSome r) → IfSome r (λ y. (y.num ≡ n) × (y.den ≡ d)) → r ≡ Some x
canonical_only None x n d p q some found =
    let none_is_some : false ≡ true =
    some (subst (λ z. IsLowest z d) (sym p) (subst (λ z. IsLowest x.num z) (sym q) x.lowest)) in
    cc
canonical_only (Some y) x n d p q some found =
    ap Some (same_parts_same y x (found.0 ∙ p) (found.1 ∙ q))

-- equal pairs have equal parts
pub same_pair : (p q : ℤ × ℤ) → Some p ≡ Some q → (p.0 ≡ q.0) × (p.1 ≡ q.1)
same_pair p q e = let same : p ≡ q = cc in
    (ap (λ (r : ℤ × ℤ). r.0) same, ap (λ (r : ℤ × ℤ). r.1) same)

-- fractions with the same text are equal
pub same_from_fraction_text : (x y : Frac) → fraction_text x ≡ fraction_text y → x ≡ y
same_from_fraction_text x y e =
    let left = parts_of_text (fraction_text x) x.num x.den x.lowest.num_fits x.lowest.positive
    refl in
    let right = parts_of_text (fraction_text x) y.num y.den y.lowest.num_fits y.lowest.positive e in
    let dens : unsigned_abs x.den ≡ unsigned_abs y.den =
    denominator_same _ _ (positive_abs x) (positive_abs y) x.lowest.den_fits y.lowest.den_fits
    (sym left.1 ∙ right.1) in
    same_parts_same x y (signed_same x.num y.num x.lowest.num_fits y.lowest.num_fits
    (sym left.0 ∙ right.0))
    (let p = x.lowest.positive in let q = y.lowest.positive in omega (arith, ints))
  where
    positive_abs : (z : Frac) → 0 < unsigned_abs z.den
    positive_abs z = let p = z.lowest.positive in omega (arith, ints)
