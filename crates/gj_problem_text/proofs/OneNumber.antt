-- A word spells one number.
use Rattle.std.proofs.Common.{◌≡◌, ◌⊎◌, ⊎_elim, inl, inr, ℕ, pos, ◌+◌, ◌*◌, ◌<◌, ◌≤◌, ◌^◌, nat_lt}
use Rattle.std.proofs.Common.{subst₂, Bool, true, false, ◌==◌, ◌||◌, List, [], ◌∷◌, ◌++◌, length}
use Rattle.std.proofs.Common.{refl, sym, ap, ap₂, subst, ◌∙◌, arith}
use Rattle.std.specs.List.{All}
use Rattle.std.specs.Char.{digit_value}
use Rattle.std.specs.Str.Parse.{AllDigits, digits_value, starts_with_minus}
use Rattle.std.specs.Str.Parse.{without_leading_sign}
use Rattle.std.proofs.Math.Nat.{one-le-pow}
use Rattle.std.proofs.lemmas.Bool.{false≢true}
use Rattle.std.proofs.lemmas.Bool.Decides.{nat_tests}
use Rattle.std.proofs.lemmas.Str.Parse.{digit_from_value}
use Rattle.std.proofs.lemmas.List.Elements.{All-nil, All-cons, All-head, All-tail, All-append}
use Rattle.gj_lemmas.proofs.Lists.{All-back}
use Rattle.gj_frac.specs.declared.Frac.{Frac}
use Rattle.gj_frac.specs.Fraction.{IsRatio, with_sign}
use Rattle.gj_frac.proofs.SameValues.{same_from_is}
use Rattle.gj_lex.specs.NumberText.{IsWritten}
use Rattle.gj_lex.specs.NumberText.IsWritten.{whole as written_whole, ratio as written_ratio}
use Rattle.gj_lex.specs.NumberText.IsWritten.{point as written_point}
use Rattle.gj_lex.specs.SpelledNumbers.{IsFractionWord}
use Rattle.gj_lex.specs.declared.spelling.Spelling.TheVariants.{Lenient}
use Rattle.gj_lex.proofs.SpelledWords.{one_fraction}
use Rattle.gj_problem_text.specs.NumberWords.{radix, base, per_place, IsPrefix, marks, IsMark}
use Rattle.gj_problem_text.specs.NumberWords.{IsMantissa, raised, lowered, IsScaled, IsScaledWord}
use Rattle.gj_problem_text.specs.NumberWords.{IsNumberWord}
use Rattle.gj_problem_text.specs.NumberWords.IsMantissa.{whole, point}
use Rattle.gj_problem_text.specs.declared.numbers.Notation.{Notation}
use Rattle.gj_problem_text.specs.declared.numbers.Notation.TheVariants.{Decimal, Hexadecimal}

-- ---- a list is cut at the first byte that passes a test

abbrev pub NonePass : (ℕ → Bool) → List ℕ → Type 0
NonePass p xs = All (λ b. p b ≡ false) xs

pub cut_once : (p : ℕ → Bool) (xs ys r t : List ℕ) (a b : ℕ) → NonePass p xs → NonePass p ys →
    p a ≡ true → p b ≡ true →
    xs ++ a ∷ r ≡ ys ++ b ∷ t → (xs ≡ ys) × (a ≡ b) × (r ≡ t)
cut_once p [] [] r t a b h k pa pb e = (refl, cc, cc)
cut_once p [] (y ∷ ys) r t a b h k pa pb e =
    let same : a ≡ y = cc in
    absurd (false≢true (sym (All-head (λ c. p c ≡ false) y ys k) ∙ ap p (sym same) ∙ pa))
cut_once p (x ∷ xs) [] r t a b h k pa pb e =
    let same : x ≡ b = cc in
    absurd (false≢true (sym (All-head (λ c. p c ≡ false) x xs h) ∙ ap p same ∙ pb))
cut_once p (x ∷ xs) (y ∷ ys) r t a b h k pa pb e =
    let head : x ≡ y = cc in
    let tail : xs ++ a ∷ r ≡ ys ++ b ∷ t = cc in
    let rest = cut_once p xs ys r t a b (All-tail (λ c. p c ≡ false) x xs h)
    (All-tail (λ c. p c ≡ false) y ys k) pa pb tail in
    (ap₂ (λ z zs. z ∷ zs) head rest.0, rest.1, rest.2)

-- a byte that passes is not among bytes that do not
pub not_among : (p : ℕ → Bool) (xs r : List ℕ) (a : ℕ) → NonePass p (xs ++ a ∷ r) → p a ≡ true → ⊥
not_among p xs r a h pa =
    false≢true (sym (All-head (λ c. p c ≡ false) a r (All-back (λ c. p c ≡ false) xs (a ∷ r) h))
    ∙ pa)

-- ---- bytes of mantissas

true_or_false : (t : Bool) → (t ≡ true) ⊎ (t ≡ false)
true_or_false true = inl refl
true_or_false false = inr refl

-- digits do not pass, if what passes is no digit
digits_fail : (p : ℕ → Bool) (n : ℕ) → ((b : ℕ) → p b ≡ true → n ≤ digit_value b) →
    (ds : List ℕ) → AllDigits n ds → NonePass p ds
digits_fail p n none [] h = All-nil (λ c. p c ≡ false)
digits_fail p n none (d ∷ ds) h =
    All-cons (λ c. p c ≡ false) d ds
    (⊎_elim (λ (e : p d ≡ true). absurd (let low = none d e in omega (arith, h.0))) (λ e. e)
    (true_or_false (p d)))
    (digits_fail p n none ds h.1)

-- nor does a mantissa, if its point does not
mantissa_fails : (p : ℕ → Bool) (n : ℕ) →
    ((b : ℕ) → p b ≡ true → n ≤ digit_value b) → p 46 ≡ false → (word : List ℕ) (top places : ℕ) →
    IsMantissa n word top places → NonePass p word
mantissa_fails p n none dot word top places (whole digits top_is places_is) =
    digits_fail p n none word digits.1
mantissa_fails p n none dot word top places (point front back is first second top_is places_is) =
    subst (NonePass p) (sym is)
    (All-append (λ c. p c ≡ false) front (46 ∷ back) (digits_fail p n none front first.1)
    (All-cons (λ c. p c ≡ false) 46 back dot (digits_fail p n none back second.1)))

-- whether the byte is one of the two
abbrev pub is_either : ℕ × ℕ → ℕ → Bool
is_either bs b = (b == bs.0) || (b == bs.1)

pub either_is : (m k b : ℕ) → is_either (m, k) b ≡ true → (b ≡ m) ⊎ (b ≡ k)
either_is m k b h = grind (arith, nat_tests)

pub is_either_of : (m k b : ℕ) → (b ≡ m) ⊎ (b ≡ k) → is_either (m, k) b ≡ true
is_either_of m k b h = grind (arith, nat_tests)

-- marks are no digits
no_digit : (s : Notation) (b : ℕ) → IsMark s b → radix s ≤ digit_value b
no_digit Decimal b (inl e) = subst (λ c. 10 ≤ digit_value c) (sym e) (omega arith)
no_digit Decimal b (inr e) = subst (λ c. 10 ≤ digit_value c) (sym e) (omega arith)
no_digit Hexadecimal b (inl e) = subst (λ c. 16 ≤ digit_value c) (sym e) (omega arith)
no_digit Hexadecimal b (inr e) = subst (λ c. 16 ≤ digit_value c) (sym e) (omega arith)

no_point : (s : Notation) → is_either (marks s) 46 ≡ false
no_point Decimal = refl
no_point Hexadecimal = refl

pub mantissa_has_no_mark : (s : Notation) (word : List ℕ) (top places : ℕ) →
    IsMantissa (radix s) word top places → NonePass (is_either (marks s)) word
mantissa_has_no_mark s = mantissa_fails (is_either (marks s)) (radix s)
    (λ b h. no_digit s b (either_is (marks s).0 (marks s).1 b h)) (no_point s)

-- and the point is none
abbrev pub is_point : ℕ → Bool
is_point = is_either (46, 46)

point_no_digit : (s : Notation) (b : ℕ) → is_point b ≡ true → radix s ≤ digit_value b
point_no_digit s b h =
    subst (λ c. radix s ≤ digit_value c) (sym (⊎_elim (λ e. e) (λ e. e) (either_is 46 46 b h)))
    (low s)
  where
    low : (s : Notation) → radix s ≤ digit_value 46
    low Decimal = omega arith
    low Hexadecimal = omega arith

pub digits_have_no_point : (s : Notation) (ds : List ℕ) → AllDigits (radix s) ds →
    NonePass is_point ds
digits_have_no_point s = digits_fail is_point (radix s) (point_no_digit s)

-- ---- one mantissa

pub one_mantissa : (s : Notation) (word : List ℕ) (t p u q : ℕ) → IsMantissa (radix s) word t p →
    IsMantissa (radix s) word u q → (t ≡ u) × (p ≡ q)
one_mantissa s word t p u q (whole digits t_is p_is) (whole digits' u_is q_is) =
    (t_is ∙ sym u_is, p_is ∙ sym q_is)
one_mantissa s word t p u q (whole digits t_is p_is) (point front back is first second u_is q_is) =
    absurd (not_among is_point front back 46
    (subst (NonePass is_point) is (digits_have_no_point s word digits.1)) refl)
one_mantissa s word t p u q (point front back is first second t_is p_is) (whole digits u_is q_is) =
    absurd (not_among is_point front back 46
    (subst (NonePass is_point) is (digits_have_no_point s word digits.1)) refl)
one_mantissa s word t p u q (point front back is first second t_is p_is)
    (point front' back' is' first' second' u_is q_is) =
    let same = cut_once is_point front front' back back' 46 46
    (digits_have_no_point s front first.1) (digits_have_no_point s front' first'.1) refl refl
    (sym is ∙ is') in (
      t_is ∙ ap₂ (λ xs ys. digits_value (radix s) (xs ++ ys)) same.0 same.2 ∙ sym u_is,
      p_is ∙ ap length same.2 ∙ sym q_is,
    )

-- ---- one number of digits with an exponent

pub one_scaled : (s : Notation) (word : List ℕ) (n d m e : ℕ) → IsScaled s word n d →
    IsScaled s word m e → (n ≡ m) × (d ≡ e)
one_scaled s word n d m e h k =
    let p = is_either (marks s) in
    let same = cut_once p h.mantissa k.mantissa h.exponent k.exponent h.mark k.mark
    (mantissa_has_no_mark s h.mantissa h.top h.places h.is_mantissa)
    (mantissa_has_no_mark s k.mantissa k.top k.places k.is_mantissa)
    (is_either_of (marks s).0 (marks s).1 h.mark h.is_mark)
    (is_either_of (marks s).0 (marks s).1 k.mark k.is_mark) (sym h.parts ∙ k.parts) in
    let both = one_mantissa s h.mantissa h.top h.places k.top k.places h.is_mantissa
    (subst (λ w. IsMantissa (radix s) w k.top k.places) (sym same.0) k.is_mantissa) in (
      h.n_is ∙ ap₂ (λ t x. t * base s ^ raised x) both.0 same.2 ∙ sym k.n_is,
      h.d_is ∙ ap₂ (λ i x. base s ^ (lowered x + per_place s * i)) both.1 same.2 ∙ sym k.d_is,
    )

-- ---- the notations are told apart

-- a byte behind the digits, the point and `/`
abbrev is_high : ℕ → Bool
is_high b = nat_lt 57 b

high_no_digit : (b : ℕ) → is_high b ≡ true → 10 ≤ digit_value b
high_no_digit b h = not_low (digit_value b) (λ low. let r = digit_from_value b low in
    grind (arith, nat_tests))
  where
    not_low : (n : ℕ) → (n < 10 → ⊥) → 10 ≤ n
    not_low n above = grind arith

-- so all bytes of a lenient number are low
written_is_low : (word : List ℕ) (n d : ℕ) → IsWritten word n d → NonePass is_high word
written_is_low word n d (written_whole digits _ _) =
    digits_fail is_high 10 high_no_digit word digits.1
written_is_low word n d (written_ratio front back is first second _ _) =
    subst (NonePass is_high) (sym is)
    (All-append (λ c. is_high c ≡ false) front (47 ∷ back)
    (digits_fail is_high 10 high_no_digit front first.1)
    (All-cons (λ c. is_high c ≡ false) 47 back refl
    (digits_fail is_high 10 high_no_digit back second.1)))
written_is_low word n d (written_point front back is first second _ _) =
    subst (NonePass is_high) (sym is)
    (All-append (λ c. is_high c ≡ false) front (46 ∷ back)
    (digits_fail is_high 10 high_no_digit front first.1)
    (All-cons (λ c. is_high c ≡ false) 46 back refl
    (digits_fail is_high 10 high_no_digit back second.1)))

mark_is_high : (s : Notation) (b : ℕ) → IsMark s b → is_high b ≡ true
mark_is_high Decimal b (inl e) = ap is_high e
mark_is_high Decimal b (inr e) = ap is_high e
mark_is_high Hexadecimal b (inl e) = ap is_high e
mark_is_high Hexadecimal b (inr e) = ap is_high e

-- a lenient number has no exponent
no_scaled : (s : Notation) (word front rest : List ℕ) (n d m e : ℕ) → IsWritten word n d →
    word ≡ front ++ rest → IsScaled s rest m e → ⊥
no_scaled s word front rest n d m e h is k =
    not_among is_high k.mantissa k.exponent k.mark
    (subst (NonePass is_high) k.parts
    (All-back (λ c. is_high c ≡ false) front rest
    (subst (NonePass is_high) is (written_is_low word n d h))))
    (mark_is_high s k.mark k.is_mark)

-- what stands behind the 0 of the front of a hexadecimal number
second_byte : (front rest : List ℕ) → IsPrefix Hexadecimal front →
    (b : ℕ) × (front ++ rest ≡ (48 ∷ []) ++ b ∷ rest) × ((b ≡ 120) ⊎ (b ≡ 88))
second_byte front rest (inl e) = (120, ap (λ xs. xs ++ rest) e, inl refl)
second_byte front rest (inr e) = (88, ap (λ xs. xs ++ rest) e, inr refl)

x_is_high : (b : ℕ) → (b ≡ 120) ⊎ (b ≡ 88) → is_high b ≡ true
x_is_high b (inl e) = ap is_high e
x_is_high b (inr e) = ap is_high e

no_x : (b : ℕ) → IsMark Decimal b → (b ≡ 120) ⊎ (b ≡ 88) → ⊥
no_x b h k = grind arith

-- a decimal number does not begin as a hexadecimal one
pub not_both_notations : (word front rest : List ℕ) (n d : ℕ) → IsScaled Decimal word n d →
    word ≡ front ++ rest → IsPrefix Hexadecimal front → ⊥
not_both_notations word front rest n d h is prefix =
    let (b, second, x) = second_byte front rest prefix in
    let low = mantissa_fails is_high 10 high_no_digit refl h.mantissa h.top h.places h.is_mantissa
    in
    let zero : NonePass is_high (48 ∷ []) = All-cons (λ c. is_high c ≡ false) 48 [] refl
    (All-nil (λ c. is_high c ≡ false)) in
    let same = cut_once is_high h.mantissa (48 ∷ []) h.exponent rest h.mark b low zero
    (mark_is_high Decimal h.mark h.is_mark) (x_is_high b x)
    (sym h.parts ∙ is ∙ second) in
    no_x b (subst (IsMark Decimal) same.1 h.is_mark) x

pub one_prefix : (front rest front' rest' : List ℕ) → IsPrefix Hexadecimal front →
    IsPrefix Hexadecimal front' → front ++ rest ≡ front' ++ rest' →
    rest ≡ rest'
one_prefix front rest front' rest' h h' e =
    let (b, second, x) = second_byte front rest h in
    let (b', second', x') = second_byte front' rest' h' in
    let all : 48 ∷ b ∷ rest ≡ 48 ∷ b' ∷ rest' = sym second ∙ e ∙ second' in cc

-- ---- one number

base_some : (s : Notation) → 0 < base s
base_some Decimal = omega arith
base_some Hexadecimal = omega arith

scaled_some : (s : Notation) (word : List ℕ) (n d : ℕ) → IsScaled s word n d → 0 < d
scaled_some s word n d h =
    omega (
      arith,
      h.d_is,
      one-le-pow (lowered h.exponent + per_place s * h.places) (base s)
          (base_some s),
    )

one_value : (s : Notation) (w : List ℕ) (x y : Frac) (h : IsScaledWord s w x)
    (k : IsScaledWord s w y) → h.rest ≡ k.rest → x ≡ y
one_value s w x y h k e =
    let minus = starts_with_minus w in
    let same = one_scaled s h.rest h.n h.d k.n k.d h.scaled
    (subst (λ r. IsScaled s r k.n k.d) (sym e) k.scaled) in
    let some = scaled_some s h.rest h.n h.d h.scaled in
    same_from_is x y (with_sign minus h.n) (pos h.d) (λ z. omega (arith, some, z)) h.value
    (subst₂ (λ n d. IsRatio y (with_sign minus n) (pos d)) (sym same.0) (sym same.1) k.value)

-- the rest of a decimal number is all
without_front : (w : List ℕ) (x : Frac) (h : IsScaledWord Decimal w x) →
    without_leading_sign w ≡ h.rest
without_front w x h = h.parts ∙ ap (λ front. front ++ h.rest) h.is_prefix

one_scaled_word : (s t : Notation) (w : List ℕ) (x y : Frac) → IsScaledWord s w x →
    IsScaledWord t w y → x ≡ y
one_scaled_word Decimal Decimal w x y h k =
    one_value Decimal w x y h k (sym (without_front w x h) ∙ without_front w y k)
one_scaled_word Hexadecimal Hexadecimal w x y h k =
    one_value Hexadecimal w x y h k
    (one_prefix h.front h.rest k.front k.rest h.is_prefix k.is_prefix (sym h.parts ∙ k.parts))
one_scaled_word Decimal Hexadecimal w x y h k =
    absurd (not_both_notations h.rest k.front k.rest h.n h.d h.scaled
    (sym (without_front w x h) ∙ k.parts) k.is_prefix)
one_scaled_word Hexadecimal Decimal w x y h k =
    absurd (not_both_notations k.rest h.front h.rest k.n k.d k.scaled
    (sym (without_front w y k) ∙ h.parts) h.is_prefix)

no_scaled_word : (s : Notation) (w : List ℕ) (x y : Frac) → IsFractionWord Lenient w x →
    IsScaledWord s w y → ⊥
no_scaled_word s w x y (n, d, text, is) k =
    no_scaled s (without_leading_sign w) k.front k.rest text.top d k.n k.d text.written k.parts
    k.scaled

pub one_number_word : (w : List ℕ) (x y : Frac) → IsNumberWord w x → IsNumberWord w y → x ≡ y
one_number_word w x y (inl h) (inl k) = one_fraction Lenient w x y h k
one_number_word w x y (inl h) (inr (s, k)) = absurd (no_scaled_word s w x y h k)
one_number_word w x y (inr (s, h)) (inl k) = absurd (no_scaled_word s w y x k h)
one_number_word w x y (inr (s, h)) (inr (t, k)) = one_scaled_word s t w x y h k
