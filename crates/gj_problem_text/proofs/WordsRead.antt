-- What is read of a word that may spell a number with an exponent.
use Rattle.std.proofs.Common.{◌≡◌, ◌⊎◌, ⊎_elim, inl, inr, ℕ, zero, suc, ◌+◌, ◌-◌, ◌*◌, ◌^◌, ◌<◌}
use Rattle.std.proofs.Common.{◌≤◌, is_some, pos, ◌*ℤ◌, neg_ℤ, unsigned_abs, Bool, true, false}
use Rattle.std.proofs.Common.{if◌then◌else◌, ◌==◌, Option, None, Some, IfNone, List, [], ◌∷◌, ◌++◌}
use Rattle.std.proofs.Common.{length, get_or, take, drop, add-one, refl, sym, ap, ap₂, subst}
use Rattle.std.proofs.Common.{subst₂, ◌∙◌, arith}
use Rattle.std.specs.List.{position}
use Rattle.std.specs.Int.{IsGcd}
use Rattle.std.specs.Char.{digit_value}
use Rattle.std.specs.Str.Parse.{AllDigits, IsNumeral, digits_value, digits_value_after}
use Rattle.std.specs.Str.Parse.{starts_with_minus, without_leading_sign}
use Rattle.std.proofs.Math.IntN.{neg_ℤ-neg_ℤ}
use Rattle.std.proofs.Math.Nat.{le-mul_of_pos_right}
use Rattle.std.proofs.Math.Seq.{take-length}
use Rattle.std.proofs.lemmas.Bool.{false≢true}
use Rattle.std.proofs.lemmas.Bool.Decides.{nat_tests}
use Rattle.std.proofs.lemmas.List.{drop_more}
use Rattle.gj_frac.specs.declared.Frac.{Frac}
use Rattle.gj_frac.specs.Fraction.{IsRatio, with_sign}
use Rattle.gj_frac.proofs.SameValues.{is_along}
use Rattle.gj_lex.proofs.FirstPlaces.{first_place}
use Rattle.gj_lemmas.proofs.Integers.{abs_neg_z, neg_mul_z, positive_some_z}
use Rattle.gj_problem_text.specs.NumberWords.{radix, base, per_place, IsPrefix, marks}
use Rattle.gj_problem_text.specs.NumberWords.{IsMantissa, raised, lowered, IsScaled, IsScaledWord}
use Rattle.gj_problem_text.specs.NumberWords.IsMantissa.{whole, point}
use Rattle.gj_problem_text.specs.declared.numbers.Notation.{Notation}
use Rattle.gj_problem_text.specs.declared.numbers.Notation.TheVariants.{Decimal, Hexadecimal}
use Rattle.gj_problem_text.proofs.OneNumber.{NonePass, cut_once, not_among, is_either, either_is}
use Rattle.gj_problem_text.proofs.OneNumber.{is_either_of, mantissa_has_no_mark, is_point}
use Rattle.gj_problem_text.proofs.OneNumber.{digits_have_no_point, one_mantissa, not_both_notations}
use Rattle.gj_problem_text.proofs.OneNumber.{one_prefix}
use Rattle.gj_problem_text.proofs.ScaledNumbers.{same_scale, unraised, unraised_back, unlowered}
use Rattle.gj_problem_text.proofs.ScaledNumbers.{unlowered_back, too_large}

-- what follows from what a clause says where there is no value
pub none_then : {X P Q : Type 0} (r : Option X) → IfNone r P → (P → Q) → IfNone r Q
none_then None h f = f h
none_then (Some x) h f = tt

pub none_by_test : {X P : Type 0} (r : Option X) → is_some r ≡ false → IfNone r P → P
none_by_test None none h = h
none_by_test (Some x) none h = absurd cc

-- ---- a word is cut at its first mark

pub cut_at : (p : ℕ → Bool) (word front back : List ℕ) (k : ℕ) → Some k ≡ position p word →
    front ≡ take k word → back ≡ drop k word →
    (b : ℕ) × (p b ≡ true) × (word ≡ front ++ b ∷ take (length back - 1) (drop 1 back)) × NonePass
    p front
cut_at p word front back k found front_is back_is =
    let at = first_place p word k (sym found) in
    let b = get_or word k 0 in
    let parts : back ≡ b ∷ drop (k + 1) word = back_is ∙ drop_more word k 0 at.0 in
    let behind = drop (k + 1) word in
    let rest : take (length back - 1) (drop 1 back) ≡ behind =
    ap (λ bs. take (length bs - 1) (drop 1 bs)) parts ∙ ap (λ i. take i behind) (omega arith)
    ∙ take-length behind in (
      b,
      at.2,
      at.1 ∙ ap₂ (λ xs ys. xs ++ b ∷ ys) (sym front_is) (sym rest),
      subst (NonePass p) (sym front_is) at.3,
    )

-- ---- digits

-- digits behind a number make no smaller one
value_at_least : (radix n : ℕ) (ds : List ℕ) → 2 ≤ radix → n ≤ digits_value_after radix n ds
value_at_least radix n [] some = omega arith
value_at_least radix n (d ∷ ds) some =
    let more = le-mul_of_pos_right {m = radix} n (omega (arith, some)) in
    omega (arith, more, value_at_least radix (n * radix + digit_value d) ds some)

value_after_suc : (radix n : ℕ) (bs : List ℕ) (i : ℕ) → i < length bs →
    digits_value_after radix n (take (suc i) bs) ≡ digits_value_after radix n
    (take i bs) * radix + digit_value (get_or bs i 0)
value_after_suc radix n [] i l = absurd (omega (arith, l))
value_after_suc radix n (c ∷ cs) zero l = refl
value_after_suc radix n (c ∷ cs) (suc i) l = value_after_suc radix (n * radix + digit_value c) cs i
    (omega (arith, l))

-- one more digit
pub value_more : (radix n : ℕ) (bs : List ℕ) (i : ℕ) → i < length bs →
    digits_value_after radix n (take (i + 1) bs) ≡ digits_value_after radix n
    (take i bs) * radix + digit_value (get_or bs i 0)
value_more radix n bs i l = rw add-one (value_after_suc radix n bs i l)

-- if a byte is no digit, or the number so far is too large with it, so is the whole
pub no_number_on : (radix start : ℕ) (word : List ℕ) (i front limit : ℕ) → 2 ≤ radix →
    i < length word →
    front ≡ digits_value_after radix start (take i word) →
    ¬ ((digit_value (get_or word i 0) < radix) ×
    (front * radix + digit_value (get_or word i 0) < limit)) →
    ¬ (AllDigits radix word × (digits_value_after radix start word < limit))
no_number_on radix start [] i front limit some l is refuted (d, small) = absurd (omega (arith, l))
no_number_on radix start (c ∷ cs) zero front limit some l is refuted (d, small) =
    let first : front * radix + digit_value c ≡ start * radix + digit_value c =
    ap (λ n. n * radix + digit_value c) is in
    refuted (
      d.0,
      omega (
        arith,
        first,
        small,
        value_at_least radix (start * radix + digit_value c) cs some,
      ),
    )
no_number_on radix start (c ∷ cs) (suc i) front limit some l is refuted (d, small) =
    no_number_on radix (start * radix + digit_value c) cs i front limit some
    (omega (arith, l)) is refuted (d.1, small)

-- the digits of two runs, one after the other
value_append : (radix n : ℕ) (xs ys : List ℕ) →
    digits_value_after radix n (xs ++ ys) ≡ digits_value_after radix
    (digits_value_after radix n xs) ys
value_append radix n [] ys = refl
value_append radix n (c ∷ cs) ys = value_append radix (n * radix + digit_value c) cs ys

-- ---- mantissas

-- without a point
pub no_whole : (s : Notation) (r : ℕ) (word : List ℕ) → r ≡ radix s → NonePass is_point word →
    ¬ (IsNumeral r word × (digits_value r word < 2 ^ 127)) →
    (top places : ℕ) → IsMantissa (radix s) word top places → top < 2 ^ 127 → ⊥
no_whole s r word r_is none refuted top places (whole digits top_is _) small =
    refuted (
      subst (λ m. IsNumeral m word) (sym r_is) digits,
      omega (arith, small, top_is, ap (λ m. digits_value m word) r_is),
    )
no_whole s r word r_is none refuted top places (point front back is _ _ _ _) small =
    not_among is_point front back 46 (subst (NonePass is_point) is none) refl

-- with one
pub record HasPoint (s : Notation) (front back : List ℕ) (top places : ℕ) : Type 0 where
  pub first : IsNumeral (radix s) front
  pub second : IsNumeral (radix s) back
  pub top_is : top ≡ digits_value_after (radix s) (digits_value (radix s) front) back
  pub places_is : places ≡ length back

module _ (s : Notation) (word front back : List ℕ) (b : ℕ) (is_mark : is_point b ≡ true)
    (parts : word ≡ front ++ b ∷ back)
    (none : NonePass is_point front) where
  pub point_parts : (top places : ℕ) → IsMantissa (radix s) word top places →
      HasPoint s front back top places
  point_parts top places (whole digits _ _) =
      absurd (not_among is_point front back b
      (subst (NonePass is_point) parts (digits_have_no_point s word digits.1)) is_mark)
  point_parts top places (point xs ys is first second top_is places_is) =
      let same = cut_once is_point xs front ys back 46 b
      (digits_have_no_point s xs first.1) none refl is_mark (sym is ∙ parts) in record {
        first = subst (IsNumeral (radix s)) same.0 first;
        second = subst (IsNumeral (radix s)) same.2 second;
        top_is = top_is ∙ value_append (radix s) 0 xs ys
            ∙ ap₂ (λ us vs. digits_value_after (radix s) (digits_value (radix s) us) vs) same.0
            same.2;
        places_is = places_is ∙ ap length same.2;
      }

  dot : b ≡ 46
  dot = ⊎_elim (λ e. e) (λ e. e) (either_is 46 46 b is_mark)

  pub point_found : (r n top : ℕ) → r ≡ radix s → IsNumeral r front → n ≡ digits_value r front →
      0 < length back → AllDigits r back →
      top ≡ digits_value_after r n back → IsMantissa (radix s) word top (length back)
  point_found r n top r_is first n_is some second top_is =
      point front back (parts ∙ ap (λ c. front ++ c ∷ back) dot)
      (subst (λ m. IsNumeral m front) r_is first)
      (some, subst (λ m. AllDigits m back) r_is second)
      (top_is ∙ ap₂ (λ m k. digits_value_after m k back) r_is
      (n_is ∙ ap (λ m. digits_value m front) r_is)
      ∙ sym (value_append (radix s) 0 front back)) refl

  -- nothing stands behind it
  pub point_alone : true ≡ (length back == 0) →
      (top places : ℕ) → IsMantissa (radix s) word top places → ⊥
  point_alone empty top places h =
      let some = (point_parts top places h).second.0 in grind (arith, nat_tests)

  radix_some : 2 ≤ radix s
  radix_some = by s
    where
      by : (t : Notation) → 2 ≤ radix t
      by Decimal = omega arith
      by Hexadecimal = omega arith

  -- what stands before it is no number within the limit
  pub no_front : (r : ℕ) → r ≡ radix s → ¬ (IsNumeral r front × (digits_value r front < 2 ^ 127)) →
      (top places : ℕ) → IsMantissa (radix s) word top places → top < 2 ^ 127 → ⊥
  no_front r r_is refuted top places h small =
      let p = point_parts top places h in
      refuted (
        subst (λ m. IsNumeral m front) (sym r_is) p.first,
        omega (
          arith,
          small,
          p.top_is,
          ap (λ m. digits_value m front) r_is,
          value_at_least (radix s) (digits_value (radix s) front) back radix_some,
        ),
      )

  -- nor is all
  pub no_back : (r n : ℕ) → r ≡ radix s → n ≡ digits_value r front →
      ¬ (AllDigits r back × (digits_value_after r n back < 2 ^ 127)) →
      (top places : ℕ) → IsMantissa (radix s) word top places → top < 2 ^ 127 → ⊥
  no_back r n r_is n_is refuted top places h small =
      let p = point_parts top places h in
      let same : digits_value_after r n back ≡ digits_value_after (radix s)
      (digits_value (radix s) front) back =
      ap₂ (λ m k. digits_value_after m k back) r_is (n_is ∙ ap (λ m. digits_value m front) r_is) in
      refuted (
        subst (λ m. AllDigits m back) (sym r_is) p.second.1,
        omega (arith, small, p.top_is, same),
      )

-- ---- exponents

-- the value of a number with a power
abbrev pub HasScale : Notation → ℕ → ℕ → List ℕ → Frac → Type 0
HasScale s top places e x = IsRatio x (pos (top * base s ^ raised e))
    (pos (base s ^ (lowered e + per_place s * places)))

base_some : (s : Notation) → 2 ≤ base s
base_some Decimal = omega arith
base_some Hexadecimal = omega arith

steps_few : (s : Notation) (places : ℕ) → places < 2 ^ 63 → per_place s * places < 2 ^ 65
steps_few Decimal places few = omega (arith, few)
steps_few Hexadecimal places few = omega (arith, few)

if_true : (t : Bool) (a b : ℕ) → t ≡ true → (if t then a else b) ≡ a
if_true true a b e = refl
if_true false a b e = absurd (false≢true e)

if_false : (t : Bool) (a b : ℕ) → t ≡ false → (if t then a else b) ≡ b
if_false false a b e = refl
if_false true a b e = absurd (false≢true (sym e))

size_if_plus : (e : List ℕ) (n : ℕ) → starts_with_minus e ≡ false →
    n ≡ digits_value 10 (without_leading_sign e) → (raised e ≡ n) × (lowered e ≡ 0)
size_if_plus e n minus is =
    (if_false (starts_with_minus e) 0 _ minus ∙ sym is, if_false (starts_with_minus e) _ 0 minus)

size_if_minus : (e : List ℕ) (n : ℕ) → starts_with_minus e ≡ true →
    n ≡ digits_value 10 (without_leading_sign e) → (raised e ≡ 0) × (lowered e ≡ n)
size_if_minus e n minus is =
    (if_true (starts_with_minus e) 0 _ minus, if_true (starts_with_minus e) _ 0 minus ∙ sym is)

-- an exponent with a minus
module _ (s : Notation) (top places size b p : ℕ) (e : List ℕ) (minus : starts_with_minus e ≡ true)
    (size_is : size ≡ digits_value 10 (without_leading_sign e)) (b_is : b ≡ base s)
    (p_is : p ≡ per_place s * places) (x : Frac) where
  pub minus_found : IsRatio x (pos top) (pos (b ^ (size + p))) → HasScale s top places e x
  minus_found h =
      let is = size_if_minus e size minus size_is in
      same_scale x top (base s) 0 (size + p) (raised e) (lowered e + per_place s * places)
      (base_some s) (omega (arith, is, p_is))
      (unraised x top (base s) _ (subst (λ c. IsRatio x (pos top) (pos (c ^ (size + p)))) b_is h))

  pub minus_back : HasScale s top places e x → IsRatio x (pos top) (pos (b ^ (size + p)))
  minus_back h =
      let is = size_if_minus e size minus size_is in
      subst (λ c. IsRatio x (pos top) (pos (c ^ (size + p)))) (sym b_is)
      (unraised_back x top (base s) _
      (same_scale x top (base s) (raised e) (lowered e + per_place s * places) 0 (size + p)
      (base_some s) (omega (arith, is, p_is)) h))

-- and one without
module _ (s : Notation) (top places size b p : ℕ) (e : List ℕ) (minus : starts_with_minus e ≡ false)
    (size_is : size ≡ digits_value 10 (without_leading_sign e)) (b_is : b ≡ base s)
    (p_is : p ≡ per_place s * places) (x : Frac) where
  pub lower_found : size < p → IsRatio x (pos top) (pos (b ^ (p - size))) →
      HasScale s top places e x
  lower_found low h =
      let is = size_if_plus e size minus size_is in
      same_scale x top (base s) 0 (p - size) (raised e) (lowered e + per_place s * places)
      (base_some s) (omega (arith, is, p_is, low))
      (unraised x top (base s) _ (subst (λ c. IsRatio x (pos top) (pos (c ^ (p - size)))) b_is h))

  pub lower_back : size < p → HasScale s top places e x → IsRatio x (pos top) (pos (b ^ (p - size)))
  lower_back low h =
      let is = size_if_plus e size minus size_is in
      subst (λ c. IsRatio x (pos top) (pos (c ^ (p - size)))) (sym b_is)
      (unraised_back x top (base s) _
      (same_scale x top (base s) (raised e) (lowered e + per_place s * places) 0 (p - size)
      (base_some s) (omega (arith, is, p_is, low)) h))

  pub higher_found : p ≤ size → IsRatio x (pos (top * b ^ (size - p))) (pos 1) →
      HasScale s top places e x
  higher_found high h =
      let is = size_if_plus e size minus size_is in
      same_scale x top (base s) (size - p) 0 (raised e) (lowered e + per_place s * places)
      (base_some s) (omega (arith, is, p_is, high))
      (unlowered x _ (base s) (subst (λ c. IsRatio x (pos (top * c ^ (size - p))) (pos 1)) b_is h))

  pub higher_back : p ≤ size → HasScale s top places e x → IsRatio x (pos (top * b ^ (size - p)))
      (pos 1)
  higher_back high h =
      let is = size_if_plus e size minus size_is in
      subst (λ c. IsRatio x (pos (top * c ^ (size - p))) (pos 1)) (sym b_is)
      (unlowered_back x _ (base s)
      (same_scale x top (base s) (raised e) (lowered e + per_place s * places) (size - p) 0
      (base_some s) (omega (arith, is, p_is, high)) h))

true_or_false : (t : Bool) → (t ≡ true) ⊎ (t ≡ false)
true_or_false true = inl refl
true_or_false false = inr refl

-- no fraction has an exponent past the limit, unless it is 0
pub no_exponent : (s : Notation) (top places : ℕ) (e digits : List ℕ) →
    digits ≡ without_leading_sign e →
    ¬ (IsNumeral 10 digits × (digits_value 10 digits < 2 ^ 127)) → 0 < top → top < 2 ^ 127 →
    places < 2 ^ 63 →
    (x : Frac) → IsNumeral 10 (without_leading_sign e) → HasScale s top places e x → ⊥
no_exponent s top places e digits digits_is refuted some small few x numeral h =
    too_large x top (base s) (raised e) (lowered e + per_place s * places) (base_some s) some small
    (⊎_elim
    (λ (minus : starts_with_minus e ≡ true). let is =
    size_if_minus e (digits_value 10 digits) minus value_is in inr (omega (arith, is, large)))
    (λ (minus : starts_with_minus e ≡ false).
    let is = size_if_plus e (digits_value 10 digits) minus value_is in
    inl (omega (arith, is, large, steps_few s places few)))
    (true_or_false (starts_with_minus e))) h
  where
    value_is : digits_value 10 digits ≡ digits_value 10 (without_leading_sign e)
    value_is = ap (digits_value 10) digits_is

    past : (n : ℕ) → (n < 2 ^ 127 → ⊥) → 2 ^ 127 ≤ n
    past n above = grind arith

    large : 2 ^ 127 ≤ digits_value 10 digits
    large = past (digits_value 10 digits)
        (λ low. refuted (subst (IsNumeral 10) (sym digits_is) numeral, low))

-- ---- digits with an exponent

pub no_mark : (s : Notation) (ms : ℕ × ℕ) (word : List ℕ) → ms ≡ marks s →
    NonePass (is_either ms) word →
    (n d : ℕ) → IsScaled s word n d → ⊥
no_mark s ms word ms_is none n d h =
    not_among (is_either (marks s)) h.mantissa h.exponent h.mark
    (subst (NonePass (is_either (marks s))) h.parts
    (subst (λ bs. NonePass (is_either bs) word) ms_is none))
    (is_either_of (marks s).0 (marks s).1 h.mark h.is_mark)

module _ (s : Notation) (ms : ℕ × ℕ) (word mantissa exponent : List ℕ) (b : ℕ)
    (ms_is : ms ≡ marks s) (is_mark : is_either ms b ≡ true)
    (parts : word ≡ mantissa ++ b ∷ exponent) (none : NonePass (is_either ms) mantissa) where
  mark_is : is_either (marks s) b ≡ true
  mark_is = subst (λ bs. is_either bs b ≡ true) ms_is is_mark

  parts_are : (n d : ℕ) (h : IsScaled s word n d) →
      (h.mantissa ≡ mantissa) × (h.exponent ≡ exponent)
  parts_are n d h =
      let same = cut_once (is_either (marks s)) h.mantissa mantissa h.exponent exponent h.mark b
      (mantissa_has_no_mark s h.mantissa h.top h.places h.is_mantissa)
      (subst (λ bs. NonePass (is_either bs) mantissa) ms_is none)
      (is_either_of (marks s).0 (marks s).1 h.mark h.is_mark) mark_is (sym h.parts ∙ parts) in
      (same.0, same.2)

  -- it has no mantissa
  pub no_mantissa : ((top places : ℕ) → IsMantissa (radix s) mantissa top places → top < 2 ^ 127 →
      ⊥) → (n d : ℕ) → IsScaled s word n d → ⊥
  no_mantissa refuted n d h =
      refuted h.top h.places
      (subst (λ w. IsMantissa (radix s) w h.top h.places) (parts_are n d h).0 h.is_mantissa)
      h.top_fits

  module _ (top places : ℕ) (is_mantissa : IsMantissa (radix s) mantissa top places) where
    -- it has no value
    pub no_value : ((x : Frac) → IsNumeral 10 (without_leading_sign exponent) →
        HasScale s top places exponent x → ⊥) →
        (n d : ℕ) → IsScaled s word n d → (x : Frac) → IsRatio x (pos n) (pos d) → ⊥
    no_value refuted n d h x is =
        let at = parts_are n d h in
        let both = one_mantissa s mantissa h.top h.places top places
        (subst (λ w. IsMantissa (radix s) w h.top h.places) at.0 h.is_mantissa) is_mantissa in
        refuted x (subst (λ e. IsNumeral 10 (without_leading_sign e)) at.1 h.is_exponent)
        (subst₂ (λ m c. IsRatio x (pos m) (pos c))
        (h.n_is ∙ ap₂ (λ t e. t * base s ^ raised e) both.0 at.1)
        (h.d_is ∙ ap₂ (λ i e. base s ^ (lowered e + per_place s * i)) both.1 at.1) is)

    -- it has one
    pub value_found : top < 2 ^ 127 →
        (x : Frac) → IsNumeral 10 (without_leading_sign exponent) →
        HasScale s top places exponent x →
        (n : ℕ) × (d : ℕ) × IsScaled s word n d × IsRatio x (pos n) (pos d)
    value_found small x numeral is = (
      top * base s ^ raised exponent,
      base s ^ (lowered exponent + per_place s * places),
      record {
        mantissa = mantissa;
        mark = b;
        exponent = exponent;
        parts = parts;
        is_mark = either_is (marks s).0 (marks s).1 b mark_is;
        top = top;
        places = places;
        is_mantissa = is_mantissa;
        top_fits = small;
        is_exponent = numeral;
        n_is = refl;
        d_is = refl;
      },
      is,
    )

-- ---- the notation

abbrev pub NoScale : Notation → List ℕ → Type 0
NoScale s word = (n d : ℕ) → IsScaled s word n d → (x : Frac) → IsRatio x (pos n) (pos d) → ⊥

-- behind the front of a hexadecimal number
pub none_behind_prefix : (word front rest : List ℕ) → word ≡ front ++ rest →
    IsPrefix Hexadecimal front → NoScale Hexadecimal rest →
    (s : Notation) (front' rest' : List ℕ) → word ≡ front' ++ rest' → IsPrefix s front' →
    NoScale s rest'
none_behind_prefix word front rest is prefix none Decimal front' rest' is' empty n d h x value =
    not_both_notations rest' front rest n d h
    (ap (λ xs. xs ++ rest') (sym empty) ∙ sym is' ∙ is) prefix
none_behind_prefix word front rest is prefix none Hexadecimal front' rest' is' prefix' n d h x
    value =
    none n d (subst (λ w. IsScaled Hexadecimal w n d)
    (one_prefix front' rest' front rest prefix' prefix (sym is' ∙ is)) h) x value

-- without one
pub none_without_prefix : (word : List ℕ) →
    ((front rest : List ℕ) → word ≡ front ++ rest → IsPrefix Hexadecimal front → ⊥) →
    NoScale Decimal word →
    (s : Notation) (front rest : List ℕ) → word ≡ front ++ rest → IsPrefix s front → NoScale s rest
none_without_prefix word other none Decimal front rest is empty n d h x value =
    none n d (subst (λ w. IsScaled Decimal w n d) (ap (λ xs. xs ++ rest) (sym empty) ∙ sym is) h) x
    value
none_without_prefix word other none Hexadecimal front rest is prefix n d h x value =
    other front rest is prefix

-- ---- the sign

abbrev opposite : Frac → Frac
opposite x = record {
  num = neg_ℤ x.num;
  den = x.den;
  lowest = record {
    positive = x.lowest.positive;
    num_fits = subst (λ m. m < 2 ^ 127) (sym (abs_neg_z x.num)) x.lowest.num_fits;
    den_fits = x.lowest.den_fits;
    coprime = subst (λ m. IsGcd m (unsigned_abs x.den) 1) (sym (abs_neg_z x.num)) x.lowest.coprime;
  };
}

-- what has a value with a sign has an opposite without it
unsigned : (t : Bool) (x : Frac) (n d : ℕ) → IsRatio x (with_sign t n) (pos d) →
    (y : Frac) × IsRatio y (pos n) (pos d)
unsigned false x n d is = (x, is)
unsigned true x n d is = (
  opposite x,
  is_along (opposite x) (neg_ℤ x.num) x.den (pos n) (pos d)
      (positive_some_z x.den x.lowest.positive) refl
      (neg_mul_z x.num (pos d) ∙ ap neg_ℤ is ∙ sym (neg_mul_z (neg_ℤ (pos n)) x.den) ∙ ap
      (λ z. z *ℤ x.den) (neg_ℤ-neg_ℤ (pos n))),
)

-- a word with a sign spells nothing, if without it there is no number
pub none_with_sign : (word size : List ℕ) → size ≡ without_leading_sign word →
    ((s : Notation) (front rest : List ℕ) → size ≡ front ++ rest → IsPrefix s front →
    NoScale s rest) →
    (s : Notation) (x : Frac) → IsScaledWord s word x → ⊥
none_with_sign word size size_is none s x h =
    let (y, is) = unsigned (starts_with_minus word) x h.n h.d h.value in
    none s h.front h.rest (size_is ∙ h.parts) h.is_prefix h.n h.d h.scaled y is

-- what was read without the sign is spelled with it
pub sign_found : (word size : List ℕ) (minus : Bool) (s : Notation) (front rest : List ℕ) (n d : ℕ)
    (x : Frac) → size ≡ without_leading_sign word →
    minus ≡ starts_with_minus word → size ≡ front ++ rest → IsPrefix s front →
    IsScaled s rest n d → IsRatio x (with_sign minus n) (pos d) →
    (t : Notation) × IsScaledWord t word x
sign_found word size minus s front rest n d x size_is minus_is parts prefix scaled value = (
  s,
  record {
    front = front;
    rest = rest;
    parts = sym size_is ∙ parts;
    is_prefix = prefix;
    n = n;
    d = d;
    scaled = scaled;
    value = subst (λ t. IsRatio x (with_sign t n) (pos d)) minus_is value;
  },
)
