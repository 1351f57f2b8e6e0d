-- A word that writes a number without a sign, cut at its first mark.
use Rattle.std.proofs.Common.{◌≡◌, ◌≢◌, ℕ, ◌^◌, ◌<◌, ◌≤◌, List, [], ◌∷◌, ◌++◌, length, get_or, take, drop, Option, None, Some, IfSome, IsSome, IsSomeAnd, ◌↔◌, pos, Bool, true, false, ◌||◌, ◌==◌, refl, sym, ◌∙◌, ap, subst, subst₂, arith, append-nil, take-append-drop, length-drop, get_or-drop, add-zero}
use Rattle.std.specs.List.{position_or_len}
use Rattle.gj_frac.specs.declared.Frac.{Frac}
use Rattle.gj_frac.specs.Fraction.{IsRatio}
use Rattle.std.specs.Str.Parse.{AllDigits, IsNumeral, digits_value, digits_value_after}
use Rattle.std.proofs.lemmas.List.Sums.{passes_at_first}
use Rattle.std.proofs.Math.Seq.{take-append_seam, drop-append_seam}
use Rattle.std.proofs.Math.Nat.{one-le-pow}
use Rattle.std.proofs.lemmas.Bool.Decides.{nat_tests}
use Rattle.std.proofs.lemmas.Str.Parse.{digit_from_value}
use Rattle.gj_lex.specs.NumberText.{IsWritten}
use Rattle.gj_lex.specs.NumberText.IsWritten.{whole, ratio, point}
use Rattle.gj_lex.proofs.Decimals.{value_after_append, value_after_at_least}

-- whether a byte is a `/` or a `.`
abbrev pub is_mark : ℕ → Bool
is_mark b = (b == 47) || (b == 46)

-- the two parts of a word, before its first mark and from it on
pub data Cut (front back : List ℕ) (top bottom : ℕ) : Type 0 where
  one : back ≡ [] → IsNumeral 10 front → top ≡ digits_value 10 front → bottom ≡ 1 →
      Cut front back top bottom
  slash : (digits : List ℕ) → back ≡ 47 ∷ digits → IsNumeral 10 front → IsNumeral 10 digits →
      top ≡ digits_value 10 front → bottom ≡ digits_value 10 digits → Cut front back top bottom
  dot : (digits : List ℕ) → back ≡ 46 ∷ digits → IsNumeral 10 front → IsNumeral 10 digits →
      top ≡ digits_value 10 (front ++ digits) → bottom ≡ 10 ^ length digits →
      Cut front back top bottom

-- no digit is a mark
digit_no_mark : (c : ℕ) → 48 ≤ c → is_mark c ≡ false
digit_no_mark c h = grind (arith, nat_tests)

-- digits have no mark among them
pub mark_after_digits : (ds : List ℕ) (m : ℕ) (bs : List ℕ) → AllDigits 10 ds → is_mark m ≡ true →
    position_or_len is_mark (ds ++ m ∷ bs) ≡ length ds
mark_after_digits [] m bs d h = rw h refl
mark_after_digits (c ∷ cs) m bs d h =
    let r = digit_from_value c d.0 in
    rw (digit_no_mark c (omega arith)) (omega (arith, mark_after_digits cs m bs d.1 h))

pub no_mark_in_digits : (ds : List ℕ) → AllDigits 10 ds → position_or_len is_mark ds ≡ length ds
no_mark_in_digits [] d = refl
no_mark_in_digits (c ∷ cs) d =
    let r = digit_from_value c d.0 in
    rw (digit_no_mark c (omega arith)) (omega (arith, no_mark_in_digits cs d.1))

module _ (word front back : List ℕ) (k : ℕ) (at : k ≡ position_or_len is_mark word)
    (front_is : front ≡ take k word)
    (back_is : back ≡ drop k word) where
  -- the two parts are those of the number that the word writes
  parts_at : (xs ys : List ℕ) → word ≡ xs ++ ys → k ≡ length xs → (front ≡ xs) × (back ≡ ys)
  parts_at xs ys e here = (
    front_is ∙ ap (λ i. take i word) here ∙ ap (take (length xs)) e ∙ take-append_seam xs ys,
    back_is ∙ ap (λ i. drop i word) here ∙ ap (drop (length xs)) e ∙ drop-append_seam xs ys,
  )

  cut : (n d : ℕ) → IsWritten word n d → Cut front back n d
  cut n d (whole digits top bottom) =
      let p = parts_at word [] (sym (append-nil word)) (at ∙ no_mark_in_digits word digits.1) in
      one p.1 (subst (IsNumeral 10) (sym p.0) digits) (top ∙ ap (digits_value 10) (sym p.0)) bottom
  cut n d (ratio xs ys e first second top bottom) =
      let p = parts_at xs (47 ∷ ys) e (at ∙ ap (position_or_len is_mark) e
      ∙ mark_after_digits xs 47 ys first.1 refl) in
      slash ys p.1 (subst (IsNumeral 10) (sym p.0) first) second
      (top ∙ ap (digits_value 10) (sym p.0)) bottom
  cut n d (point xs ys e first second top bottom) =
      let p = parts_at xs (46 ∷ ys) e (at ∙ ap (position_or_len is_mark) e
      ∙ mark_after_digits xs 46 ys first.1 refl) in
      dot ys p.1 (subst (IsNumeral 10) (sym p.0) first) second
      (top ∙ ap (λ zs. digits_value 10 (zs ++ ys)) (sym p.0)) bottom

  joined : word ≡ front ++ back
  joined = sym (take-append-drop k word) ∙ ap (λ zs. zs ++ drop k word) (sym front_is)
      ∙ ap (λ zs. front ++ zs) (sym back_is)

  uncut : (n d : ℕ) → Cut front back n d → IsWritten word n d
  uncut n d (one none digits top bottom) =
      let same : word ≡ front = joined ∙ ap (λ zs. front ++ zs) none ∙ append-nil front in
      whole (subst (IsNumeral 10) (sym same) digits) (top ∙ ap (digits_value 10) (sym same)) bottom
  uncut n d (slash digits e first second top bottom) =
      ratio front digits (joined ∙ ap (λ zs. front ++ zs) e) first second top bottom
  uncut n d (dot digits e first second top bottom) =
      point front digits (joined ∙ ap (λ zs. front ++ zs) e) first second top bottom

  -- what stands from the first mark on begins with a mark
  begins_with_mark : (m : ℕ) (digits : List ℕ) → back ≡ m ∷ digits → is_mark m ≡ true
  begins_with_mark m digits e =
      let long : k < length word = omega (arith, ap length (sym back_is ∙ e), length-drop k word) in
      let passes = passes_at_first is_mark word 0 (omega arith) in
      let first : get_or word (position_or_len is_mark word) 0 ≡ m =
      ap (λ i. get_or word i 0) (sym at)
      ∙ sym (get_or-drop k word 0 0 ∙ ap (λ i. get_or word i 0) (add-zero k))
      ∙ ap (λ zs. get_or zs 0 0) (sym back_is ∙ e) in
      ap is_mark (sym first) ∙ passes

-- ---- the parts that are read

-- the number of all the digits is within the limit only if that of the front is
pub point_front : (front back : List ℕ) (e : ℕ) →
    ¬ (IsNumeral 10 front × (digits_value 10 front < 2 ^ 127)) →
    ¬ ((IsNumeral 10 front × IsNumeral 10 back)
    × ((digits_value 10 (front ++ back) < 2 ^ 127) × (10 ^ e < 2 ^ 127)))
point_front front back e refuted (digits, small) =
    refuted (
      digits.0,
      omega (
        arith,
        small.0,
        value_after_append 0 front back,
        value_after_at_least
            (digits_value 10 front) back,
      ),
    )

pub point_back : (front back : List ℕ) (n e : ℕ) → n ≡ digits_value 10 front →
    ¬ (AllDigits 10 back × (digits_value_after 10 n back < 2 ^ 127)) →
    ¬ ((IsNumeral 10 front × IsNumeral 10 back)
    × ((digits_value 10 (front ++ back) < 2 ^ 127) × (10 ^ e < 2 ^ 127)))
point_back front back n e is refuted (digits, small) =
    refuted (
      digits.1.1,
      omega (
        arith,
        small.0,
        value_after_append 0 front back,
        ap
            (λ k. digits_value_after 10 k back) is,
      ),
    )

-- the number of all the digits, read one run after the other
pub point_value : (front back : List ℕ) (n top : ℕ) → n ≡ digits_value 10 front →
    top ≡ digits_value_after 10 n back →
    top ≡ digits_value 10 (front ++ back)
point_value front back n top is e = e ∙ ap (λ k. digits_value_after 10 k back) is
    ∙ sym (value_after_append 0 front back)

-- ---- what the parts tell

-- a cut without a back
one_parts : (front back : List ℕ) (n d : ℕ) → length back ≡ 0 → Cut front back n d →
    IsNumeral 10 front × (n ≡ digits_value 10 front) × (d ≡ 1)
one_parts front back n d none (one e digits top bottom) = (digits, top, bottom)
one_parts front back n d none (slash digits e first second top bottom) =
    absurd (omega (arith, ap length e))
one_parts front back n d none (dot digits e first second top bottom) =
    absurd (omega (arith, ap length e))

-- a cut at a `/`
slash_parts : (front back digits : List ℕ) (n d : ℕ) → back ≡ 47 ∷ digits → Cut front back n d →
    IsNumeral 10 front × IsNumeral 10 digits × (n ≡ digits_value 10 front)
    × (d ≡ digits_value 10 digits)
slash_parts front back digits n d is (one e first top bottom) =
    absurd (omega (arith, ap length (sym is ∙ e)))
slash_parts front back digits n d is (slash others e first second top bottom) =
    let same : others ≡ digits = ap (drop 1) (sym e ∙ is) in
    (first, subst (IsNumeral 10) same second, top, bottom ∙ ap (digits_value 10) same)
slash_parts front back digits n d is (dot others e first second top bottom) =
    absurd (omega (arith, ap (λ bs. get_or bs 0 0) (sym is ∙ e)))

-- a cut at another mark
dot_parts : (front back digits : List ℕ) (m n d : ℕ) → back ≡ m ∷ digits → m ≢ 47 →
    Cut front back n d →
    IsNumeral 10 front × IsNumeral 10 digits × (n ≡ digits_value 10 (front ++ digits))
    × (d ≡ 10 ^ length digits)
dot_parts front back digits m n d is other (one e first top bottom) =
    absurd (omega (arith, ap length (sym is ∙ e)))
dot_parts front back digits m n d is other (slash others e first second top bottom) =
    absurd (other (ap (λ bs. get_or bs 0 0) (sym is ∙ e)))
dot_parts front back digits m n d is other (dot others e first second top bottom) =
    let same : others ≡ digits = ap (drop 1) (sym e ∙ is) in (
      first,
      subst (IsNumeral 10) same second,
      top
          ∙ ap (λ bs. digits_value 10 (front ++ bs)) same,
      bottom ∙ ap (λ bs. 10 ^ length bs) same,
    )

-- the mark that is no `/` is a `.`
other_mark : (m : ℕ) → is_mark m ≡ true → m ≢ 47 → m ≡ 46
other_mark m h other = grind (arith, nat_tests)

-- ---- what was read of a word

abbrev Found : List ℕ → Option Frac → Type 0
Found word r = IfSome r (λ x. (n : ℕ) × (d : ℕ) ×
    IsWritten word n d × (n < 2 ^ 127) × (d < 2 ^ 127) × (0 < d) × IsRatio x (pos n) (pos d))

abbrev Only : List ℕ → Option Frac → Type 0
Only word r = (n d : ℕ) → IsWritten word n d → n < 2 ^ 127 → d < 2 ^ 127 → 0 < d →
    IsSomeAnd r (λ x. IsRatio x (pos n) (pos d))

-- n/d was read exactly if P holds
abbrev Read : Option Frac → Type 0 → ℕ → ℕ → Type 0
Read r P n d = (IsSome r ↔ P) × IfSome r (λ x. IsRatio x (pos n) (pos d))

-- what was read is written, if P says so
found_if : (word : List ℕ) (P : Type 0) (n d : ℕ) →
    (P → IsWritten word n d × (n < 2 ^ 127) × (d < 2 ^ 127) × (0 < d)) →
    (r : Option Frac) → Read r P n d → Found word r
found_if word P n d says None h = tt
found_if word P n d says (Some x) h = let w = says (h.0.0 refl) in (n, d, w.0, w.1, w.2, w.3, h.1)

-- what is written was read, if P follows, and nothing but n/d can be written
only_if : (word : List ℕ) (P : Type 0) (n d : ℕ) →
    ((m e : ℕ) → IsWritten word m e → m < 2 ^ 127 → e < 2 ^ 127 → 0 < e → P × (n ≡ m) × (d ≡ e)) →
    (r : Option Frac) → Read r P n d → Only word r
only_if word P n d says None h = λ m e written small low some.
    let read = h.0.1 (says m e written small low some).0 in cc
only_if word P n d says (Some x) h = λ m e written small low some.
    let w = says m e written small low some in
    subst₂ (λ a b. IsRatio x (pos a) (pos b)) w.1 w.2 h.1

-- nothing was read, if P does not hold
pub nothing_read : (P : Type 0) → ¬ P → (false ≡ true → P) × (P → false ≡ true)
nothing_read P refuted = (λ e. absurd (cc), λ p. absurd (refuted p))

nothing : (bs : List ℕ) → length bs ≡ 0 → bs ≡ []
nothing [] e = refl
nothing (b ∷ bs) e = absurd (omega arith)

module _ (word front back : List ℕ) (k : ℕ) (at : k ≡ position_or_len is_mark word)
    (front_is : front ≡ take k word)
    (back_is : back ≡ drop k word) where
  pub whole_found : length back ≡ 0 → (r : Option Frac) →
      Read r (IsNumeral 10 front × (digits_value 10 front < 2 ^ 127)) (digits_value 10 front) 1 →
      Found word r
  whole_found none = found_if word _ _ _ (λ p. (
    uncut word front back k at front_is back_is _ _ (one (nothing back none) p.0 refl refl),
    p.1,
    omega arith,
    omega arith,
  ))

  pub whole_only : length back ≡ 0 → (r : Option Frac) →
      Read r (IsNumeral 10 front × (digits_value 10 front < 2 ^ 127)) (digits_value 10 front) 1 →
      Only word r
  whole_only none = only_if word _ _ _ (λ n d written small low some.
      let p = one_parts front back n d none
      (cut word front back k at front_is back_is n d written) in
      ((p.0, omega (arith, p.1)), sym p.1, sym p.2))

  pub ratio_found : (digits : List ℕ) (m : ℕ) → back ≡ m ∷ digits → m ≡ 47 → (r : Option Frac) →
      Read r ((IsNumeral 10 front × (digits_value 10 front < 2 ^ 127)) ×
      (IsNumeral 10 digits × (digits_value 10 digits < 2 ^ 127) × (0 < digits_value 10 digits)))
      (digits_value 10 front) (digits_value 10 digits) →
      Found word r
  ratio_found digits m is mark = found_if word _ _ _ (λ p. (
    uncut word front back k at front_is back_is _ _
        (slash digits (is ∙ ap (λ b. b ∷ digits) mark) p.0.0 p.1.0 refl refl),
    p.0.1,
    p.1.1,
    p.1.2,
  ))

  pub ratio_only : (digits : List ℕ) (m : ℕ) → back ≡ m ∷ digits → m ≡ 47 → (r : Option Frac) →
      Read r ((IsNumeral 10 front × (digits_value 10 front < 2 ^ 127)) ×
      (IsNumeral 10 digits × (digits_value 10 digits < 2 ^ 127) × (0 < digits_value 10 digits)))
      (digits_value 10 front) (digits_value 10 digits) →
      Only word r
  ratio_only digits m is mark = only_if word _ _ _ (λ n d written small low some.
      let p = slash_parts front back digits n d (is ∙ ap (λ b. b ∷ digits) mark)
      (cut word front back k at front_is back_is n d written) in (
        ((p.0, omega (arith, p.2)), (p.1, omega (arith, p.3), omega (arith, p.3))),
        sym p.2,
        sym
            p.3,
      ))

  pub point_found : (digits : List ℕ) (m : ℕ) → back ≡ m ∷ digits → m ≢ 47 → (r : Option Frac) →
      Read r ((IsNumeral 10 front × IsNumeral 10 digits) ×
      ((digits_value 10 (front ++ digits) < 2 ^ 127) × (10 ^ length digits < 2 ^ 127)))
      (digits_value 10 (front ++ digits)) (10 ^ length digits) →
      Found word r
  point_found digits m is other = found_if word _ _ _ (λ p.
      let mark = other_mark m (begins_with_mark word front back k at front_is back_is m digits is)
      other in (
        uncut word front back k at front_is back_is _ _
            (dot digits (is ∙ ap (λ b. b ∷ digits) mark) p.0.0 p.0.1 refl refl),
        p.1.0,
        p.1.1,
        one-le-pow (length digits) 10 (omega arith),
      ))

  pub point_only : (digits : List ℕ) (m : ℕ) → back ≡ m ∷ digits → m ≢ 47 → (r : Option Frac) →
      Read r ((IsNumeral 10 front × IsNumeral 10 digits) ×
      ((digits_value 10 (front ++ digits) < 2 ^ 127) × (10 ^ length digits < 2 ^ 127)))
      (digits_value 10 (front ++ digits)) (10 ^ length digits) →
      Only word r
  point_only digits m is other = only_if word _ _ _ (λ n d written small low some.
      let p = dot_parts front back digits m n d is other
      (cut word front back k at front_is back_is n d written) in
      (((p.0, p.1), (omega (arith, p.2), omega (arith, p.3))), sym p.2, sym p.3))
