-- A word of at most 19 bytes that writes a number without a sign, cut where its first digits end.
use Rattle.std.proofs.Common.{◌≡◌, ◌≢◌, ℕ, zero, suc, ◌+◌, ◌*◌, ◌^◌, ◌<◌, ◌≤◌, List, [], ◌∷◌, ◌++◌, length, get_or, take, drop, Option, Some, IfSome, IsSome, ◌↔◌, pos, true, refl, sym, ◌∙◌, ap, subst, arith, append-nil, take-append-drop}
use Rattle.std.specs.Char.{digit_value}
use Rattle.std.specs.List.{position_or_len}
use Rattle.std.specs.Str.Parse.{AllDigits, IsNumeral, digits_value, digits_value_after}
use Rattle.std.proofs.lemmas.List.{length-take-le}
use Rattle.std.proofs.Math.Seq.{drop-append_seam}
use Rattle.gj_frac.specs.declared.Frac.{Frac}
use Rattle.gj_frac.specs.Fraction.{IsRatio}
use Rattle.gj_lex.specs.NumberText.{IsWritten}
use Rattle.gj_lex.specs.NumberText.IsWritten.{whole, ratio, point}
use Rattle.gj_lex.proofs.Decimals.{room_is_below}
use Rattle.gj_lex.proofs.WrittenNumbers.{is_mark, mark_after_digits, no_mark_in_digits, point_value}

-- a `/` and a `.` are marks
pub slash_is_mark : (m : ℕ) → m ≡ 47 → is_mark m ≡ true
slash_is_mark m e = rw e refl

pub point_is_mark : (m : ℕ) → m ≡ 46 → is_mark m ≡ true
point_is_mark m e = rw e refl

pub point_no_slash : (m : ℕ) → m ≡ 46 → m ≢ 47
point_no_slash m e other = omega arith

-- a number with room for digits fits 64 bits
pub top_small : (top k : ℕ) → (top + 1) * 10 ^ k ≤ 10 ^ 19 → top < 2 ^ 64
top_small top k room = omega (arith, room_is_below top k (10 ^ 19) room)

-- digits end where the first other byte stands
pub digits_end : (xs ys : List ℕ) (k : ℕ) → AllDigits 10 (take k (xs ++ ys)) →
    k ≤ length (xs ++ ys) →
    (k < length (xs ++ ys) → 10 ≤ digit_value (get_or (xs ++ ys) k 0)) → AllDigits 10 xs →
    (0 < length ys → 10 ≤ digit_value (get_or ys 0 0)) → k ≡ length xs
digits_end [] ys zero d within end all other = refl
digits_end [] [] (suc k) d within end all other = absurd (omega arith)
digits_end [] (y ∷ ys) (suc k) d within end all other =
    absurd (omega (arith, d.0, other (omega arith)))
digits_end (x ∷ xs) ys zero d within end all other =
    absurd (omega (arith, all.0, end (omega arith)))
digits_end (x ∷ xs) ys (suc k) d within end all other =
    ap suc (digits_end xs ys k d.1 (omega arith) (λ l. end (omega arith)) all.1 other)

module _ (word : List ℕ) (k : ℕ) (digits : AllDigits 10 (take k word))
    (within : k ≤ length word) where
  -- the first mark stands where the digits end, if a mark stands there
  pub mark_there : (m : ℕ) (bs : List ℕ) → drop k word ≡ m ∷ bs → is_mark m ≡ true →
      k ≡ position_or_len is_mark word
  mark_there m bs e mark =
      let parts : word ≡ take k word ++ m ∷ bs = sym (take-append-drop k word)
      ∙ ap (λ zs. take k word ++ zs) e in
      sym (ap (position_or_len is_mark) parts ∙ mark_after_digits (take k word) m bs digits mark
      ∙ length-take-le k word within)

  -- and there is none, if they are the whole word
  pub mark_nowhere : length (drop k word) ≡ 0 → k ≡ position_or_len is_mark word
  mark_nowhere none =
      let e = nothing (drop k word) none in
      let parts : word ≡ take k word =
      sym (take-append-drop k word) ∙ ap (λ zs. take k word ++ zs) e ∙ append-nil (take k word) in
      sym (ap (position_or_len is_mark) parts ∙ no_mark_in_digits (take k word) digits
      ∙ length-take-le k word within)
    where
      nothing : (bs : List ℕ) → length bs ≡ 0 → bs ≡ []
      nothing [] e = refl
      nothing (b ∷ bs) e = absurd (omega arith)

  -- some digits are a number
  pub front_numeral : 0 < k → IsNumeral 10 (take k word)
  front_numeral some = (omega (arith, length-take-le k word within), digits)

  -- what stands where the digits end
  rest : (xs ys : List ℕ) → word ≡ xs ++ ys → AllDigits 10 xs →
      (k < length word → 10 ≤ digit_value (get_or word k 0)) →
      (0 < length ys → 10 ≤ digit_value (get_or ys 0 0)) → drop k word ≡ ys
  rest xs ys is all end other =
      let here : k ≡ length xs = digits_end xs ys k (subst (λ w. AllDigits 10 (take k w)) is digits)
      (subst (λ w. k ≤ length w) is within)
      (subst (λ w. k < length w → 10 ≤ digit_value (get_or w k 0)) is end) all other in
      ap (λ i. drop i word) here ∙ ap (drop (length xs)) is ∙ drop-append_seam xs ys

  -- if neither a digit nor a mark stands there, the word writes no number
  pub no_number : (m : ℕ) (bs : List ℕ) → drop k word ≡ m ∷ bs →
      (k < length word → 10 ≤ digit_value (get_or word k 0)) →
      m ≢ 47 → m ≢ 46 → (n d : ℕ) → ¬ IsWritten word n d
  no_number m bs e end slash dot n d (whole all top bottom) =
      absurd (omega (
        arith,
        ap length
            (sym e ∙ rest word [] (sym (append-nil word)) all.1 end (λ l. absurd (omega arith))),
      ))
  no_number m bs e end slash dot n d (ratio xs ys is first second top bottom) =
      slash (ap (λ bs. get_or bs 0 0) (sym e ∙ rest xs (47 ∷ ys) is first.1 end (λ l. omega arith)))
  no_number m bs e end slash dot n d (point xs ys is first second top bottom) =
      dot (ap (λ bs. get_or bs 0 0) (sym e ∙ rest xs (46 ∷ ys) is first.1 end (λ l. omega arith)))

-- ---- what was read behind a number

abbrev Read : Option Frac → Type 0 → ℕ → ℕ → Type 0
Read r P n d = (IsSome r ↔ P) × IfSome r (λ x. IsRatio x (pos n) (pos d))

-- the number itself
pub whole_read : (front : List ℕ) (x : Frac) (top : ℕ) → IsNumeral 10 front →
    top ≡ digits_value 10 front → top < 2 ^ 64 →
    IsRatio x (pos top) (pos 1) →
    Read (Some x) (IsNumeral 10 front × (digits_value 10 front < 2 ^ 127)) (digits_value 10 front) 1
whole_read front x top numeral is small value = (
  (λ h. (numeral, omega (arith, is, small)), λ h. refl),
  subst
      (λ n. IsRatio x (pos n) (pos 1)) is value,
)

-- a number over another
pub ratio_read : (front back : List ℕ) (r : Option Frac) (top : ℕ) → IsNumeral 10 front →
    top ≡ digits_value 10 front → top < 2 ^ 64 →
    Read r (IsNumeral 10 back × (digits_value 10 back < 2 ^ 127) × (0 < digits_value 10 back)) top
    (digits_value 10 back) →
    Read r ((IsNumeral 10 front × (digits_value 10 front < 2 ^ 127)) ×
    (IsNumeral 10 back × (digits_value 10 back < 2 ^ 127) × (0 < digits_value 10 back)))
    (digits_value 10 front) (digits_value 10 back)
ratio_read front back r top numeral is small read = (
  (λ h. ((numeral, omega (arith, is, small)), read.0.0 h), λ h. read.0.1 h.1),
  subst (λ n. IfSome r (λ x. IsRatio x (pos n) (pos (digits_value 10 back)))) is read.1,
)

-- a number and digits behind its point
pub point_read : (front back : List ℕ) (r : Option Frac) (top : ℕ) → IsNumeral 10 front →
    top ≡ digits_value 10 front →
    Read r (IsNumeral 10 back × (digits_value_after 10 top back < 2 ^ 127)
    × (10 ^ length back < 2 ^ 127))
    (digits_value_after 10 top back) (10 ^ length back) →
    Read r ((IsNumeral 10 front × IsNumeral 10 back) ×
    ((digits_value 10 (front ++ back) < 2 ^ 127) × (10 ^ length back < 2 ^ 127)))
    (digits_value 10 (front ++ back)) (10 ^ length back)
point_read front back r top numeral is read =
    let all = point_value front back top (digits_value_after 10 top back) is refl in (
      (
        λ h. let p = read.0.0 h in ((numeral, p.0), (subst (λ n. n < 2 ^ 127) all p.1, p.2)),
        λ h. read.0.1 (h.0.1, subst (λ n. n < 2 ^ 127) (sym all) h.1.0, h.1.1),
      ),
      subst (λ n. IfSome r (λ x. IsRatio x (pos n) (pos (10 ^ length back)))) all read.1,
    )
