-- The forms of the lines of a function are clear, and the numbers of a point tell it.
use Rattle.std.proofs.Common.{◌≡◌, ℕ, ◌≤◌, Bool, true, false, if◌then◌else◌, List, [], ◌∷◌, ◌++◌, codes, refl, sym, ap, ◌∙◌, arith}
use Rattle.std.specs.Ordering.{int_eq}
use Rattle.std.proofs.lemmas.Bool.{and_parts, false≢true}
use Rattle.std.proofs.lemmas.Bool.Decides.{Decides-int_eq}
use Rattle.gj_frac.specs.declared.Frac.{Frac}
use Rattle.gj_frac.specs.Fraction.{numerator, denominator}
use Rattle.gj_frac.proofs.SameValues.{same_parts_same}
use Rattle.gj_lex.specs.NumberText.{fraction_text}
use Rattle.gj_lex.specs.declared.spelling.Spelling.{Spelling}
use Rattle.gj_lex.specs.declared.spelling.Spelling.TheVariants.{Strict}
use Rattle.gj_lex.proofs.CanonicalTexts.{same_from_fraction_text}
use Rattle.gj_forms.specs.LineForms.{Field, word_of, words_of, with_numbers, bytes_of}
use Rattle.gj_forms.specs.LineForms.Field.{fraction}
use Rattle.gj_forms.specs.SpelledForms.{Spell}
use Rattle.gj_forms.proofs.FieldWords.{AreGood, AreAlike, head_and_tail}
use Rattle.gj_forms.proofs.PlainWords.{known}
use Rattle.gj_forms.proofs.SpelledLaws.{IsClearForm}
use Rattle.gj_forms.proofs.SpelledLines.{strict_words_are, clear_form}
use Rattle.gj_shape.specs.declared.points.Point.{Point}
use Rattle.gj_shape.proofs.GivenPoints.{same_points}
use Rattle.gj_function_lines.specs.FunctionLines.{order_form, place_form, PointNumbers, number_fields, point_form, is_same, has_no_jump, numbers_of}
use Rattle.gj_function_lines.specs.FunctionLines.PointNumbers.{one, three}
use Rattle.gj_function_lines.specs.FunctionGrammar.{point_of, AreThreeSame}
use Rattle.gj_function_lines.specs.BreakLines.{break_form}

-- ---- the forms

pub order_is_clear : IsClearForm order_form
order_is_clear = clear_form order_form.fields (λ a b words e. tt) (λ a b e. cc)

pub place_is_clear : IsClearForm place_form
place_is_clear = clear_form place_form.fields (λ a b words e. tt) (λ a b e. cc)

-- numbers with the same words in their places are as many, and the fields tell them
alike_numbers : (a b : PointNumbers) (words : List (List ℕ)) →
    with_numbers (number_fields a) words ≡ with_numbers (number_fields b) words →
    AreAlike (number_fields a) (number_fields b)
alike_numbers (one x) (one y) words e = tt
alike_numbers (three p) (three q) words e = tt
alike_numbers (one x) (three q) words e = absurd cc
alike_numbers (three p) (one y) words e = absurd cc

pub one_numbers : (a b : PointNumbers) → number_fields a ≡ number_fields b → a ≡ b
one_numbers (one x) (one y) e = let same : x ≡ y = cc in ap one same
one_numbers (three p) (three q) e =
    let left : p.left ≡ q.left = cc in
    let value : p.value ≡ q.value = cc in
    let right : p.right ≡ q.right = cc in
    ap three (same_points p q left value right)
one_numbers (one x) (three q) e = absurd cc
one_numbers (three p) (one y) e = absurd cc

pub point_is_clear : IsClearForm point_form
point_is_clear =
    clear_form point_form.fields (λ a b words e. alike_numbers a b _ (head_and_tail _ _ _ _ e).1)
    (λ a b e. one_numbers a b (head_and_tail _ _ _ _ e).1)

pub break_is_clear : IsClearForm break_form
break_is_clear =
    clear_form break_form.fields
    (λ a b words e. alike_numbers a.1 b.1 _
    (head_and_tail _ _ _ _ (head_and_tail _ _ _ _ e).1).1) one_break
  where
    one_break : (a b : Frac × PointNumbers) → break_form.fields a ≡ break_form.fields b → a ≡ b
    one_break a b e =
        let p = head_and_tail _ _ _ _ (head_and_tail _ _ _ _ e).1 in
        let place : a.0 ≡ b.0 = (let h : fraction a.0 ≡ fraction b.0 = p.0 in cc) in
        let numbers = one_numbers a.1 b.1 p.1 in
        λ i. (place i, numbers i)

-- ---- their fields are good

pub good_order : (n : ℕ) → n ≤ 1000 → AreGood (order_form.fields n)
good_order n small = (known (codes "order") refl, omega arith)

pub good_place : (x : Frac) → AreGood (place_form.fields x)
good_place x = (known (codes "f") refl, tt)

pub good_point : (n : PointNumbers) → AreGood (point_form.fields n)
good_point (one x) = (known (codes "point") refl, tt)
good_point (three p) = (known (codes "point") refl, (tt, (tt, tt)))

pub good_break : (x : Frac) (n : PointNumbers) → AreGood (break_form.fields (x, n))
good_break x (one y) = (known (codes "point") refl, (tt, tt))
good_break x (three p) = (known (codes "point") refl, (tt, (tt, (tt, tt))))

-- the bytes of a field before the numbers of a point
pub bytes_before : (f : Field) (n : PointNumbers) →
    bytes_of (f ∷ number_fields n) ≡ word_of f ++ 32 ∷ bytes_of (number_fields n)
bytes_before f (one x) = refl
bytes_before f (three p) = refl

-- ---- the numbers of a point

-- fractions with the same parts are one
same_from_is_same : (x y : Frac) → is_same x y ≡ true → x ≡ y
same_from_is_same x y h =
    let parts = and_parts (int_eq (numerator x) (numerator y))
    (int_eq (denominator x) (denominator y)) h in
    same_parts_same x y ((Decides-int_eq (numerator x) (numerator y)).0 parts.0)
    ((Decides-int_eq (denominator x) (denominator y)).0 parts.1)

is_same_itself : (x : Frac) → is_same x x ≡ true
is_same_itself x =
    let n = (Decides-int_eq (numerator x) (numerator x)).1 refl in
    let d = (Decides-int_eq (denominator x) (denominator x)).1 refl in
    rw (n, d)

-- if a point has no jump, its value is both limits
same_where_no_jump : (p : Point) → has_no_jump p ≡ true → (p.left ≡ p.value) × (p.value ≡ p.right)
same_where_no_jump p h =
    let parts = and_parts (is_same p.left p.value) (is_same p.value p.right) h in
    (same_from_is_same p.left p.value parts.0, same_from_is_same p.value p.right parts.1)

-- and the other way round
pub no_jump_where_same : (p : Point) → p.left ≡ p.value → p.value ≡ p.right → has_no_jump p ≡ true
no_jump_where_same p first second =
    let left : is_same p.left p.value ≡ true = rw first (is_same_itself p.value) in
    let right : is_same p.value p.right ≡ true = rw (← second) (is_same_itself p.value) in
    rw (left, right)

-- a point without a jump has its value for its one number
pub number_of_even : (p : Point) → has_no_jump p ≡ true → numbers_of p ≡ one p.value
unfolding numbers_of
number_of_even p e = ap (λ b. if b then one p.value else three p) e

-- and one with a jump has three
pub numbers_of_jump : (p : Point) → has_no_jump p ≡ false → numbers_of p ≡ three p
unfolding numbers_of
numbers_of_jump p e = ap (λ b. if b then one p.value else three p) e

-- the numbers of a point tell it
pub told_point : (p : Point) → point_of (numbers_of p) ≡ p
told_point p = by (has_no_jump p) refl
  where
    by : (b : Bool) → has_no_jump p ≡ b → point_of (numbers_of p) ≡ p
    by true e =
        let same = same_where_no_jump p e in
        ap point_of (number_of_even p e)
        ∙ same_points (point_of (one p.value)) p (sym same.0) refl same.1
    by false e = ap point_of (numbers_of_jump p e)

-- three words that are all the same are the words of no point
three_same : (n : PointNumbers) (w : List ℕ) →
    words_of (point_form.fields n) ≡ codes "point" ∷ w ∷ w ∷ w ∷ [] →
    (p : Point) × (n ≡ three p) × (has_no_jump p ≡ true)
three_same (one x) w e = absurd cc
three_same (three p) w e =
    let first : fraction_text p.left ≡ fraction_text p.value = cc in
    let second : fraction_text p.value ≡ fraction_text p.right = cc in (
      p,
      refl,
      no_jump_where_same p (same_from_fraction_text p.left p.value first)
          (same_from_fraction_text p.value p.right second),
    )

pub not_three_same : (s : Spelling) (p : Point) →
    AreThreeSame s (words_of (point_form.fields (numbers_of p))) → ⊥
not_three_same s p (strict, w, e) =
    let (q, is, even) = three_same (numbers_of p) w e in by q is even (has_no_jump p) refl
  where
    by : (q : Point) → numbers_of p ≡ three q → has_no_jump q ≡ true → (b : Bool) →
        has_no_jump p ≡ b → ⊥
    by q is even true h = let other : one p.value ≡ three q = sym (number_of_even p h) ∙ is in cc
    by q is even false h =
        let threes : three p ≡ three q = sym (numbers_of_jump p h) ∙ is in
        let same : p ≡ q = cc in
        false≢true (sym h ∙ ap has_no_jump same ∙ even)

-- so what a strict line spells is what is printed of its point
pub strict_numbers_are : (words : List (List ℕ)) (n : PointNumbers) →
    (AreThreeSame Strict words → ⊥) → Spell Strict point_form words n →
    numbers_of (point_of n) ≡ n
strict_numbers_are words (one x) not h =
    number_of_even (point_of (one x)) (no_jump_where_same (point_of (one x)) refl refl)
strict_numbers_are words (three p) not h = by (has_no_jump p) refl
  where
    by : (b : Bool) → has_no_jump p ≡ b → numbers_of p ≡ three p
    by true e =
        let same = same_where_no_jump p e in
        let first = ap fraction_text same.0 in
        let second = ap fraction_text (sym same.1) in
        let are = strict_words_are point_form words (three p) (good_point (three p)) h in
        absurd (not (
          refl,
          fraction_text p.value,
          are
              ∙ (λ i. codes "point" ∷ first i ∷ fraction_text p.value ∷ second i ∷ []),
        ))
    by false e = numbers_of_jump p e
