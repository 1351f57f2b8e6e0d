-- Fields of lines and their words: each is one word, and the word of no other such field.
use Rattle.std.proofs.Common.{◌≡◌, ◌<◌, ◌^◌, List, [], ◌∷◌, ◌++◌, All, refl, sym, ap, ◌∙◌, arith}
use Rattle.std.specs.List.{join_with_byte}
use Rattle.std.proofs.lemmas.List.{append_assoc}
use Rattle.std.proofs.lemmas.List.Elements.{All-nil, All-cons}
use Rattle.gj_frac.specs.Fraction.{Fits}
use Rattle.gj_lex.proofs.Decimals.{same_from_decimal}
use Rattle.gj_lex.proofs.CanonicalTexts.{same_from_fraction_text}
use Rattle.gj_lex.proofs.SpelledWords.{fraction_is_plain, count_is_plain}
use Rattle.gj_lex.proofs.WordBytes.{IsPlain}
use Rattle.gj_forms.specs.LineForms.{Field, word_of, words_of, with_numbers, bytes_of}
use Rattle.gj_forms.specs.LineForms.Field.{word, fraction, count, whole}
use Rattle.gj_forms.proofs.WholeNumbers.{same_from_whole, whole_is_plain}

-- its word is plain, and its number not too large
abbrev pub IsGood : Field → Type 0
IsGood (word w) = IsPlain w
IsGood (fraction x) = Unit {0}
IsGood (count n) = n < 2 ^ 127
IsGood (whole n) = Fits n

-- there is one, and all are
abbrev pub AreGood : List Field → Type 0
AreGood [] = ⊥
AreGood (f ∷ []) = IsGood f
AreGood (f ∷ g ∷ fields) = IsGood f × AreGood (g ∷ fields)

good_head : (f : Field) (fs : List Field) → AreGood (f ∷ fs) → IsGood f
good_head f [] h = h
good_head f (g ∷ fs) h = h.0

-- two fields are of the same kind, and P holds
abbrev pub IfAlike : Field → Field → Type 0 → Type 0
IfAlike (word v) (word w) P = P
IfAlike (fraction x) (fraction y) P = P
IfAlike (count m) (count n) P = P
IfAlike (whole m) (whole n) P = P
IfAlike f g P = ⊥

-- two lists of fields are of the same kinds
abbrev pub AreAlike : List Field → List Field → Type 0
AreAlike [] [] = Unit {0}
AreAlike (f ∷ fs) (g ∷ gs) = IfAlike f g (AreAlike fs gs)
AreAlike fs gs = ⊥

-- ---- the words are plain

word_is_plain : (f : Field) → IsGood f → IsPlain (word_of f)
word_is_plain (word w) h = h
word_is_plain (fraction x) h = fraction_is_plain x
word_is_plain (count n) h = count_is_plain n h
word_is_plain (whole n) h = whole_is_plain n h

pub words_are_plain : (fs : List Field) → AreGood fs → All IsPlain (words_of fs)
words_are_plain [] h = absurd h
words_are_plain (f ∷ []) h = All-cons IsPlain (word_of f) [] (word_is_plain f h) (All-nil IsPlain)
words_are_plain (f ∷ g ∷ fs) h =
    All-cons IsPlain (word_of f) (words_of (g ∷ fs)) (word_is_plain f h.0)
    (words_are_plain (g ∷ fs) h.1)

-- ---- and tell the fields

-- equal lists have equal heads and equal tails
pub head_and_tail : {A : Type 0} (a b : A) (xs ys : List A) → a ∷ xs ≡ b ∷ ys → (a ≡ b) × (xs ≡ ys)
head_and_tail a b xs ys e = (cc, cc)

same_field : (f g : Field) (P : Type 0) → IfAlike f g P → IsGood f → IsGood g →
    word_of f ≡ word_of g → (f ≡ g) × P
same_field (word v) (word w) P k h i e = (ap word e, k)
same_field (fraction x) (fraction y) P k h i e = (ap fraction (same_from_fraction_text x y e), k)
same_field (count m) (count n) P k h i e =
    (ap count (same_from_decimal m n (omega (arith, h)) (omega (arith, i)) e), k)
same_field (whole m) (whole n) P k h i e = (ap whole (same_from_whole m n h i e), k)
same_field f g P k h i e = absurd k

pub same_fields : (fs gs : List Field) → AreAlike fs gs → AreGood fs → AreGood gs →
    words_of fs ≡ words_of gs → fs ≡ gs
same_fields [] gs k h i e = absurd h
same_fields fs [] k h i e = absurd i
same_fields (f ∷ []) (g ∷ []) k h i e =
    let p = head_and_tail (word_of f) (word_of g) [] [] e in
    ap (λ x. x ∷ []) (same_field f g (AreAlike [] []) k h i p.0).0
same_fields (f ∷ v ∷ fs) (g ∷ w ∷ gs) k h i e =
    let p = head_and_tail (word_of f) (word_of g) (words_of (v ∷ fs)) (words_of (w ∷ gs)) e in
    let first = same_field f g (AreAlike (v ∷ fs) (w ∷ gs)) k h.0 i.0 p.0 in
    let rest = same_fields (v ∷ fs) (w ∷ gs) first.1 h.1 i.1 p.1 in
    λ j. first.0 j ∷ rest j
same_fields (f ∷ v ∷ fs) (g ∷ []) k h i e = absurd cc
same_fields (f ∷ []) (g ∷ w ∷ gs) k h i e = absurd cc

-- ---- they are of their own form

pub own_numbers : (fs : List Field) → words_of fs ≡ with_numbers fs (words_of fs)
own_numbers [] = refl
own_numbers (word w ∷ fs) = ap (λ ws. w ∷ ws) (own_numbers fs)
own_numbers (fraction x ∷ fs) = ap (λ ws. word_of (fraction x) ∷ ws) (own_numbers fs)
own_numbers (count n ∷ fs) = ap (λ ws. word_of (count n) ∷ ws) (own_numbers fs)
own_numbers (whole n ∷ fs) = ap (λ ws. word_of (whole n) ∷ ws) (own_numbers fs)

-- ---- their bytes

pub joined_words : (fs : List Field) → bytes_of fs ≡ join_with_byte 32 (words_of fs) ++ 10 ∷ []
joined_words [] = refl
joined_words (f ∷ []) = refl
joined_words (f ∷ g ∷ fs) =
    ap (λ t. word_of f ++ 32 ∷ t) (joined_words (g ∷ fs))
    ∙ sym (append_assoc (word_of f) (32 ∷ join_with_byte 32 (words_of (g ∷ fs))) (10 ∷ []))
