-- The lines of a lenient text: each is determined, and ends before the first LF.
use Rattle.std.proofs.Common.{◌≡◌, ◌≢◌, ℕ, ◌+◌, ◌<◌, true, false, List, [], ◌∷◌, ◌++◌, length, get_or, take, drop, None, Some, refl, sym, ◌∙◌, ap, subst, arith, append-nil, append_assoc, length-append}
use Rattle.std.specs.List.{All, position}
use Rattle.std.proofs.lemmas.Bool.Decides.{nat_tests}
use Rattle.std.proofs.lemmas.List.{append_cancel_right}
use Rattle.std.proofs.lemmas.List.Elements.{All-head, All-tail, All-same, All-weaker}
use Rattle.gj_lex.specs.Lines.{is_line_feed}
use Rattle.gj_lex.specs.Words.{word_texts}
use Rattle.gj_forms.specs.TextLines.{IsFirstLine, AreBytesOf, HasFirstWords, HasNextLine, IsSkipped, IsSkippedText}
use Rattle.gj_forms.specs.TextLines.IsFirstLine.{ended, unended}
use Rattle.gj_forms.specs.TextLines.AreBytesOf.{dropped, kept}
use Rattle.gj_forms.specs.TextLines.HasNextLine.{here, further}
use Rattle.gj_forms.specs.TextLines.IsSkippedText.{nothing, more}
use Rattle.gj_lex.proofs.FirstPlaces.{first_place, no_place}

-- ---- the first line of a text

-- a line ends before its first LF
pub one_cut : (l m r q : List ℕ) → All (λ b. b ≢ 10) l → All (λ b. b ≢ 10) m →
    l ++ 10 ∷ r ≡ m ++ 10 ∷ q → (l ≡ m) × (r ≡ q)
one_cut [] [] r q h k e = (refl, cc)
one_cut [] (b ∷ m) r q h k e = absurd (All-head (λ c. c ≢ 10) b m k (cc))
one_cut (a ∷ l) [] r q h k e = absurd (All-head (λ c. c ≢ 10) a l h (cc))
one_cut (a ∷ l) (b ∷ m) r q h k e =
    let rest : l ++ 10 ∷ r ≡ m ++ 10 ∷ q = cc in
    let same = one_cut l m r q (All-tail (λ c. c ≢ 10) a l h) (All-tail (λ c. c ≢ 10) b m k) rest in
    (cc, same.1)

-- no LF is within a line
pub feed_within : (l r : List ℕ) → All (λ b. b ≢ 10) (l ++ 10 ∷ r) → ⊥
feed_within [] r h = All-head (λ c. c ≢ 10) 10 r h refl
feed_within (a ∷ l) r h = feed_within l r (All-tail (λ c. c ≢ 10) a (l ++ 10 ∷ r) h)

one_first_line : (text l r m q : List ℕ) → IsFirstLine text l r → IsFirstLine text m q →
    (l ≡ m) × (r ≡ q)
one_first_line text l r m q (ended h e) (ended k f) = one_cut l m r q h k (sym e ∙ f)
one_first_line text l r m q (ended h e) (unended k f some none) =
    absurd (feed_within l r (All-same (λ c. c ≢ 10) (l ++ 10 ∷ r) m (sym e ∙ f) k))
one_first_line text l r m q (unended h e some none) (ended k f) =
    absurd (feed_within m q (All-same (λ c. c ≢ 10) (m ++ 10 ∷ q) l (sym f ∙ e) h))
one_first_line text l r m q (unended h e some none) (unended k f some' none') =
    (sym e ∙ f, none ∙ sym none')

-- the CR before the LF
return_before_feed : (text l b r : List ℕ) → text ≡ b ++ 13 ∷ 10 ∷ r → l ≡ b ++ 13 ∷ [] →
    text ≡ l ++ 10 ∷ r
return_before_feed text l b r e h = e ∙ sym (append_assoc b (13 ∷ []) (10 ∷ r))
    ∙ ap (λ x. x ++ 10 ∷ r) (sym h)

one_bytes : (text l b c : List ℕ) → AreBytesOf text l b → AreBytesOf text l c → b ≡ c
one_bytes text l b c (dropped r e h) (dropped q f k) = append_cancel_right b c (13 ∷ []) (sym h ∙ k)
one_bytes text l b c (dropped r e h) (kept apart k) =
    absurd (apart b r h (return_before_feed text l b r e h))
one_bytes text l b c (kept apart k) (dropped r e h) =
    absurd (apart c r h (return_before_feed text l c r e h))
one_bytes text l b c (kept apart h) (kept apart' k) = h ∙ sym k

-- a text has one first line
pub one_first_words : (text : List ℕ) (ws vs : List (List ℕ)) (r q : List ℕ) →
    HasFirstWords text ws r →
    HasFirstWords text vs q → (ws ≡ vs) × (r ≡ q)
one_first_words text ws vs r q h k =
    let line = one_first_line text h.line r k.line q h.is_first k.is_first in
    let other = subst (λ l. AreBytesOf text l k.bytes) (sym line.0) k.bytes_of in
    let bytes = one_bytes text h.line h.bytes k.bytes h.bytes_of other in
    (h.words_are ∙ ap word_texts bytes ∙ sym k.words_are, line.1)

-- it is a part of the text with a byte, and the rest follows it
first_line_part : (text l r : List ℕ) → IsFirstLine text l r → (line : List ℕ) × (text ≡ line ++ r)
    × (0 < length line)
first_line_part text l r (ended h e) =
    (l ++ 10 ∷ [], e ∙ sym (append_assoc l (10 ∷ []) r), omega (arith, length-append l (10 ∷ [])))
first_line_part text [] r (unended h e some none) = absurd (some refl)
first_line_part text (b ∷ l) r (unended h e some none) =
    (b ∷ l, e ∙ sym (append-nil (b ∷ l)) ∙ ap (λ x. (b ∷ l) ++ x) (sym none), omega arith)

pub first_part : (text : List ℕ) (ws : List (List ℕ)) (r : List ℕ) → HasFirstWords text ws r →
    (line : List ℕ) × (text ≡ line ++ r) × (0 < length line)
first_part text ws r h = first_line_part text h.line r h.is_first

-- an empty text has no line
no_first_words : (text : List ℕ) (ws : List (List ℕ)) (r : List ℕ) → HasFirstWords text ws r →
    text ≡ [] → ⊥
no_first_words text ws r h e =
    let part = first_part text ws r h in
    omega (arith, part.2, length-append part.0 r, ap length (sym part.1 ∙ e))

-- ---- the next line that is not skipped

-- a text has one
pub one_next_line : (s t : List ℕ) (ws vs : List (List ℕ)) (r q text : List ℕ) →
    HasNextLine s ws r text →
    HasNextLine t vs q text →
    (s ≡ t) × (ws ≡ vs) × (r ≡ q)
one_next_line s t ws vs r q text (here _ e f n) (here _ d g m) =
    let same = one_first_words text ws vs r q f g in
    (e ∙ sym d, same.0, same.1)
one_next_line s t ws vs r q text (here _ e f n) (further _ skipped next g k h) =
    absurd (n (subst IsSkipped (one_first_words text skipped ws next r g f).0 k))
one_next_line s t ws vs r q text (further _ skipped next f k h) (here _ e g n) =
    absurd (n (subst IsSkipped (one_first_words text skipped vs next q f g).0 k))
one_next_line s t ws vs r q text (further _ skipped next f k h) (further _ skipped' next' g k' h') =
    let same = (one_first_words text skipped skipped' next next' f g).1 in
    one_next_line s t ws vs r q next h (subst (HasNextLine t vs q) (sym same) h')

-- and then not all lines are skipped
pub next_not_skipped : (s : List ℕ) (ws : List (List ℕ)) (r text : List ℕ) →
    HasNextLine s ws r text →
    IsSkippedText text → ⊥
next_not_skipped s ws r text (here _ e f n) (nothing _ none) = no_first_words text ws r f none
next_not_skipped s ws r text (here _ e f n) (more _ skipped next g k h) =
    n (subst IsSkipped (one_first_words text skipped ws next r g f).0 k)
next_not_skipped s ws r text (further _ skipped next f k h) (nothing _ none) =
    no_first_words text skipped next f none
next_not_skipped s ws r text (further _ skipped next f k h) (more _ skipped' next' g k' h') =
    let same = (one_first_words text skipped skipped' next next' f g).1 in
    next_not_skipped s ws r next h (subst IsSkippedText (sym same) h')

-- it begins within the text, and has a byte
pub next_suffix : (s : List ℕ) (ws : List (List ℕ)) (r text : List ℕ) → HasNextLine s ws r text →
    (front : List ℕ) × (line : List ℕ) × (text ≡ front ++ s) × (s ≡ line ++ r) × (0 < length line)
next_suffix s ws r text (here _ e f n) = let part = first_part text ws r f in
    ([], part.0, sym e, e ∙ part.1, part.2)
next_suffix s ws r text (further _ skipped next f k h) =
    let part = first_part text skipped next f in
    let after = next_suffix s ws r next h in
    let whole = part.1 ∙ ap (λ x. part.0 ++ x) after.2 ∙ sym (append_assoc part.0 after.0 s) in
    (part.0 ++ after.0, after.1, whole, after.3, after.4)

-- ---- the line up to the first LF

feed_from_test : (b : ℕ) → is_line_feed b ≡ true → b ≡ 10
feed_from_test b h = grind (arith, nat_tests)

no_feed_from_test : (b : ℕ) → is_line_feed b ≡ false → b ≢ 10
no_feed_from_test b h e = grind (arith, nat_tests)

no_feeds : (bs : List ℕ) → All (λ b. is_line_feed b ≡ false) bs → All (λ b. b ≢ 10) bs
no_feeds bs h = All-weaker (λ b. is_line_feed b ≡ false) (λ b. b ≢ 10) no_feed_from_test bs h

-- a text with an LF is what stands before its first one, that LF, and what stands behind it
pub cut_at_feed : (text : List ℕ) (end : ℕ) → position is_line_feed text ≡ Some end →
    All (λ b. b ≢ 10) (take end text) × (text ≡ take end text ++ 10 ∷ drop (end + 1) text)
cut_at_feed text end h =
    let at = first_place is_line_feed text end h in (
      no_feeds (take end text) at.3,
      at.1 ∙ ap (λ b. take end text ++ b ∷ drop (end + 1) text)
          (feed_from_test (get_or text end 0) at.2),
    )

-- and one without an LF has none
pub uncut : (text : List ℕ) → position is_line_feed text ≡ None → All (λ b. b ≢ 10) text
uncut text h = no_feeds text (no_place is_line_feed text h)

-- a CR that stands at the end of a line does not count
pub return_dropped : (line front : List ℕ) (last : ℕ) → line ≡ front ++ last ∷ [] → last ≡ 13 →
    (rest : List ℕ) →
    AreBytesOf (line ++ 10 ∷ rest) line front
return_dropped line front last e is rest =
    let same : line ≡ front ++ 13 ∷ [] = e ∙ ap (λ b. front ++ b ∷ []) is in
    dropped rest (ap (λ bs. bs ++ 10 ∷ rest) same ∙ append_assoc front (13 ∷ []) (10 ∷ rest)) same

-- the words before the first LF
pub words_before_feed : (text bytes : List ℕ) (end : ℕ) → position is_line_feed text ≡ Some end →
    ((rest : List ℕ) → AreBytesOf (take end text ++ 10 ∷ rest) (take end text) bytes) →
    HasFirstWords text (word_texts bytes) (drop (end + 1) text)
words_before_feed text bytes end h bytes_of =
    let cut = cut_at_feed text end h in
    record {
      line = take end text;
      bytes = bytes;
      is_first = ended cut.0 cut.1;
      bytes_of = subst (λ t. AreBytesOf t (take end text) bytes) (sym cut.1)
          (bytes_of (drop (end + 1) text));
      words_are = refl;
    }

-- a text without LF is one line
pub words_without_feed : (text rest : List ℕ) → position is_line_feed text ≡ None →
    0 < length text → rest ≡ [] →
    HasFirstWords text (word_texts text) rest
words_without_feed text rest h some none = record {
  line = text;
  bytes = text;
  is_first = unended (uncut text h) refl (λ e. omega (arith, ap length e)) none;
  bytes_of = kept (λ front after e f. omega (arith, ap length f, length-append text (10 ∷ after)))
      refl;
  words_are = refl;
}
