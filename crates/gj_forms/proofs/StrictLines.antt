-- The lines of a strict text: each is determined, has its words, and is a lenient line.
use Rattle.std.proofs.Common.{◌≡◌, ◌≢◌, ℕ, zero, suc, ◌+◌, ◌-◌, ◌<◌, Bool, false, List, [], ◌∷◌, ◌++◌, length, get_or, take, drop, None, Some, refl, sym, ◌∙◌, ap, subst, arith, append-nil, append_assoc, length-append, length-take, length-drop, get_or-take, get_or-drop, ◌↔◌, ◌≤◌}
use Rattle.std.specs.List.{All, join_with_byte, slice_split, position, position_or_len}
use Rattle.std.proofs.Math.Dec.{eqb}
use Rattle.std.proofs.lemmas.Bool.{ne_eqb}
use Rattle.std.proofs.Math.Seq.{get_or-append_seam}
use Rattle.std.proofs.lemmas.List.Elements.{All-nil, All-cons, All-head, All-tail, All-append, All-same, All-weaker, All-get_or, All-from_get_or}
use Rattle.std.proofs.lemmas.List.{drop-drop, take_all}
use Rattle.std.proofs.lemmas.List.Sums.{position_or_len_is}
use Rattle.std.proofs.lemmas.List.Splits.{slice_split_none, slice_split_at, length-slice_split, join_with_byte-slice_split}
use Rattle.gj_lex.specs.Lines.{is_line_feed}
use Rattle.gj_lex.specs.Words.{is_blank, word_texts}
use Rattle.gj_lex.specs.NumberText.{IsWordByte}
use Rattle.gj_forms.specs.TextLines.{IsInWord, IsWord, HasStrictLine, HasNextLine, IsSkipped}
use Rattle.gj_forms.specs.TextLines.IsFirstLine.{ended}
use Rattle.gj_forms.specs.TextLines.AreBytesOf.{kept}
use Rattle.gj_forms.specs.TextLines.HasNextLine.{here}
use Rattle.gj_lex.proofs.FirstPlaces.{first_place, no_place, position_is, position_none}
use Rattle.gj_lex.proofs.WordBytes.{IsPlain}
use Rattle.gj_lex.proofs.WordTexts.{skip_blank, take_word}
use Rattle.gj_forms.proofs.LenientLines.{one_cut, feed_within, uncut}

-- whether a byte is a space
abbrev pub is_space : ℕ → Bool
is_space b = eqb b 32

-- ---- the words of a line

no_space : (w : List ℕ) → All IsInWord w → All (λ b. is_space b ≡ false) w
no_space w h = All-weaker IsInWord (λ b. is_space b ≡ false) (λ b i. ne_eqb b 32 i.no_space) w h

no_blank : (w : List ℕ) → All IsInWord w → All (λ b. is_blank b ≡ false) w
no_blank w h = All-weaker IsInWord (λ b. is_blank b ≡ false)
    (λ b i. rw (ne_eqb b 32 i.no_space, ne_eqb b 9 i.no_tab) refl) w h

no_feed : (w : List ℕ) → All IsInWord w → All (λ b. b ≢ 10) w
no_feed w h = All-weaker IsInWord (λ b. b ≢ 10) (λ b i. i.no_line_feed) w h

-- words with one space between them are the parts between the spaces
pub parts_of_words : (w : List ℕ) (ws : List (List ℕ)) → All IsWord (w ∷ ws) →
    slice_split is_space (join_with_byte 32 (w ∷ ws)) ≡ w ∷ ws
parts_of_words w [] h = slice_split_none is_space w (no_space w (All-head IsWord w [] h).bytes)
parts_of_words w (v ∷ ws) h =
    slice_split_at is_space w 32 (join_with_byte 32 (v ∷ ws))
    (no_space w (All-head IsWord w (v ∷ ws) h).bytes) refl
    ∙ ap (λ vs. w ∷ vs) (parts_of_words v ws (All-tail IsWord w (v ∷ ws) h))

-- and the words of the line
pub texts_of_words : (w : List ℕ) (ws : List (List ℕ)) → All IsWord (w ∷ ws) →
    word_texts (join_with_byte 32 (w ∷ ws)) ≡ w ∷ ws
texts_of_words w [] h =
    let is = All-head IsWord w [] h in
    ap word_texts (sym (append-nil w))
    ∙ take_word w [] is.some (no_blank w is.bytes) (λ l. absurd (omega arith))
texts_of_words w (v ∷ ws) h =
    let is = All-head IsWord w (v ∷ ws) h in
    take_word w (32 ∷ join_with_byte 32 (v ∷ ws)) is.some (no_blank w is.bytes) (λ l. refl)
    ∙ ap (λ vs. w ∷ vs)
    (skip_blank 32 (join_with_byte 32 (v ∷ ws)) refl
    ∙ texts_of_words v ws (All-tail IsWord w (v ∷ ws) h))

-- no LF is among them
pub words_no_feed : (w : List ℕ) (ws : List (List ℕ)) → All IsWord (w ∷ ws) →
    All (λ b. b ≢ 10) (join_with_byte 32 (w ∷ ws))
words_no_feed w [] h = no_feed w (All-head IsWord w [] h).bytes
words_no_feed w (v ∷ ws) h =
    All-append (λ b. b ≢ 10) w (32 ∷ join_with_byte 32 (v ∷ ws))
    (no_feed w (All-head IsWord w (v ∷ ws) h).bytes)
    (All-cons (λ b. b ≢ 10) 32 (join_with_byte 32 (v ∷ ws)) (λ e. omega arith)
    (words_no_feed v ws (All-tail IsWord w (v ∷ ws) h)))

-- ---- a strict line

-- its words are those of its bytes
pub strict_words : (text : List ℕ) (ws : List (List ℕ)) (r : List ℕ) → HasStrictLine text ws r →
    word_texts (join_with_byte 32 ws) ≡ ws
strict_words text [] r h = absurd (h.some refl)
strict_words text (w ∷ ws) r h = texts_of_words w ws h.are_words

-- it has no LF within
pub strict_no_feed : (text : List ℕ) (ws : List (List ℕ)) (r : List ℕ) → HasStrictLine text ws r →
    All (λ b. b ≢ 10) (join_with_byte 32 ws)
strict_no_feed text [] r h = absurd (h.some refl)
strict_no_feed text (w ∷ ws) r h = words_no_feed w ws h.are_words

-- a text begins with one
pub one_strict_line : (text : List ℕ) (ws vs : List (List ℕ)) (r q : List ℕ) →
    HasStrictLine text ws r → HasStrictLine text vs q →
    (ws ≡ vs) × (r ≡ q)
one_strict_line text ws vs r q h k =
    let same = one_cut (join_with_byte 32 ws) (join_with_byte 32 vs) r q
    (strict_no_feed text ws r h) (strict_no_feed text vs q k)
    (sym h.spelled ∙ k.spelled) in
    (sym (strict_words text ws r h) ∙ ap word_texts same.0 ∙ strict_words text vs q k, same.1)

-- the rest ends the text
pub strict_suffix : (text : List ℕ) (ws : List (List ℕ)) (r : List ℕ) → HasStrictLine text ws r →
    (front : List ℕ) × (text ≡ front ++ r)
strict_suffix text ws r h = (
  join_with_byte 32 ws ++ 10 ∷ [],
  h.spelled
      ∙ sym (append_assoc (join_with_byte 32 ws) (10 ∷ []) r),
)

-- ---- found by its parts

-- the line up to the first LF, if its parts between spaces are words and no CR is at its end
pub strict_found : (text line rest : List ℕ) → text ≡ line ++ 10 ∷ rest →
    All IsWord (slice_split is_space line) →
    get_or line (length line - 1) 0 ≢ 13 → HasStrictLine text (word_texts line) rest
strict_found text line rest e words no_return = by_parts (slice_split is_space line) refl
  where
    by_parts : (parts : List (List ℕ)) → slice_split is_space line ≡ parts →
        HasStrictLine text (word_texts line) rest
    by_parts [] is = absurd (omega (arith, length-slice_split is_space line, ap length is))
    by_parts (w ∷ ws) is =
        let line_is : join_with_byte 32 (w ∷ ws) ≡ line = ap (join_with_byte 32) (sym is)
        ∙ join_with_byte-slice_split 32 line in
        let are : All IsWord (w ∷ ws) = subst (All IsWord) is words in
        let found : HasStrictLine text (w ∷ ws) rest = record {
          some = λ e. omega (arith, ap length e);
          are_words = are;
          no_return = subst (λ l. get_or l (length l - 1) 0 ≢ 13) (sym line_is) no_return;
          spelled = e ∙ ap (λ l. l ++ 10 ∷ rest) (sym line_is);
        } in
        subst (λ vs. HasStrictLine text vs rest)
        (sym (ap word_texts (sym line_is) ∙ texts_of_words w ws are)) found

-- a text without an LF has none
pub none_without_feed : (text : List ℕ) → position is_line_feed text ≡ None →
    (ws : List (List ℕ)) (r : List ℕ) →
    HasStrictLine text ws r → ⊥
none_without_feed text h ws r k =
    feed_within (join_with_byte 32 ws) r
    (All-same (λ b. b ≢ 10) (join_with_byte 32 ws ++ 10 ∷ r) text (sym k.spelled)
    (uncut text h))

-- nor has one whose line is no such
pub none_in_line : (text line rest : List ℕ) → All (λ b. b ≢ 10) line → text ≡ line ++ 10 ∷ rest →
    (All IsWord (slice_split is_space line) × (get_or line (length line - 1) 0 ≢ 13) → ⊥) →
    (ws : List (List ℕ)) (r : List ℕ) →
    HasStrictLine text ws r → ⊥
none_in_line text line rest no_feeds e none [] r h = h.some refl
none_in_line text line rest no_feeds e none (w ∷ ws) r h =
    let same = one_cut (join_with_byte 32 (w ∷ ws)) line r rest
    (words_no_feed w ws h.are_words) no_feeds (sym h.spelled ∙ e) in
    none (
      subst (All IsWord) (sym (ap (slice_split is_space) (sym same.0)
          ∙ parts_of_words w ws h.are_words)) h.are_words,
      subst (λ l. get_or l (length l - 1) 0 ≢ 13) same.0 h.no_return,
    )

-- the parts of what stands before the first space, and of what stands behind it
pub words_of_cut : (left : List ℕ) (end : ℕ) → position is_space left ≡ Some end →
    (All IsWord (slice_split is_space left) →
    IsWord (take end left) × All IsWord (slice_split is_space (drop (end + 1) left)))
    × (IsWord (take end left) → All IsWord (slice_split is_space (drop (end + 1) left)) →
    All IsWord (slice_split is_space left))
words_of_cut left end h =
    let at = first_place is_space left end h in
    let behind = slice_split is_space (drop (end + 1) left) in
    let parts : slice_split is_space left ≡ take end left ∷ behind =
    ap (slice_split is_space) at.1 ∙ slice_split_at is_space (take end left) (get_or left end 0)
    (drop (end + 1) left) at.3 at.2 in (
      λ all. let both = subst (All IsWord) parts all in (
        All-head IsWord (take end left) behind both,
        All-tail IsWord
            (take end left) behind both,
      ),
      λ first more. subst (All IsWord) (sym parts)
          (All-cons IsWord (take end left) behind first more),
    )

-- without a space there is one part
pub words_of_one : (left : List ℕ) → position is_space left ≡ None →
    (All IsWord (slice_split is_space left) → IsWord left)
    × (IsWord left → All IsWord (slice_split is_space left))
words_of_one left h =
    let parts : slice_split is_space left ≡ left ∷ [] =
    slice_split_none is_space left (no_place is_space left h) in (
      λ all. All-head IsWord left [] (subst (All IsWord) parts all),
      λ one. subst (All IsWord) (sym parts) (All-cons IsWord left [] one (All-nil IsWord)),
    )

-- each byte of words with one space between them is a space or stands in a word
words_bytes : (w : List ℕ) (ws : List (List ℕ)) → All IsWord (w ∷ ws) →
    All (λ b. b ≢ 32 → IsInWord b) (join_with_byte 32 (w ∷ ws))
words_bytes w [] h = All-weaker IsInWord (λ b. b ≢ 32 → IsInWord b) (λ b i n. i) w
    (All-head IsWord w [] h).bytes
words_bytes w (v ∷ ws) h =
    All-append (λ b. b ≢ 32 → IsInWord b) w (32 ∷ join_with_byte 32 (v ∷ ws))
    (All-weaker IsInWord (λ b. b ≢ 32 → IsInWord b) (λ b i n. i) w
    (All-head IsWord w (v ∷ ws) h).bytes)
    (All-cons (λ b. b ≢ 32 → IsInWord b) 32 (join_with_byte 32 (v ∷ ws)) (λ n. absurd (n refl))
    (words_bytes v ws (All-tail IsWord w (v ∷ ws) h)))

-- so does each byte of a line whose parts between spaces are words
pub in_words : (line : List ℕ) (k : ℕ) → All IsWord (slice_split is_space line) → k < length line →
    get_or line k 0 ≢ 32 →
    IsInWord (get_or line k 0)
in_words line k all l other = by_parts (slice_split is_space line) refl
  where
    by_parts : (parts : List (List ℕ)) → slice_split is_space line ≡ parts →
        IsInWord (get_or line k 0)
    by_parts [] is = absurd (omega (arith, length-slice_split is_space line, ap length is))
    by_parts (w ∷ ws) is =
        let line_is : join_with_byte 32 (w ∷ ws) ≡ line = ap (join_with_byte 32) (sym is)
        ∙ join_with_byte-slice_split 32 line in
        All-get_or (λ b. b ≢ 32 → IsInWord b) line k 0 l
        (subst (All (λ b. b ≢ 32 → IsInWord b)) line_is
        (words_bytes w ws (subst (All IsWord) is all))) other

-- bytes of a word from `start` up to `end`
abbrev pub IsPlainBetween : List ℕ → ℕ → ℕ → Type 0
IsPlainBetween line start end = (k : ℕ) → start ≤ k → k < end → IsInWord (get_or line k 0)

plain_word : (line : List ℕ) (start n : ℕ) → 0 < n → start + n ≤ length line →
    IsPlainBetween line start (start + n) →
    IsWord (take n (drop start line))
plain_word line start n some within plain =
    let left = drop start line in
    let len : length (take n left) ≡ n = length-take n left
    ∙ omega (arith, length-drop start line) in
    record {
      some = omega (arith, len);
      bytes = All-from_get_or IsInWord (take n left) 0
          (λ i l.
          let short : i < n = omega (arith, len) in
          subst IsInWord (sym (get_or-take n left i 0 short ∙ get_or-drop start line i 0))
          (plain (start + i) (omega arith) (omega arith)));
    }

-- where the first space behind the bytes of a word stands
space_behind : (line : List ℕ) (start place : ℕ) → start ≤ place → place < length line →
    IsPlainBetween line start place →
    get_or line place 0 ≡ 32 → position is_space (drop start line) ≡ Some (place - start)
space_behind line start place behind within plain feed =
    let left = drop start line in
    let len = length-drop start line in
    let at : start + (place - start) ≡ place = omega arith in
    position_is is_space left (place - start)
    (position_or_len_is is_space left (place - start) 0 (omega (arith, len))
    (λ k l.
    ap is_space (get_or-drop start line k 0)
    ∙ ne_eqb (get_or line (start + k) 0) 32
    (plain (start + k) (omega arith) (omega arith)).no_space)
    (λ l. ap is_space (get_or-drop start line (place - start) 0 ∙ ap (λ j. get_or line j 0) at
    ∙ feed)))
    (omega (arith, len))

-- no word stands before a space at the front
pub no_word_before : (line : List ℕ) (start place : ℕ) → place ≡ start → place < length line →
    get_or line place 0 ≡ 32 →
    All IsWord (slice_split is_space (drop start line)) → ⊥
no_word_before line start place same within feed all =
    let cut = words_of_cut (drop start line) (place - start)
    (space_behind line start place (omega arith) within (λ k l h. absurd (omega arith)) feed) in
    omega (arith, (cut.0 all).0.some, length-take (place - start) (drop start line))

-- a word stands before a space behind its bytes
pub word_before : (line : List ℕ) (start place : ℕ) → start < place → place < length line →
    IsPlainBetween line start place →
    get_or line place 0 ≡ 32 →
    All IsWord (slice_split is_space (drop start line))
    ↔ All IsWord (slice_split is_space (drop (place + 1) line))
word_before line start place some within plain feed =
    let left = drop start line in
    let n = place - start in
    let cut = words_of_cut left n (space_behind line start place (omega arith) within plain feed) in
    let at : start + (n + 1) ≡ place + 1 = omega arith in
    let rest : drop (n + 1) left ≡ drop (place + 1) line = drop-drop (n + 1) start line
    ∙ ap (λ j. drop j line) at in
    let word : IsWord (take n left) = plain_word line start n (omega arith) (omega arith)
    (λ k l h. plain k l (omega arith)) in (
      λ all. subst (λ t. All IsWord (slice_split is_space t)) rest (cut.0 all).1,
      λ more. cut.1 word (subst (λ t. All IsWord (slice_split is_space t)) (sym rest) more),
    )

-- the last word has a byte
pub last_word : (line : List ℕ) (start : ℕ) → start ≤ length line →
    IsPlainBetween line start (length line) →
    (start < length line) ↔ All IsWord (slice_split is_space (drop start line))
last_word line start within plain =
    let left = drop start line in
    let len = length-drop start line in
    let nowhere : position_or_len is_space left ≡ length left =
    position_or_len_is is_space left (length left) 0 (omega arith)
    (λ k l.
    ap is_space (get_or-drop start line k 0)
    ∙ ne_eqb (get_or line (start + k) 0) 32
    (plain (start + k) (omega arith) (omega (arith, len))).no_space)
    (λ l. absurd (omega arith)) in
    let one = words_of_one left (position_none is_space left (omega (arith, nowhere))) in (
      λ some.
          let n = length line - start in
          one.1 (subst IsWord (take_all n left (omega (arith, len)))
          (plain_word line start n (omega arith) (omega arith) (λ k l h. plain k l (omega arith)))),
      λ all. omega (arith, len, (one.0 all).some),
    )

-- ---- a line of words without a CR

plain_is_word : (w : List ℕ) → IsPlain w → IsWord w
plain_is_word w h = record {
  some = h.0;
  bytes = All-weaker IsWordByte IsInWord
      (λ b i. record { no_tab = i.no_tab; no_line_feed = i.no_line_feed; no_space = i.no_space }) w
      h.1;
}

no_returns : (w : List ℕ) (ws : List (List ℕ)) → All IsPlain (w ∷ ws) →
    All (λ b. b ≢ 13) (join_with_byte 32 (w ∷ ws))
no_returns w [] h = All-weaker IsWordByte (λ b. b ≢ 13) (λ b i. i.no_carriage_return) w
    (All-head IsPlain w [] h).1
no_returns w (v ∷ ws) h =
    All-append (λ b. b ≢ 13) w (32 ∷ join_with_byte 32 (v ∷ ws))
    (All-weaker IsWordByte (λ b. b ≢ 13) (λ b i. i.no_carriage_return) w
    (All-head IsPlain w (v ∷ ws) h).1)
    (All-cons (λ b. b ≢ 13) 32 (join_with_byte 32 (v ∷ ws)) (λ e. omega arith)
    (no_returns v ws (All-tail IsPlain w (v ∷ ws) h)))

no_return_at : (bs : List ℕ) (k : ℕ) → All (λ b. b ≢ 13) bs → get_or bs k 0 ≢ 13
no_return_at [] k h e = omega arith
no_return_at (b ∷ bs) zero h e = All-head (λ c. c ≢ 13) b bs h e
no_return_at (b ∷ bs) (suc k) h e = no_return_at bs k (All-tail (λ c. c ≢ 13) b bs h) e

pub plain_line : (w : List ℕ) (ws : List (List ℕ)) (rest : List ℕ) → All IsPlain (w ∷ ws) →
    HasStrictLine (join_with_byte 32 (w ∷ ws) ++ 10 ∷ rest) (w ∷ ws) rest
plain_line w ws rest h = record {
  some = λ e. omega (arith, ap length e);
  are_words = All-weaker IsPlain IsWord plain_is_word (w ∷ ws) h;
  no_return = no_return_at (join_with_byte 32 (w ∷ ws)) (length (join_with_byte 32 (w ∷ ws)) - 1)
      (no_returns w ws h);
  spelled = refl;
}

-- ---- a strict line is a lenient one

last_return : (line front : List ℕ) → line ≡ front ++ 13 ∷ [] → get_or line (length line - 1) 0 ≡ 13
last_return line front e =
    let last : length line - 1 ≡ length front =
    omega (arith, ap length e, length-append front (13 ∷ [])) in
    (λ i. get_or (e i) (last i) 0) ∙ get_or-append_seam front 13 [] 0

pub strict_line_is_lenient : (text : List ℕ) (ws : List (List ℕ)) (r : List ℕ) →
    HasStrictLine text ws r → (IsSkipped ws → ⊥) →
    HasNextLine text ws r text
strict_line_is_lenient text ws r h counts =
    let line = join_with_byte 32 ws in
    here text refl
    (record {
      line = line;
      bytes = line;
      is_first = ended (strict_no_feed text ws r h) h.spelled;
      bytes_of = kept (λ front after e f. h.no_return (last_return line front e)) refl;
      words_are = sym (strict_words text ws r h);
    })
    counts
