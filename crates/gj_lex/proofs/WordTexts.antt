-- The words of a line are the parts between its blanks that are not empty.
use Rattle.std.proofs.Common.{◌≡◌, ℕ, ◌+◌, ◌-◌, ◌<◌, ◌≤◌, Bool, true, false, List, [], ◌∷◌, ◌++◌, length, get_or, drop, map, nat_lt, refl, sym, ◌∙◌, ap, arith, append-nil, length-take, length-drop, get_or-take, get_or-drop, take-append-drop}
use Rattle.std.specs.List.{All, filter, slice_split, slice_range}
use Rattle.std.proofs.lemmas.Bool.Decides.{nat_tests}
use Rattle.std.proofs.lemmas.List.{drop-drop}
use Rattle.std.proofs.lemmas.List.Elements.{All-head, All-tail, All-from_get_or}
use Rattle.std.proofs.lemmas.List.Splits.{slice_split-cons_yes, slice_split_none, slice_split_at}
use Rattle.gj_lex.specs.Words.{is_blank, AreWords, word_text, word_texts}

-- whether a part is no empty one
abbrev has_bytes : List ℕ → Bool
has_bytes bs = nat_lt 0 (length bs)

-- a blank makes no word
pub skip_blank : (b : ℕ) (bs : List ℕ) → is_blank b ≡ true → word_texts (b ∷ bs) ≡ word_texts bs
skip_blank b bs h = ap (filter has_bytes) (slice_split-cons_yes is_blank b bs h)

-- nor do several
pub skip_blanks : (bs xs : List ℕ) → All (λ b. is_blank b ≡ true) bs →
    word_texts (bs ++ xs) ≡ word_texts xs
skip_blanks [] xs h = refl
skip_blanks (b ∷ bs) xs h =
    skip_blank b (bs ++ xs) (All-head (λ c. is_blank c ≡ true) b bs h)
    ∙ skip_blanks bs xs (All-tail (λ c. is_blank c ≡ true) b bs h)

-- a run without a blank is a part, and a word if it has a byte
keep_word : (word : List ℕ) (parts : List (List ℕ)) → 0 < length word →
    filter has_bytes (word ∷ parts) ≡ word ∷ filter has_bytes parts
keep_word word parts some = let yes : has_bytes word ≡ true = grind (arith, nat_tests) in
    rw yes refl

-- and the first word, if no blank stands before it
pub take_word : (word rest : List ℕ) → 0 < length word → All (λ b. is_blank b ≡ false) word →
    (0 < length rest → is_blank (get_or rest 0 0) ≡ true) →
    word_texts (word ++ rest) ≡ word ∷ word_texts rest
take_word word [] some whole ended =
    ap word_texts (append-nil word) ∙ ap (filter has_bytes) (slice_split_none is_blank word whole)
    ∙ keep_word word [] some
take_word word (b ∷ bs) some whole ended =
    ap (filter has_bytes) (slice_split_at is_blank word b bs whole (ended (omega arith)))
    ∙ keep_word word (slice_split is_blank bs) some
    ∙ ap (λ ws. word ∷ ws) (sym (skip_blank b bs (ended (omega arith))))

-- what stands between two places, and what follows it
drop_parts : (line : List ℕ) (from to : ℕ) → from ≤ to →
    drop from line ≡ slice_range line from to ++ drop to line
drop_parts line from to h =
    let same : from + (to - from) ≡ to = omega arith in
    sym (ap (λ bs. slice_range line from to ++ bs)
    (sym (drop-drop (to - from) from line ∙ ap (λ k. drop k line) same))
    ∙ take-append-drop (to - from) (drop from line))

-- the bytes between two places
all_between : (p : ℕ → Bool) (v : Bool) (line : List ℕ) (from to : ℕ) → to ≤ length line →
    ((k : ℕ) → from ≤ k → k < to → p (get_or line k 0) ≡ v) →
    All (λ b. p b ≡ v) (slice_range line from to)
all_between p v line from to within h =
    All-from_get_or (λ b. p b ≡ v) (slice_range line from to) 0
    (λ i l.
    let short : i < to - from = omega (arith, length-take (to - from) (drop from line)) in
    let same = get_or-take (to - from) (drop from line) i 0 short ∙ get_or-drop from line i 0 in
    ap p same ∙ h (from + i) (omega arith) (omega arith))

length_between : (line : List ℕ) (from to : ℕ) → to ≤ length line →
    length (slice_range line from to) ≡ to - from
length_between line from to h =
    omega (arith, length-take (to - from) (drop from line), length-drop from line)

-- the texts of the words from a place on
texts_from : (line : List ℕ) (from : ℕ) (words : List (ℕ × ℕ)) → AreWords line from words →
    map (word_text line) words ≡ word_texts (drop from line)
texts_from line from [] blank =
    sym
    (ap word_texts (sym (append-nil (drop from line)))
    ∙ skip_blanks (drop from line) []
    (All-from_get_or (λ b. is_blank b ≡ true) (drop from line) 0
    (λ i l. ap is_blank (get_or-drop from line i 0)
    ∙ blank (from + i) (omega arith) (omega (arith, length-drop from line)))))
texts_from line from (word ∷ words) (next, more) =
    let before = all_between is_blank true line from word.0 (omega (arith, next.some, next.within))
    next.blank_before in
    let whole = all_between is_blank false line word.0 word.1 next.within next.no_blank in
    let some : 0 < length (word_text line word) =
    omega (arith, length_between line word.0 word.1 next.within, next.some) in
    let ended : 0 < length (drop word.1 line) → is_blank (get_or (drop word.1 line) 0 0) ≡ true =
    λ l. ap is_blank (get_or-drop word.1 line 0 0 ∙ ap (λ k. get_or line k 0) (omega arith))
    ∙ next.ended (omega (arith, length-drop word.1 line)) in
    let here : word_texts (drop from line) ≡ word_text line word ∷ word_texts (drop word.1 line) =
    ap word_texts (drop_parts line from word.0 next.behind)
    ∙ skip_blanks (slice_range line from word.0) (drop word.0 line) before
    ∙ ap word_texts (drop_parts line word.0 word.1 (omega (arith, next.some)))
    ∙ take_word (word_text line word) (drop word.1 line) some whole ended in
    ap (λ ws. word_text line word ∷ ws) (texts_from line word.1 words more) ∙ sym here

-- the texts of all words
pub texts_of_words : (line : List ℕ) (words : List (ℕ × ℕ)) → AreWords line 0 words →
    map (word_text line) words ≡ word_texts line
texts_of_words line words h = texts_from line 0 words h
