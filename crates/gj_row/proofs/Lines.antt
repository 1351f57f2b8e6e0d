-- The records of a text without quotes, as `csv` reads them, are its lines, cut at commas.
use Rattle.std.proofs.Common.{◌≡◌, ◌≢◌, ◌≤◌, ℕ, ◌==◌, true, false, List, [], ◌∷◌, ◌++◌, All, drop, get_or, length, Option, Some, None, refl, sym, ap, ◌∙◌, subst, inl, inr, append_assoc, arith}
use Rattle.std.proofs.lemmas.Bool.{cases_Bool, eqb-true, false_from_ne_true, false≢true}
use Rattle.std.proofs.lemmas.List.{append-nil}
use Rattle.std.proofs.lemmas.List.Elements.{All-nil, All-head, All-tail, All-push}
use Rattle.std.proofs.lemmas.List.Splits.{slice_split_none, slice_split_at}
use Rattle.memchr.specs.Find.{Nowhere, Passes, is_byte}
use Rattle.gj_lemmas.proofs.Lists.{All-back}
use Rattle.csv.specs.Machine.{Read, next_record}
use Rattle.csv.specs.Reading.{Reached, default_config, is_bom, strip_bom}
use Rattle.csv.specs.declared.parser.State.TheVariants as st
use Rattle.csv.proofs.ReadFacts.{get-same, reached-more}
use Rattle.csv.proofs.RoundTrip.{start-same, record-same}
use Rattle.gj_row.specs.Reading.{EndsLine, IsFirstLine, LinesStandBehind, fields_of_line, is_comma, is_line_end, is_quote}

abbrev pub NoQuote : List ℕ → Type 0
NoQuote xs = All (λ b. is_quote b ≡ false) xs

-- at the end of the text and at a byte that is no quote, a field starts as it goes on
as_in_field : (fields : List (List ℕ)) (xs : List ℕ) → NoQuote xs →
    next_record default_config st.StartField fields [] xs
    ≡ next_record default_config st.InField fields [] xs
unfolding next_record
as_in_field fields [] plain = refl
as_in_field fields (b ∷ xs) plain =
    start-same fields [] b xs (All-head (λ b. is_quote b ≡ false) b xs plain)

no_end : (b : ℕ) → is_line_end b ≡ false → ((b == 13) ≡ false) × ((b == 10) ≡ false)
no_end b e = elim (cases_Bool (b == 13)) [
  | inl cr ↦ cc (e, cr)
  | inr other ↦ (other, cc (e, other))
]

-- a record has these fields, and what is read next is the first record of these bytes
pub record Reads (o : Option Read) (fields : List (List ℕ)) (after : List ℕ) : Type 0 where
  pub read : Read
  pub is : o ≡ Some read
  pub fields_are : read.0 ≡ fields
  pub then : next_record default_config read.1 [] [] read.2
      ≡ next_record default_config st.StartRecord [] [] after

-- after CR the next record is the same as at the start of one
after_return : (xs : List ℕ) → next_record default_config st.AfterCr [] [] xs
    ≡ next_record default_config st.StartRecord [] [] xs
unfolding next_record
after_return [] = refl
after_return (b ∷ xs) = elim (cases_Bool (b == 10)) [
  | inl lf ↦ elim (cases_Bool (b == 13)) [
    | inl cr ↦ rw (lf, cr) refl
    | inr other ↦ rw (lf, other) refl
  ]
  | inr other ↦ rw other refl
]

ends_no_field : (b : ℕ) → is_line_end b ≡ true → is_comma b ≡ false
ends_no_field b end = elim (cases_Bool (b == 13)) [
  | inl cr ↦ subst (λ n. is_comma n ≡ false) (sym (eqb-true b 13 cr)) refl
  | inr other ↦ subst (λ n. is_comma n ≡ false) (sym (eqb-true b 10 (cc (end, other)))) refl
]

-- the end of a blank line is skipped
skips : (b : ℕ) (xs : List ℕ) → is_line_end b ≡ true →
    next_record default_config st.StartRecord [] [] (b ∷ xs)
    ≡ next_record default_config st.StartRecord [] [] xs
unfolding next_record
skips b xs end = rw end refl

-- what a field was so far is whole where the line ends
ended : (fields : List (List ℕ)) (field after : List ℕ) → EndsLine after →
    Reads (next_record default_config st.InField fields field after) (fields ++ field ∷ []) after
unfolding next_record
ended fields field [] end = record { read = _; is = refl; fields_are = refl; then = refl }
ended fields field (b ∷ after) end = elim (cases_Bool (b == 13)) [
  | inl cr ↦
      let comma : is_comma b ≡ false = ends_no_field b end in
      rw (comma, cr) (record {
        read = _;
        is = refl;
        fields_are = refl;
        then = after_return after
            ∙ sym (skips b after end);
      })
  | inr other ↦
      let comma : is_comma b ≡ false = ends_no_field b end in
      let lf : (b == 10) ≡ true = cc (end, other) in
      rw (comma, other, lf)
      (record { read = _; is = refl; fields_are = refl; then = sym (skips b after end) })
]

-- the rest of a line, behind the bytes of a field
reads_line : (fields : List (List ℕ)) (field line after : List ℕ) →
    All (λ b. is_comma b ≡ false) field → NoQuote (line ++ after) →
    All (λ b. is_line_end b ≡ false) line → EndsLine after →
    Reads (next_record default_config st.InField fields field (line ++ after))
    (fields ++ fields_of_line (field ++ line)) after
unfolding next_record
reads_line fields field [] after no_comma plain inside end =
    subst (λ fs. Reads (next_record default_config st.InField fields field after)
    (fields ++ fs) after)
    (sym (ap fields_of_line (append-nil field) ∙ slice_split_none is_comma field no_comma))
    (ended fields field after end)
reads_line fields field (b ∷ line) after no_comma plain inside end =
    let tail = All-tail (λ b. is_quote b ≡ false) b (line ++ after) plain in
    let inner = All-tail (λ b. is_line_end b ≡ false) b line inside in
    elim (cases_Bool (is_comma b)) [
      | inl comma ↦
          let more = reads_line (fields ++ field ∷ []) [] line after
          (All-nil (λ b. is_comma b ≡ false)) tail inner end in
          let parts : fields ++ fields_of_line (field ++ b ∷ line)
          ≡ (fields ++ field ∷ []) ++ fields_of_line line =
          ap (λ fs. fields ++ fs) (slice_split_at is_comma field b line no_comma comma)
          ∙ sym (append_assoc fields (field ∷ []) (fields_of_line line)) in
          rw (comma, parts, as_in_field (fields ++ field ∷ []) (line ++ after) tail) more
      | inr other ↦
          let n = no_end b (All-head (λ b. is_line_end b ≡ false) b line inside) in
          let more = reads_line fields (field ++ b ∷ []) line after
          (All-push (λ b. is_comma b ≡ false) field b no_comma other) tail inner end in
          rw (other, n.0, n.1)
          (subst (λ l. Reads (next_record default_config st.InField fields (field ++ b ∷ [])
          (line ++ after)) (fields ++ fields_of_line l) after)
          (append_assoc field (b ∷ []) line) more)
    ]

-- a line that is not empty is a record
pub line_is_record : (line after : List ℕ) → line ≢ [] → NoQuote (line ++ after) →
    All (λ b. is_line_end b ≡ false) line → EndsLine after →
    Reads (next_record default_config st.StartRecord [] [] (line ++ after))
    (fields_of_line line) after
line_is_record [] after full plain inside end = absurd (full refl)
line_is_record (b ∷ line) after full plain inside end =
    let n = no_end b (All-head (λ b. is_line_end b ≡ false) b line inside) in
    rw (record-same [] [] b (line ++ after) n.0 n.1, as_in_field [] (b ∷ (line ++ after)) plain)
    (reads_line [] [] (b ∷ line) after (All-nil (λ b. is_comma b ≡ false)) plain inside end)

-- the bytes of blank lines are skipped
pub blanks_skipped : (blank xs : List ℕ) → All (λ b. is_line_end b ≡ true) blank →
    next_record default_config st.StartRecord [] [] (blank ++ xs)
    ≡ next_record default_config st.StartRecord [] [] xs
blanks_skipped [] xs blanks = refl
blanks_skipped (b ∷ blank) xs blanks =
    skips b (blank ++ xs) (All-head (λ b. is_line_end b ≡ true) b blank blanks)
    ∙ blanks_skipped blank xs (All-tail (λ b. is_line_end b ≡ true) b blank blanks)

-- and are no record
pub blanks_end : (blank : List ℕ) → All (λ b. is_line_end b ≡ true) blank →
    next_record default_config st.StartRecord [] [] blank ≡ None
unfolding next_record
blanks_end [] blanks = refl
blanks_end (b ∷ blank) blanks = skips b blank (All-head (λ b. is_line_end b ≡ true) b blank blanks)
    ∙ blanks_end blank (All-tail (λ b. is_line_end b ≡ true) b blank blanks)

-- a line of what is left is the next record of the text
pub line_read : (text : List ℕ) (before : List (List (List ℕ))) (left line after : List ℕ) →
    LinesStandBehind text before left →
    IsFirstLine left line after → LinesStandBehind text (before ++ fields_of_line line ∷ []) after
line_read text before left line after at first =
    let plain = subst NoQuote first.text_is at.no_quote in
    let behind = All-back (λ b. is_quote b ≡ false) first.blank (line ++ after) plain in
    let r = line_is_record line after first.full behind first.inside first.ends in
    let next : next_record default_config at.from [] [] at.rest ≡ Some r.read =
    at.same ∙ ap (next_record default_config st.StartRecord [] []) first.text_is
    ∙ blanks_skipped first.blank (line ++ after) first.blanks ∙ r.is in
    record {
      from = r.read.1;
      rest = r.read.2;
      reached = subst (λ fs. Reached default_config st.StartRecord (strip_bom text)
          (before ++ fs ∷ []) r.read.1 r.read.2) r.fields_are
          (reached-more default_config st.StartRecord at.from
          (strip_bom text) at.rest before r.read at.reached next);
      same = r.then;
      no_quote = All-back (λ b. is_quote b ≡ false) line after behind;
    }

-- no quote is found in a text, nor then behind a byte order mark
pub no_quote_found : (text : List ℕ) → Nowhere (Passes (is_byte 34) text) 0 (length text) →
    NoQuote text
no_quote_found text none k d within =
    false_from_ne_true (is_quote (get_or text k d))
    (λ e. none k (omega arith) within (ap is_quote (get-same text k 0 d within) ∙ e))

pub no_quote_behind_mark : (text : List ℕ) → NoQuote text → NoQuote (strip_bom text)
unfolding strip_bom
no_quote_behind_mark [] plain = plain
no_quote_behind_mark (a ∷ []) plain = plain
no_quote_behind_mark (a ∷ b ∷ []) plain = plain
no_quote_behind_mark (a ∷ b ∷ c ∷ rest) plain = elim (cases_Bool (is_bom a b c)) [
  | inl mark ↦ rw mark (All-back (λ b. is_quote b ≡ false) (a ∷ b ∷ c ∷ []) rest plain)
  | inr other ↦ rw other plain
]

-- a byte order mark
is_mark : (x y z : ℕ) → is_bom x y z ≡ true → (x ≡ 239) × (y ≡ 187) × (z ≡ 191)
is_mark x y z e = elim (cases_Bool (x == 239)) [
  | inl a ↦ elim (cases_Bool (y == 187)) [
    | inl b ↦ elim (cases_Bool (z == 191)) [
      | inl c ↦ (eqb-true x 239 a, eqb-true y 187 b, eqb-true z 191 c)
      | inr c ↦ let other : is_bom x y z ≡ false = rw (a, b, c) refl in
          absurd (false≢true (sym other ∙ e))
    ]
    | inr b ↦ let other : is_bom x y z ≡ false = rw (a, b) refl in
        absurd (false≢true (sym other ∙ e))
  ]
  | inr a ↦ let other : is_bom x y z ≡ false = rw a refl in absurd (false≢true (sym other ∙ e))
]

pub behind_mark : (bs : List ℕ) → 3 ≤ length bs → get_or bs 0 0 ≡ 239 → get_or bs 1 0 ≡ 187 →
    get_or bs 2 0 ≡ 191 →
    drop 3 bs ≡ strip_bom bs
unfolding strip_bom
behind_mark [] long a b c = absurd (omega (arith, long))
behind_mark (x ∷ []) long a b c = absurd (omega (arith, long))
behind_mark (x ∷ y ∷ []) long a b c = absurd (omega (arith, long))
behind_mark (x ∷ y ∷ z ∷ bs) long a b c = let mark : is_bom x y z ≡ true = rw (a, b, c) refl in
    rw mark refl

pub no_mark : (bs : List ℕ) →
    (3 ≤ length bs → get_or bs 0 0 ≡ 239 → get_or bs 1 0 ≡ 187 → get_or bs 2 0 ≡ 191 → ⊥) →
    bs ≡ strip_bom bs
unfolding strip_bom
no_mark [] other = refl
no_mark (x ∷ []) other = refl
no_mark (x ∷ y ∷ []) other = refl
no_mark (x ∷ y ∷ z ∷ bs) other = elim (cases_Bool (is_bom x y z)) [
  | inl mark ↦ let m = is_mark x y z mark in absurd (other (omega arith) m.0 m.1 m.2)
  | inr none ↦ rw none refl
]

-- nothing of the text has been read
pub starts : (text left : List ℕ) → left ≡ strip_bom text → NoQuote text →
    LinesStandBehind text [] left
unfolding Reached
starts text left is plain = record {
  from = st.StartRecord;
  rest = strip_bom text;
  reached = (refl, refl);
  same = ap (next_record default_config st.StartRecord [] []) (sym is);
  no_quote = subst NoQuote (sym is) (no_quote_behind_mark text plain);
}
