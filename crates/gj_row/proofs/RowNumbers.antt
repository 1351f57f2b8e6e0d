-- The numbers of a row, one after the other.
use Rattle.std.proofs.Common.{◌≡◌, ℕ, zero, suc, ◌+◌, ◌≤◌, List, [], ◌∷◌, ◌++◌, length, map, replicate, refl, sym, ap, subst, ◌∙◌, append_assoc, length-append, arith}
use Rattle.std.proofs.lemmas.List.{append-nil, length-map, length-replicate, length_push, map-append}
use Rattle.std.proofs.lemmas.Slice.Zip.{AllZip-long}
use Rattle.indexmap.proofs.SetLemmas.{AllZip-push}
use Rattle.gj_frac.specs.declared.Frac.{Frac}
use Rattle.gj_lex.specs.SpelledNumbers.{IsFractionWord}
use Rattle.gj_lex.specs.declared.spelling.Spelling.TheVariants.{Lenient}
use Rattle.gj_shape.proofs.LeastDenominator.{within_of_least, least_with_next, least_of_none, no_common_with}
use Rattle.gj_shape.specs.Limits.{greatest_number}
use Rattle.gj_row.specs.TableauText.{SpellsEntry, SpellNumbers, entry_at, entries_from, word_of}
use Rattle.gj_row.specs.FirstFault.{BreaksNumber, HasNumberFault}
use Rattle.gj_row.specs.Reading.{HasRead, StopsNumber, StopsEntry}
use Rattle.gj_shape.specs.Denominators.{Extends, AreWithinOver}
use Rattle.gj_row.specs.declared.tableau.Entry.{Entry}
use Rattle.gj_row.specs.declared.faults.RowReason.{RowReason}
use Rattle.gj_row.specs.declared.faults.RowReason.TheVariants.{Header, Fields, Columns, Rows, Name, Twice, Number, Large, Fine, Entries}
use Rattle.gj_row.proofs.SpelledNumbers.{entry_none, entry_one, nothing_spells_zero}

-- ---- one more entry

-- its place among the entries that are not 0
pub entries_with : (c : ℕ) (xs : List Frac) (x : Frac) →
    entries_from c (xs ++ x ∷ []) ≡ entries_from c xs ++ entry_at (c + length xs) x
entries_with c [] x = append-nil (entry_at c x) ∙ ap (λ n. entry_at n x) (omega arith)
entries_with c (y ∷ xs) x =
    let place : c + 1 + length xs ≡ c + length (y ∷ xs) = omega arith in
    ap (λ l. entry_at c y ++ l)
    (entries_with (c + 1) xs x ∙ ap (λ n. entries_from (c + 1) xs ++ entry_at n x) place)
    ∙ sym (append_assoc (entry_at c y) (entries_from (c + 1) xs) (entry_at (c + length (y ∷ xs)) x))

pub numbers_with : (ws : List (List ℕ)) (right : Frac) (xs : List Frac) (w : List ℕ) (x : Frac) →
    SpellNumbers ws (right ∷ xs) →
    SpellsEntry w x → SpellNumbers (ws ++ w ∷ []) (right ∷ (xs ++ x ∷ []))
numbers_with [] right xs w x h k = absurd h
numbers_with (v ∷ ws) right xs w x h k = (h.0, AllZip-push SpellsEntry ws xs w x h.1 k)

pub numbers_long : (ws : List (List ℕ)) (right : Frac) (xs : List Frac) →
    SpellNumbers ws (right ∷ xs) → length ws ≡ length xs + 1
numbers_long [] right xs h = absurd h
numbers_long (v ∷ ws) right xs h = let e = AllZip-long SpellsEntry ws xs h.1 in omega arith

-- ---- the least common denominator

-- numbers within the limits, of which m is the least common denominator
abbrev pub AreOver : List Frac → ℕ → Type 0
AreOver xs m = AreWithinOver greatest_number xs m

over_read : (used : ℕ) (words : List (List ℕ)) (right : Frac) (scale : ℕ) (entries : List Entry) →
    (h : HasRead used words right scale entries) → AreOver (right ∷ h.values) scale
over_read used words right scale entries h =
    record { small = h.begins.within.small; low = h.low; high = h.high; least = h.least }

-- ---- what has been read

read_over : (used : ℕ) (words : List (List ℕ)) (right : Frac) (values : List Frac) (scale : ℕ)
    (entries : List Entry) →
    SpellNumbers words (right ∷ values) → AreOver (right ∷ values) scale →
    entries ≡ entries_from 0 values →
    used + length entries ≤ 100000 → HasRead used words right scale entries
read_over used words right values scale entries spelled over is few = record {
  values = values;
  begins = record {
    spelled = spelled;
    within = within_of_least (right ∷ values) scale over;
    few = let e : length entries ≡ length (entries_from 0 values) = ap length is in omega arith;
  };
  low = over.low;
  high = over.high;
  least = over.least;
  entries_are = is;
}

-- the right side
pub right_read : (used : ℕ) (w : List ℕ) (x : Frac) (m : ℕ) → used ≤ 100000 →
    IsFractionWord Lenient w x → Extends greatest_number 1 x m →
    HasRead used (w ∷ []) x m []
right_read used w x m few spelled next =
    read_over used (w ∷ []) x [] m [] (spelled, tt) (least_with_next [] x 1 m least_of_none next)
    refl (omega arith)

-- one more entry
pub entry_read : (used : ℕ) (words : List (List ℕ)) (right : Frac) (scale : ℕ)
    (entries : List Entry) (column : ℕ) (w : List ℕ)
    (x : Frac) (m : ℕ) (new : List Entry) → HasRead used words right scale entries →
    column + 1 ≡ length words → SpellsEntry w x →
    Extends greatest_number scale x m → new ≡ entries ++ entry_at column x →
    used + length new ≤ 100000 →
    HasRead used (words ++ w ∷ []) right m new
entry_read used words right scale entries column w x m new h place spelled next is few =
    let values = h.values in
    let long = numbers_long words right values h.begins.spelled in
    let at : column ≡ 0 + length values = omega arith in
    read_over used (words ++ w ∷ []) right (values ++ x ∷ []) m new
    (numbers_with words right values w x h.begins.spelled spelled)
    (least_with_next (right ∷ values) x scale m (over_read used words right scale entries h) next)
    (is ∙ ap (λ l. l ++ entry_at column x) h.entries_are
    ∙ ap (λ n. entries_from 0 values ++ entry_at n x) at
    ∙ sym (entries_with 0 values x)) few

-- ---- what stops the row

pub right_stopped : (used : ℕ) (w : List ℕ) (back : List (List ℕ)) (words : List (List ℕ))
    (e : RowReason) → used ≤ 100000 →
    words ≡ w ∷ back → StopsNumber (IsFractionWord Lenient w) 1 e → HasNumberFault used words e
right_stopped used w back words e few place stops = record {
  front = [];
  word = w;
  back = back;
  place = place;
  xs = [];
  good = record { spelled = tt; within = within_of_least [] 1 least_of_none; few = omega arith };
  breaks = breaks e stops;
}
  where
    breaks : (e : RowReason) → StopsNumber (IsFractionWord Lenient w) 1 e → BreaksNumber used [] w e
    breaks Number s = s
    breaks Large s = s
    breaks Fine s = (
      s.0,
      s.1,
      s.2,
      no_common_with {limit = greatest_number}
          [] s.0 1 least_of_none s.3,
    )
    breaks Header s = s
    breaks Fields s = s
    breaks Columns s = s
    breaks Rows s = s
    breaks Name s = s
    breaks Twice s = s
    breaks Entries s = absurd s

pub entry_stopped : (used : ℕ) (front : List (List ℕ)) (right : Frac) (scale : ℕ)
    (entries : List Entry) (w : List ℕ)
    (back words : List (List ℕ)) (e : RowReason) → HasRead used front right scale entries →
    words ≡ front ++ w ∷ back →
    StopsEntry (SpellsEntry w) scale (used + length entries) e → HasNumberFault used words e
entry_stopped used front right scale entries w back words e h place stops = record {
  front = front;
  word = w;
  back = back;
  place = place;
  xs = right ∷ h.values;
  good = h.begins;
  breaks = breaks e stops;
}
  where
    over : AreOver (right ∷ h.values) scale
    over = over_read used front right scale entries h

    breaks : (e : RowReason) → StopsEntry (SpellsEntry w) scale (used + length entries) e →
        BreaksNumber used (right ∷ h.values) w e
    breaks Number s = s
    breaks Large s = s
    breaks Fine s = (s.0, s.1, s.2, no_common_with (right ∷ h.values) s.0 scale over s.3)
    breaks Entries s =
        let x = s.0 in
        let count : length (entries_from 0 (h.values ++ x ∷ [])) ≡ length entries + 1 =
        ap length (entries_with 0 h.values x
        ∙ ap (λ l. entries_from 0 h.values ++ l) (entry_one (0 + length h.values) x s.4)
        ∙ ap (λ l. l ++ record { column = 0 + length h.values; value = x } ∷ [])
        (sym h.entries_are)) ∙ length_push entries _ in (
          x,
          s.2,
          within_of_least (right ∷ (h.values ++ x ∷ [])) s.1
              (least_with_next (right ∷ h.values) x scale s.1 over s.3),
          omega (arith, s.5),
        )
    breaks Header s = s
    breaks Fields s = s
    breaks Columns s = s
    breaks Rows s = s
    breaks Name s = s
    breaks Twice s = s

-- ---- field by field

-- the numbers of the fields in front of those that are left have been read, up to this column
pub record HasReadFront (used : ℕ) (fields left : List (List ℕ)) (right : Frac) (scale : ℕ)
    (entries : List Entry) (column : ℕ) : Type 0 where
  pub front : List (List ℕ)
  pub read : HasRead used (map word_of front) right scale entries
  pub fields_are : fields ≡ front ++ left
  pub place : column + 1 ≡ length front

pub front_first : (used : ℕ) (fields left : List (List ℕ)) (f : List ℕ) (x : Frac) (m : ℕ) →
    used ≤ 100000 → fields ≡ f ∷ left →
    IsFractionWord Lenient (word_of f) x → Extends greatest_number 1 x m →
    HasReadFront used fields left x m [] 0
front_first used fields left f x m few is spelled next = record {
  front = f ∷ [];
  read = right_read used (word_of f) x m few spelled next;
  fields_are = is;
  place = omega arith;
}

pub front_next : (used : ℕ) (fields left behind : List (List ℕ)) (right : Frac) (scale : ℕ)
    (entries : List Entry) (column : ℕ) (f : List ℕ)
    (x : Frac) (m : ℕ) (new : List Entry) →
    HasReadFront used fields left right scale entries column → left ≡ f ∷ behind →
    SpellsEntry (word_of f) x → Extends greatest_number scale x m →
    new ≡ entries ++ entry_at column x → used + length new ≤ 100000 →
    HasReadFront used fields behind right m new (column + 1)
front_next used fields left behind right scale entries column f x m new h is spelled next new_is
    few =
    let words = map-append word_of h.front (f ∷ []) in
    let count = length-map h.front word_of in
    record {
      front = h.front ++ f ∷ [];
      read = rw words (entry_read used (map word_of h.front) right scale entries column
          (word_of f) x m new h.read (omega (arith, h.place)) spelled next
          new_is few);
      fields_are = h.fields_are ∙ ap (λ l. h.front ++ l) is
          ∙ sym (append_assoc h.front (f ∷ []) behind);
      place = let long = length_push h.front f in omega (arith, h.place);
    }

pub front_stopped : (used : ℕ) (fields left behind : List (List ℕ)) (right : Frac) (scale : ℕ)
    (entries : List Entry) (column : ℕ) (f : List ℕ)
    (e : RowReason) → HasReadFront used fields left right scale entries column → left ≡ f ∷ behind →
    StopsEntry (SpellsEntry (word_of f)) scale (used + length entries) e →
    HasNumberFault used (map word_of fields) e
front_stopped used fields left behind right scale entries column f e h is stops =
    entry_stopped used (map word_of h.front) right scale entries (word_of f) (map word_of behind)
    (map word_of fields) e h.read
    (ap (map word_of) (h.fields_are ∙ ap (λ l. h.front ++ l) is)
    ∙ map-append word_of h.front (f ∷ behind)) stops

pub front_all : (used : ℕ) (fields left : List (List ℕ)) (right : Frac) (scale : ℕ)
    (entries : List Entry) (column : ℕ) →
    HasReadFront used fields left right scale entries column → left ≡ [] →
    HasRead used (map word_of fields) right scale entries
front_all used fields left right scale entries column h is =
    subst (λ fs. HasRead used (map word_of fs) right scale entries)
    (sym (h.fields_are ∙ ap (λ l. h.front ++ l) is ∙ append-nil h.front)) h.read

-- ---- empty fields

-- an empty field is 0
front_empty : (used : ℕ) (fields left : List (List ℕ)) (right : Frac) (scale : ℕ)
    (entries : List Entry) (column : ℕ) →
    HasReadFront used fields ([] ∷ left) right scale entries column →
    HasReadFront used fields left right scale entries (column + 1)
front_empty used fields left right scale entries column h =
    let nothing = nothing_spells_zero [] scale refl h.read.high in
    let same = sym (append-nil entries)
    ∙ ap (λ l. entries ++ l) (sym (entry_none column nothing.0 nothing.3)) in
    let count = ap length h.read.entries_are in
    front_next used fields ([] ∷ left) left right scale entries column
    [] nothing.0 scale entries h refl nothing.1 nothing.2 same
    (omega (arith, count, h.read.begins.few))

skipped : (used : ℕ) (fields more : List (List ℕ)) (right : Frac) (scale : ℕ) (entries : List Entry)
    (column empty : ℕ) →
    HasReadFront used fields (replicate empty [] ++ more) right scale entries column →
    HasReadFront used fields more right scale entries (column + empty)
skipped used fields more right scale entries column zero h =
    let here : column ≡ column + 0 = omega arith in
    subst (HasReadFront used fields more right scale entries) here h
skipped used fields more right scale entries column (suc empty) h =
    let at : column + 1 + empty ≡ column + suc empty = omega arith in
    subst (HasReadFront used fields more right scale entries) at
    (skipped used fields more right scale entries (column + 1) empty
    (front_empty used fields (replicate empty [] ++ more) right scale entries column h))

pub front_skips : {used : ℕ} {fields left : List (List ℕ)} {right : Frac} {scale : ℕ}
    {entries : List Entry} {column : ℕ} (more : List (List ℕ))
    (empty : ℕ) → HasReadFront used fields left right scale entries column →
    left ≡ replicate empty [] ++ more →
    HasReadFront used fields more right scale entries (column + empty)
front_skips {used} {fields} {left} {right} {scale} {entries} {column} more empty h is =
    skipped used fields more right scale entries column empty
    (subst (λ l. HasReadFront used fields l right scale entries column) is h)

-- how many fields are left
pub front_long : {used : ℕ} {fields left : List (List ℕ)} {right : Frac} {scale : ℕ}
    {entries : List Entry} {column : ℕ} →
    HasReadFront used fields left right scale entries column →
    column + 1 + length left ≡ length fields
front_long {left = left} h = let all = ap length h.fields_are in
    omega (arith, all, length-append h.front left, h.place)

pub length_behind_empty : (left : List (List ℕ)) (empty : ℕ) (more : List (List ℕ)) →
    left ≡ replicate empty [] ++ more →
    length left ≡ empty + length more
length_behind_empty left empty more is =
    let all = ap length is in
    let run : length (replicate {A = List ℕ} empty []) ≡ empty = length-replicate empty [] in
    omega (arith, all, run, length-append (replicate empty []) more)
