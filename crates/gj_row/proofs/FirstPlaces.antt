-- Where the first line and the first field end.
use Rattle.std.proofs.Common.{◌≡◌, ◌≢◌, ℕ, zero, suc, ◌+◌, ◌-◌, ◌<◌, ◌≤◌, Bool, not, true, false, cond, List, [], ◌∷◌, ◌++◌, All, Some, None, take, drop, replicate, length, unwrap_or, refl, sym, ap, ◌∙◌, subst, inl, inr, arith}
use Rattle.std.specs.List.{position, position_or_len}
use Rattle.std.proofs.lemmas.Bool.{cases_Bool}
use Rattle.std.proofs.lemmas.List.{take-append-drop, take_rest}
use Rattle.std.proofs.lemmas.List.Elements.{All-nil, All-cons, All-weaker}
use Rattle.std.proofs.lemmas.List.Quantifiers.{position-Some}
use Rattle.std.proofs.lemmas.List.Splits.{slice_split_none, slice_split_first, slice_split-cons_yes}
use Rattle.gj_lemmas.proofs.Choices.{not_true, not_false}
use Rattle.gj_lex.proofs.CanonicalTexts.{position_unwrapped}
use Rattle.gj_lex.proofs.FirstPlaces.{no_place}
use Rattle.gj_row.specs.Reading.{EndsLine, IsFirstLine, fields_of_line, is_comma, is_line_end}

-- the first place, as a number
pub first_place : (p : ℕ → Bool) (xs : List ℕ) (i : ℕ) → position p xs ≡ Some i →
    i ≡ position_or_len p xs
first_place p xs i e = ap (λ o. unwrap_or o (length xs)) (sym e) ∙ position_unwrapped p xs

-- nothing before it passes
before_place : (p : ℕ → Bool) (xs : List ℕ) →
    All (λ b. p b ≡ false) (take (position_or_len p xs) xs)
before_place p [] = All-nil (λ b. p b ≡ false)
before_place p (x ∷ xs) = elim (cases_Bool (p x)) [
  | inl hit ↦ rw hit (All-nil (λ b. p b ≡ false))
  | inr miss ↦ let step : 1 + position_or_len p xs ≡ suc (position_or_len p xs) = omega arith in
      rw (miss, step) (All-cons (λ b. p b ≡ false) x (take (position_or_len p xs) xs) miss
      (before_place p xs))
]

-- it passes
at_place : (p : ℕ → Bool) (xs : List ℕ) → position_or_len p xs < length xs →
    (x : ℕ) × (ys : List ℕ) × (drop (position_or_len p xs) xs ≡ x ∷ ys) × (p x ≡ true)
at_place p [] within = absurd (omega arith)
at_place p (x ∷ xs) within = elim (cases_Bool (p x)) [
  | inl hit ↦ rw hit (x, xs, refl, hit)
  | inr miss ↦ let step : 1 + position_or_len p xs ≡ suc (position_or_len p xs) = omega arith in
      rw (miss, step) (at_place p xs (let short = rw (miss, step) at within in
      omega (arith, short)))
]

end_at_place : (xs : List ℕ) → EndsLine (drop (position_or_len is_line_end xs) xs)
end_at_place [] = tt
end_at_place (x ∷ xs) = elim (cases_Bool (is_line_end x)) [
  | inl hit ↦ rw hit hit
  | inr miss ↦ let step : 1 + position_or_len is_line_end xs
      ≡ suc (position_or_len is_line_end xs) = omega arith in rw (miss, step) (end_at_place xs)
]

not_empty : (x : ℕ) (xs : List ℕ) → is_line_end x ≡ false →
    take (position_or_len is_line_end (x ∷ xs)) (x ∷ xs) ≢ []
not_empty x xs miss =
    let step : 1 + position_or_len is_line_end xs ≡ suc (position_or_len is_line_end xs) =
    omega arith in rw (miss, step) (λ e. cc e)

pub all_ends : (xs : List ℕ) → All (λ b. not (is_line_end b) ≡ false) xs →
    All (λ b. is_line_end b ≡ true) xs
all_ends xs h = All-weaker (λ b. not (is_line_end b) ≡ false) (λ b. is_line_end b ≡ true)
    (λ b e. not_false (is_line_end b) e) xs h

-- the first line that is not blank
pub first_line_at : (text left line after : List ℕ) (start end : ℕ) →
    position (λ b. not (is_line_end b)) text ≡ Some start →
    left ≡ drop start text → end ≡ position_or_len is_line_end left → line ≡ take end left →
    after ≡ drop end left →
    IsFirstLine text line after
first_line_at text left line after start end first left_is end_is line_is after_is =
    let starts = λ (b : ℕ). not (is_line_end b) in
    let place = first_place starts text start first in
    let within = (position-Some starts text start 0 first).0 in
    let at = at_place starts text (subst (λ n. n < length text) place within) in
    let left_at : left ≡ at.0 ∷ at.1 = left_is ∙ ap (λ n. drop n text) place ∙ at.2 in
    record {
      blank = take start text;
      text_is = sym (take-append-drop start text)
          ∙ ap (λ l. take start text ++ l) (sym left_is ∙ sym (take-append-drop end left)
          ∙ ap (λ l. l ++ drop end left) (sym line_is) ∙ ap (λ l. line ++ l) (sym after_is));
      blanks = subst (λ n. All (λ b. is_line_end b ≡ true) (take n text)) (sym place)
          (all_ends (take (position_or_len starts text) text) (before_place starts text));
      full = subst (λ l. l ≢ [])
          (sym (line_is ∙ ap (λ n. take n left) end_is
          ∙ ap (λ l. take (position_or_len is_line_end l) l) left_at))
          (not_empty at.0 at.1 (not_true (is_line_end at.0) at.3));
      inside = subst (All (λ b. is_line_end b ≡ false))
          (sym (line_is ∙ ap (λ n. take n left) end_is)) (before_place is_line_end left);
      ends = subst EndsLine (sym (after_is ∙ ap (λ n. drop n left) end_is)) (end_at_place left);
    }

-- the first field
pub only_field : (line : List ℕ) → position is_comma line ≡ None → fields_of_line line ≡ line ∷ []
only_field line none = slice_split_none is_comma line (no_place is_comma line none)

pub field_before : (line field behind : List ℕ) (end : ℕ) → position is_comma line ≡ Some end →
    field ≡ take end line →
    behind ≡ drop (end + 1) line → fields_of_line line ≡ field ∷ fields_of_line behind
field_before line field behind end first field_is behind_is =
    let place = first_place is_comma line end first in
    let within = (position-Some is_comma line end 0 first).0 in
    slice_split_first is_comma line 0 (subst (λ n. n < length line) place within)
    ∙ ap (λ n. take n line ∷ fields_of_line (drop (n + 1) line)) (sym place)
    ∙ ap (λ f. f ∷ fields_of_line (drop (end + 1) line)) (sym field_is)
    ∙ ap (λ l. field ∷ fields_of_line l) (sym behind_is)

-- commas at the start of a line end empty fields
fields_behind_commas : (line : List ℕ) (run : ℕ) →
    run ≤ position_or_len (λ b. not (is_comma b)) line →
    fields_of_line line ≡ replicate run [] ++ fields_of_line (drop run line)
fields_behind_commas line zero short = refl
fields_behind_commas [] (suc run) short = absurd (omega arith)
fields_behind_commas (b ∷ line) (suc run) short =
    let behind = position_or_len (λ b. not (is_comma b)) line in
    elim (cases_Bool (is_comma b)) [
      | inl comma ↦
          let place : position_or_len (λ b. not (is_comma b)) (b ∷ line) ≡ 1 + behind =
          ap (λ t. cond (not (not t)) (1 + behind) 0) comma in
          slice_split-cons_yes is_comma b line comma
          ∙ ap (λ fields. [] ∷ fields) (fields_behind_commas line run (omega arith))
      | inr other ↦
          let place : position_or_len (λ b. not (is_comma b)) (b ∷ line) ≡ 0 =
          ap (λ t. cond (not (not t)) (1 + behind) 0) other in
          absurd (omega arith)
    ]

-- the fields of what the line has behind them
pub behind_commas : (line : List ℕ) (run : ℕ) → run ≡ position_or_len (λ b. not (is_comma b)) line →
    fields_of_line line ≡ replicate run [] ++ fields_of_line
    (take (length line - run) (drop run line))
behind_commas line run count =
    fields_behind_commas line run (omega (arith, count))
    ∙ ap (λ rest. replicate run [] ++ fields_of_line rest) (sym (take_rest line run))
