-- The records that `csv` reads one after the other are the records of the text.
use Rattle.std.proofs.Common.{◌≡◌, ℕ, ◌+◌, ◌-◌, ◌<◌, ◌≤◌, zero, suc, ◌==◌, ◌⊎◌, Bool, true, false, if◌then◌else◌, List, [], ◌∷◌, ◌++◌, length, Option, Some, None, refl, sym, ap, ◌∙◌, subst, inl, inr, arith}
use Rattle.std.proofs.lemmas.List.{append-nil}
use Rattle.gj_lemmas.proofs.Choices.{same_some}
use Rattle.csv.specs.Machine.{Read, step, in_field, start_field, start_record, is_end, ends_at_end, next_record}
use Rattle.csv.specs.Reading.{Reached, records, records_from, records_next, default_config}
use Rattle.csv.specs.declared.parser.Action.{Action}
use Rattle.csv.specs.declared.parser.Action.TheVariants as act
use Rattle.csv.specs.declared.parser.State.{State}
use Rattle.csv.specs.declared.parser.State.TheVariants as st

-- ---- a record takes at least a byte

-- the state of a pair, if its action ends a record, is that before the first byte of a record
record IsDone (p : State × Action) : Type 0 where
  start : is_end p.1 ≡ true → ends_at_end p.0 ≡ false

done_between : (b : Bool) (p q : State × Action) → IsDone p → IsDone q → IsDone (if b then p else q)
done_between true p q h k = h
done_between false p q h k = k

done_state : (b : Bool) → ends_at_end (if b then st.AfterCr else st.StartRecord) ≡ false
done_state true = refl
done_state false = refl

goes_on : (s : State) (a : Action) → is_end a ≡ false → IsDone (s, a)
goes_on s a e = record { start = λ h. cc }

done_in_field : (c : ℕ) → IsDone (in_field default_config c)
done_in_field c =
    done_between _ _ _ (goes_on st.StartField act.EndField refl)
    (done_between _ _ _ (record { start = λ e. done_state (c == 13) })
    (goes_on st.InField act.Copy refl))

done_at_start : (c : ℕ) → IsDone (start_field default_config c)
done_at_start c = done_between _ _ _ (goes_on st.InQuoted act.Skip refl) (done_in_field c)

done_in_record : (c : ℕ) → IsDone (start_record default_config c)
done_in_record c =
    done_between _ _ _ (goes_on st.StartRecord act.Skip refl) (done_at_start c)

done : (s : State) (c : ℕ) → IsDone (step default_config s c)
done st.StartRecord c = done_in_record c
done st.StartField c = done_at_start c
done st.InField c = done_in_field c
done st.InQuoted c =
    done_between _ _ _ (goes_on st.AfterQuote act.Skip refl) (goes_on st.InQuoted act.Copy refl)
done st.InEscape c = goes_on st.InQuoted act.Copy refl
done st.AfterQuote c = done_between _ _ _ (goes_on st.InQuoted act.Copy refl) (done_in_field c)
done st.InComment c =
    done_between _ _ _ (goes_on st.StartRecord act.Skip refl) (goes_on st.InComment act.Skip refl)
done st.AfterCr c = done_between _ _ _ (goes_on st.StartRecord act.Skip refl) (done_in_record c)

at_end : (b : Bool) (r q : Read) → (if b then Some r else None) ≡ Some q → (b ≡ true) × (r ≡ q)
at_end true r q e = (refl, same_some r q e)
at_end false r q e = cc e

at_byte : (b : Bool) (r q : Read) (more : Option Read) → (if b then Some r else more) ≡ Some q →
    ((b ≡ true) × (r ≡ q)) ⊎ (more ≡ Some q)
at_byte true r q more e = inl (refl, same_some r q e)
at_byte false r q more e = inr e

-- what is left is no longer, and the state is one before the first byte of a record
record Leaves (n : ℕ) (q : Read) : Type 0 where
  rest : length q.2 ≤ n
  state : ends_at_end q.1 ≡ false

leaves : (s : State) (f : List (List ℕ)) (p xs : List ℕ) (q : Read) →
    next_record default_config s f p xs ≡ Some q → Leaves (length xs) q
unfolding next_record
leaves s f p [] q e =
    let end = at_end (ends_at_end s) _ q e in
    subst (Leaves 0) end.1 (record { rest = omega arith; state = refl })
leaves s f p (c ∷ xs) q e =
    elim (at_byte (is_end (step default_config s c).1) _ q _ e) [
      | inl end ↦ subst (Leaves (suc (length xs))) end.1
          (record { rest = omega arith; state = (done s c).start end.0 })
      | inr more ↦
          let h = leaves (step default_config s c).0 _ _ xs q more in
          record { rest = omega (arith, h.rest); state = h.state }
    ]

-- from before the first byte of a record, one is taken
takes_byte : (s : State) (xs : List ℕ) (q : Read) → ends_at_end s ≡ false →
    next_record default_config s [] [] xs ≡ Some q →
    length q.2 < length xs
unfolding next_record
takes_byte s [] q start e = let end = at_end (ends_at_end s) _ q e in cc (start, end.0)
takes_byte s (c ∷ xs) q start e =
    elim (at_byte (is_end (step default_config s c).1) _ q _ e) [
      | inl end ↦ subst (λ r. length r.2 < suc (length xs)) end.1 (omega arith)
      | inr more ↦ let h = leaves (step default_config s c).0 _ _ xs q more in omega (arith, h.rest)
    ]

-- ---- records one after the other

few_records : (s : State) (xs : List ℕ) (rows : List (List (List ℕ))) (t : State) (ys : List ℕ) →
    ends_at_end s ≡ false →
    Reached default_config s xs rows t ys → length rows + length ys ≤ length xs
unfolding Reached
few_records s xs [] t ys start h = let e : length xs ≡ length ys = ap length h.1 in omega arith
few_records s xs (r ∷ rows) t ys start h =
    let q = h.0 in
    let byte = takes_byte s xs q start h.1 in
    let state = (leaves s [] [] xs q h.1).state in
    let more = few_records q.1 q.2 rows t ys state h.3 in
    omega arith

records_behind : (s : State) (xs : List ℕ) (rows : List (List (List ℕ))) (t : State) (ys : List ℕ)
    (n : ℕ) →
    Reached default_config s xs rows t ys →
    records_from default_config (length rows + n) s xs ≡ rows ++ records_from default_config n t ys
unfolding Reached records_from
records_behind s xs [] t ys n h =
    ap (λ k. records_from default_config k s xs) (omega arith)
    ∙ ap (λ z. records_from default_config n z xs) h.0 ∙ ap (records_from default_config n t) h.1
records_behind s xs (r ∷ rows) t ys n h =
    let q = h.0 in
    let fuel : suc (length rows) + n ≡ suc (length rows + n) = omega arith in
    ap (λ k. records_from default_config k s xs) fuel
    ∙ ap (records_next (records_from default_config (length rows + n))) h.1
    ∙ ap (λ z. z ∷ records_from default_config (length rows + n) q.1 q.2) (sym h.2)
    ∙ ap (λ l. r ∷ l) (records_behind q.1 q.2 rows t ys n h.3)

-- the records of the text begin with those that were read
pub records_begin : (xs : List ℕ) (rows : List (List (List ℕ))) (t : State) (ys : List ℕ) →
    Reached default_config st.StartRecord xs rows t ys →
    (more : List (List (List ℕ))) × (records default_config xs ≡ rows ++ more)
records_begin xs rows t ys h =
    let few = few_records st.StartRecord xs rows t ys refl h in
    let n = length xs + 1 - length rows in
    let fuel : length xs + 1 ≡ length rows + n = omega arith in (
      records_from default_config n t ys,
      ap (λ k. records_from default_config k st.StartRecord xs) fuel
          ∙ records_behind st.StartRecord xs rows t ys n h,
    )

no_more : (n : ℕ) (t : State) (ys : List ℕ) → next_record default_config t [] [] ys ≡ None →
    records_from default_config n t ys ≡ []
unfolding records_from
no_more zero t ys none = refl
no_more (suc n) t ys none = ap (records_next (records_from default_config n)) none

-- and are those, if no record follows
pub records_end : (xs : List ℕ) (rows : List (List (List ℕ))) (t : State) (ys : List ℕ) →
    Reached default_config st.StartRecord xs rows t ys →
    next_record default_config t [] [] ys ≡ None →
    records default_config xs ≡ rows
records_end xs rows t ys h none =
    let few = few_records st.StartRecord xs rows t ys refl h in
    let n = length xs + 1 - length rows in
    let fuel : length xs + 1 ≡ length rows + n = omega arith in
    ap (λ k. records_from default_config k st.StartRecord xs) fuel
    ∙ records_behind st.StartRecord xs rows t ys n h
    ∙ ap (λ l. rows ++ l) (no_more n t ys none) ∙ append-nil rows
