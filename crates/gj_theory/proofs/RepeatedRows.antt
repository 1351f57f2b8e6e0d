-- Elimination over each row once.
use Rattle.std.proofs.Common.{◌≡◌, ℕ, zero, suc, ◌+◌, ◌⊎◌, inl, inr, ◌↔◌, Bool, true, false, if◌then◌else◌, cond, Option, None, Some, ℤ, pos, List, [], ◌∷◌, ◌++◌, length, map, get_or, drop, eqb, refl, sym, ap, subst, ◌∙◌, append_assoc, append-nil, arith}
use Rattle.std.specs.Prelude.{All, nat_le, zip}
use Rattle.std.specs.List.{range_with_len}
use Rattle.std.specs.Option.{option_map}
use Rattle.std.specs.Ordering.{int_eq}
use Rattle.std.proofs.Math.ListN.{get_or-eq_default}
use Rattle.std.proofs.lemmas.Bool.{cases_lt}
use Rattle.std.proofs.lemmas.List.{length-map, map-append}
use Rattle.std.proofs.lemmas.List.Elements.{All-nil, All-cons, All-head, All-tail, All-get_or, All-contains}
use Rattle.gj_frac.specs.Fraction.{Fits}
use Rattle.gj_shape.specs.Elimination.{KeptRow, Insertion, Elimination, whole_numbers, at_column, reduced, marked_in_step, insertion, insertion_by, inserted, inserted_at, inserted_at_by, kept_behind, row_with_pivot, elimination, elimination_from, elimination_from_by, behind_insertion, Passes}
use Rattle.gj_theory.specs.HandedOver.{kept_after, IsHandedOver, none, first, again, zeros, handed_numbers, handed_rows, renumbered}
use Rattle.gj_theory.proofs.Eliminations.{elimination_full, elimination_more}
use Rattle.gj_theory.proofs.Passing.{none_passes, front_passes, back_passes, either_passes}
use Rattle.gj_theory.proofs.Repeats.{nothing_left, zeros_inserted, repeated_keeps_nothing, repeated_passes}

-- ---- kept rows with other numbers

found_renumbered : (numbers : List ℕ) (kept : List KeptRow) (c : ℕ) →
    row_with_pivot (map (renumbered numbers) kept) c ≡ option_map (renumbered numbers)
    (row_with_pivot kept c)
found_renumbered numbers [] c = refl
found_renumbered numbers (k ∷ kept) c = by_test (eqb k.pivot c) (found_renumbered numbers kept c)
  where
    by_test : (b : Bool) →
        row_with_pivot (map (renumbered numbers) kept) c ≡ option_map (renumbered numbers)
        (row_with_pivot kept c) →
        cond b (Some (renumbered numbers k)) (row_with_pivot (map (renumbered numbers) kept) c)
        ≡ option_map (renumbered numbers) (cond b (Some k) (row_with_pivot kept c))
    by_test true e = refl
    by_test false e = e

-- an insertion does not look at numbers
insertion_renumbered : (numbers : List ℕ) (kept : List KeptRow) (columns : List ℕ) (row : List ℤ) →
    insertion (map (renumbered numbers) kept) columns row ≡ insertion kept columns row
unfolding insertion_by inserted_at_by
insertion_renumbered numbers kept [] row = refl
insertion_renumbered numbers kept (c ∷ columns) row =
    by_test (int_eq (at_column row c) (pos 0)) (insertion_renumbered numbers kept columns)
  where
    at_pivot : ((next : List ℤ) → insertion (map (renumbered numbers) kept) columns next
        ≡ insertion kept columns next) →
        (o : Option KeptRow) →
        inserted_at (option_map (renumbered numbers) o) c row
        (insertion (map (renumbered numbers) kept) columns)
        ≡ inserted_at o c row (insertion kept columns)
    at_pivot later None = refl
    at_pivot later (Some k) =
        ap (λ i. record {
          reduce = c ∷ i.reduce;
          kept = i.kept;
          marked =
              marked_in_step k.entries row c ++ i.marked;
        })
        (later (reduced k.entries row c))

    by_test : (b : Bool) →
        ((next : List ℤ) → insertion (map (renumbered numbers) kept) columns next
        ≡ insertion kept columns next) →
        (if b then insertion (map (renumbered numbers) kept) columns row
        else inserted_at (row_with_pivot (map (renumbered numbers) kept) c) c row
        (insertion (map (renumbered numbers) kept) columns))
        ≡ (if b then insertion kept columns row else inserted_at (row_with_pivot kept c) c row
        (insertion kept columns))
    by_test true later = later row
    by_test false later =
        ap (λ o. inserted_at o c row (insertion (map (renumbered numbers) kept) columns))
        (found_renumbered numbers kept c)
        ∙ at_pivot later (row_with_pivot kept c)

behind_renumbered : (numbers : List ℕ) (kept : List KeptRow) (number place : ℕ) (reduce : List ℕ)
    (o : Option (ℕ × List ℤ)) →
    get_or numbers place 0 ≡ number →
    kept_behind (map (renumbered numbers) kept) number reduce o
    ≡ map (renumbered numbers) (kept_behind kept place reduce o)
unfolding kept_behind
behind_renumbered numbers kept number place reduce None e = refl
behind_renumbered numbers kept number place reduce (Some p) e =
    ap
    (λ (j : ℕ). map (renumbered numbers) kept ++ record {
      number = j;
      reduce = reduce;
      pivot =
          p.0;
      entries = p.1;
    } ∷ [])
    (sym e)
    ∙ sym
    (map-append (renumbered numbers) kept
    (record { number = place; reduce = reduce; pivot = p.0; entries = p.1 } ∷ []))

-- ---- rows that were inserted

-- the row was inserted, and if numbers passed then, D
record WasInserted (n : ℕ) (D : Type 0) (kept : List KeptRow) (row : List ℤ) : Type 0 where
  pub before : List KeptRow
  pub number : ℕ
  pub more : List KeptRow
  pub now : kept ≡ kept_after n before number row more
  pub passed : Passes (inserted n before row).marked → D

-- the rows that are kept behind others
new_rows : ℕ → List ℕ → Option (ℕ × List ℤ) → List KeptRow
new_rows number reduce None = []
new_rows number reduce (Some p) =
    record { number = number; reduce = reduce; pivot = p.0; entries = p.1 } ∷ []

behind_is : (kept : List KeptRow) (number : ℕ) (reduce : List ℕ) (o : Option (ℕ × List ℤ)) →
    kept_behind kept number reduce o ≡ kept ++ new_rows number reduce o
unfolding kept_behind new_rows
behind_is kept number reduce None = sym (append-nil kept)
behind_is kept number reduce (Some p) = refl

stays_inserted : (n : ℕ) (D E : Type 0) (kept : List KeptRow) (number : ℕ) (reduce : List ℕ)
    (o : Option (ℕ × List ℤ)) →
    (D → E) → (row : List ℤ) → WasInserted n D kept row →
    WasInserted n E (kept_behind kept number reduce o) row
stays_inserted n D E kept number reduce o along row h = record {
  before = h.before;
  number = h.number;
  more = h.more ++ new_rows number reduce o;
  now = behind_is kept number reduce o ∙ ap (λ k. k ++ new_rows number reduce o) h.now
      ∙ append_assoc (kept_behind h.before h.number (inserted n h.before row).reduce
      (inserted n h.before row).kept) h.more
      (new_rows number reduce o);
  passed = λ p. along (h.passed p);
}

just_inserted : (n : ℕ) (D : Type 0) (kept : List KeptRow) (number : ℕ) (row : List ℤ) →
    (Passes (inserted n kept row).marked → D) →
    WasInserted n D (kept_behind kept number (inserted n kept row).reduce
    (inserted n kept row).kept) row
just_inserted n D kept number row passed = record {
  before = kept;
  number = number;
  more = [];
  now = sym (append-nil
      (kept_behind kept number (inserted n kept row).reduce (inserted n kept row).kept));
  passed = passed;
}

all_stay : (n : ℕ) (D E : Type 0) (kept : List KeptRow) (number : ℕ) (reduce : List ℕ)
    (o : Option (ℕ × List ℤ)) →
    (D → E) → (rows : List (List ℤ)) → All (WasInserted n D kept) rows →
    All (WasInserted n E (kept_behind kept number reduce o)) rows
all_stay n D E kept number reduce o along rows all =
    λ i d low. stays_inserted n D E kept number reduce o along (get_or rows i d) (all i d low)

again_nothing : (n : ℕ) (D : Type 0) (kept : List KeptRow) (row : List ℤ) →
    WasInserted n D kept row →
    (inserted n kept row).kept ≡ None
again_nothing n D kept row h =
    ap (λ k. (inserted n k row).kept) h.now ∙ repeated_keeps_nothing n h.number h.before h.more row

again_passes : (n : ℕ) (D : Type 0) (kept : List KeptRow) (row : List ℤ) →
    WasInserted n D kept row → All Fits row →
    Passes (inserted n kept row).marked → D
again_passes n D kept row h fits p =
    h.passed
    (repeated_passes n h.number h.before h.more row fits
    (subst (λ k. Passes (inserted n k row).marked) h.now p))

behind_nothing : (kept : List KeptRow) (number : ℕ) (reduce : List ℕ) (o : Option (ℕ × List ℤ)) →
    o ≡ None →
    kept_behind kept number reduce o ≡ kept
unfolding kept_behind
behind_nothing kept number reduce o e = ap (kept_behind kept number reduce) e

-- ---- the two eliminations

-- an elimination of all rows, and one of those that are handed over
record SameOutcome (D F : Type 0) (numbers : List ℕ) (all handed : Elimination) : Type 0 where
  pub kept : all.kept ≡ map (renumbered numbers) handed.kept
  pub passes : F → Passes all.marked → D ⊎ Passes handed.marked
  pub back : Passes handed.marked → Passes all.marked

abbrev full : List KeptRow → Elimination
full kept = record { kept = kept; marked = [] }

abbrev one_row : (n : ℕ) (kept : List KeptRow) (number : ℕ) (row : List ℤ) (rows : List (List ℤ)) →
    Elimination
one_row n kept number row rows =
    behind_insertion (inserted n kept row).marked
    (elimination_from n (kept_behind kept number (inserted n kept row).reduce
    (inserted n kept row).kept) (number + 1) rows)

both_full : (D F : Type 0) (numbers : List ℕ) (kept kept' : List KeptRow)
    (all handed : Elimination) →
    kept ≡ map (renumbered numbers) kept' → all ≡ full kept → handed ≡ full kept' →
    SameOutcome D F numbers all handed
both_full D F numbers kept kept' all handed same all_is handed_is = record {
  kept = ap (λ e. e.kept) all_is ∙ same ∙ ap (λ e. map (renumbered numbers) e.kept) (sym handed_is);
  passes = λ f p. absurd (none_passes (subst (λ (e : Elimination). Passes e.marked) all_is p));
  back = λ p. absurd (none_passes (subst (λ (e : Elimination). Passes e.marked) handed_is p));
}

-- behind a row that changes nothing
skipped : (n : ℕ) (D F G : Type 0) (numbers : List ℕ) (kept : List KeptRow) (number : ℕ)
    (row : List ℤ) (rows : List (List ℤ))
    (all handed : Elimination) → all ≡ one_row n kept number row rows →
    (inserted n kept row).kept ≡ None →
    (G → Passes (inserted n kept row).marked → D) → (G → F) →
    SameOutcome D F numbers (elimination_from n kept (number + 1) rows) handed →
    SameOutcome D G numbers all handed
skipped n D F G numbers kept number row rows all handed all_is nothing passed weaker later =
    let behind = elimination_from n
    (kept_behind kept number (inserted n kept row).reduce (inserted n kept row).kept)
    (number + 1) rows in
    let same : behind ≡ elimination_from n kept (number + 1) rows =
    ap (λ k. elimination_from n k (number + 1) rows)
    (behind_nothing kept number (inserted n kept row).reduce (inserted n kept row).kept nothing) in
    record {
      kept = ap (λ e. e.kept) all_is ∙ ap (λ e. e.kept) same ∙ later.kept;
      passes = λ g p.
          elim
          (either_passes (inserted n kept row).marked behind.marked
          (subst (λ (e : Elimination). Passes e.marked) all_is p)) [
            | inl q ↦ inl (passed g q)
            | inr q ↦ later.passes (weaker g) (subst (λ (e : Elimination). Passes e.marked) same q)
          ];
      back = λ p.
          subst (λ (e : Elimination). Passes e.marked) (sym all_is)
          (back_passes (inserted n kept row).marked behind.marked
          (subst (λ (e : Elimination). Passes e.marked) (sym same) (later.back p)));
    }

-- behind a row that is handed over
taken : (D F G : Type 0) (numbers : List ℕ) (marked marked' : List ℤ)
    (all handed behind behind' : Elimination) →
    all ≡ behind_insertion marked behind → handed ≡ behind_insertion marked' behind' →
    marked ≡ marked' → (G → F) →
    SameOutcome (D ⊎ Passes marked) F numbers behind behind' → SameOutcome D G numbers all handed
taken D F G numbers marked marked' all handed behind behind' all_is handed_is same weaker later =
    record {
      kept = ap (λ e. e.kept) all_is ∙ later.kept
          ∙ ap (λ e. map (renumbered numbers) e.kept) (sym handed_is);
      passes = λ g p.
          elim (either_passes marked behind.marked
          (subst (λ (e : Elimination). Passes e.marked) all_is p)) [
            | inl q ↦ inr (first_part q)
            | inr q ↦ elim (later.passes (weaker g) q) [
              | inl d ↦ elim d [ inl e ↦ inl e | inr e ↦ inr (first_part e) ]
              | inr e ↦ inr (onto_handed (back_passes marked' behind'.marked e))
            ]
          ];
      back = λ p.
          subst (λ (e : Elimination). Passes e.marked) (sym all_is)
          (elim (either_passes marked' behind'.marked
          (subst (λ (e : Elimination). Passes e.marked) handed_is p)) [
            | inl q ↦ front_passes marked behind.marked (subst Passes (sym same) q)
            | inr q ↦ back_passes marked behind.marked (later.back q)
          ]);
    }
  where
    onto_handed : Passes (marked' ++ behind'.marked) → Passes handed.marked
    onto_handed p = subst (λ (e : Elimination). Passes e.marked) (sym handed_is) p

    first_part : Passes marked → Passes handed.marked
    first_part q = onto_handed (front_passes marked' behind'.marked (subst Passes same q))

-- the numbers from a place on
next_number : (numbers : List ℕ) (place y : ℕ) (ys : List ℕ) → drop place numbers ≡ y ∷ ys →
    (get_or numbers place 0 ≡ y) × (drop (place + 1) numbers ≡ ys)
next_number [] zero y ys e = absurd cc
next_number [] (suc place) y ys e = absurd cc
next_number (x ∷ numbers) zero y ys e =
    (ap (λ xs. get_or xs 0 0) e, ap (λ xs. drop 1 xs) e)
next_number (x ∷ numbers) (suc place) y ys e =
    let (here, later) = next_number numbers place y ys e in (
      here,
      ap (λ (j : ℕ). drop j (x ∷ numbers)) (let is : suc place + 1 ≡ suc (place + 1) =
          omega arith in is) ∙ later,
    )

abbrev AllFit : List (List ℤ) → List (List ℤ) → Type 0
AllFit before rows = All (All Fits) before × All (All Fits) rows

one_fits : (before : List (List ℤ)) (row : List ℤ) (rows : List (List ℤ)) →
    AllFit before (row ∷ rows) → AllFit (row ∷ before) rows
one_fits before row rows h = (
  All-cons (All Fits) row before (All-head (All Fits) row rows h.1) h.0,
  All-tail
      (All Fits) row rows h.1,
)

same_length : (numbers : List ℕ) (kept kept' : List KeptRow) (n : ℕ) (b : Bool) →
    kept ≡ map (renumbered numbers) kept' →
    nat_le n (length kept) ≡ b → nat_le n (length kept') ≡ b
same_length numbers kept kept' n b same e =
    ap (nat_le n) (sym (ap length same ∙ length-map kept' (renumbered numbers))) ∙ e

-- what the insertions of one row into both keep, with its place in the list of those that are
-- handed over
same_insertion : (n : ℕ) (numbers : List ℕ) (kept kept' : List KeptRow) (row : List ℤ) →
    kept ≡ map (renumbered numbers) kept' →
    inserted n kept row ≡ inserted n kept' row
same_insertion n numbers kept kept' row same =
    ap (λ k. inserted n k row) same ∙ insertion_renumbered numbers kept' (range_with_len 0 n) row

same_behind : (n : ℕ) (numbers : List ℕ) (kept kept' : List KeptRow) (number place : ℕ)
    (row : List ℤ) →
    kept ≡ map (renumbered numbers) kept' → get_or numbers place 0 ≡ number →
    kept_behind kept number (inserted n kept row).reduce (inserted n kept row).kept
    ≡ map (renumbered numbers)
    (kept_behind kept' place (inserted n kept' row).reduce (inserted n kept' row).kept)
same_behind n numbers kept kept' number place row same here =
    ap (λ i. kept_behind kept number i.reduce i.kept) (same_insertion n numbers kept kept' row same)
    ∙ ap (λ k. kept_behind k number (inserted n kept' row).reduce (inserted n kept' row).kept) same
    ∙ behind_renumbered numbers kept' number place (inserted n kept' row).reduce
    (inserted n kept' row).kept here

first_step : (n : ℕ) (D : Type 0) (numbers : List ℕ) (kept kept' : List KeptRow) (place : ℕ)
    (before : List (List ℤ)) (number : ℕ)
    (row : List ℤ) (rows more : List (List ℤ)) → kept ≡ map (renumbered numbers) kept' →
    SameOutcome (D ⊎ Passes (inserted n kept row).marked) (AllFit (row ∷ before) rows) numbers
    (elimination_from n (kept_behind kept number (inserted n kept row).reduce
    (inserted n kept row).kept) (number + 1) rows)
    (elimination_from n (kept_behind kept' place (inserted n kept' row).reduce
    (inserted n kept' row).kept) (place + 1) more) →
    (b : Bool) → nat_le n (length kept) ≡ b →
    SameOutcome D (AllFit before (row ∷ rows)) numbers (elimination_from n kept number (row ∷ rows))
    (elimination_from n kept' place (row ∷ more))
first_step n D numbers kept kept' place before number row rows more same later true e =
    both_full D (AllFit before (row ∷ rows)) numbers kept kept'
    (elimination_from n kept number (row ∷ rows))
    (elimination_from n kept' place (row ∷ more)) same
    (elimination_full whole_numbers n kept number (row ∷ rows) e)
    (elimination_full whole_numbers n kept' place (row ∷ more)
    (same_length numbers kept kept' n true same e))
first_step n D numbers kept kept' place before number row rows more same later false e =
    taken D (AllFit (row ∷ before) rows) (AllFit before (row ∷ rows)) numbers
    (inserted n kept row).marked
    (inserted n kept' row).marked (elimination_from n kept number (row ∷ rows))
    (elimination_from n kept' place (row ∷ more))
    (elimination_from n (kept_behind kept number (inserted n kept row).reduce
    (inserted n kept row).kept) (number + 1) rows)
    (elimination_from n (kept_behind kept' place (inserted n kept' row).reduce
    (inserted n kept' row).kept) (place + 1) more)
    (elimination_more whole_numbers n kept number row rows e)
    (elimination_more whole_numbers n kept' place row more
    (same_length numbers kept kept' n false same e))
    (ap (λ i. i.marked) (same_insertion n numbers kept kept' row same))
    (one_fits before row rows) later

skipped_step : (n : ℕ) (D : Type 0) (numbers : List ℕ) (kept kept' : List KeptRow) (place : ℕ)
    (before : List (List ℤ)) (number : ℕ)
    (row : List ℤ) (rows more : List (List ℤ)) → kept ≡ map (renumbered numbers) kept' →
    (inserted n kept row).kept ≡ None →
    (AllFit before (row ∷ rows) → Passes (inserted n kept row).marked → D) →
    SameOutcome D (AllFit before rows) numbers (elimination_from n kept (number + 1) rows)
    (elimination_from n kept' place more) →
    (b : Bool) → nat_le n (length kept) ≡ b →
    SameOutcome D (AllFit before (row ∷ rows)) numbers (elimination_from n kept number (row ∷ rows))
    (elimination_from n kept' place more)
skipped_step n D numbers kept kept' place before number row rows more same nothing passed later true
    e =
    both_full D (AllFit before (row ∷ rows)) numbers kept kept'
    (elimination_from n kept number (row ∷ rows))
    (elimination_from n kept' place more) same
    (elimination_full whole_numbers n kept number (row ∷ rows) e)
    (elimination_full whole_numbers n kept' place more
    (same_length numbers kept kept' n true same e))
skipped_step n D numbers kept kept' place before number row rows more same nothing passed later
    false e =
    skipped n D (AllFit before rows) (AllFit before (row ∷ rows)) numbers kept number row rows
    (elimination_from n kept number (row ∷ rows)) (elimination_from n kept' place more)
    (elimination_more whole_numbers n kept number row rows e)
    nothing passed (λ h. (h.0, All-tail (All Fits) row rows h.1)) later

all_zeros : (row : List ℤ) → All (λ x. x ≡ pos 0) row → (i : ℕ) → at_column row i ≡ pos 0
all_zeros row are i =
    elim (cases_lt i (length row)) [
      | inl low ↦ All-get_or (λ x. x ≡ pos 0) row i (pos 0) low are
      | inr past ↦ get_or-eq_default row (pos 0) past
    ]

zeros_nothing : (n : ℕ) (kept : List KeptRow) (row : List ℤ) → All (λ x. x ≡ pos 0) row →
    inserted n kept row ≡ nothing_left
zeros_nothing n kept row are = zeros_inserted whole_numbers kept (range_with_len 0 n) row
    (all_zeros row are)

same_outcome : (n : ℕ) (D : Type 0) (numbers : List ℕ) (kept kept' : List KeptRow) (place : ℕ)
    (before : List (List ℤ)) (number : ℕ)
    (rows : List (List ℤ)) (handed : List (ℕ × List ℤ)) → IsHandedOver before number rows handed →
    kept ≡ map (renumbered numbers) kept' → drop place numbers ≡ handed_numbers handed →
    All (WasInserted n D kept) before →
    SameOutcome D (AllFit before rows) numbers (elimination_from n kept number rows)
    (elimination_from n kept' place (handed_rows handed))
unfolding elimination_from_by
same_outcome n D numbers kept kept' place _ _ _ _ (none before number) same rest all =
    both_full D (AllFit before []) numbers kept kept' (full kept) (full kept') same refl refl
same_outcome n D numbers kept kept' place _ _ _ _ (first before number row rows handed h) same rest
    all =
    let i = inserted n kept row in
    let i' = inserted n kept' row in
    let (here, later) = next_number numbers place number (handed_numbers handed) rest in
    let E = D ⊎ Passes i.marked in
    first_step n D numbers kept kept' place before number row rows (handed_rows handed) same
    (same_outcome n E numbers (kept_behind kept number i.reduce i.kept)
    (kept_behind kept' place i'.reduce i'.kept) (place + 1)
    (row ∷ before) (number + 1) rows handed h
    (same_behind n numbers kept kept' number place row same here) later
    (All-cons (WasInserted n E (kept_behind kept number i.reduce i.kept)) row before
    (just_inserted n E kept number row (λ p. inr p))
    (all_stay n D E kept number i.reduce i.kept (λ d. inl d) before all)))
    (nat_le n (length kept)) refl
same_outcome n D numbers kept kept' place _ _ _ _ (again before number row rows handed has h) same
    rest all =
    let was = All-contains (WasInserted n D kept) before row all has in
    skipped_step n D numbers kept kept' place before number row rows (handed_rows handed) same
    (again_nothing n D kept row was)
    (λ fit p. again_passes n D kept row was (All-head (All Fits) row rows fit.1) p)
    (same_outcome n D numbers kept kept' place before (number + 1) rows handed h same rest all)
    (nat_le n (length kept)) refl
same_outcome n D numbers kept kept' place _ _ _ _ (zeros before number row rows handed are h) same
    rest all =
    let nothing = zeros_nothing n kept row are in
    skipped_step n D numbers kept kept' place before number row rows (handed_rows handed) same
    (ap (λ i. i.kept) nothing)
    (λ fit p. absurd (none_passes (subst (λ (i : Insertion). Passes i.marked) nothing p)))
    (same_outcome n D numbers kept kept' place before (number + 1) rows handed h same rest all)
    (nat_le n (length kept)) refl

once : (n : ℕ) (rows : List (List ℤ)) (handed : List (ℕ × List ℤ)) → IsHandedOver [] 0 rows handed →
    SameOutcome ⊥ (AllFit [] rows) (handed_numbers handed) (elimination n rows)
    (elimination n (handed_rows handed))
once n rows handed h =
    same_outcome n ⊥ (handed_numbers handed) [] [] 0 [] 0 rows handed h refl refl
    (All-nil (WasInserted n ⊥ []))

pub once_keeps : (n : ℕ) (rows : List (List ℤ)) (handed : List (ℕ × List ℤ)) →
    IsHandedOver [] 0 rows handed →
    (elimination n rows).kept ≡ map (renumbered (handed_numbers handed))
    (elimination n (handed_rows handed)).kept
once_keeps n rows handed h = (once n rows handed h).kept

pub once_passes : (n : ℕ) (rows : List (List ℤ)) (handed : List (ℕ × List ℤ)) →
    IsHandedOver [] 0 rows handed →
    All (All Fits) rows →
    (Passes (elimination n rows).marked ↔ Passes (elimination n (handed_rows handed)).marked)
once_passes n rows handed h fit = (
  λ p. elim ((once n rows handed h).passes (All-nil (All Fits), fit) p)
      [ inl never ↦ absurd never | inr q ↦ q ],
  λ p. (once n rows handed h).back p,
)

-- all rows can be handed over
pub all_handed_over : (before : List (List ℤ)) (number : ℕ) (rows : List (List ℤ)) →
    IsHandedOver before number rows (zip (range_with_len number (length rows)) rows)
all_handed_over before number [] = none before number
all_handed_over before number (row ∷ rows) =
    first before number row rows (zip (range_with_len (number + 1) (length rows)) rows)
    (all_handed_over (row ∷ before) (number + 1) rows)
