-- Rows that are taken one after another from those to come.
use Rattle.std.proofs.Common.{◌≡◌, ℕ, ◌+◌, ◌<◌, ◌≤◌, ◌^◌, ◌↔◌, ◌⊎◌, inl, inr, Bool, true, false, Option, None, Some, ℤ, List, [], ◌∷◌, ◌++◌, length, map, get_or, refl, sym, ap, ap₂, ◌∙◌, subst, append_assoc, arith}
use Rattle.std.specs.Prelude.{All, Contains, nat_le, pos, zip, IsTrue}
use Rattle.std.specs.List.{range_with_len}
use Rattle.std.proofs.Math.Seq.{get_or-append_seam}
use Rattle.std.proofs.lemmas.Bool.{lt-leb, le-leb, cases_lt}
use Rattle.std.proofs.lemmas.List.{append-nil, length-append, length-map, map-append}
use Rattle.std.proofs.lemmas.List.Elements.{All-map, Contains-append_left, Contains-append_right, Contains-push}
use Rattle.gj_frac.specs.Fraction.{Fits}
use Rattle.gj_shape.specs.Elimination.{KeptRow, Elimination, elimination, elimination_from, elimination_from_by, behind_insertion, inserted, kept_behind, Passes}
use Rattle.gj_shape.specs.FunctionData.{FunctionData, IsWithinBounds}
use Rattle.gj_shape.specs.SlopeRows.{row_names}
use Rattle.gj_shape.specs.declared.extremality.RowName.{RowName}
use Rattle.gj_shape.specs.declared.extremality.RowName.TheVariants.{Period, F, Pair}
use Rattle.gj_elim.specs.Data.{BasisData, behind}
use Rattle.gj_elim.specs.KeptRows.{answer_of}
use Rattle.gj_elim.specs.declared.log.Inserted.TheVariants.{Pivot, Nothing}
use Rattle.gj_system.proofs.RowCounts.{entries_small}
use Rattle.gj_theory.specs.HandedOver.{IsHandedOver, none as none_handed, first as first_handed, again as again_handed, zeros as zeros_handed, handed_numbers, handed_rows, renumbered}
use Rattle.gj_theory.proofs.ExtremeByCover.{each_row}
use Rattle.gj_theory.proofs.Passing.{none_passes, front_passes, back_passes, either_passes}
use Rattle.gj_theory.proofs.RepeatedRows.{once_keeps, once_passes, all_handed_over}
use Rattle.gj_proof.specs.PresentRows.{named_row}
use Rattle.gj_extreme.specs.Decision.{slope_elimination}
use Rattle.gj_extreme.specs.RowsToCome.{name_of, rows_named, AreNextNames, AreHandedOver, AreToCome, IsTaken, AreInserted, IsReady}
use Rattle.gj_extreme.specs.SeenPairs.{IsSeenName, IsSeenRow}
use Rattle.gj_extreme.specs.declared.inserted_rows.Rows.{Rows}
use Rattle.gj_extreme.specs.declared.seen.SeenPair.{SeenPair}
use Rattle.gj_extreme.proofs.RowOrder.{rows_short, cons_cases}

-- ---- the elimination, one row further

-- with as many rows as columns it stops
elimination_full : (n : ℕ) (kept : List KeptRow) (number : ℕ) (rows : List (List ℤ)) →
    n ≤ length kept →
    elimination_from n kept number rows ≡ record { kept = kept; marked = [] }
unfolding elimination_from_by
elimination_full n kept number [] full = refl
elimination_full n kept number (row ∷ rows) full =
    let e : nat_le n (length kept) ≡ true = le-leb n (length kept) full in
    rw e refl

elimination_next : (n : ℕ) (kept : List KeptRow) (number : ℕ) (row : List ℤ)
    (rows : List (List ℤ)) → length kept < n →
    elimination_from n kept number (row ∷ rows)
    ≡ behind_insertion (inserted n kept row).marked
    (elimination_from n (kept_behind kept number (inserted n kept row).reduce
    (inserted n kept row).kept) (number + 1) rows)
unfolding elimination_from_by
elimination_next n kept number row rows short =
    let e : nat_le n (length kept) ≡ false = lt-leb n (length kept) short in
    rw e refl

elimination_none : (n : ℕ) (kept : List KeptRow) (number : ℕ) →
    elimination_from n kept number [] ≡ record { kept = kept; marked = [] }
unfolding elimination_from_by
elimination_none n kept number = refl

-- ---- names of rows

-- the next name stands behind the first so many
next_name : (f : FunctionData) (number : ℕ) (name : RowName) (rest : List RowName) →
    AreNextNames f number (name ∷ rest) →
    get_or (row_names f) number Period ≡ name
next_name f number name rest (before, place, len) =
    ap (λ l. get_or l number Period) place ∙ ap (λ i. get_or (before ++ name ∷ rest) i Period)
    (sym len)
    ∙ get_or-append_seam before name rest Period

one_name_further : (f : FunctionData) (number : ℕ) (name : RowName) (rest : List RowName) →
    AreNextNames f number (name ∷ rest) →
    AreNextNames f (number + 1) rest
one_name_further f number name rest (before, place, len) =
    let longer = length-append before (name ∷ []) in
    let more : length (before ++ name ∷ []) ≡ number + 1 = omega arith in
    (before ++ name ∷ [], place ∙ sym (append_assoc before (name ∷ []) rest), more)

next_number : (f : FunctionData) (number : ℕ) (rest : List RowName) → IsWithinBounds f →
    AreNextNames f number rest → number < 2 ^ 32
next_number f number rest l (before, place, len) =
    let short = rows_short f l in
    let whole = ap length place in
    let parts = length-append before rest in
    omega arith

-- the entries of all rows are within the bound
pub all_fit : (f : FunctionData) (component : ℕ → ℕ) (n : ℕ) → IsWithinBounds f →
    All (All Fits) (rows_named f component n (row_names f))
all_fit f component n l =
    let small : f.order < 2 ^ 64 = let high = l.order_high in omega arith in
    let each = λ (name : RowName). entries_small component n f.order f.place name small
    l.place_high in
    All-map (All Fits) (named_row f component n) (row_names f)
    (each_row (λ name. All Fits (named_row f component n name)) f (each Period tt) (each F tt)
    (λ a b a_low b_low tight. each (Pair a b) (a_low, b_low)))

-- ---- a row is handed over

-- the names of the rows that are kept, by the numbers of those that are handed over
abbrev named_by : FunctionData → List ℕ → KeptRow → RowName
named_by f numbers k = name_of f (renumbered numbers k)

-- one more row that is handed over, behind others
handed_rows_push : (handed : List (ℕ × List ℤ)) (number : ℕ) (row : List ℤ) (more : List (List ℤ)) →
    handed_rows (handed ++ (number, row) ∷ []) ++ more ≡ handed_rows handed ++ row ∷ more
handed_rows_push handed number row more =
    ap (λ rows. rows ++ more) (map-append (λ (h : ℕ × List ℤ). h.1) handed ((number, row) ∷ []))
    ∙ append_assoc (handed_rows handed) (row ∷ []) more

handed_numbers_push : (handed : List (ℕ × List ℤ)) (number : ℕ) (row : List ℤ) (more : List ℕ) →
    handed_numbers (handed ++ (number, row) ∷ []) ++ more ≡ handed_numbers handed ++ number ∷ more
handed_numbers_push handed number row more =
    ap (λ numbers. numbers ++ more)
    (map-append (λ (h : ℕ × List ℤ). h.0) handed ((number, row) ∷ []))
    ∙ append_assoc (handed_numbers handed) (number ∷ []) more

seen_further : (f : FunctionData) (component : ℕ → ℕ) (n : ℕ) (before : List (List ℤ))
    (row : List ℤ) (name : RowName) →
    IsSeenName f component n before name → IsSeenName f component n (row ∷ before) name
seen_further f component n before row name (inl are) = inl are
seen_further f component n before row name (inr has) =
    inr (Contains-append_right (row ∷ []) before (named_row f component n name) has)

-- one name of those to come less
known_further : (f : FunctionData) (component : ℕ → ℕ) (n : ℕ) (before after : List (List ℤ))
    (name : RowName) (rest : List RowName) →
    ((other : RowName) → IsSeenName f component n before other →
    IsSeenName f component n after other) → IsSeenName f component n after name →
    (other : RowName) → IsSeenName f component n before other ⊎ Contains (name ∷ rest) other →
    IsSeenName f component n after other ⊎ Contains rest other
known_further f component n before after name rest more here other (inl seen) =
    inl (more other seen)
known_further f component n before after name rest more here other (inr to_come) =
    elim (cons_cases name rest other to_come) [
      | inl same ↦ inl (subst (IsSeenName f component n after) same here)
      | inr later ↦ inr later
    ]

-- what the basis is behind the insertion of the row, or if it is full
record HasRow (f : FunctionData) (n : ℕ) (row : List ℤ) (handed : List (ℕ × List ℤ)) (number : ℕ)
    (old new : Rows) : Type 0 where
  inserted : length new.basis.kept < n → new.basis.inserted ≡ length handed + 1
  kept : (more : List (List ℤ)) →
      (elimination_from n old.basis.kept old.basis.inserted (row ∷ more)).kept
      ≡ (elimination_from n new.basis.kept new.basis.inserted more).kept
  marked : (more : List (List ℤ)) →
      Passes (elimination_from n old.basis.kept old.basis.inserted (row ∷ more)).marked
      ↔ Passes (elimination_from n new.basis.kept new.basis.inserted more).marked
  names : (more : List ℕ) →
      new.names.items ≡ map (named_by f (handed_numbers handed ++ number ∷ more)) new.basis.kept
  seen : new.seen ≡ old.seen

is_handed : (f : FunctionData) (component : ℕ → ℕ) (n : ℕ) (old new : Rows) (name : RowName)
    (rest : List RowName) →
    (h : AreHandedOver f component n old (name ∷ rest)) →
    HasRow f n (named_row f component n name) h.handed h.number old new →
    (g : AreHandedOver f component n new rest) × Contains g.before (named_row f component n name)
is_handed f component n old new name rest h has =
    let row = named_row f component n name in
    let handed = h.handed ++ (h.number, row) ∷ [] in (
      record {
        handed = handed;
        before = row ∷ h.before;
        number = h.number + 1;
        few = let len = length-append h.handed ((h.number, row) ∷ []) in let low = h.few in
            omega arith;
        next = one_name_further f h.number name rest h.next;
        onward = λ more given.
            subst (IsHandedOver [] 0 (rows_named f component n (row_names f)))
            (sym (append_assoc h.handed ((h.number, row) ∷ []) more))
            (h.onward ((h.number, row) ∷ more)
            (first_handed h.before h.number row (rows_named f component n rest) more given));
        inserted = λ short.
            has.inserted short
            ∙ (let len = length-append h.handed ((h.number, row) ∷ []) in
            let is : length h.handed + 1 ≡ length (h.handed ++ (h.number, row) ∷ []) =
            omega arith in is);
        kept = λ more.
            ap (λ rows. (elimination n rows).kept) (handed_rows_push h.handed h.number row more)
            ∙ h.kept (row ∷ more) ∙ has.kept more;
        marked = λ more.
            let same = handed_rows_push h.handed h.number row more in
            let behind = h.marked (row ∷ more) in
            let onward = has.marked more in (
              λ p. onward.0 (behind.0
                  (subst (λ (rows : List (List ℤ)). Passes (elimination n rows).marked) same p)),
              λ p. subst (λ (rows : List (List ℤ)). Passes (elimination n rows).marked) (sym same)
                  (behind.1 (onward.1 p)),
            );
        names = λ more.
            has.names more ∙ ap (λ numbers. map (named_by f numbers) new.basis.kept)
            (sym (handed_numbers_push h.handed h.number row more));
        seen = subst (λ (s : List SeenPair). All (IsSeenRow f component n (row ∷ h.before)) s)
            (sym (ap (λ s. s.pairs.items) has.seen))
            (λ i d low. let p = get_or old.seen.pairs.items i d in
            seen_further f component n h.before row (Pair p.a p.b) (h.seen i d low));
        known = λ other given.
            known_further f component n h.before (row ∷ h.before) name rest
            (λ some s. seen_further f component n h.before row some s)
            (inr (Contains-append_left (row ∷ []) h.before row (Contains-push [] row))) other
            (h.known other given);
      },
      Contains-append_left (row ∷ []) h.before row (Contains-push [] row),
    )

-- ---- it is inserted

-- what stays if a row is inserted, but for the names
pub record IsInserted (n : ℕ) (row : List ℤ) (old new : Rows) : Type 0 where
  pub basis : new.basis ≡ behind old.basis row
  pub width : length new.row.items ≡ n
  pub narrow : Passes (inserted old.basis.columns old.basis.kept row).marked → ⊥
  pub seen : new.seen ≡ old.seen

-- the marked numbers of a row that do not pass change nothing
pub marked_behind : (first marked : List ℤ) → (Passes first → ⊥) →
    (Passes (first ++ marked) ↔ Passes marked)
marked_behind first marked narrow =
    (λ h. by_part (either_passes first marked h), λ h. back_passes first marked h)
  where
    by_part : Passes first ⊎ Passes marked → Passes marked
    by_part (inl h) = absurd (narrow h)
    by_part (inr h) = h

-- the basis with these columns
abbrev basis_behind : BasisData → ℕ → List ℤ → BasisData
basis_behind b n row = record {
  columns = b.columns;
  inserted = b.inserted + 1;
  kept = kept_behind b.kept b.inserted (inserted n b.kept row).reduce (inserted n b.kept row).kept;
}

row_taken : (f : FunctionData) (component : ℕ → ℕ) (n : ℕ) (old new : Rows) (name : RowName)
    (rest : List RowName) →
    (h : AreToCome f component n old (name ∷ rest)) → length old.basis.kept < n →
    IsInserted n (named_row f component n name) old new →
    ((more : List ℕ) →
    new.names.items
    ≡ map (named_by f (handed_numbers h.handed_over.handed ++ h.handed_over.number ∷ more))
    (kept_behind old.basis.kept old.basis.inserted
    (inserted n old.basis.kept (named_row f component n name)).reduce
    (inserted n old.basis.kept (named_row f component n name)).kept)) →
    IsTaken f component n name new rest
row_taken f component n old new name rest h short taken names =
    let row = named_row f component n name in
    let b = basis_behind old.basis n row in
    let basis_is : new.basis ≡ b = taken.basis ∙ ap (λ m. basis_behind old.basis m row) h.columns in
    let narrow : Passes (inserted n old.basis.kept row).marked → ⊥ =
    subst (λ m. Passes (inserted m old.basis.kept row).marked → ⊥) h.columns taken.narrow in
    let has : HasRow f n row h.handed_over.handed h.handed_over.number old new = record {
      inserted = λ still.
          ap (λ x. x.inserted) basis_is
          ∙ (let is = h.handed_over.inserted short in
          let more : old.basis.inserted + 1 ≡ length h.handed_over.handed + 1 = omega arith in
          more);
      kept = λ more.
          ap (λ e. e.kept) (elimination_next n old.basis.kept old.basis.inserted row more short)
          ∙ ap (λ (x : BasisData). (elimination_from n x.kept x.inserted more).kept) (sym basis_is);
      marked = λ more.
          let onward = elimination_from n b.kept b.inserted more in
          let same = marked_behind (inserted n old.basis.kept row).marked onward.marked narrow in
          subst (λ (x : BasisData). Passes
          (elimination_from n old.basis.kept old.basis.inserted (row ∷ more)).marked
          ↔ Passes (elimination_from n x.kept x.inserted more).marked) (sym basis_is)
          (subst (λ (e : Elimination). Passes e.marked ↔ Passes onward.marked)
          (sym (elimination_next n old.basis.kept old.basis.inserted row more short)) same);
      names = λ more.
          names more
          ∙ ap (λ (x : BasisData). map
          (named_by f (handed_numbers h.handed_over.handed ++ h.handed_over.number ∷ more))
          x.kept)
          (sym basis_is);
      seen = taken.seen;
    } in
    let (next, one) = is_handed f component n old new name rest h.handed_over has in (
      record {
        columns = ap (λ x. x.columns) basis_is ∙ h.columns;
        width = taken.width;
        handed_over = next;
      },
      one,
    )

-- the names with that of a row that is kept
pub names_kept : {N : Type 0} (g : KeptRow → N) (kept : List KeptRow) (number : ℕ) (reduce : List ℕ)
    (names : List N) (name : N)
    (o : Option (ℕ × List ℤ)) (c : ℕ) → names ≡ map g kept →
    ((p : ℕ × List ℤ) → g (record { number = number; reduce = reduce; pivot = p.0; entries = p.1 })
    ≡ name) →
    Pivot c ≡ answer_of o → names ++ name ∷ [] ≡ map g (kept_behind kept number reduce o)
unfolding kept_behind
names_kept g kept number reduce names name None c are is e = absurd cc
names_kept g kept number reduce names name (Some p) c are is e =
    ap₂ (λ xs x. xs ++ x ∷ []) are (sym (is p))
    ∙ sym (map-append g kept
    (record { number = number; reduce = reduce; pivot = p.0; entries = p.1 } ∷ []))

pub names_as_before : {N : Type 0} (g : KeptRow → N) (kept : List KeptRow) (number : ℕ)
    (reduce : List ℕ) (names : List N)
    (o : Option (ℕ × List ℤ)) → names ≡ map g kept → Nothing ≡ answer_of o →
    names ≡ map g (kept_behind kept number reduce o)
unfolding kept_behind
names_as_before g kept number reduce names None are e = are
names_as_before g kept number reduce names (Some p) are e = absurd cc

-- the name of the row with the next number
named_here : (f : FunctionData) (handed : List (ℕ × List ℤ)) (number place : ℕ) (more : List ℕ)
    (name : RowName) (rest : List RowName) →
    AreNextNames f number (name ∷ rest) → place ≡ length handed →
    get_or (row_names f) (get_or (handed_numbers handed ++ number ∷ more) place 0) Period ≡ name
named_here f handed number place more name rest next is =
    ap (λ i. get_or (row_names f) i Period)
    (ap (λ i. get_or (handed_numbers handed ++ number ∷ more) i 0)
    (is ∙ sym (length-map handed (λ (h : ℕ × List ℤ). h.0)))
    ∙ get_or-append_seam (handed_numbers handed) number more 0)
    ∙ next_name f number name rest next

-- it is kept
pub row_is_kept : (f : FunctionData) (component : ℕ → ℕ) (n : ℕ) (old new : Rows) (name : RowName)
    (rest : List RowName) (c : ℕ) →
    AreToCome f component n old (name ∷ rest) → length old.basis.kept < n →
    IsInserted n (named_row f component n name) old new →
    Pivot c ≡ answer_of (inserted old.basis.columns old.basis.kept
    (named_row f component n name)).kept →
    new.names.items ≡ old.names.items ++ name ∷ [] → IsTaken f component n name new rest
row_is_kept f component n old new name rest c h short taken answer pushed =
    let g = h.handed_over in
    let i = inserted n old.basis.kept (named_row f component n name) in
    row_taken f component n old new name rest h short taken
    (λ more.
    pushed
    ∙ names_kept (named_by f (handed_numbers g.handed ++ g.number ∷ more)) old.basis.kept
    old.basis.inserted i.reduce old.names.items name
    i.kept c (g.names (g.number ∷ more))
    (λ p. named_here f g.handed g.number old.basis.inserted more name rest g.next
    (g.inserted short))
    (answer ∙ ap (λ m. answer_of (inserted m old.basis.kept (named_row f component n name)).kept)
    h.columns))

-- nothing is left of it
pub row_is_nothing : (f : FunctionData) (component : ℕ → ℕ) (n : ℕ) (old new : Rows)
    (name : RowName) (rest : List RowName) →
    AreToCome f component n old (name ∷ rest) → length old.basis.kept < n →
    IsInserted n (named_row f component n name) old new →
    Nothing ≡ answer_of (inserted old.basis.columns old.basis.kept
    (named_row f component n name)).kept →
    new.names.items ≡ old.names.items → IsTaken f component n name new rest
row_is_nothing f component n old new name rest h short taken answer same =
    let g = h.handed_over in
    let i = inserted n old.basis.kept (named_row f component n name) in
    row_taken f component n old new name rest h short taken
    (λ more.
    same
    ∙ names_as_before (named_by f (handed_numbers g.handed ++ g.number ∷ more)) old.basis.kept
    old.basis.inserted i.reduce
    old.names.items i.kept (g.names (g.number ∷ more))
    (answer ∙ ap (λ m. answer_of (inserted m old.basis.kept (named_row f component n name)).kept)
    h.columns))

-- it is too wide
pub row_is_wide : (f : FunctionData) (component : ℕ → ℕ) (n : ℕ) (old : Rows) (name : RowName)
    (rest : List RowName) → IsWithinBounds f →
    AreToCome f component n old (name ∷ rest) → length old.basis.kept < n →
    Passes (inserted old.basis.columns old.basis.kept (named_row f component n name)).marked →
    Passes (slope_elimination f component n).marked
row_is_wide f component n old name rest l h short wide =
    let g = h.handed_over in
    let row = named_row f component n name in
    let here : Passes (inserted n old.basis.kept row).marked =
    subst (λ m. Passes (inserted m old.basis.kept row).marked) h.columns wide in
    let behind = rows_named f component n rest in
    let tail = zip (range_with_len (g.number + 1) (length behind)) behind in
    let whole = g.handed ++ (g.number, row) ∷ tail in
    let over = g.onward ((g.number, row) ∷ tail)
    (first_handed g.before g.number row behind tail
    (all_handed_over (row ∷ g.before) (g.number + 1) behind)) in
    let split = map-append (λ (x : ℕ × List ℤ). x.1) g.handed ((g.number, row) ∷ tail) in
    (once_passes n (rows_named f component n (row_names f)) whole over (all_fit f component n l)).1
    (subst (λ (rows : List (List ℤ)). Passes (elimination n rows).marked) (sym split)
    ((g.marked (row ∷ handed_rows tail)).1
    (subst (λ (e : Elimination). Passes e.marked)
    (sym (elimination_next n old.basis.kept old.basis.inserted row (handed_rows tail) short))
    (front_passes _ _ here))))

-- ---- if there are as many rows as components

-- there are not, if the test gives false
pub not_full : (b : Bool) (m n : ℕ) → (m ≤ n → IsTrue b) → b ≡ false → n < m
not_full b m n test e = by_order (cases_lt n m)
  where
    by_order : (n < m) ⊎ (m ≤ n) → n < m
    by_order (inl less) = less
    by_order (inr more) = let here : IsTrue b = test more in absurd cc

-- each row can be left out
pub full_is_taken : (f : FunctionData) (component : ℕ → ℕ) (n : ℕ) (rows : Rows) (name : RowName)
    (rest : List RowName) →
    n ≤ length rows.basis.kept → AreToCome f component n rows (name ∷ rest) →
    IsTaken f component n name rows rest
full_is_taken f component n rows name rest full h =
    let row = named_row f component n name in
    let g = h.handed_over in
    let none = λ (more : List (List ℤ)). elimination_full n rows.basis.kept rows.basis.inserted more
    full in
    let has : HasRow f n row g.handed g.number rows rows = record {
      inserted = λ short. absurd (omega arith);
      kept = λ more. ap (λ e. e.kept) (none (row ∷ more) ∙ sym (none more));
      marked = λ more.
          subst (λ (e : Elimination). Passes
          (elimination_from n rows.basis.kept rows.basis.inserted (row ∷ more)).marked
          ↔ Passes e.marked)
          (none (row ∷ more) ∙ sym (none more)) (λ p. p, λ p. p);
      names = λ more. g.names (g.number ∷ more);
      seen = refl;
    } in
    let (next, one) = is_handed f component n rows rows name rest g has in
    (record { columns = h.columns; width = h.width; handed_over = next }, one)

-- and so can all
pub full_takes_all : (f : FunctionData) (component : ℕ → ℕ) (n : ℕ) (rows : Rows)
    (rest : List RowName) →
    n ≤ length rows.basis.kept → AreToCome f component n rows rest → AreToCome f component n rows []
full_takes_all f component n rows [] full h = h
full_takes_all f component n rows (name ∷ rest) full h =
    full_takes_all f component n rows rest full
    (full_is_taken f component n rows name rest full h).0

-- ---- a row that was seen

-- the row of the name is one that was handed over, or one of zeros
pub row_is_seen : (f : FunctionData) (component : ℕ → ℕ) (n : ℕ) (rows : Rows) (a b : ℕ)
    (rest : List RowName) (p : SeenPair) →
    (h : AreToCome f component n rows (Pair a b ∷ rest)) →
    IsSeenRow f component n h.handed_over.before p →
    named_row f component n (Pair p.a p.b) ≡ named_row f component n (Pair a b) →
    AreToCome f component n rows rest
row_is_seen f component n rows a b rest p h seen same =
    let g = h.handed_over in
    let here = seen_again seen in
    record {
      columns = h.columns;
      width = h.width;
      handed_over = record {
        handed = g.handed;
        before = g.before;
        number = g.number + 1;
        few = let low = g.few in omega arith;
        next = one_name_further f g.number (Pair a b) rest g.next;
        onward = λ more given. g.onward more (left_out more given here);
        inserted = g.inserted;
        kept = g.kept;
        marked = g.marked;
        names = g.names;
        seen = g.seen;
        known = λ other given.
            known_further f component n g.before g.before (Pair a b) rest (λ some s. s) here other
            (g.known other given);
      };
    }
  where
    seen_again : IsSeenRow f component n h.handed_over.before p →
        IsSeenRow f component n h.handed_over.before (record { a = a; b = b })
    seen_again (inl are) = inl (subst (All (λ x. x ≡ pos 0)) same are)
    seen_again (inr has) = inr (subst (Contains h.handed_over.before) same has)

    left_out : (more : List (ℕ × List ℤ)) →
        IsHandedOver h.handed_over.before (h.handed_over.number + 1)
        (rows_named f component n rest) more →
        IsSeenRow f component n h.handed_over.before (record { a = a; b = b }) →
        IsHandedOver h.handed_over.before h.handed_over.number
        (rows_named f component n (Pair a b ∷ rest)) more
    left_out more given (inl are) =
        zeros_handed h.handed_over.before h.handed_over.number (named_row f component n (Pair a b))
        (rows_named f component n rest) more
        are given
    left_out more given (inr has) =
        again_handed h.handed_over.before h.handed_over.number (named_row f component n (Pair a b))
        (rows_named f component n rest) more
        has given

-- ---- all rows

map_map : {X Y Z : Type 0} (g : Y → Z) (h : X → Y) (xs : List X) →
    map g (map h xs) ≡ map (λ x. g (h x)) xs
map_map g h [] = refl
map_map g h (x ∷ xs) = ap (λ zs. g (h x) ∷ zs) (map_map g h xs)

-- none are still to come
pub all_inserted : (f : FunctionData) (component : ℕ → ℕ) (n : ℕ) (rows : Rows) → IsWithinBounds f →
    AreToCome f component n rows [] →
    AreInserted f component n rows
all_inserted f component n rows l h =
    let g = h.handed_over in
    let all = rows_named f component n (row_names f) in
    let numbers = handed_numbers g.handed in
    let over : IsHandedOver [] 0 all g.handed =
    subst (IsHandedOver [] 0 all) (append-nil g.handed)
    (g.onward [] (none_handed g.before g.number)) in
    let whole : elimination n (handed_rows g.handed ++ []) ≡ elimination n (handed_rows g.handed) =
    ap (elimination n) (append-nil (handed_rows g.handed)) in
    let end = elimination_none n rows.basis.kept rows.basis.inserted in
    let kept : (slope_elimination f component n).kept ≡ map (renumbered numbers) rows.basis.kept =
    once_keeps n all g.handed over
    ∙ ap (λ ks. map (renumbered numbers) ks) (sym (ap (λ e. e.kept) whole) ∙ g.kept []
    ∙ ap (λ e. e.kept) end) in
    record {
      columns = h.columns;
      width = h.width;
      numbers = numbers;
      kept = kept;
      fits = λ p.
          let passes = (once_passes n all g.handed over (all_fit f component n l)).0 p in
          none_passes (subst (λ (e : Elimination). Passes e.marked) end
          ((g.marked []).0 (subst (λ (e : Elimination). Passes e.marked) (sym whole) passes)));
      names = g.names []
          ∙ ap (λ xs. map (named_by f xs) rows.basis.kept) (append-nil numbers)
          ∙ sym (map_map (name_of f) (renumbered numbers) rows.basis.kept)
          ∙ ap (map (name_of f)) (sym kept);
    }

-- one more can be inserted
pub rows_are_ready : (f : FunctionData) (component : ℕ → ℕ) (n : ℕ) (rows : Rows)
    (rest : List RowName) → IsWithinBounds f →
    AreToCome f component n rows rest → IsReady rows n
rows_are_ready f component n rows rest l h = record {
  columns = h.columns;
  width = h.width;
  count = λ short.
      let number = next_number f h.handed_over.number rest l h.handed_over.next in
      let low = h.handed_over.few in
      let is = h.handed_over.inserted short in
      omega arith;
}
