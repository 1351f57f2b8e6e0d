-- Rows that are taken one after another from those to come.
use Rattle.std.proofs.Common.{◌≡◌, ℕ, ◌+◌, ◌<◌, ◌≤◌, ◌↔◌, Option, None, Some, ℤ, List, [], ◌∷◌, ◌++◌, length, map, get_or, drop, drop-cons, add-one, refl, sym, ap, ◌∙◌, subst, append_assoc, arith}
use Rattle.std.proofs.Math.Seq.{get_or-append_seam}
use Rattle.std.proofs.lemmas.Bool.{lt-leb, le-leb}
use Rattle.std.proofs.lemmas.List.{length_push}
use Rattle.gj_elim.specs.Data.{BasisData, behind}
use Rattle.gj_elim.specs.KeptRows.{answer_of}
use Rattle.gj_elim.specs.declared.log.Inserted.TheVariants.{Pivot, Nothing}
use Rattle.gj_shape.specs.Elimination.{KeptRow, Elimination, elimination_from, behind_insertion, inserted, kept_behind, Passes, whole_numbers}
use Rattle.gj_shape.specs.FunctionData.{FunctionData}
use Rattle.gj_shape.specs.SlopeRows.{component_in}
use Rattle.gj_theory.proofs.Eliminations.{elimination_full, elimination_more, elimination_none}
use Rattle.gj_theory.proofs.Passing.{none_passes, front_passes}
use Rattle.gj_limit_proof.specs.LimitRowsKept.{named_row}
use Rattle.gj_limit_system.specs.LimitRows.{limit_rows}
use Rattle.gj_limit_system.specs.declared.limit_row.LimitRow.{LimitRow}
use Rattle.gj_limit_system.specs.declared.limit_row.LimitRow.TheVariants.{F}
use Rattle.gj_extreme.proofs.TakenRows.{marked_behind, names_kept, names_as_before}
use Rattle.gj_limit_extreme.specs.Decision.{limit_elimination}
use Rattle.gj_limit_extreme.specs.RowsToCome.{name_of, rows_named, AreNextNames, HaveColumns, AreToCome, AreInserted}
use Rattle.gj_limit_extreme.specs.declared.inserted_rows.Rows.{Rows}

-- ---- names of rows

-- the next name stands behind the first so many
next_name : (f : FunctionData) (number : ℕ) (name : LimitRow) (rest : List LimitRow) →
    AreNextNames f number (name ∷ rest) →
    get_or (limit_rows f) number F ≡ name
next_name f number name rest (before, place, len) =
    ap (λ l. get_or l number F) place ∙ ap (λ i. get_or (before ++ name ∷ rest) i F) (sym len)
    ∙ get_or-append_seam before name rest F

one_name_further : (f : FunctionData) (number : ℕ) (name : LimitRow) (rest : List LimitRow) →
    AreNextNames f number (name ∷ rest) →
    AreNextNames f (number + 1) rest
one_name_further f number name rest (before, place, len) = (
  before ++ name ∷ [],
  place
      ∙ sym (append_assoc before (name ∷ []) rest),
  length_push before name ∙ ap (λ n. n + 1) len,
)

-- the next of a list of names
pub next_of_list : (names rest : List LimitRow) (i : ℕ) → i < length names →
    drop i names ++ rest ≡ get_or names i F ∷ (drop (i + 1) names ++ rest)
next_of_list names rest i low =
    ap (λ xs. xs ++ rest)
    (drop-cons names i F low ∙ ap (λ k. get_or names i F ∷ drop k names) (sym (add-one i)))

-- ---- one row

-- the row was inserted, and no number passed
pub record IsTaken (n : ℕ) (row : List ℤ) (old new : Rows) : Type 0 where
  pub columns : new.columns ≡ old.columns
  pub basis : new.basis ≡ behind old.basis row
  pub narrow : Passes (inserted old.basis.columns old.basis.kept row).marked → ⊥

module _ (f : FunctionData) (component : List ℕ) (n : ℕ) where
  abbrev rest_rows : List LimitRow → List (List ℤ)
  rest_rows rest = rows_named f component n rest

  abbrev row_of : LimitRow → List ℤ
  row_of name = named_row f (component_in component) n name

  -- the elimination from the rows of a basis on
  abbrev onward : BasisData → List LimitRow → Elimination
  onward b rest = elimination_from n b.kept b.inserted (rest_rows rest)

  one_further : (b : BasisData) (name : LimitRow) (rest : List LimitRow) → b.columns ≡ n →
      length b.kept < n →
      onward b (name ∷ rest)
      ≡ behind_insertion (inserted b.columns b.kept (row_of name)).marked
      (onward (behind b (row_of name)) rest)
  one_further b name rest columns short =
      elimination_more whole_numbers n b.kept b.inserted (row_of name) (rest_rows rest)
      (lt-leb n (length b.kept) short)
      ∙ ap (λ m. behind_insertion (inserted m b.kept (row_of name)).marked
      (elimination_from n
      (kept_behind b.kept b.inserted (inserted m b.kept (row_of name)).reduce
      (inserted m b.kept (row_of name)).kept)
      (b.inserted + 1) (rest_rows rest))) (sym columns)

  row_taken : (old new : Rows) (name : LimitRow) (rest : List LimitRow) →
      AreToCome f component n old (name ∷ rest) →
      length old.basis.kept < n → IsTaken n (row_of name) old new →
      new.names.items ≡ map (name_of f) new.basis.kept →
      AreToCome f component n new rest
  row_taken old new name rest h short taken names =
      let same = one_further old.basis name rest h.columns.basis short in
      let first = (inserted old.basis.columns old.basis.kept (row_of name)).marked in
      let later = onward (behind old.basis (row_of name)) rest in
      let both = marked_behind first later.marked taken.narrow in
      record {
        columns = record {
          columns = taken.columns ∙ h.columns.columns;
          basis = ap (λ b. b.columns) taken.basis ∙ h.columns.basis;
        };
        kept = h.kept ∙ ap (λ e. e.kept) same ∙ ap (λ b. (onward b rest).kept) (sym taken.basis);
        marked = (
          λ p. subst (λ (b : BasisData). Passes (onward b rest).marked) (sym taken.basis)
              (both.0 (subst (λ (e : Elimination). Passes e.marked) same (h.marked.0 p))),
          λ p. h.marked.1 (subst (λ (e : Elimination). Passes e.marked) (sym same)
              (both.1 (subst (λ (b : BasisData). Passes (onward b rest).marked) taken.basis p))),
        );
        names = names;
        next = λ still.
            subst (λ (b : BasisData). AreNextNames f b.inserted rest) (sym taken.basis)
            (one_name_further f old.basis.inserted name rest (h.next short));
      }

  -- it is kept
  pub row_is_kept : (old new : Rows) (name : LimitRow) (rest : List LimitRow) (c : ℕ) →
      AreToCome f component n old (name ∷ rest) →
      length old.basis.kept < n → IsTaken n (row_of name) old new →
      Pivot c ≡ answer_of (inserted old.basis.columns old.basis.kept (row_of name)).kept →
      new.names.items ≡ old.names.items ++ name ∷ [] → AreToCome f component n new rest
  row_is_kept old new name rest c h short taken answer pushed =
      let i = inserted old.basis.columns old.basis.kept (row_of name) in
      row_taken old new name rest h short taken
      (pushed
      ∙ names_kept (name_of f) old.basis.kept old.basis.inserted i.reduce old.names.items name
      i.kept c h.names
      (λ p. next_name f old.basis.inserted name rest (h.next short)) answer
      ∙ ap (λ (b : BasisData). map (name_of f) b.kept) (sym taken.basis))

  -- nothing is left of it
  pub row_is_nothing : (old new : Rows) (name : LimitRow) (rest : List LimitRow) →
      AreToCome f component n old (name ∷ rest) →
      length old.basis.kept < n → IsTaken n (row_of name) old new →
      Nothing ≡ answer_of (inserted old.basis.columns old.basis.kept (row_of name)).kept →
      new.names.items ≡ old.names.items → AreToCome f component n new rest
  row_is_nothing old new name rest h short taken answer same =
      let i = inserted old.basis.columns old.basis.kept (row_of name) in
      row_taken old new name rest h short taken
      (same ∙ names_as_before (name_of f) old.basis.kept old.basis.inserted i.reduce old.names.items
      i.kept h.names answer
      ∙ ap (λ (b : BasisData). map (name_of f) b.kept) (sym taken.basis))

  -- it is too wide
  pub row_is_wide : (old : Rows) (name : LimitRow) (rest : List LimitRow) →
      AreToCome f component n old (name ∷ rest) →
      length old.basis.kept < n →
      Passes (inserted old.basis.columns old.basis.kept (row_of name)).marked →
      Passes (limit_elimination f component n).marked
  row_is_wide old name rest h short wide =
      let first = (inserted old.basis.columns old.basis.kept (row_of name)).marked in
      let later = onward (behind old.basis (row_of name)) rest in
      h.marked.1
      (subst (λ (e : Elimination). Passes e.marked)
      (sym (one_further old.basis name rest h.columns.basis short))
      (front_passes first later.marked wide))

  -- ---- if there are as many rows as columns, none changes anything

  nothing_more : (b : BasisData) (rest : List LimitRow) → n ≤ length b.kept →
      onward b rest ≡ record { kept = b.kept; marked = [] }
  nothing_more b rest full =
      elimination_full whole_numbers n b.kept b.inserted (rest_rows rest)
      (le-leb n (length b.kept) full)

  pub full_leaves_out : (rows : Rows) (rest other : List LimitRow) → n ≤ length rows.basis.kept →
      AreToCome f component n rows rest →
      AreToCome f component n rows other
  full_leaves_out rows rest other full h =
      let same : onward rows.basis rest ≡ onward rows.basis other =
      nothing_more rows.basis rest full ∙ sym (nothing_more rows.basis other full) in
      record {
        columns = h.columns;
        kept = h.kept ∙ ap (λ e. e.kept) same;
        marked = subst (λ (e : Elimination). Passes (limit_elimination f component n).marked
            ↔ Passes e.marked) same h.marked;
        names = h.names;
        next = λ short. absurd (omega arith);
      }

  -- ---- none are still to come

  pub all_inserted : (rows : Rows) → AreToCome f component n rows [] →
      AreInserted f component n rows
  all_inserted rows h =
      let end = elimination_none whole_numbers n rows.basis.kept rows.basis.inserted in
      record {
        columns = h.columns;
        kept = h.kept ∙ ap (λ e. e.kept) end;
        fits = λ p. none_passes (subst (λ (e : Elimination). Passes e.marked) end (h.marked.0 p));
        names = h.names;
      }
