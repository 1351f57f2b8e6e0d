-- What a basis keeps behind an insertion.
use Rattle.std.proofs.Common.{◌≡◌, ℕ, ◌+◌, ◌↔◌, Option, None, Some, ℤ, List, [], ◌∷◌, ◌++◌, length, map, refl, sym, ap, ap₂, subst, ◌∙◌, arith}
use Rattle.std.specs.Prelude.{All, Result, Ok, Err, IsErr, IsErrAnd, IsErrOf}
use Rattle.std.proofs.lemmas.List.{length-map, length_push}
use Rattle.std.proofs.lemmas.List.Elements.{All-push}
use Rattle.gj_shape.specs.Elimination.{KeptRow, Insertion, Arithmetic, whole_numbers, with_pivot, inserted, inserted_by, kept_behind}
use Rattle.gj_theory.specs.TriangularRows.{Solves, SolvesKept, AreTriangular}
use Rattle.gj_theory.proofs.Insertions.{inserted_leaves}
use Rattle.gj_theory.proofs.SoundArithmetic.{whole_sound, both_ways}
use Rattle.gj_elim.specs.declared.log.LogRow.{LogRow}
use Rattle.gj_elim.specs.declared.log.Inserted.{Inserted}
use Rattle.gj_elim.specs.declared.log.Inserted.TheVariants.{Pivot, Nothing}
use Rattle.gj_frac.specs.Fraction.{Fits}
use Rattle.gj_elim.specs.Data.{BasisData, behind_by}
use Rattle.gj_elim.specs.KeptRows.{kept_rows, log_row, answer_of}
use Rattle.gj_elim.specs.Progress.{IsLeft, kept_at}

-- ---- the log beside the entries

pub kept_rows_push : (log : List LogRow) (rows : List (List ℤ)) (l : LogRow) (r : List ℤ) →
    length log ≡ length rows →
    kept_rows (log ++ l ∷ []) (rows ++ r ∷ [])
    ≡ kept_rows log rows ++ record {
      number = l.number;
      reduce = l.reduce;
      pivot =
          l.pivot;
      entries = r;
    } ∷ []
kept_rows_push [] [] l r e = refl
kept_rows_push [] (y ∷ rows) l r e = absurd (omega arith)
kept_rows_push (x ∷ log) [] l r e = absurd (omega arith)
kept_rows_push (x ∷ log) (y ∷ rows) l r e =
    ap (λ ks. record { number = x.number; reduce = x.reduce; pivot = x.pivot; entries = y } ∷ ks)
    (kept_rows_push log rows l r (omega arith))

pub log_of_kept : (log : List LogRow) (rows : List (List ℤ)) → length log ≡ length rows →
    log ≡ map log_row (kept_rows log rows)
log_of_kept [] [] e = refl
log_of_kept [] (y ∷ rows) e = refl
log_of_kept (x ∷ log) [] e = absurd (omega arith)
log_of_kept (x ∷ log) (y ∷ rows) e = ap (λ ls. x ∷ ls) (log_of_kept log rows (omega arith))

pub length-kept_rows : (log : List LogRow) (rows : List (List ℤ)) → length log ≡ length rows →
    length (kept_rows log rows) ≡ length log
length-kept_rows log rows e =
    sym (ap length (log_of_kept log rows e) ∙ length-map (kept_rows log rows) log_row)

-- ---- the insertion as the code has it

pub insertion_read : (b d : BasisData) (log : List LogRow) (rows : List (List ℤ)) (r row : List ℤ) →
    b ≡ d →
    kept_rows log rows ≡ b.kept → r ≡ row → length row ≡ d.columns →
    inserted (length r) (kept_rows log rows) r ≡ inserted d.columns d.kept row
insertion_read b d log rows r row same kept_is row_is columns =
    ap₂ (λ xs ks. inserted (length xs) ks xs) row_is (kept_is ∙ ap (λ x. x.kept) same)
    ∙ ap (λ n. inserted n d.kept row) columns

-- ---- the rows behind it

-- the kept rows are those behind the insertion
pub record AreBehind (by : Arithmetic) (b : BasisData) (row : List ℤ) (kept : List KeptRow) :
    Type 0 where
  pub kept_is : kept ≡ (behind_by by b row).kept

pub nothing_kept : (by : Arithmetic) (b : BasisData) (row left : List ℤ) (reduce : List ℕ)
    (o : Option ℕ) →
    IsLeft by (inserted_by by b.columns b.kept row) o left reduce → kept_at by o left ≡ None →
    AreBehind by b row b.kept
unfolding kept_behind
nothing_kept by b row left reduce o h none =
    let e : (inserted_by by b.columns b.kept row).kept ≡ None = h.kept_is ∙ none in record {
      kept_is = sym (ap (kept_behind b.kept b.inserted (inserted_by by b.columns b.kept row).reduce)
          e);
    }

pub row_kept : (by : Arithmetic) (b : BasisData) (row left : List ℤ) (reduce : List ℕ)
    (o : Option ℕ) (log log' : List LogRow)
    (rows rows' : List (List ℤ)) (l : LogRow) (r : List ℤ) →
    IsLeft by (inserted_by by b.columns b.kept row) o left reduce → o ≡ Some l.pivot →
    b.kept ≡ kept_rows log rows →
    length log ≡ length rows → log' ≡ log ++ l ∷ [] → rows' ≡ rows ++ r ∷ [] →
    l.number ≡ b.inserted → l.reduce ≡ reduce →
    by.keep left l.pivot ≡ Some r → AreBehind by b row (kept_rows log' rows')
unfolding kept_behind
row_kept by b row left reduce o log log' rows rows' l r h some kept_is lines log_is rows_is
    number_is reduce_is r_is =
    let i : Insertion = inserted_by by b.columns b.kept row in
    let e : i.kept ≡ Some (l.pivot, r) =
    h.kept_is ∙ ap (λ x. kept_at by x left) some ∙ ap (λ xs. with_pivot l.pivot xs) r_is in
    let now : kept_rows log' rows'
    ≡ kept_rows log rows ++ record {
      number = l.number;
      reduce = l.reduce;
      pivot =
          l.pivot;
      entries = r;
    } ∷ [] =
    ap₂ kept_rows log_is rows_is ∙ kept_rows_push log rows l r lines in
    let same : kept_rows log rows ++ record {
      number = l.number;
      reduce = l.reduce;
      pivot =
          l.pivot;
      entries = r;
    } ∷ []
    ≡ kept_behind b.kept b.inserted i.reduce (Some (l.pivot, r)) =
    ap₂ (λ ks n. ks ++ record { number = n; reduce = l.reduce; pivot = l.pivot; entries = r } ∷ [])
    (sym kept_is) number_is
    ∙ ap (λ cs. b.kept ++ record { number = b.inserted; reduce = cs; pivot = l.pivot; entries = r }
    ∷ [])
    (reduce_is ∙ sym h.reduce_is) in record {
      kept_is = now ∙ same ∙ sym (ap (kept_behind b.kept b.inserted i.reduce) e);
    }

-- ---- what follows

pub behind_from : (by : Arithmetic) (b d : BasisData) (row : List ℤ) (kept : List KeptRow) → b ≡ d →
    AreBehind by b row kept →
    record { columns = b.columns; inserted = b.inserted + 1; kept = kept } ≡ behind_by by d row
behind_from by b d row kept same h =
    ap (λ ks. let x : BasisData =
    record { columns = b.columns; inserted = b.inserted + 1; kept = ks } in x) h.kept_is
    ∙ ap (λ x. behind_by by x row) same

pub triangular_from : (b : BasisData) (row : List ℤ) (kept : List KeptRow) →
    AreTriangular b.columns b.kept →
    length row ≡ b.columns → AreBehind whole_numbers b row kept → AreTriangular b.columns kept
triangular_from b row kept h columns is =
    subst (AreTriangular b.columns) (sym is.kept_is)
    ((inserted_leaves whole_sound b.columns b.kept row h columns).triangular b.inserted
    (inserted b.columns b.kept row).reduce)

pub solutions_from : (b d : BasisData) (row w : List ℤ) (kept : List KeptRow) → b ≡ d →
    AreTriangular b.columns b.kept →
    length row ≡ d.columns → AreBehind whole_numbers b row kept →
    (SolvesKept w kept ↔ (SolvesKept w d.kept × Solves w row))
solutions_from b d row w kept same h columns is =
    let left = inserted_leaves whole_sound b.columns b.kept row h
    (columns ∙ sym (ap (λ x. x.columns) same)) in
    let both = both_ways (left.solutions b.inserted (inserted b.columns b.kept row).reduce w) in
    let at : (SolvesKept w kept ↔ (SolvesKept w b.kept × Solves w row)) =
    subst (λ (ks : List KeptRow). (SolvesKept w ks ↔ (SolvesKept w b.kept × Solves w row)))
    (sym is.kept_is) both in
    subst (λ (x : BasisData). (SolvesKept w kept ↔ (SolvesKept w x.kept × Solves w row))) same at

-- ---- what is told of an insertion

-- the basis `d`, also told as `b`, becomes one with these kept rows, and this is the answer
pub record IsInserted (by : Arithmetic) (b d : BasisData) (row : List ℤ) (ks : List KeptRow)
    (a : Inserted) : Type 0 where
  pub rows : AreBehind by b row ks
  pub kept : record { columns = b.columns; inserted = b.inserted + 1; kept = ks }
      ≡ behind_by by d row
  pub answer : a ≡ answer_of (inserted_by by d.columns d.kept row).kept

inserted_so : (by : Arithmetic) (b d : BasisData) (row : List ℤ) (kept : List KeptRow)
    (o : Option (ℕ × List ℤ)) → b ≡ d →
    AreBehind by b row kept → (inserted_by by b.columns b.kept row).kept ≡ o →
    IsInserted by b d row kept (answer_of o)
inserted_so by b d row kept o same h is = record {
  rows = h;
  kept = behind_from by b d row kept same h;
  answer = ap answer_of (sym is)
      ∙ ap (λ (x : BasisData). answer_of (inserted_by by x.columns x.kept row).kept) same;
}

-- nothing that is left is kept
pub nothing_inserted : (by : Arithmetic) (b d : BasisData) (row left : List ℤ) (reduce : List ℕ)
    (o : Option ℕ) → b ≡ d →
    IsLeft by (inserted_by by b.columns b.kept row) o left reduce → kept_at by o left ≡ None →
    IsInserted by b d row b.kept Nothing
nothing_inserted by b d row left reduce o same h none =
    inserted_so by b d row b.kept None same (nothing_kept by b row left reduce o h none)
    (h.kept_is ∙ none)

-- or it is, behind the rows so far
pub row_inserted : (by : Arithmetic) (b d : BasisData) (row left : List ℤ) (reduce : List ℕ)
    (o : Option ℕ) (log log' : List LogRow)
    (rows rows' : List (List ℤ)) (l : LogRow) (r : List ℤ) → b ≡ d →
    IsLeft by (inserted_by by b.columns b.kept row) o left reduce → o ≡ Some l.pivot →
    b.kept ≡ kept_rows log rows →
    length log ≡ length rows → log' ≡ log ++ l ∷ [] → rows' ≡ rows ++ r ∷ [] →
    l.number ≡ b.inserted → l.reduce ≡ reduce →
    by.keep left l.pivot ≡ Some r → IsInserted by b d row (kept_rows log' rows') (Pivot l.pivot)
row_inserted by b d row left reduce o log log' rows rows' l r same h some kept_is lines log_is
    rows_is number_is reduce_is r_is =
    inserted_so by b d row (kept_rows log' rows') (Some (l.pivot, r)) same
    (row_kept by b row left reduce o log log' rows rows' l r h some kept_is lines log_is rows_is
    number_is reduce_is r_is)
    (h.kept_is ∙ ap (λ x. kept_at by x left) some ∙ ap (λ xs. with_pivot l.pivot xs) r_is)

-- ---- the rest of the invariant

pub same_length : (log log' : List LogRow) (rows rows' : List (List ℤ)) (l : LogRow) (r : List ℤ) →
    length log ≡ length rows →
    log' ≡ log ++ l ∷ [] → rows' ≡ rows ++ r ∷ [] → length log' ≡ length rows'
same_length log log' rows rows' l r e log_is rows_is =
    ap length log_is ∙ length_push log l ∙ ap (λ n. n + 1) e ∙ sym (length_push rows r)
    ∙ sym (ap length rows_is)

pub all_small : (rows rows' : List (List ℤ)) (r : List ℤ) → All (All Fits) rows →
    rows' ≡ rows ++ r ∷ [] → All Fits r →
    All (All Fits) rows'
all_small rows rows' r all rows_is small =
    subst (All (All Fits)) (sym rows_is) (All-push (All Fits) rows r all small)

-- an error that goes on is the same
pub same_error : {T U E : Type 0} (r : Result T E) (x y : E) → IsErr r → IsErrAnd r (λ e. e ≡ x) →
    IsErrOf r y →
    IsErrOf {T = U} (Err x) y
same_error (Ok v) x y is_err h e = absurd cc
same_error (Err z) x y is_err h e = cc
