-- An insertion goes on, column after column.
use Rattle.std.proofs.Common.{◌≡◌, ◌≢◌, ℕ, ◌+◌, ◌-◌, ◌<◌, ◌≤◌, ◌⊎◌, inl, inr, if◌then◌else◌, None, Some, ℤ, pos, List, [], ◌∷◌, ◌++◌, refl, sym, ap, subst, ◌∙◌, append_assoc, arith}
use Rattle.std.specs.List.{range_with_len}
use Rattle.std.specs.Ordering.{int_eq}
use Rattle.std.proofs.lemmas.Bool.Decides.{Decides-int_eq}
use Rattle.std.proofs.lemmas.List.{append-nil}
use Rattle.gj_lemmas.proofs.Choices.{never_true}
use Rattle.gj_lemmas.proofs.Lists.{range_step}
use Rattle.gj_shape.specs.Elimination.{KeptRow, Insertion, Arithmetic, with_pivot, at_column, insertion_by, inserted_at_by, row_with_pivot, Passes}
pub use Rattle.gj_elim.specs.Progress.{IsLeft, rest, IsBehind, IsDone}
use Rattle.gj_elim.proofs.Places.{IsRowAt}
use Rattle.gj_theory.proofs.Passing.{none_passes, front_passes, back_passes, either_passes}

rest_zero : (by : Arithmetic) (kept : List KeptRow) (n c : ℕ) (row : List ℤ) → c < n →
    at_column row c ≡ pos 0 →
    rest by kept n c row ≡ rest by kept n (c + 1) row
unfolding insertion_by
rest_zero by kept n c row below e =
    ap (λ cs. insertion_by by kept cs row) (range_step c n below)
    ∙ ap (λ b. if b then insertion_by by kept (range_with_len (c + 1) (n - (c + 1))) row
    else inserted_at_by by (row_with_pivot kept c) c row
    (insertion_by by kept (range_with_len (c + 1) (n - (c + 1)))))
    ((Decides-int_eq (at_column row c) (pos 0)).1 e)

rest_some : (by : Arithmetic) (kept : List KeptRow) (n c : ℕ) (row : List ℤ) → c < n →
    at_column row c ≢ pos 0 →
    rest by kept n c row ≡ inserted_at_by by (row_with_pivot kept c) c row (rest by kept n (c + 1))
unfolding insertion_by
rest_some by kept n c row below some =
    ap (λ cs. insertion_by by kept cs row) (range_step c n below)
    ∙ ap (λ b. if b then insertion_by by kept (range_with_len (c + 1) (n - (c + 1))) row
    else inserted_at_by by (row_with_pivot kept c) c row
    (insertion_by by kept (range_with_len (c + 1) (n - (c + 1)))))
    (never_true (int_eq (at_column row c) (pos 0))
    (λ t. some ((Decides-int_eq (at_column row c) (pos 0)).0 t)))

rest_step : (by : Arithmetic) (kept : List KeptRow) (n c : ℕ) (row e : List ℤ) → c < n →
    at_column row c ≢ pos 0 → IsRowAt kept c e →
    rest by kept n c row
    ≡ record {
      reduce = c ∷ (rest by kept n (c + 1) (by.step e row c)).reduce;
      kept = (rest by kept n (c + 1) (by.step e row c)).kept;
      marked = by.marked e row c ++ (rest by kept n (c + 1) (by.step e row c)).marked;
    }
unfolding inserted_at_by
rest_step by kept n c row e below some (k, found, is) =
    rest_some by kept n c row below some
    ∙ ap (λ o. inserted_at_by by o c row (rest by kept n (c + 1))) found
    ∙ ap (λ (xs : List ℤ). let i : Insertion = record {
      reduce = c ∷ (rest by kept n (c + 1) (by.step xs row c)).reduce;
      kept = (rest by kept n (c + 1) (by.step xs row c)).kept;
      marked = by.marked xs row c ++ (rest by kept n (c + 1) (by.step xs row c)).marked;
    } in i) is

rest_kept : (by : Arithmetic) (kept : List KeptRow) (n c : ℕ) (row : List ℤ) → c < n →
    at_column row c ≢ pos 0 → row_with_pivot kept c ≡ None →
    rest by kept n c row ≡ record { reduce = []; kept = with_pivot c (by.keep row c); marked = [] }
unfolding inserted_at_by
rest_kept by kept n c row below some free =
    rest_some by kept n c row below some
    ∙ ap (λ o. inserted_at_by by o c row (rest by kept n (c + 1))) free

rest_none : (by : Arithmetic) (kept : List KeptRow) (n c : ℕ) (row : List ℤ) → n ≤ c →
    rest by kept n c row ≡ record { reduce = []; kept = None; marked = [] }
unfolding insertion_by
rest_none by kept n c row past =
    let none : n - c ≡ 0 = omega arith in
    ap (λ m. insertion_by by kept (range_with_len c m) row) none

-- ---- how far it has come

pub behind_start : (by : Arithmetic) (kept : List KeptRow) (n : ℕ) (row : List ℤ)
    (reduce : List ℕ) → reduce ≡ [] →
    IsBehind (insertion_by by kept (range_with_len 0 n) row) reduce (rest by kept n 0 row)
behind_start by kept n row reduce e =
    let whole : n - 0 ≡ n = omega arith in
    let same : rest by kept n 0 row ≡ insertion_by by kept (range_with_len 0 n) row =
    ap (λ m. insertion_by by kept (range_with_len 0 m) row) whole in
    subst (λ (i : Insertion). IsBehind (insertion_by by kept (range_with_len 0 n) row) reduce i)
    (sym same) record {
      reduce_is = ap (λ xs. xs ++ (insertion_by by kept (range_with_len 0 n) row).reduce) (sym e);
      kept_is = refl;
      marked = (λ h. h, λ h. h);
    }

pub behind_zero : (by : Arithmetic) (i : Insertion) (reduce : List ℕ) (kept : List KeptRow)
    (n c : ℕ) (row : List ℤ) →
    IsBehind i reduce (rest by kept n c row) → c < n → at_column row c ≡ pos 0 →
    IsBehind i reduce (rest by kept n (c + 1) row)
behind_zero by i reduce kept n c row h below e =
    subst (IsBehind i reduce) (rest_zero by kept n c row below e) h

behind_marked : (by : Arithmetic) (i : Insertion) (reduce : List ℕ) (kept : List KeptRow) (n c : ℕ)
    (row e : List ℤ) →
    IsBehind i reduce (rest by kept n c row) → c < n → at_column row c ≢ pos 0 → IsRowAt kept c e →
    IsBehind i reduce record {
      reduce = c ∷ (rest by kept n (c + 1) (by.step e row c)).reduce;
      kept = (rest by kept n (c + 1) (by.step e row c)).kept;
      marked = by.marked e row c ++ (rest by kept n (c + 1) (by.step e row c)).marked;
    }
behind_marked by i reduce kept n c row e h below some at =
    subst (IsBehind i reduce) (rest_step by kept n c row e below some at) h

pub behind_step : (by : Arithmetic) (i : Insertion) (reduce reduce' : List ℕ) (kept : List KeptRow)
    (n c : ℕ) (row e next : List ℤ) →
    IsBehind i reduce (rest by kept n c row) → c < n → at_column row c ≢ pos 0 → IsRowAt kept c e →
    (Passes (by.marked e row c) → ⊥) → next ≡ by.step e row c → reduce' ≡ reduce ++ c ∷ [] →
    IsBehind i reduce' (rest by kept n (c + 1) next)
behind_step by i reduce reduce' kept n c row e next h below some at narrow next_is reduce_is =
    let whole = behind_marked by i reduce kept n c row e h below some at in
    subst (λ (xs : List ℤ). IsBehind i reduce' (rest by kept n (c + 1) xs)) (sym next_is) record {
      reduce_is = whole.reduce_is
          ∙ sym (append_assoc reduce (c ∷ []) (rest by kept n (c + 1) (by.step e row c)).reduce)
          ∙ ap (λ xs. xs ++ (rest by kept n (c + 1) (by.step e row c)).reduce) (sym reduce_is);
      kept_is = whole.kept_is;
      marked = (
        λ p. later (either_passes (by.marked e row c)
            (rest by kept n (c + 1) (by.step e row c)).marked (whole.marked.0 p)),
        λ p. whole.marked.1 (back_passes (by.marked e row c)
            (rest by kept n (c + 1) (by.step e row c)).marked p),
      );
    }
  where
    later : Passes (by.marked e row c) ⊎ Passes (rest by kept n (c + 1) (by.step e row c)).marked →
        Passes (rest by kept n (c + 1) (by.step e row c)).marked
    later (inl p) = absurd (narrow p)
    later (inr p) = p

pub behind_wide : (by : Arithmetic) (i : Insertion) (reduce : List ℕ) (kept : List KeptRow)
    (n c : ℕ) (row e : List ℤ) →
    IsBehind i reduce (rest by kept n c row) → c < n → at_column row c ≢ pos 0 → IsRowAt kept c e →
    Passes (by.marked e row c) → Passes i.marked
behind_wide by i reduce kept n c row e h below some at p =
    (behind_marked by i reduce kept n c row e h below some at).marked.1
    (front_passes (by.marked e row c) (rest by kept n (c + 1) (by.step e row c)).marked p)

-- the end
pub behind_kept : (by : Arithmetic) (i : Insertion) (reduce : List ℕ) (kept : List KeptRow)
    (n c : ℕ) (row : List ℤ) →
    IsBehind i reduce (rest by kept n c row) → c < n → at_column row c ≢ pos 0 →
    row_with_pivot kept c ≡ None →
    IsDone by i (Some c) row reduce
behind_kept by i reduce kept n c row h below some free =
    let end = subst (IsBehind i reduce) (rest_kept by kept n c row below some free) h in record {
      left_is = record { reduce_is = end.reduce_is ∙ append-nil reduce; kept_is = end.kept_is };
      narrow = λ p. none_passes (end.marked.0 p);
    }

pub behind_end : (by : Arithmetic) (i : Insertion) (reduce : List ℕ) (kept : List KeptRow) (n c : ℕ)
    (row : List ℤ) →
    IsBehind i reduce (rest by kept n c row) → n ≤ c → IsDone by i None row reduce
behind_end by i reduce kept n c row h past =
    let end = subst (IsBehind i reduce) (rest_none by kept n c row past) h in record {
      left_is = record { reduce_is = end.reduce_is ∙ append-nil reduce; kept_is = end.kept_is };
      narrow = λ p. none_passes (end.marked.0 p);
    }
