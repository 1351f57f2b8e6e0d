-- An insertion by steps in 64 bits goes on: the row is a multiple of that of the definition.
use Rattle.std.proofs.Common.{◌≡◌, ◌≢◌, ℕ, ◌+◌, ◌<◌, ◌≤◌, ◌^◌, Bool, true, false, None, Some, ℤ, pos, ◌*ℤ◌, FitsSigned, to_z, of_z, List, [], ◌∷◌, ◌++◌, length, below_more, refl, sym, ap, subst, ◌∙◌, arith}
use Rattle.std.specs.Prelude.{All, Result, Ok, Err, IfOk, OnOk}
use Rattle.std.proofs.lemmas.Int.{ints, to_z-of_z}
use mir.Syntax.{w64}
use Rattle.std.proofs.lemmas.List.{length-map}
use Rattle.std.proofs.lemmas.List.Elements.{All-from_get_or}
use Rattle.gj_lemmas.proofs.Integers.{zero_factor_z}
use Rattle.gj_shape.specs.Elimination.{KeptRow, Insertion, whole_numbers, inserted, at_column, divided, eliminated, reduced, row_with_pivot, with_pivot, kept_entries}
use Rattle.gj_frac.specs.Fraction.{Fits}
use Rattle.gj_theory.proofs.DividedRows.{scaled_one}
use Rattle.gj_theory.proofs.Entries.{at_scaled, reduced_at_zero, reduced_at_column}
use Rattle.gj_theory.proofs.Steps.{length-reduced}
use Rattle.gj_elim.specs.Lazy.{IsMultipleRow, IsLazyStep, IsExactly, IsExtent}
use Rattle.gj_elim.specs.Progress.{IsBehind, IsDone, IsReached, rest}
use Rattle.gj_elim.specs.declared.lazy.Reached.{Reached}
use Rattle.gj_elim.specs.declared.lazy.Reached.TheVariants.{Column}
use Rattle.gj_elim.proofs.LazySteps.{divided_twice, kept_multiple}
use Rattle.gj_elim.proofs.Places.{IsRowAt, IsPivotRow}
use Rattle.gj_elim.proofs.Progressing.{behind_start, behind_zero, behind_step, behind_kept, behind_end}

-- at this column the row is a multiple of that of the definition
pub record IsLazy (i : Insertion) (kept : List KeptRow) (n c : ℕ) (row : List ℤ) (reduce : List ℕ)
    (is_stepped : Bool) (bound end : ℕ) : Type 0 where
  pub other : List ℤ
  pub multiple : IsMultipleRow other row
  pub exactly : IsExactly is_stepped other row
  pub behind : IsBehind i reduce (rest whole_numbers kept n c other)
  pub columns : length row ≡ n
  pub zero_before : (k : ℕ) → k < c → at_column row k ≡ pos 0
  pub extent : IsExtent bound end row
  pub bounded : bound < 2 ^ 63

pub lazy_start : (kept : List KeptRow) (n : ℕ) (row : List ℤ) (reduce : List ℕ) (bound end : ℕ) →
    length row ≡ n → reduce ≡ [] →
    IsExtent bound end row → bound < 2 ^ 63 →
    IsLazy (inserted n kept row) kept n 0 row reduce false bound end
lazy_start kept n row reduce bound end len empty extent bounded = record {
  other = row;
  multiple = record { factor = 1; some = omega arith; is = sym (scaled_one row) };
  exactly = refl;
  behind = behind_start whole_numbers kept n row reduce empty;
  columns = len;
  zero_before = λ k below. absurd (omega arith);
  extent = extent;
  bounded = bounded;
}

-- the entries of a multiple
at_multiple : (other row : List ℤ) (k : ℕ) → (h : IsMultipleRow other row) →
    at_column row k ≡ pos h.factor *ℤ at_column other k
at_multiple other row k h = ap (λ xs. at_column xs k) h.is ∙ at_scaled (pos h.factor) other k

zero_of_multiple : (other row : List ℤ) (k : ℕ) → IsMultipleRow other row →
    at_column row k ≡ pos 0 → at_column other k ≡ pos 0
zero_of_multiple other row k h e =
    zero_factor_z h.factor (at_column other k) h.some (sym (at_multiple other row k h) ∙ e)

times_zero : (l : ℕ) → pos l *ℤ pos 0 ≡ pos 0
times_zero l = omega (arith, ints)

zero_in_multiple : (other row : List ℤ) (k : ℕ) → IsMultipleRow other row →
    at_column other k ≡ pos 0 → at_column row k ≡ pos 0
zero_in_multiple other row k h e = at_multiple other row k h ∙ ap (λ z. pos h.factor *ℤ z) e
    ∙ times_zero h.factor

length-multiple : (other row : List ℤ) → IsMultipleRow other row → length row ≡ length other
length-multiple other row h = ap length h.is ∙ length-map other (λ x. pos h.factor *ℤ x)

pub lazy_zero : (i : Insertion) (kept : List KeptRow) (n c : ℕ) (row : List ℤ) (reduce : List ℕ)
    (is_stepped : Bool) (bound end : ℕ) →
    IsLazy i kept n c row reduce is_stepped bound end → c < n → at_column row c ≡ pos 0 →
    IsLazy i kept n (c + 1) row reduce is_stepped bound end
lazy_zero i kept n c row reduce is_stepped bound end h below e = record {
  other = h.other;
  multiple = h.multiple;
  exactly = h.exactly;
  behind = behind_zero whole_numbers i reduce kept n c h.other h.behind below
      (zero_of_multiple h.other row c h.multiple e);
  columns = h.columns;
  zero_before = below_more (λ k. at_column row k ≡ pos 0) c h.zero_before e;
  extent = h.extent;
  bounded = h.bounded;
}

reduced_is_divided : (e other : List ℤ) (c : ℕ) → reduced e other c ≡ divided (reduced e other c)
unfolding reduced
reduced_is_divided e other c = sym (divided_twice (eliminated e other c))

pub lazy_more : (i : Insertion) (kept : List KeptRow) (n c : ℕ) (row next e : List ℤ)
    (reduce reduce' : List ℕ) (is_stepped : Bool)
    (bound end bound' end' : ℕ) → IsLazy i kept n c row reduce is_stepped bound end → c < n →
    at_column row c ≢ pos 0 →
    IsRowAt kept c e → IsPivotRow n c e →
    ((other : List ℤ) → IsMultipleRow other row → IsExactly is_stepped other row →
    IsLazyStep e other next c) →
    reduce' ≡ reduce ++ c ∷ [] → IsExtent bound' end' next → bound' < 2 ^ 63 →
    IsLazy i kept n (c + 1) next reduce' true bound' end'
lazy_more i kept n c row next e reduce reduce' is_stepped bound end bound' end' h below some at
    pivot step reduce_is extent bounded =
    let stepped = step h.other h.multiple h.exactly in
    let len : length e ≡ length h.other = pivot.columns ∙ sym h.columns
    ∙ length-multiple h.other row h.multiple in record {
      other = reduced e h.other c;
      multiple = stepped.multiple;
      exactly = reduced_is_divided e h.other c;
      behind = behind_step whole_numbers i reduce reduce' kept n c h.other e
          (reduced e h.other c) h.behind below
          (λ zero. some (zero_in_multiple h.other row c h.multiple zero)) at stepped.narrow refl
          reduce_is;
      columns = length-multiple (reduced e h.other c) next stepped.multiple
          ∙ length-reduced e h.other c len ∙ sym (length-multiple h.other row h.multiple)
          ∙ h.columns;
      zero_before = below_more (λ k. at_column next k ≡ pos 0) c
          (λ k before.
          zero_in_multiple (reduced e h.other c) next k stepped.multiple
          (reduced_at_zero e h.other c k len (pivot.zero_before k before)
          (zero_of_multiple h.other row k h.multiple (h.zero_before k before))))
          (zero_in_multiple (reduced e h.other c) next c stepped.multiple
          (reduced_at_column e h.other c len));
      extent = extent;
      bounded = bounded;
    }

-- ---- the end

pub lazy_kept : (i : Insertion) (kept : List KeptRow) (n c : ℕ) (row : List ℤ) (reduce : List ℕ)
    (is_stepped : Bool) (bound end : ℕ) →
    IsLazy i kept n c row reduce is_stepped bound end → c < n → at_column row c ≢ pos 0 →
    row_with_pivot kept c ≡ None →
    IsDone whole_numbers i (Some c) row reduce
lazy_kept i kept n c row reduce is_stepped bound end h below some free =
    let done = behind_kept whole_numbers i reduce kept n c h.other h.behind below
    (λ zero. some (zero_in_multiple h.other row c h.multiple zero)) free in
    let same : kept_entries row c ≡ kept_entries h.other c =
    ap (λ xs. kept_entries xs c) h.multiple.is
    ∙ kept_multiple h.multiple.factor h.other c h.multiple.some in record {
      left_is = record {
        reduce_is = done.left_is.reduce_is;
        kept_is = done.left_is.kept_is ∙ ap (λ xs. with_pivot c (Some xs)) (sym same);
      };
      narrow = done.narrow;
    }

pub lazy_end : (i : Insertion) (kept : List KeptRow) (n c : ℕ) (row : List ℤ) (reduce : List ℕ)
    (is_stepped : Bool) (bound end : ℕ) →
    IsLazy i kept n c row reduce is_stepped bound end → n ≤ c →
    IsDone whole_numbers i None row reduce
lazy_end i kept n c row reduce is_stepped bound end h past =
    let done = behind_end whole_numbers i reduce kept n c h.other h.behind past in record {
      left_is = record { reduce_is = done.left_is.reduce_is; kept_is = done.left_is.kept_is };
      narrow = done.narrow;
    }

-- the row of the definition goes on
pub lazy_exact : (i : Insertion) (kept : List KeptRow) (n c : ℕ) (row exact : List ℤ)
    (reduce : List ℕ) (is_stepped : Bool) (bound end : ℕ) →
    IsLazy i kept n c row reduce is_stepped bound end →
    ((other : List ℤ) → IsMultipleRow other row → IsExactly is_stepped other row → exact ≡ other) →
    IsBehind i reduce (rest whole_numbers kept (length exact) c exact)
lazy_exact i kept n c row exact reduce is_stepped bound end h written =
    let same = written h.other h.multiple h.exactly in
    let len : length exact ≡ n = ap length same ∙ sym (length-multiple h.other row h.multiple)
    ∙ h.columns in
    subst (λ (m : ℕ). IsBehind i reduce (rest whole_numbers kept m c exact)) (sym len)
    (subst (λ (xs : List ℤ). IsBehind i reduce (rest whole_numbers kept n c xs))
    (sym same) h.behind)

pub lazy_fits : (bound end : ℕ) (row : List ℤ) → IsExtent bound end row → bound < 2 ^ 63 →
    All Fits row
lazy_fits bound end row extent bounded =
    All-from_get_or Fits row (pos 0) (λ k below. let small = extent.small bounded k in omega arith)

-- the code compares bits
pub some_small : (x : ℤ) → (of_z w64 x ≡ 0 → ⊥) → x ≢ pos 0
some_small x h e = h (ap (of_z w64) e)

pub zero_small : (x : ℤ) → FitsSigned w64 x → of_z w64 x ≡ 0 → x ≡ pos 0
zero_small x fits e = sym (to_z-of_z w64 x fits) ∙ ap (to_z w64) e

-- ---- from the given row

pub start_at : (kept : List KeptRow) (given row : List ℤ) (reduce : List ℕ) → row ≡ given →
    reduce ≡ [] →
    IsBehind (inserted (length given) kept given) reduce
    (rest whole_numbers kept (length row) 0 row)
start_at kept given row reduce is empty =
    subst (λ (xs : List ℤ). IsBehind (inserted (length given) kept given) reduce
    (rest whole_numbers kept (length xs) 0 xs)) (sym is)
    (behind_start whole_numbers kept (length given) given reduce empty)

pub reached_column : (kept : List KeptRow) (given row left exact : List ℤ) (r : Reached) (c : ℕ)
    (reduce : List ℕ) → row ≡ given → r ≡ Column c →
    IsReached kept (inserted (length row) kept row) r left exact reduce →
    IsBehind (inserted (length given) kept given) reduce
    (rest whole_numbers kept (length exact) c exact)
reached_column kept given row left exact r c reduce is r_is h =
    subst (λ (xs : List ℤ). IsBehind (inserted (length xs) kept xs) reduce
    (rest whole_numbers kept (length exact) c exact)) is
    (subst (λ (o : Reached). IsReached kept (inserted (length row) kept row) o left exact reduce)
    r_is h)

pub if_ok_more : {T E : Type 0} (r : Result T E) (P Q : T → Type 0) → IfOk r P →
    ((x : T) → P x → Q x) → IfOk r Q
if_ok_more (Ok x) P Q h f = f x h
if_ok_more (Err e) P Q h f = tt

pub on_ok_more : {T E : Type 0} (r : Result T E) (P : T → Type 0) (Q : Type 0) → IfOk r P →
    ((x : T) → P x → Q) → OnOk r Q
on_ok_more (Ok x) P Q h f = f x h
on_ok_more (Err e) P Q h f = tt
