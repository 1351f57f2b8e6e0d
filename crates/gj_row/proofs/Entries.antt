-- The entries of a row that are not 0.
use Rattle.std.proofs.Common.{inl, inr, ◌==◌, ◌≡◌, ◌≢◌, ℕ, pos, ◌+◌, ◌<◌, ◌≤◌, zero, suc, true, false, List, [], ◌∷◌, All, map, length, get_or, unsigned_abs, ap, subst, arith}
use Rattle.std.proofs.lemmas.Bool.{cases_Bool}
use Rattle.std.specs.List.Sorted.{IsStrictlyIncreasing}
use Rattle.std.proofs.lemmas.List.Elements.{All-nil, All-head, All-append, All-push, All-map}
use Rattle.gj_frac.specs.declared.Frac.{Frac}
use Rattle.gj_frac.specs.Fraction.{numerator}
use Rattle.gj_shape.proofs.LeastDenominator.{Divides}
use Rattle.gj_lemmas.proofs.Lists.{All-back}
use Rattle.gj_row.specs.TableauLimits.{AreWithinLimits, IsRowWithinLimits}
use Rattle.gj_shape.specs.Limits.{IsSmallNumber}
use Rattle.gj_row.specs.TableauText.{is_zero, entry_at, entries_from}
use Rattle.gj_row.specs.declared.tableau.Entry.{Entry}
use Rattle.gj_row.specs.declared.tableau.Row.{Row}
use Rattle.gj_row.proofs.SpelledNumbers.{entry_none, entry_one}

-- what holds of an entry that is not 0
one_holds : (P : Entry → Type 0) (c : ℕ) (x : Frac) →
    (is_zero x ≡ false → P (record { column = c; value = x })) → All P (entry_at c x)
one_holds P c x h =
    elim (cases_Bool (is_zero x)) [
      | inl some ↦ rw (entry_none c x some) (All-nil P)
      | inr none ↦ rw (entry_one c x none) (All-push P [] _ (All-nil P) (h none))
    ]

-- what holds of each value that is not 0, in its column, holds of the entries
all_hold : (P : Entry → Type 0) (c : ℕ) (xs : List Frac) →
    ((i : ℕ) (d : Frac) → i < length xs → is_zero (get_or xs i d) ≡ false →
    P (record { column = c + i; value = get_or xs i d })) →
    All P (entries_from c xs)
all_hold P c [] h = All-nil P
all_hold P c (x ∷ xs) h =
    All-append P (entry_at c x) (entries_from (c + 1) xs)
    (one_holds P c x (λ some. subst (λ n. P (record { column = n; value = x })) (omega arith)
    (h 0 x (omega arith) some)))
    (all_hold P (c + 1) xs (λ i d within some.
    subst (λ n. P (record { column = n; value = get_or xs i d })) (omega arith)
    (h (suc i) d (omega arith) some)))

values_hold : (P : Frac → Type 0) (right : Frac) (xs : List Frac) → All P (right ∷ xs) →
    All P (right ∷ map (λ e. e.value) (entries_from 0 xs))
values_hold P right xs h =
    All-append P (right ∷ []) (map (λ e. e.value) (entries_from 0 xs))
    (All-push P [] right (All-nil P) (All-head P right xs h))
    (All-map P (λ e. e.value) (entries_from 0 xs)
    (all_hold (λ e. P e.value) 0 xs
    (λ i d within some. All-back P (right ∷ []) xs h i d within)))

not_zero : (x : Frac) → is_zero x ≡ false → numerator x ≢ pos 0
not_zero x some e = let none : is_zero x ≡ true = ap (λ z. unsigned_abs z == 0) e in cc

-- the columns ascend
put_first : (c : ℕ) (ns : List ℕ) → IsStrictlyIncreasing ns → All (λ n. c < n) ns →
    IsStrictlyIncreasing (c ∷ ns)
put_first c ns h above zero within = above 0 0 (omega arith)
put_first c ns h above (suc k) within =
    let step : suc k + 1 ≡ suc (k + 1) = omega arith in
    rw step (h k (omega arith))

columns_above : (c : ℕ) (xs : List Frac) →
    All (λ n. c ≤ n) (map (λ e. e.column) (entries_from c xs))
columns_above c xs =
    All-map (λ n. c ≤ n) (λ e. e.column) (entries_from c xs)
    (all_hold (λ e. c ≤ e.column) c xs (λ i d within some. omega arith))

pub columns_ascend : (c : ℕ) (xs : List Frac) →
    IsStrictlyIncreasing (map (λ e. e.column) (entries_from c xs))
columns_ascend c [] = λ k within. absurd (omega arith)
columns_ascend c (x ∷ xs) =
    elim (cases_Bool (is_zero x)) [
      | inl none ↦ rw (entry_none c x none) (columns_ascend (c + 1) xs)
      | inr some ↦ rw (entry_one c x some)
          (put_first c (map (λ e. e.column) (entries_from (c + 1) xs)) (columns_ascend (c + 1) xs)
          (λ k d within. let above = columns_above (c + 1) xs k d within in omega arith))
    ]

-- a row whose numbers are within the limits is
pub row_within : (row : Row) (values : List Frac) → row.entries ≡ entries_from 0 values →
    AreWithinLimits (row.rhs ∷ values) →
    IsRowWithinLimits (length values) row
row_within row values is within =
    let d = within.common in
    record {
      numbers = rw is record {
        small = values_hold IsSmallNumber row.rhs values within.small;
        common = (d.0, d.1, d.2, values_hold (Divides d.0) row.rhs values d.3);
      };
      no_zero = rw is (all_hold (λ e. numerator e.value ≢ pos 0) 0 values
          (λ i x below some. not_zero (get_or values i x) some));
      ascending = rw is (columns_ascend 0 values);
      below = rw is (all_hold (λ e. e.column < length values) 0 values
          (λ i x below some. omega arith));
    }
