-- The kept rows, as a table over the columns.
use Rattle.std.proofs.Common.{◌≡◌, ◌≢◌, ◌↔◌, ℕ, suc, ◌<◌, Bool, true, false, IsTrue, cond, ℤ, pos, List, [], ◌∷◌, ◌++◌, length, take, get_or, eqb, refl, sym, ap, subst, ◌∙◌, arith}
use Rattle.std.specs.Prelude.{Option, None, Some, All, Any, is_some}
use Rattle.std.proofs.lemmas.Bool.{eq-eqb, ne_eqb}
use Rattle.std.proofs.lemmas.List.{get_or-take, length-take-le}
use Rattle.std.proofs.lemmas.List.Elements.{All-get_or, All-from_get_or}
use Rattle.gj_theory.proofs.Kernels.{any_with_pivot, no_pivot_at}
use Rattle.gj_shape.specs.Elimination.{KeptRow, at_column, entries_of, row_with_pivot, Passes}
use Rattle.gj_proof.specs.declared.numbers.Numbers.{Numbers}
use Rattle.gj_proof.specs.PresentRows.{arithmetic_of}
use Rattle.gj_proof.specs.Rules.{MeetsReduce, MeetsPivot}
use Rattle.gj_check_groups.specs.GroupOutcomes.{HasSize, MeetsStep}
use Rattle.gj_check_groups.specs.KeptTable.{entries_kept, AreRowsAt}

-- ---- the row with a pivot

-- none has, said otherwise
pub none_has_pivot : (kept : List KeptRow) (c : ℕ) → row_with_pivot kept c ≡ None →
    Any (λ r. r.pivot ≡ c) kept → ⊥
none_has_pivot kept c e (i, x, below, is, at) =
    no_pivot_at kept c e i x below (ap (λ r. r.pivot) is ∙ at)

-- behind a new row
pub row_with_pivot_push : (kept : List KeptRow) (k : KeptRow) (c : ℕ) → k.pivot ≢ c →
    row_with_pivot (kept ++ k ∷ []) c ≡ row_with_pivot kept c
row_with_pivot_push [] k c other = ap (λ b. cond b (Some k) None) (ne_eqb k.pivot c other)
row_with_pivot_push (r ∷ kept) k c other =
    ap (λ o. cond (eqb r.pivot c) (Some r) o) (row_with_pivot_push kept k c other)

pub row_with_new_pivot : (kept : List KeptRow) (k : KeptRow) → All (λ r. r.pivot ≢ k.pivot) kept →
    row_with_pivot (kept ++ k ∷ []) k.pivot ≡ Some k
row_with_new_pivot [] k new = ap (λ b. cond b (Some k) None) (eq-eqb k.pivot k.pivot refl)
row_with_new_pivot (r ∷ kept) k new =
    ap (λ b. cond b (Some r) (row_with_pivot (kept ++ k ∷ []) k.pivot))
    (ne_eqb r.pivot k.pivot (new 0 r (omega arith)))
    ∙ row_with_new_pivot kept k (λ i d below. new (suc i) d (omega arith))

-- ---- the table

pub row_of_entries : (o : Option KeptRow) (e : List ℤ) → Some e ≡ entries_kept o →
    (k : KeptRow) × (o ≡ Some k) × (k.entries ≡ e)
row_of_entries None e h = absurd cc
row_of_entries (Some k) e h = (k, refl, cc)

pub no_entries : (o : Option KeptRow) → None ≡ entries_kept o → o ≡ None
no_entries None h = refl
no_entries (Some k) h = absurd cc

-- ---- a step

pub no_step : (kept : List KeptRow) (table : List (Option (List ℤ))) (row : List ℤ) (c : ℕ) →
    AreRowsAt kept table →
    None ≡ get_or table c None → MeetsReduce kept row c → ⊥
no_step kept table row c rows none h =
    none_has_pivot kept c (no_entries (row_with_pivot kept c) (none ∙ rows c)) h.pivot

-- the entries of the kept row
pub entries_at : (kept : List KeptRow) (table : List (Option (List ℤ))) (c : ℕ) (e : List ℤ) →
    AreRowsAt kept table →
    Some e ≡ get_or table c None →
    (Any (λ r. r.pivot ≡ c) kept) × (entries_of (row_with_pivot kept c) ≡ e)
unfolding entries_of
entries_at kept table c e rows some =
    let (k, found, is) = row_of_entries (row_with_pivot kept c) e (some ∙ rows c) in
    (any_with_pivot kept c k found, ap entries_of found ∙ is)

pub step_reduces : (kept : List KeptRow) (table : List (Option (List ℤ))) (row e : List ℤ) (c : ℕ) →
    AreRowsAt kept table →
    Some e ≡ get_or table c None → at_column row c ≢ pos 0 → MeetsReduce kept row c
step_reduces kept table row e c rows some not_zero =
    record { pivot = (entries_at kept table c e rows some).0; not_zero = not_zero }

pub step_meets : (numbers : Numbers) (kept : List KeptRow) (table : List (Option (List ℤ)))
    (row e after : List ℤ) (c : ℕ) → AreRowsAt kept table →
    Some e ≡ get_or table c None → at_column row c ≢ pos 0 →
    (Passes ((arithmetic_of numbers).marked e row c) → ⊥) →
    after ≡ (arithmetic_of numbers).step e row c →
    MeetsStep numbers kept row c
    × (after ≡ (arithmetic_of numbers).step (entries_of (row_with_pivot kept c)) row c)
step_meets numbers kept table row e after c rows some not_zero narrow is =
    let same = sym (entries_at kept table c e rows some).1 in (
      record {
        reduce = step_reduces kept table row e c rows some not_zero;
        size = subst (λ (xs : List ℤ). Passes ((arithmetic_of numbers).marked xs row c) →
            ⊥) same narrow;
      },
      is ∙ ap (λ xs. (arithmetic_of numbers).step xs row c) same,
    )

pub step_too_wide : (numbers : Numbers) (kept : List KeptRow) (table : List (Option (List ℤ)))
    (row e : List ℤ) (c : ℕ) → AreRowsAt kept table →
    Some e ≡ get_or table c None → at_column row c ≢ pos 0 →
    Passes ((arithmetic_of numbers).marked e row c) →
    MeetsReduce kept row c × (HasSize numbers kept row c → ⊥)
step_too_wide numbers kept table row e c rows some not_zero wide =
    let same = sym (entries_at kept table c e rows some).1 in (
      step_reduces kept table row e c rows some not_zero,
      λ narrow. narrow (subst (λ (xs : List ℤ). Passes ((arithmetic_of numbers).marked xs row c))
          same wide),
    )

-- ---- a pivot

-- no row has its pivot at a column of the table without entries
pub new_pivot : (kept : List KeptRow) (table : List (Option (List ℤ))) (c : ℕ) →
    AreRowsAt kept table →
    None ≡ get_or table c None → All (λ r. r.pivot ≢ c) kept
new_pivot kept table c rows none =
    no_pivot_at kept c (no_entries (row_with_pivot kept c) (none ∙ rows c))

-- and one has at a column with entries
pub no_new_pivot : (kept : List KeptRow) (table : List (Option (List ℤ))) (c : ℕ) (e : List ℤ) →
    AreRowsAt kept table →
    Some e ≡ get_or table c None → All (λ r. r.pivot ≢ c) kept → ⊥
no_new_pivot kept table c e rows some new =
    let (i, x, below, is, at) = (entries_at kept table c e rows some).0 in
    new i x below (ap (λ r. r.pivot) is ∙ at)

-- as the code reads the table
pub taken : (table : List (Option (List ℤ))) (c : ℕ) (o : Option (List ℤ)) →
    o ≡ get_or table c None → is_some o ≡ true →
    (e : List ℤ) × (Some e ≡ get_or table c None)
taken table c None is some = absurd cc
taken table c (Some e) is some = (e, is)

pub not_taken : (table : List (Option (List ℤ))) (c : ℕ) (o : Option (List ℤ)) →
    o ≡ get_or table c None → is_some o ≡ false →
    None ≡ get_or table c None
not_taken table c None is none = is
not_taken table c (Some e) is none = absurd cc

-- a test of the entries before a column
pub pivot_tested : (b : Bool) (kept : List KeptRow) (table : List (Option (List ℤ))) (row : List ℤ)
    (c : ℕ) → AreRowsAt kept table →
    c < length row → None ≡ get_or table c None → at_column row c ≢ pos 0 →
    IsTrue b ↔ All (λ x. x ≡ pos 0) (take c row) → IsTrue b ↔ MeetsPivot (length row) kept row c
pivot_tested b kept table row c rows within none not_zero test = (
  λ t. record {
    column = within;
    new = new_pivot kept table c rows none;
    zero_before = λ j before.
        sym (get_or-take c row j (pos 0) before)
        ∙ All-get_or (λ x. x ≡ pos 0) (take c row) j (pos 0)
        (omega (arith, length-take-le c row (omega arith))) (test.0 t);
    not_zero = not_zero;
  },
  λ h. test.1 (All-from_get_or (λ x. x ≡ pos 0) (take c row) (pos 0)
      (λ j below.
      let before : j < c = omega (arith, length-take-le c row (omega arith)) in
      get_or-take c row j (pos 0) before ∙ h.zero_before j before)),
)
