-- Where the row with a pivot stands, and the columns without one.
use Rattle.std.proofs.Common.{◌≡◌, ℕ, zero, suc, ◌+◌, ◌<◌, ◌≤◌, ◌⊎◌, inl, inr, Bool, true, false, not, cond, Option, None, Some, ℤ, pos, ◌<ℤ◌, List, [], ◌∷◌, length, get_or, eqb, refl, sym, ap, subst, subst₂, ◌∙◌, arith}
use Rattle.std.specs.Prelude.{nat_lt, is_some}
use Rattle.std.specs.List.{find, position, position_or_len, range_with_len}
use Rattle.std.proofs.lemmas.Bool.{cases_lt, ltb-true, ltb-false}
use Rattle.std.proofs.lemmas.List.{get_or_default}
use Rattle.gj_shape.specs.Elimination.{KeptRow, at_column, row_with_pivot, free_column}
use Rattle.gj_theory.specs.TriangularRows.{AreTriangular}
use Rattle.gj_theory.proofs.Triangular.{kept_row_at}
use Rattle.gj_theory.proofs.Kernels.{has_pivot, none_found, some_found}
use Rattle.gj_elim.specs.declared.log.LogRow.{LogRow}
use Rattle.gj_elim.specs.KeptRows.{kept_rows}

-- the kept row with its pivot at the column has these entries
abbrev pub IsRowAt : List KeptRow → ℕ → List ℤ → Type 0
IsRowAt kept c entries = (k : KeptRow) × (row_with_pivot kept c ≡ Some k) × (k.entries ≡ entries)

-- ---- the first line of the log with a pivot

abbrev pub has : ℕ → LogRow → Bool
has c line = eqb line.pivot c

-- where a line with the pivot stands at a place n, or at the end
pub record IsPlace (log : List LogRow) (rows : List (List ℤ)) (c n : ℕ) (o : Option KeptRow) :
    Type 0 where
  pub found : n < length log → (k : KeptRow) × (o ≡ Some k) × (k.entries ≡ get_or rows n [])
  pub none : length log ≤ n → o ≡ None

place_first : (l : LogRow) (log : List LogRow) (r : List ℤ) (rows : List (List ℤ)) (c n : ℕ)
    (o : Option KeptRow) (b : Bool) →
    (k : KeptRow) → k.entries ≡ r → IsPlace log rows c n o →
    IsPlace (l ∷ log) (r ∷ rows) c (cond (not b) (1 + n) 0) (cond b (Some k) o)
place_first l log r rows c n o true k is h =
    record { found = λ below. (k, refl, is); none = λ past. absurd (omega arith) }
place_first l log r rows c n o false k is h =
    let next : 1 + n ≡ suc n = omega arith in record {
      found = λ below.
          let (x, x_is, entries) = h.found (omega arith) in
          (x, x_is, entries ∙ sym (ap (λ m. get_or (r ∷ rows) m []) next));
      none = λ past. h.none (omega arith);
    }

place : (log : List LogRow) (rows : List (List ℤ)) (c : ℕ) → length log ≡ length rows →
    IsPlace log rows c (position_or_len (has c) log) (row_with_pivot (kept_rows log rows) c)
place [] rows c len = record { found = λ below. absurd (omega arith); none = λ past. refl }
place (l ∷ log) [] c len = absurd (omega arith)
place (l ∷ log) (r ∷ rows) c len =
    place_first l log r rows c (position_or_len (has c) log) (row_with_pivot (kept_rows log rows) c)
    (eqb l.pivot c)
    record { number = l.number; reduce = l.reduce; pivot = l.pivot; entries = r } refl
    (place log rows c (omega arith))

pub place_found : (log : List LogRow) (rows : List (List ℤ)) (c i : ℕ) → length log ≡ length rows →
    Some i ≡ position (has c) log →
    (i < length log) × IsRowAt (kept_rows log rows) c (get_or rows i [])
place_found log rows c i len e = by_test (nat_lt (position_or_len (has c) log) (length log)) refl e
  where
    by_test : (b : Bool) → nat_lt (position_or_len (has c) log) (length log) ≡ b →
        Some i ≡ cond b (Some (position_or_len (has c) log)) None →
        (i < length log) × IsRowAt (kept_rows log rows) c (get_or rows i [])
    by_test true t e =
        let below = ltb-true (position_or_len (has c) log) (length log) t in
        let same : i ≡ position_or_len (has c) log = cc in
        let (k, found, is) = (place log rows c len).found below in
        (omega arith, (k, found, is ∙ ap (λ n. get_or rows n []) (sym same)))
    by_test false t e = absurd cc

pub place_none : (log : List LogRow) (rows : List (List ℤ)) (c : ℕ) → length log ≡ length rows →
    None ≡ position (has c) log → row_with_pivot (kept_rows log rows) c ≡ None
place_none log rows c len e = by_test (nat_lt (position_or_len (has c) log) (length log)) refl e
  where
    by_test : (b : Bool) → nat_lt (position_or_len (has c) log) (length log) ≡ b →
        None ≡ cond b (Some (position_or_len (has c) log)) None →
        row_with_pivot (kept_rows log rows) c ≡ None
    by_test true t e = absurd cc
    by_test false t e = (place log rows c len).none
        (ltb-false (position_or_len (has c) log) (length log) t)

-- ---- the row that is found

pub entries_at : (kept : List KeptRow) (c : ℕ) (e e' : List ℤ) → e' ≡ e → IsRowAt kept c e →
    IsRowAt kept c e'
entries_at kept c e e' same (k, found, is) = (k, found, is ∙ sym same)

-- what the code's `rows[i]` gives
pub row_read : {X : Type 0} (rows : List (List X)) (i : ℕ) (x y : List X) → i < length rows →
    x ≡ get_or rows i x → y ≡ x →
    y ≡ get_or rows i []
row_read rows i x y inside x_is y_is = y_is ∙ x_is ∙ get_or_default rows i x [] inside

pub record IsPivotRow (n c : ℕ) (e : List ℤ) : Type 0 where
  pub columns : length e ≡ n
  pub zero_before : (j : ℕ) → j < c → at_column e j ≡ pos 0
  pub positive : pos 0 <ℤ at_column e c

pub pivot_row : (n : ℕ) (kept : List KeptRow) (c : ℕ) (e : List ℤ) → AreTriangular n kept →
    IsRowAt kept c e → IsPivotRow n c e
pivot_row n kept c e h (k, found, is) =
    let (row, at) = kept_row_at n kept c k h found in record {
      columns = ap length (sym is) ∙ row.columns;
      zero_before = λ j before. subst (λ (xs : List ℤ). at_column xs j ≡ pos 0) is
          (row.zero_before j (subst (λ (i : ℕ). j < i) (sym at) before));
      positive = subst₂ (λ (xs : List ℤ) (i : ℕ). pos 0 <ℤ at_column xs i) is at row.at_pivot;
    }

-- ---- the columns without a pivot

-- the column has a pivot
pub has_row : (log : List LogRow) (rows : List (List ℤ)) (c : ℕ) → length log ≡ length rows →
    (None ≡ position (has c) log → ⊥) → has_pivot (kept_rows log rows) c ≡ true
has_row log rows c len some =
    by_test (has_pivot (kept_rows log rows) c) refl
    (nat_lt (position_or_len (has c) log) (length log)) refl some
  where
    by_test : (b : Bool) → has_pivot (kept_rows log rows) c ≡ b → (d : Bool) →
        nat_lt (position_or_len (has c) log) (length log) ≡ d →
        (None ≡ cond d (Some (position_or_len (has c) log)) None → ⊥) →
        has_pivot (kept_rows log rows) c ≡ true
    by_test true t d u none = t
    by_test false t false u none = absurd (none refl)
    by_test false t true u none =
        let (k, found, is) =
        (place log rows c len).found (ltb-true (position_or_len (has c) log) (length log) u) in
        let free = none_found (λ r. eqb r.pivot c) (kept_rows log rows) t in
        absurd cc

pub has_no_row : (log : List LogRow) (rows : List (List ℤ)) (c : ℕ) → length log ≡ length rows →
    None ≡ position (has c) log → has_pivot (kept_rows log rows) c ≡ false
has_no_row log rows c len e = by_test (has_pivot (kept_rows log rows) c) refl
  where
    by_test : (b : Bool) → has_pivot (kept_rows log rows) c ≡ b →
        has_pivot (kept_rows log rows) c ≡ false
    by_test false t = t
    by_test true t = absurd
        (some_found (λ r. eqb r.pivot c) (kept_rows log rows) t (place_none log rows c len e))

-- the first of a range
find_first : (p : ℕ → Bool) (a m c : ℕ) → a ≤ c → c < a + m → p c ≡ true →
    ((j : ℕ) → a ≤ j → j < c → p j ≡ false) →
    find p (range_with_len a m) ≡ Some c
find_first p a zero c from below passes before = absurd (omega arith)
find_first p a (suc m) c from below passes before =
    by_place (cases_lt a c)
    (λ later. find_first p (a + 1) m c later (omega arith) passes
    (λ j next. before j (omega arith)))
  where
    by_place : (a < c) ⊎ (c ≤ a) → (a + 1 ≤ c → find p (range_with_len (a + 1) m) ≡ Some c) →
        cond (p a) (Some a) (find p (range_with_len (a + 1) m)) ≡ Some c
    by_place (inl l) later =
        ap (λ b. cond b (Some a) (find p (range_with_len (a + 1) m))) (before a (omega arith) l)
        ∙ later (omega arith)
    by_place (inr l) later =
        let same : c ≡ a = omega arith in
        ap (λ b. cond b (Some a) (find p (range_with_len (a + 1) m))) (ap p (sym same) ∙ passes)
        ∙ ap Some (sym same)

find_none : (p : ℕ → Bool) (a m : ℕ) → ((j : ℕ) → a ≤ j → j < a + m → p j ≡ false) →
    find p (range_with_len a m) ≡ None
find_none p a zero none = refl
find_none p a (suc m) none =
    ap (λ b. cond b (Some a) (find p (range_with_len (a + 1) m)))
    (none a (omega arith) (omega arith))
    ∙ find_none p (a + 1) m (λ j from below. none j (omega arith) (omega arith))

pub free_found : (log : List LogRow) (n c : ℕ) → c < n →
    ((k : ℕ) → k < c → None ≡ position (has k) log → ⊥) →
    None ≡ position (has c) log → (rows : List (List ℤ)) → length log ≡ length rows →
    Some c ≡ free_column n (kept_rows log rows)
free_found log n c below before here rows len =
    sym (find_first (λ j. not (has_pivot (kept_rows log rows) j)) 0 n c (omega arith) (omega arith)
    (ap not (has_no_row log rows c len here))
    (λ j from b. ap not (has_row log rows j len (before j b))))

pub free_none : (log : List LogRow) (n c : ℕ) → n ≤ c →
    ((k : ℕ) → k < c → None ≡ position (has k) log → ⊥) →
    (rows : List (List ℤ)) → length log ≡ length rows → None ≡ free_column n (kept_rows log rows)
free_none log n c past before rows len =
    sym (find_none (λ j. not (has_pivot (kept_rows log rows) j)) 0 n
    (λ j from below. ap not (has_row log rows j len (before j (omega arith)))))

-- ---- tests of an option

pub none_from_test : {X : Type 0} (o p : Option X) → is_some o ≡ false → o ≡ p → None ≡ p
none_from_test None p t e = e
none_from_test (Some x) p t e = absurd cc
