-- An insertion over an arithmetic keeps triangular rows, and the solutions.
use Rattle.std.proofs.Common.{◌≡◌, ◌≢◌, ℕ, zero, suc, ◌+◌, ◌<◌, Bool, true, false, if◌then◌else◌, Option, None, Some, ℤ, pos, List, [], ◌∷◌, length, eqb, refl, sym, subst, ◌∙◌, below_more, arith}
use Rattle.std.specs.List.{range_with_len, IsDistinct}
use Rattle.std.specs.Ordering.{int_eq}
use Rattle.std.proofs.lemmas.Bool.Decides.{Decides-int_eq, not_from_Decides}
use Rattle.std.proofs.lemmas.List.{map_push}
use Rattle.std.proofs.lemmas.List.Elements.{All-head, All-push}
use Rattle.gj_lemmas.proofs.Lists.{All-front, All-back}
use Rattle.gj_shape.specs.Elimination.{KeptRow, Insertion, at_column, with_pivot, insertion_by, inserted_by, inserted_at_by, kept_behind, row_with_pivot}
use Rattle.gj_theory.specs.TriangularRows.{IsKeptRowBy, AreTriangularBy}
use Rattle.gj_theory.proofs.SoundArithmetic.{Carries, KeepsRow, SoundArithmetic, SolvesKeptBy}
use Rattle.gj_theory.proofs.Triangular.{find_has, kept_row_at, pivots_push}

-- the row is 0 before the column a
abbrev pub IsZeroBefore : List ℤ → ℕ → Type 0
IsZeroBefore row a = (j : ℕ) → j < a → at_column row j ≡ pos 0

pub zero_before_next : (row : List ℤ) (a : ℕ) → IsZeroBefore row a → at_column row a ≡ pos 0 →
    IsZeroBefore row (a + 1)
zero_before_next row a h here = below_more _ a h here

-- behind what an insertion leaves, the kept rows are triangular, and have the solutions of those
-- before and of the row
pub record Leaves (law : SoundArithmetic) (n : ℕ) (kept : List KeptRow) (row : List ℤ)
    (o : Option (ℕ × List ℤ)) : Type 0 where
  pub triangular : (number : ℕ) (reduce : List ℕ) →
      AreTriangularBy law.is_pivot n (kept_behind kept number reduce o)
  pub solutions : (number : ℕ) (reduce : List ℕ) (w : List ℤ) →
      Carries law.back (SolvesKeptBy law w kept × law.solves w row)
      (SolvesKeptBy law w (kept_behind kept number reduce o))

-- a row to which the solutions are carried leaves the same
leaves_along : (law : SoundArithmetic) (n : ℕ) (kept : List KeptRow) (row next : List ℤ)
    (o : Option (ℕ × List ℤ)) →
    ((w : List ℤ) → SolvesKeptBy law w kept →
    Carries law.back (law.solves w row) (law.solves w next)) →
    Leaves law n kept next o → Leaves law n kept row o
leaves_along law n kept row next o along h = record {
  triangular = h.triangular;
  solutions = λ number reduce w. record {
    onward = λ both. (h.solutions number reduce w).onward (both.0, (along w both.0).onward both.1);
    before = λ back all.
        let both = (h.solutions number reduce w).before back all in
        (both.0, (along w both.0).before back both.1);
  };
}

-- a row of which nothing is left
leaves_nothing : (law : SoundArithmetic) (n : ℕ) (kept : List KeptRow) (row : List ℤ) →
    AreTriangularBy law.is_pivot n kept →
    (law.back → (w : List ℤ) → law.solves w row) → Leaves law n kept row None
unfolding kept_behind
leaves_nothing law n kept row h solved = record {
  triangular = λ number reduce. h;
  solutions = λ number reduce w. record {
    onward = λ both. both.0;
    before =
        λ back all. (all, solved back w);
  };
}

-- a row that is 0 before a column without a pivot is kept there
pub leaves_kept : (law : SoundArithmetic) (n : ℕ) (kept : List KeptRow) (row : List ℤ) (c : ℕ)
    (entries : List ℤ) →
    AreTriangularBy law.is_pivot n kept → length row ≡ n → c < n → row_with_pivot kept c ≡ None →
    IsZeroBefore row c →
    KeepsRow law.is_pivot law.solves law.back row c entries →
    Leaves law n kept row (Some (c, entries))
unfolding kept_behind
leaves_kept law n kept row c entries h len below free none keeps =
    let last : ℕ → List ℕ →
    KeptRow = λ number reduce. record {
      number = number;
      reduce = reduce;
      pivot = c;
      entries =
          entries;
    } in
    let solved : List ℤ → KeptRow → Type 0 = λ w k. law.solves w k.entries in record {
      triangular = λ number reduce. record {
        rows = All-push (IsKeptRowBy law.is_pivot n) kept (last number reduce) h.rows record {
          columns = keeps.columns ∙ len;
          below = below;
          zero_before = λ j before. keeps.zero j (none j before);
          at_pivot = keeps.at_pivot;
        };
        pivots = subst (IsDistinct (λ a b. eqb a b))
            (sym (map_push (λ k. k.pivot) kept (last number reduce)))
            (pivots_push kept (last number reduce) h.pivots free);
      };
      solutions = λ number reduce w. record {
        onward = λ both. All-push (solved w) kept (last number reduce) both.0
            ((keeps.solutions w).onward both.1);
        before = λ back all. (
          All-front (solved w) kept (last number reduce ∷ []) all,
          (keeps.solutions w).before back
              (All-head (solved w) (last number reduce) []
              (All-back (solved w) kept (last number reduce ∷ []) all)),
        );
      };
    }

-- a step by the kept row with its pivot at the column
pub step_leaves_columns : (law : SoundArithmetic) (n : ℕ) (kept : List KeptRow) (row : List ℤ)
    (c : ℕ) (k : KeptRow) →
    AreTriangularBy law.is_pivot n kept → length row ≡ n → row_with_pivot kept c ≡ Some k →
    length (law.by.step k.entries row c) ≡ n
step_leaves_columns law n kept row c k h len found =
    law.step_columns k.entries row c ((kept_row_at n kept c k h found).0.columns ∙ sym len) ∙ len

pub step_leaves_zero : (law : SoundArithmetic) (n : ℕ) (kept : List KeptRow) (row : List ℤ) (c : ℕ)
    (k : KeptRow) →
    AreTriangularBy law.is_pivot n kept → length row ≡ n → row_with_pivot kept c ≡ Some k →
    IsZeroBefore row c →
    IsZeroBefore (law.by.step k.entries row c) (c + 1)
step_leaves_zero law n kept row c k h len found none =
    let (is, at) = kept_row_at n kept c k h found in
    let columns : length k.entries ≡ length row = is.columns ∙ sym len in
    zero_before_next (law.by.step k.entries row c) c
    (λ j below. law.step_zero k.entries row c j columns
    (is.zero_before j (subst (λ (i : ℕ). j < i) (sym at) below)) (none j below))
    (law.step_here k.entries row c columns
    (subst (λ (i : ℕ). law.is_pivot (at_column k.entries i)) at is.at_pivot))

step_carries : (law : SoundArithmetic) (n : ℕ) (kept : List KeptRow) (row : List ℤ) (c : ℕ)
    (k : KeptRow) →
    AreTriangularBy law.is_pivot n kept → length row ≡ n → row_with_pivot kept c ≡ Some k →
    (w : List ℤ) → SolvesKeptBy law w kept →
    Carries law.back (law.solves w row) (law.solves w (law.by.step k.entries row c))
step_carries law n kept row c k h len found w all =
    let (is, at) = kept_row_at n kept c k h found in
    let solved : law.solves w k.entries =
    (find_has (λ r. law.solves w r.entries) (λ r. eqb r.pivot c) kept k all found).0 in
    let columns : length k.entries ≡ length row = is.columns ∙ sym len in record {
      onward = law.step_onward k.entries row w c columns solved;
      before = λ back. law.step_before back k.entries row w c columns
          (subst (λ (i : ℕ). law.is_pivot (at_column k.entries i)) at is.at_pivot) solved;
    }

-- at a column, if the later columns leave what they should
leaves_here : (law : SoundArithmetic) (n : ℕ) (kept : List KeptRow) (a : ℕ) (row : List ℤ)
    (onward : List ℤ → Insertion) →
    AreTriangularBy law.is_pivot n kept → a < n → length row ≡ n → IsZeroBefore row a →
    ((next : List ℤ) → length next ≡ n → IsZeroBefore next (a + 1) →
    Leaves law n kept next (onward next).kept) →
    (o : Option KeptRow) → row_with_pivot kept a ≡ o → at_column row a ≢ pos 0 →
    Leaves law n kept row (inserted_at_by law.by o a row onward).kept
unfolding inserted_at_by
leaves_here law n kept a row onward h below len none later None e some =
    by_entries (law.by.keep row a) refl
  where
    by_entries : (o : Option (List ℤ)) → law.by.keep row a ≡ o →
        Leaves law n kept row (with_pivot a o)
    by_entries None is =
        leaves_nothing law n kept row h (λ back. absurd (law.not_kept back row a is))
    by_entries (Some entries) is = leaves_kept law n kept row a entries h len below e none
        (law.kept row a entries some is)
leaves_here law n kept a row onward h below len none later (Some k) e some =
    let next = law.by.step k.entries row a in
    leaves_along law n kept row next (onward next).kept (step_carries law n kept row a k h len e)
    (later next (step_leaves_columns law n kept row a k h len e)
    (step_leaves_zero law n kept row a k h len e none))

leaves_at : (law : SoundArithmetic) (n : ℕ) (kept : List KeptRow) (a : ℕ) (row : List ℤ)
    (onward : List ℤ → Insertion) →
    AreTriangularBy law.is_pivot n kept → a < n → length row ≡ n → IsZeroBefore row a →
    ((next : List ℤ) → length next ≡ n → IsZeroBefore next (a + 1) →
    Leaves law n kept next (onward next).kept) →
    (b : Bool) → int_eq (at_column row a) (pos 0) ≡ b →
    Leaves law n kept row
    (if b then onward row else inserted_at_by law.by (row_with_pivot kept a) a row onward).kept
leaves_at law n kept a row onward h below len none later true e =
    later row len (zero_before_next row a none ((Decides-int_eq (at_column row a) (pos 0)).0 e))
leaves_at law n kept a row onward h below len none later false e =
    leaves_here law n kept a row onward h below len none later (row_with_pivot kept a) refl
    (not_from_Decides (int_eq (at_column row a) (pos 0)) (Decides-int_eq (at_column row a) (pos 0))
    e)

leaves : (law : SoundArithmetic) (n : ℕ) (kept : List KeptRow) (a m : ℕ) (row : List ℤ) →
    AreTriangularBy law.is_pivot n kept →
    a + m ≡ n → length row ≡ n → IsZeroBefore row a →
    Leaves law n kept row (insertion_by law.by kept (range_with_len a m) row).kept
unfolding insertion_by
leaves law n kept a zero row h whole len none =
    leaves_nothing law n kept row h
    (λ back w. law.zeros_solved back row w (λ i below. none i (omega arith)))
leaves law n kept a (suc m) row h whole len none =
    leaves_at law n kept a row (insertion_by law.by kept (range_with_len (a + 1) m)) h
    (omega arith) len none
    (λ next columns before. leaves law n kept (a + 1) m next h (omega arith) columns before)
    (int_eq (at_column row a) (pos 0)) refl

pub inserted_leaves : (law : SoundArithmetic) (n : ℕ) (kept : List KeptRow) (row : List ℤ) →
    AreTriangularBy law.is_pivot n kept →
    length row ≡ n → Leaves law n kept row (inserted_by law.by n kept row).kept
inserted_leaves law n kept row h len =
    let read = law.by.read row in
    leaves_along law n kept row read (inserted_by law.by n kept row).kept
    (λ w all. law.read_solutions w row)
    (leaves law n kept 0 n read h (omega arith) (law.read_columns row ∙ len)
    (λ j below. absurd (omega arith)))
