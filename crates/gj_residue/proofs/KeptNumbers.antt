-- The numbers of kept rows are below the count of rows.
use Rattle.std.proofs.Common.{◌≡◌, ℕ, ◌+◌, ◌<◌, ◌≤◌, Bool, true, false, if◌then◌else◌, Option, None, Some, ℤ, List, [], ◌∷◌, length, sym, subst, arith}
use Rattle.std.specs.Prelude.{All, nat_le}
use Rattle.std.proofs.lemmas.List.Elements.{All-nil, All-map, All-push, All-weaker}
use Rattle.gj_shape.specs.Elimination.{KeptRow, Arithmetic, inserted_by, kept_behind, elimination_by, elimination_from_by, behind_insertion}
use Rattle.gj_shape.specs.Residues.{modulo}
use Rattle.gj_theory.specs.Modulus.{modulus}
use Rattle.gj_elim.specs.KeptRows.{log_row}
use Rattle.gj_elim.specs.declared.log.LogRow.{LogRow}
use Rattle.gj_residue.specs.Settled.{IsFullLog}

abbrev AreNumbersBelow : ℕ → List KeptRow → Type 0
AreNumbersBelow m kept = All (λ k. k.number < m) kept

below_more_rows : (kept : List KeptRow) (i m : ℕ) → i ≤ m → AreNumbersBelow i kept →
    AreNumbersBelow m kept
below_more_rows kept i m few below =
    All-weaker (λ k. k.number < i) (λ k. k.number < m) (λ k low. omega arith) kept below

numbers_behind : (kept : List KeptRow) (i : ℕ) (reduce : List ℕ) (o : Option (ℕ × List ℤ)) →
    AreNumbersBelow i kept →
    AreNumbersBelow (i + 1) (kept_behind kept i reduce o)
unfolding kept_behind
numbers_behind kept i reduce None below = below_more_rows kept i (i + 1) (omega arith) below
numbers_behind kept i reduce (Some row) below =
    All-push (λ k. k.number < i + 1) kept _ (below_more_rows kept i (i + 1) (omega arith) below)
    (omega arith)

numbers_from : (by : Arithmetic) (n : ℕ) (kept : List KeptRow) (i : ℕ) (rows : List (List ℤ)) →
    AreNumbersBelow i kept →
    AreNumbersBelow (i + length rows) (elimination_from_by by n kept i rows).kept
unfolding elimination_from_by
numbers_from by n kept i [] below = below_more_rows kept i (i + 0) (omega arith) below
numbers_from by n kept i (row ∷ rows) below =
    let next = kept_behind kept i (inserted_by by n kept row).reduce
    (inserted_by by n kept row).kept in
    let later = numbers_from by n next (i + 1) rows
    (numbers_behind kept i (inserted_by by n kept row).reduce
    (inserted_by by n kept row).kept below) in
    let count : i + 1 + length rows ≡ i + length (row ∷ rows) = omega arith in
    by_rank (nat_le n (length kept))
    (subst (λ m. AreNumbersBelow m (elimination_from_by by n next (i + 1) rows).kept) count later)
  where
    by_rank : (b : Bool) →
        AreNumbersBelow (i + length (row ∷ rows))
        (elimination_from_by by n
        (kept_behind kept i (inserted_by by n kept row).reduce (inserted_by by n kept row).kept)
        (i + 1) rows).kept →
        AreNumbersBelow (i + length (row ∷ rows))
        (if b then record { kept = kept; marked = [] }
        else behind_insertion (inserted_by by n kept row).marked
        (elimination_from_by by n
        (kept_behind kept i (inserted_by by n kept row).reduce (inserted_by by n kept row).kept)
        (i + 1) rows)).kept
    by_rank true later = below_more_rows kept i (i + length (row ∷ rows)) (omega arith) below
    by_rank false later = later

pub numbers_of_log : (n : ℕ) (rows : List (List ℤ)) (log : List LogRow) → IsFullLog n rows log →
    All (λ line. line.number < length rows) log
numbers_of_log n rows log h =
    let kept = (elimination_by (modulo modulus) n rows).kept in
    subst (All (λ line. line.number < length rows)) (sym h.log_is)
    (All-map (λ line. line.number < length rows) log_row kept
    (subst (λ m. AreNumbersBelow m kept) (let count : 0 + length rows ≡ length rows = omega arith in
    count)
    (numbers_from (modulo modulus) n [] 0 rows (All-nil (λ k. k.number < 0)))))
