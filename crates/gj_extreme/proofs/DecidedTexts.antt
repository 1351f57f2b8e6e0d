-- The texts of the claims of the decision are short: a row is reduced once at most at each column.
use Rattle.std.proofs.Common.{ℕ, ◌+◌, ◌≤◌, Bool, true, false, if◌then◌else◌, Option, None, Some, ℤ, pos, List, [], ◌∷◌, length, map, sym, subst, arith}
use Rattle.std.specs.Prelude.{All, nat_le}
use Rattle.std.specs.List.{range_with_len}
use Rattle.std.specs.Ordering.{int_eq}
use Rattle.std.proofs.lemmas.List.{length-map}
use Rattle.std.proofs.lemmas.List.Elements.{All-nil, All-push, All-map}
use Rattle.std.proofs.lemmas.List.FromFn.{length-range_with_len}
use Rattle.gj_shape.specs.Elimination.{KeptRow, Insertion, Arithmetic, at_column, row_with_pivot, insertion_by, inserted_by, inserted_at_by, kept_behind, behind_insertion, elimination_from_by}
use Rattle.gj_shape.specs.FunctionData.{FunctionData, IsWithinBounds}
use Rattle.gj_shape.specs.SlopeRows.{row_names}
use Rattle.gj_shape.specs.declared.extremality.CoverLine.{CoverLine}
use Rattle.gj_proof.specs.PresentRows.{arithmetic_of, named_row}
use Rattle.gj_proof.specs.ProofText.{IsBounded, HaveFewSteps, longest_extreme_text, IsProofText}
use Rattle.gj_proof.specs.declared.claim.Claim.{Claim}
use Rattle.gj_proof.specs.declared.claim.Claim.TheVariants.{Minimal, NotMinimal, Cut, Extreme, ExtremeByResidues, NotExtreme}
use Rattle.gj_proof.specs.declared.numbers.Numbers.{Numbers}
use Rattle.gj_proof.specs.declared.numbers.Numbers.TheVariants.{Whole, Residues}
use Rattle.gj_proof.specs.declared.pivot.PivotRow.{PivotRow}
use Rattle.gj_proof.proofs.ExtremeClaims.{of_extreme_text}
use Rattle.gj_proof.proofs.ShortTexts.{text_is_short, extreme_text_is_short, extreme_text_is_short_by}
use Rattle.gj_extreme.specs.Decision.{AreExtremeRows, IsDecided, group_of, elimination_over}
use Rattle.gj_extreme.proofs.ClaimTexts.{components_are_few}

-- ---- steps of a row

steps_at : (by : Arithmetic) (c m : ℕ) (row : List ℤ) (onward : List ℤ → Insertion) →
    ((next : List ℤ) → length (onward next).reduce ≤ m) →
    (o : Option KeptRow) → length (inserted_at_by by o c row onward).reduce ≤ m + 1
unfolding inserted_at_by
steps_at by c m row onward later None = omega arith
steps_at by c m row onward later (Some k) = omega (arith, later (by.step k.entries row c))

steps_of_row : (by : Arithmetic) (kept : List KeptRow) (columns : List ℕ) (row : List ℤ) →
    length (insertion_by by kept columns row).reduce ≤ length columns
unfolding insertion_by
steps_of_row by kept [] row = omega arith
steps_of_row by kept (c ∷ columns) row =
    by_entry (steps_of_row by kept columns) (int_eq (at_column row c) (pos 0))
  where
    by_entry : ((next : List ℤ) → length (insertion_by by kept columns next).reduce
        ≤ length columns) → (b : Bool) →
        length
        (if b then insertion_by by kept columns row
        else inserted_at_by by (row_with_pivot kept c) c row (insertion_by by kept columns)).reduce
        ≤ length (c ∷ columns)
    by_entry later true = omega (arith, later row)
    by_entry later false =
        omega (
          arith,
          steps_at by c (length columns) row (insertion_by by kept columns) later
              (row_with_pivot kept c),
        )

-- ---- steps of all rows

abbrev HasFew : ℕ → KeptRow → Type 0
HasFew n k = length k.reduce ≤ n

few_behind : (n number : ℕ) (kept : List KeptRow) (reduce : List ℕ) (o : Option (ℕ × List ℤ)) →
    length reduce ≤ n →
    All (HasFew n) kept → All (HasFew n) (kept_behind kept number reduce o)
unfolding kept_behind
few_behind n number kept reduce None few h = h
few_behind n number kept reduce (Some p) few h =
    All-push (HasFew n) kept
    (record { number = number; reduce = reduce; pivot = p.0; entries = p.1 }) h few

few_in_elimination : (by : Arithmetic) (n number : ℕ) (kept : List KeptRow) (rows : List (List ℤ)) →
    All (HasFew n) kept →
    All (HasFew n) (elimination_from_by by n kept number rows).kept
unfolding elimination_from_by
few_in_elimination by n number kept [] h = h
few_in_elimination by n number kept (row ∷ rows) h =
    let i = inserted_by by n kept row in
    let few : length i.reduce ≤ n =
    omega (
      arith,
      steps_of_row by kept (range_with_len 0 n)
          (by.read row),
      length-range_with_len 0 n,
    ) in
    by_count (few_in_elimination by n (number + 1) (kept_behind kept number i.reduce i.kept) rows
    (few_behind n number kept i.reduce i.kept few h))
    (nat_le n (length kept))
  where
    by_count : All (HasFew n)
        (elimination_from_by by n
        (kept_behind kept number (inserted_by by n kept row).reduce
        (inserted_by by n kept row).kept) (number + 1) rows).kept →
        (b : Bool) →
        All (HasFew n)
        (if b then record { kept = kept; marked = [] }
        else behind_insertion (inserted_by by n kept row).marked
        (elimination_from_by by n
        (kept_behind kept number (inserted_by by n kept row).reduce
        (inserted_by by n kept row).kept) (number + 1) rows)).kept
    by_count later true = h
    by_count later false = later

-- ---- texts

extreme_has_few_steps : (numbers : Numbers) (f : FunctionData) (lines : List CoverLine)
    (rows : List PivotRow) → IsWithinBounds f →
    AreExtremeRows numbers f lines rows → HaveFewSteps rows
extreme_has_few_steps numbers f lines rows within h =
    let n = components_are_few f lines h.component h.n within h.covered in
    let kept = (elimination_over numbers f h.component h.n).kept in
    let few = few_in_elimination (arithmetic_of numbers) h.n 0 []
    (map (named_row f h.component h.n) (row_names f)) (All-nil (HasFew h.n)) in
    let all = h.all in
    subst HaveFewSteps (sym h.rows_are)
    (record {
      groups = omega (arith, length-map kept (group_of f));
      steps = All-map (λ row. length row.reduce ≤ 1000) (group_of f) kept
          (λ i d below. (let one = few i d below in omega arith));
    })

-- a decided claim on a function within the limits is about one
pub decided_is_bounded : (f : FunctionData) (c : Claim) → IsWithinBounds f → IsDecided f c →
    IsBounded c
decided_is_bounded f (Extreme g lines rows) within d = subst IsWithinBounds (sym d.0) within
decided_is_bounded f (NotExtreme g h) within d = subst IsWithinBounds (sym d.0) within
decided_is_bounded f (NotMinimal g v) within d = subst IsWithinBounds (sym d.0) within
decided_is_bounded f (Minimal g) within d = absurd d
decided_is_bounded f (Cut r rows) within d = absurd d
decided_is_bounded f (ExtremeByResidues g lines rows) within d =
    subst IsWithinBounds (sym d.0) within

pub decided_text_is_short : (f : FunctionData) (c : Claim) (text : List ℕ) → IsWithinBounds f →
    IsDecided f c → IsProofText c text →
    length text ≤ longest_extreme_text
decided_text_is_short f (Extreme g lines rows) text within d p =
    extreme_text_is_short g lines rows text (decided_is_bounded f (Extreme g lines rows) within d)
    (extreme_has_few_steps Whole f lines rows within d.3) p
decided_text_is_short f (NotExtreme g h) text within d p =
    omega (
      arith,
      text_is_short (NotExtreme g h) text tt
          (decided_is_bounded f (NotExtreme g h) within d) p,
    )
decided_text_is_short f (NotMinimal g v) text within d p =
    omega (
      arith,
      text_is_short (NotMinimal g v) text tt
          (decided_is_bounded f (NotMinimal g v) within d) p,
    )
decided_text_is_short f (Minimal g) text within d p = absurd d
decided_text_is_short f (Cut r rows) text within d p = absurd d
decided_text_is_short f (ExtremeByResidues g lines rows) text within d p =
    extreme_text_is_short_by Residues g lines rows text
    (decided_is_bounded f (ExtremeByResidues g lines rows) within d)
    (extreme_has_few_steps Residues f lines rows within d.3)
    (of_extreme_text g lines rows Residues text p)
