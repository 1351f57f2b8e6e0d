-- How many lines a group has.
use Rattle.std.proofs.Common.{◌≡◌, ℕ, ◌+◌, [], ◌∷◌, length, arith}
use Rattle.std.proofs.lemmas.List.{length-append}
use Rattle.gj_proof.specs.ProofText.{pivot_line, reduction_lines}
use Rattle.gj_proof.specs.ProofText.ProofLine.{group, group_pivot}
use Rattle.gj_proof.proofs.LineCounts.{own_line, length-reductions}
use Rattle.gj_limit_proof.specs.LimitText.{group_line, group_lines}
use Rattle.gj_limit_proof.specs.declared.claim.LimitPivotRow.{LimitPivotRow}

-- two more than its steps
pub length-limit_group : (g : ℕ) (row : LimitPivotRow) →
    length (group_lines g (row ∷ [])) ≡ length row.reduce + 2
length-limit_group g row =
    let both = length-append
    (own_line (group g) (group_line row.name) ∷ reduction_lines g 0 row.reduce)
    (own_line (group_pivot g) (pivot_line row.pivot) ∷ []) in
    let steps = length-reductions g 0 row.reduce in
    omega arith
