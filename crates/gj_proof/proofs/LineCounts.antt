-- How many lines there are of some things.
use Rattle.std.proofs.Common.{◌≡◌, ℕ, suc, ◌+◌, List, [], ◌∷◌, length, refl, ap, arith}
use Rattle.std.proofs.lemmas.List.{length-append}
use Rattle.gj_shape.specs.declared.extremality.CoverLine.{CoverLine}
use Rattle.gj_proof.specs.ProofText.{ProofLine, OwnLine, group_line, pivot_line, row_line, terms_of, term_lines, row_lines, covered_lines, reduction_lines, group_lines}
use Rattle.gj_proof.specs.ProofText.ProofLine.{cut, group, group_pivot}
use Rattle.gj_proof.specs.declared.cut.CutLine.{CutLine}
use Rattle.gj_proof.specs.declared.cut.CutTerm.{CutTerm}
use Rattle.gj_proof.specs.declared.pivot.PivotRow.{PivotRow}

-- a line of a claim's own
abbrev pub own_line : ProofLine → List ℕ → OwnLine
own_line name bytes = record { name = name; bytes = bytes }

-- one for each covered interval
pub length-covered : (i : ℕ) (lines : List CoverLine) →
    length (covered_lines i lines) ≡ length lines
length-covered i [] = refl
length-covered i (l ∷ lines) = ap suc (length-covered (i + 1) lines)

-- one for each step
pub length-reductions : (g r : ℕ) (columns : List ℕ) →
    length (reduction_lines g r columns) ≡ length columns
length-reductions g r [] = refl
length-reductions g r (c ∷ columns) = ap suc (length-reductions g (r + 1) columns)

-- of a group, two more than its steps
pub length-group : (g : ℕ) (row : PivotRow) →
    length (group_lines g (row ∷ [])) ≡ length row.reduce + 2
length-group g row =
    let both = length-append
    (own_line (group g) (group_line row.name) ∷ reduction_lines g 0 row.reduce)
    (own_line (group_pivot g) (pivot_line row.pivot) ∷ []) in
    let steps = length-reductions g 0 row.reduce in
    omega arith

-- one for each term
pub length-terms : (i j : ℕ) (terms : List CutTerm) → length (term_lines i j terms) ≡ length terms
length-terms i j [] = refl
length-terms i j (t ∷ terms) = ap suc (length-terms i (j + 1) terms)

-- of a row, one more than its terms
pub length-row : (i : ℕ) (l : CutLine) → length (row_lines i (l ∷ [])) ≡ length (terms_of l) + 1
length-row i l =
    let both = length-append (own_line (cut i) (row_line l) ∷ term_lines i 0 (terms_of l)) [] in
    let terms = length-terms i 0 (terms_of l) in
    omega arith
