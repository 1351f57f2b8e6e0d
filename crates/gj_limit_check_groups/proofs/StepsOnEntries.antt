-- A step on the entries of rows is that on the whole rows.
use Rattle.std.proofs.Common.{◌≡◌, ℕ, ◌<◌, ℤ, pos, List, refl, sym, ap, subst, arith}
use Rattle.std.specs.Prelude.{All}
use Rattle.std.proofs.lemmas.Int.{ints}
use Rattle.std.proofs.lemmas.List.Elements.{All-get_or}
use Rattle.gj_shape.specs.Elimination.{scaled, differences}
use Rattle.gj_shape.specs.Residues.{residues, reduced_modulo}
use Rattle.gj_theory.specs.Modulus.{modulus}
use Rattle.gj_theory.proofs.ReducedRows.{reduced_value, marked_value}
use Rattle.gj_proof.specs.declared.numbers.Numbers.{Numbers}
use Rattle.gj_proof.specs.declared.numbers.Numbers.TheVariants.{Whole, Residues}
use Rattle.gj_proof.specs.PresentRows.{arithmetic_of}
use Rattle.gj_check_groups.specs.RowNumbers.{IsResidue, AreRowNumbers}
use Rattle.gj_check_groups.proofs.ResidueRows.{reduced_residues}
use Rattle.gj_sparse_elim.specs.declared.entry.Entry.{Entry}
use Rattle.gj_sparse_elim.specs.Sparse.{factor_at, dense, AreSparse}
use Rattle.gj_sparse_elim.proofs.SparseRows.{length-dense, dense_fits}
use Rattle.gj_limit_check_groups.specs.declared.step.Step.{Step}
use Rattle.gj_limit_check_groups.specs.declared.step.Step.TheVariants.{Combine, Modulo}
use Rattle.gj_limit_check_groups.specs.SparseRows.{IsSparseRow}
use Rattle.gj_limit_check_groups.specs.Steps.{CanStep, stepped_row, marked_by, IsStepOf, finished}
use Rattle.gj_limit_check_groups.proofs.SparseEntries.{factor_has}

-- the row after the step
pub step_value : (numbers : Numbers) (kept row : List ℤ) (c : ℕ) (step : Step) →
    IsStepOf numbers kept row c step →
    finished numbers (stepped_row step kept row) ≡ (arithmetic_of numbers).step kept row c
unfolding reduced_modulo
step_value Whole kept row c (Combine u w) h =
    reduced_value kept row (stepped_row (Combine u w) kept row)
    (finished Whole (stepped_row (Combine u w) kept row)) c u w
    (record { first = h.0; second = h.1 }) refl refl
step_value Whole kept row c (Modulo w) h = absurd h
step_value Residues kept row c (Modulo w) h =
    ap (λ v. residues modulus (differences row (scaled v kept))) h
step_value Residues kept row c (Combine u w) h = absurd h

-- the numbers that it marks
pub step_marked : (numbers : Numbers) (kept row : List ℤ) (c : ℕ) (step : Step) →
    IsStepOf numbers kept row c step →
    marked_by step kept row ≡ (arithmetic_of numbers).marked kept row c
step_marked Whole kept row c (Combine u w) h =
    marked_value kept row c u w (record { first = h.0; second = h.1 })
step_marked Whole kept row c (Modulo w) h = absurd h
step_marked Residues kept row c (Modulo w) h = refl
step_marked Residues kept row c (Combine u w) h = absurd h

pub none_is_residue : IsResidue (pos 0)
none_is_residue = record { low = omega (arith, ints); below = omega (arith, ints) }

-- the entries at each column can make one
pub can_step : (numbers : Numbers) (n : ℕ) (kept row : List Entry) (c : ℕ) (step : Step) →
    IsStepOf numbers (dense n kept) (dense n row) c step → c < n → AreSparse n kept →
    AreSparse n row →
    AreRowNumbers numbers (dense n kept) → AreRowNumbers numbers (dense n row) → (k : ℕ) →
    CanStep step (factor_at row k) (factor_at kept k)
can_step Whole n kept row c (Combine u w) h below kept_sparse row_sparse kept_fits row_fits k = tt
can_step Whole n kept row c (Modulo w) h below kept_sparse row_sparse kept_fits row_fits k =
    absurd h
can_step Residues n kept row c (Combine u w) h below kept_sparse row_sparse kept_fits row_fits k =
    absurd h
can_step Residues n kept row c (Modulo w) h below kept_sparse row_sparse kept_fits row_fits k = (
  subst IsResidue (sym h)
      (All-get_or IsResidue (dense n row) c (pos 0) (omega (arith, length-dense n row)) row_fits),
  factor_has IsResidue n row k none_is_residue row_sparse row_fits,
  factor_has IsResidue n kept k none_is_residue kept_sparse kept_fits,
)

-- a row after a step has such numbers
pub stepped_sparse : (numbers : Numbers) (n : ℕ) (kept row : List ℤ) (c : ℕ) (after : List Entry) →
    AreSparse n after →
    dense n after ≡ (arithmetic_of numbers).step kept row c → IsSparseRow numbers n after
stepped_sparse Whole n kept row c after sparse is =
    record { sparse = sparse; fits = dense_fits n after sparse }
stepped_sparse Residues n kept row c after sparse is = record {
  sparse = sparse;
  fits = subst (All IsResidue) (sym is) (reduced_residues kept row c);
}
