-- The row with which a group begins, as it is read.
use Rattle.std.proofs.Common.{◌≡◌, ℕ, ◌≤◌, List, unsigned_abs, sym, ap, subst, ◌∙◌, arith}
use Rattle.std.specs.Prelude.{All}
use Rattle.gj_theory.specs.Modulus.{modulus}
use Rattle.gj_theory.proofs.Modulo.{residue_of_zero}
use Rattle.gj_proof.specs.declared.numbers.Numbers.{Numbers}
use Rattle.gj_proof.specs.declared.numbers.Numbers.TheVariants.{Whole, Residues}
use Rattle.gj_proof.specs.PresentRows.{arithmetic_of}
use Rattle.gj_check_groups.specs.RowNumbers.{AreRowNumbers}
use Rattle.gj_check_groups.proofs.ResidueRows.{all_residues}
use Rattle.gj_sparse_elim.specs.declared.entry.Entry.{Entry}
use Rattle.gj_sparse_elim.specs.Sparse.{dense, AreSparse}
use Rattle.gj_sparse_elim.proofs.SparseRows.{dense_fits}
use Rattle.gj_limit_check_groups.specs.declared.change.Change.TheVariants.{Read}
use Rattle.gj_limit_check_groups.specs.Changes.{CanChange, read_entries}
use Rattle.gj_limit_check_groups.specs.SparseRows.{IsSparseRow}
use Rattle.gj_limit_check_groups.proofs.ChangedRows.{changed_row}

pub record IsRead (numbers : Numbers) (n : ℕ) (row after : List Entry) : Type 0 where
  pub sparse : IsSparseRow numbers n after
  pub value : dense n after ≡ (arithmetic_of numbers).read (dense n row)

can_read : (row : List Entry) → All (λ e. unsigned_abs e.factor ≤ 6) row →
    All (λ e. CanChange Read e.factor) row
can_read row small k d below = let low = small k d below in omega arith

pub is_read : (numbers : Numbers) (n : ℕ) (row after : List Entry) → AreSparse n row →
    All (λ e. unsigned_abs e.factor ≤ 6) row → after ≡ read_entries numbers row →
    IsRead numbers n row after
is_read Whole n row after sparse small is =
    let made = subst (AreSparse n) (sym is) sparse in record {
      sparse = record { sparse = made; fits = dense_fits n after made };
      value = ap (dense n) is;
    }
is_read Residues n row after sparse small is =
    let (made, whole) = changed_row Read n row (residue_of_zero modulus) sparse
    (can_read row small) in
    let value = ap (dense n) is ∙ whole in record {
      sparse = record {
        sparse = subst (AreSparse n) (sym is) made;
        fits = subst (AreRowNumbers Residues) (sym value) (all_residues (dense n row));
      };
      value = value;
    }
