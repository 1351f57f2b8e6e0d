-- Changes of all entries of a row (own).
use Rattle.std.specs.Prelude.{ℕ, ℤ, pos, neg_ℤ, int_div, ◌≡◌, ◌<◌, ◌<ℤ◌, ◌*ℤ◌, List, All, map, unsigned_abs}
use Rattle.std.specs.Int.{◌∣◌}
use Rattle.gj_frac.specs.Fraction.{Fits}
use Rattle.gj_lemmas.specs.Divisors.{gcd_of}
use Rattle.gj_shape.specs.Residues.{residue, IsInvertible}
use Rattle.gj_theory.specs.Modulus.{modulus}
use Rattle.gj_sparse_elim.specs.declared.entry.Entry.{Entry}
use Rattle.gj_sparse_elim.specs.Sparse.{factor_at}
use Rattle.gj_proof.specs.declared.numbers.Numbers.{Numbers}
use Rattle.gj_proof.specs.declared.numbers.Numbers.TheVariants.{Whole, Residues}
use Rattle.gj_check_groups.specs.RowNumbers.{IsResidue}
use Rattle.gj_limit_check_groups.specs.declared.change.Change.{Change}
use Rattle.gj_limit_check_groups.specs.declared.change.Change.TheVariants.{Divide, Negate, Read, Multiply}

-- the factor is one for this change: a multiple of the divisor; one that fits; one below the
-- modulus in absolute value; a residue, and the other an invertible one
abbrev pub CanChange : Change → ℤ → Type 0
CanChange (Divide d) x = (pos 0 <ℤ d) × Fits x × (unsigned_abs d ∣ unsigned_abs x)
CanChange Negate x = Fits x
CanChange Read x = unsigned_abs x < modulus
CanChange (Multiply u) x = IsResidue u × IsResidue x × IsInvertible modulus u

-- what becomes of it
abbrev pub changed : Change → ℤ → ℤ
changed (Divide d) x = int_div x d
changed Negate x = neg_ℤ x
changed Read x = residue modulus x
changed (Multiply u) x = residue modulus (u *ℤ x)

abbrev pub changed_entry : Change → Entry → Entry
changed_entry change e = record { column = e.column; factor = changed change e.factor }

-- the entries as these numbers read them
abbrev pub read_entries : Numbers → List Entry → List Entry
read_entries Whole row = row
read_entries Residues row = map (changed_entry Read) row

-- the entries can be kept with the pivot at the column: they fit; or they are residues, and the one
-- there is invertible
abbrev pub CanKeep : Numbers → List Entry → ℕ → Type 0
CanKeep Whole row column = All (λ e. Fits e.factor) row
CanKeep Residues row column = All (λ e. IsResidue e.factor) row
    × (gcd_of (unsigned_abs (factor_at row column)) modulus ≡ 1)
