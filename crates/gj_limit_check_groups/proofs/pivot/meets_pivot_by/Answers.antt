use Rattle.std.proofs.Common.{rules, ◌≡◌, ◌↔◌, ℕ, ℤ, List, Bool, false, IsTrue, length, unsigned_abs, refl, sym, ap, subst, ◌∙◌}
use Rattle.std.specs.Prelude.{Option, is_some}
use Rattle.std.proofs.lemmas.Int.{to_z-of_z}
use mir.Syntax.{w128}
use Rattle.gj_lemmas.specs.Divisors.{gcd_of}
use Rattle.gj_shape.specs.Elimination.{KeptRow}
use Rattle.gj_shape.specs.Residues.{inverse}
use Rattle.gj_theory.specs.Modulus.{modulus}
use Rattle.gj_proof.specs.declared.numbers.Numbers.{Numbers}
use Rattle.gj_proof.specs.declared.numbers.Numbers.TheVariants.{Whole, Residues}
use Rattle.gj_proof.specs.Rules.{MeetsPivot, MeetsPivotBy}
use Rattle.gj_check_groups.specs.RowNumbers.{IsResidue, AreRowNumbers}
use Rattle.gj_check_groups.proofs.GroupsInTurn.{column_of_pivot}
use Rattle.gj_check_groups.proofs.ResidueRows.{some_inverse}
use Rattle.gj_sparse_elim.specs.declared.entry.Entry.{Entry}
use Rattle.gj_sparse_elim.specs.Sparse.{factor_at, dense, AreSparse}
use Rattle.gj_sparse_elim.proofs.SparseRows.{at_dense}
use Rattle.gj_limit_check_groups.proofs.SparseEntries.{factor_has}
use Rattle.gj_limit_check_groups.proofs.StepsOnEntries.{none_is_residue}
use Rattle.gj_limit_check_groups.proofs.pivot.meets_pivot_by.Goals as goal

-- the rule fails if its part for whole numbers does
fails : (b : Bool) (m : Numbers) (n : ℕ) (kept : List KeptRow) (row : List ℤ) (c : ℕ) → b ≡ false →
    IsTrue b ↔ MeetsPivot n kept row c → IsTrue false ↔ MeetsPivotBy m n kept row c
fails b m n kept row c is h = (
  λ t. absurd cc,
  λ meets. subst IsTrue is (h.1 (column_of_pivot m n kept row c meets)),
)

pub returns-then-not-meets_pivot : goal.returns-then-not-meets_pivot
returns-then-not-meets_pivot c kept rows =
    fails c.meets_pivot.result c.args.numbers (length c.args.table.now) kept
    (dense (length c.args.table.now) c.args.row.now)
    c.args.column c.if-not-meets_pivot.true (c.meets_pivot.ensures kept rows)

-- of whole numbers there is no more to it
whole : (m : Numbers) (n : ℕ) (kept : List KeptRow) (row : List ℤ) (c : ℕ) → m ≡ Whole →
    MeetsPivot n kept row c →
    MeetsPivotBy m n kept row c
whole m n kept row c is meets = subst (λ (k : Numbers). MeetsPivotBy k n kept row c) (sym is) meets

pub returns-in-Whole : goal.returns-in-Whole
returns-in-Whole c kept rows = (
  λ t. whole c.args.numbers (length c.args.table.now) kept
      (dense (length c.args.table.now) c.args.row.now) c.args.column
      c.in-Whole.is ((c.meets_pivot.ensures kept rows).0 c.if-not-meets_pivot.false),
  λ meets. refl,
)

-- a factor of residues is one
is_residue : (m : Numbers) (n : ℕ) (row : List Entry) (c : ℕ) (x : ℤ) → m ≡ Residues →
    AreSparse n row →
    AreRowNumbers m (dense n row) → x ≡ factor_at row c → IsResidue x
is_residue m n row c x m_is sparse fits is =
    subst IsResidue (sym is)
    (factor_has IsResidue n row c none_is_residue sparse
    (subst (λ (k : Numbers). AreRowNumbers k (dense n row)) m_is fits))

pub inverse_modulo-requires : goal.inverse_modulo-requires
inverse_modulo-requires c =
    is_residue c.args.numbers (length c.args.table.now) c.args.row.now c.args.column _
    c.in-Residues.is c.requires.sparse
    c.requires.fits (to_z-of_z w128 c.factor_of.result (search rules) ∙ c.factor_of.ensures)

-- of residues the entry is invertible in addition
residue : (m : Numbers) (n : ℕ) (kept : List KeptRow) (row : List Entry) (c : ℕ) (x : ℤ)
    (o : Option ℕ) (b : Bool) →
    m ≡ Residues → MeetsPivot n kept (dense n row) c → x ≡ factor_at row c → o ≡ inverse modulus x →
    b ≡ is_some o →
    IsTrue b ↔ MeetsPivotBy m n kept (dense n row) c
residue m n kept row c x o b m_is meets x_is o_is b_is =
    let entry = x_is ∙ sym (at_dense n row c meets.column) in
    let some = some_inverse b o x o_is b_is in
    subst (λ (k : Numbers). IsTrue b ↔ MeetsPivotBy k n kept (dense n row) c) (sym m_is) (
      λ t. (meets, sym (ap (λ z. gcd_of (unsigned_abs z) modulus) entry) ∙ some.0 t),
      λ h. some.1 (ap (λ z. gcd_of (unsigned_abs z) modulus) entry ∙ h.1),
    )

pub returns-in-Residues : goal.returns-in-Residues
returns-in-Residues c kept rows =
    let x = to_z-of_z w128 c.factor_of.result (search rules) in
    residue c.args.numbers (length c.args.table.now) kept c.args.row.now c.args.column
    c.factor_of.result
    c.inverse_modulo.result c.is_some.result c.in-Residues.is
    ((c.meets_pivot.ensures kept rows).0 c.if-not-meets_pivot.false) c.factor_of.ensures
    (simp x at c.inverse_modulo.ensures)
    c.is_some.ensures
