use Rattle.std.proofs.Common.{◌≡◌, ℕ, ◌<◌, List, length, set, unsigned_abs, Some, sym, ap, subst, ◌∙◌}
use Rattle.std.specs.Prelude.{Option}
use Rattle.std.specs.Option.{option_map}
use Rattle.std.proofs.lemmas.List.{with_items_is, map-set}
use Rattle.gj_lemmas.specs.Divisors.{gcd_of}
use Rattle.gj_shape.specs.Elimination.{KeptRow, kept_entries}
use Rattle.gj_theory.specs.Modulus.{modulus}
use Rattle.gj_proof.specs.declared.numbers.Numbers.{Numbers}
use Rattle.gj_proof.specs.declared.numbers.Numbers.TheVariants.{Whole, Residues}
use Rattle.gj_proof.specs.PresentRows.{arithmetic_of, entries_or_none}
use Rattle.gj_proof.specs.Rules.{MeetsPivotBy}
use Rattle.gj_check_groups.specs.KeptTable.{IsKeptAt}
use Rattle.gj_check_groups.specs.RowNumbers.{IsResidue}
use Rattle.gj_check_groups.proofs.GroupsInTurn.{column_of_pivot}
use Rattle.gj_check_groups.proofs.KeptRows.{kept_whole, kept_residues}
use Rattle.gj_sparse_elim.specs.declared.entry.Entry.{Entry}
use Rattle.gj_sparse_elim.specs.Sparse.{dense, AreSparse}
use Rattle.gj_sparse_elim.proofs.SparseRows.{at_dense, length-dense, dense_fits}
use Rattle.gj_limit_check_groups.specs.Changes.{CanKeep}
use Rattle.gj_limit_check_groups.specs.SparseRows.{dense_rows, IsSparseRow, IsSparseTable}
use Rattle.gj_limit_check_groups.proofs.SparseEntries.{entries_have, entries_fit}
use Rattle.gj_limit_check_groups.proofs.SparseTables.{sparse_with}
use Rattle.gj_limit_check_groups.proofs.StepsOnEntries.{none_is_residue}
use Rattle.gj_limit_check_groups.proofs.keep.keep.Goals as goal

can_keep : (numbers : Numbers) (n : ℕ) (kept : List KeptRow) (row : List Entry) (c : ℕ) →
    IsSparseRow numbers n row →
    MeetsPivotBy numbers n kept (dense n row) c → CanKeep numbers row c
can_keep Whole n kept row c h meets = entries_fit n row h.sparse
can_keep Residues n kept row c h (meets, invertible) = (
  entries_have IsResidue n row none_is_residue h.sparse h.fits,
  ap (λ x. gcd_of (unsigned_abs x) modulus) (sym (at_dense n row c meets.column)) ∙ invertible,
)

pub make_kept_by-requires : goal.make_kept_by-requires
make_kept_by-requires c =
    let row = c.args.row.now in
    subst (λ (xs : List Entry). CanKeep c.args.numbers xs c.args.pivot)
    (sym (c.as_mut_slice.ensures.value ∙ c.in_ok-entries.ensures.items))
    (can_keep c.args.numbers (length c.args.table.now) c.requires.pivot.0 row c.args.pivot
    c.requires.row c.requires.pivot.1)

-- what is kept of a row
kept_is : (numbers : Numbers) (n : ℕ) (kept : List KeptRow) (row after : List Entry) (c : ℕ) →
    AreSparse n after →
    MeetsPivotBy numbers n kept (dense n row) c →
    Some (dense n after) ≡ (arithmetic_of numbers).keep (dense n row) c →
    IsKeptAt numbers n c (dense n after)
kept_is Whole n kept row after c sparse meets is =
    let long = length-dense n row in
    let value : dense n after ≡ kept_entries (dense n row) c = cc in
    subst (λ (m : ℕ). IsKeptAt Whole m c (dense n after)) long
    (kept_whole kept (dense n row) (dense n after) c
    (subst (λ (m : ℕ). MeetsPivotBy Whole m kept (dense n row) c) (sym long) meets) value
    (dense_fits n after sparse))
kept_is Residues n kept row after c sparse meets is =
    subst (λ (m : ℕ). IsKeptAt Residues m c (dense n after)) (length-dense n row)
    (kept_residues (dense n row) (dense n after) c is)

-- the table with it
record IsKept (numbers : Numbers) (n : ℕ) (table : List (Option (List Entry))) (row : List Entry)
    (c : ℕ) (after : List Entry) :
    Type 0 where
  pub table_is : IsSparseTable numbers n (set table c (Some after))
  pub rows_are : dense_rows n (set table c (Some after))
      ≡ set (dense_rows n table) c
      (Some (entries_or_none ((arithmetic_of numbers).keep (dense n row) c)))

is_kept : (numbers : Numbers) (n : ℕ) (kept : List KeptRow) (table : List (Option (List Entry)))
    (row given made after : List Entry)
    (c : ℕ) → IsSparseTable numbers n table → IsSparseRow numbers n row →
    MeetsPivotBy numbers n kept (dense n row) c →
    given ≡ row → ((m : ℕ) → AreSparse m given → AreSparse m made) →
    ((m : ℕ) → AreSparse m given → c < m →
    Some (dense m made) ≡ (arithmetic_of numbers).keep (dense m given) c) →
    after ≡ made → IsKept numbers n table row c after
is_kept numbers n kept table row given made after c h row_is meets is keeps gives after_is =
    let given_sparse = subst (AreSparse n) (sym is) row_is.sparse in
    let within = (column_of_pivot numbers n kept (dense n row) c meets).column in
    let sparse = subst (AreSparse n) (sym after_is) (keeps n given_sparse) in
    let value : Some (dense n after) ≡ (arithmetic_of numbers).keep (dense n row) c =
    ap (λ xs. Some (dense n xs)) after_is ∙ gives n given_sparse within
    ∙ ap (λ xs. (arithmetic_of numbers).keep (dense n xs) c) is in
    record {
      table_is = sparse_with numbers n c table after h within sparse
          (kept_is numbers n kept row after c sparse meets value);
      rows_are = map-set (option_map (dense n)) table c (Some after)
          ∙ ap (λ xs. set (dense_rows n table) c (Some xs)) (ap entries_or_none value);
    }

pub returns-clause-table : goal.returns-clause-table
returns-clause-table c =
    (is_kept c.args.numbers (length c.args.table.now) c.requires.pivot.0 c.args.table.now
    c.args.row.now
    c.as_mut_slice.result.now c.make_kept_by.new.row c.of.result c.args.pivot c.requires.table
    c.requires.row c.requires.pivot.1
    (c.as_mut_slice.ensures.value ∙ c.in_ok-entries.ensures.items) c.make_kept_by.ensures.sparse
    c.make_kept_by.ensures.value
    (c.of.ensures ∙ with_items_is c.in_ok-entries.entries c.make_kept_by.new.row
    (c.make_kept_by.auto.row ∙ ap length c.as_mut_slice.ensures.value
    ∙ sym c.in_ok-entries.entries.ok.0))).table_is

pub returns-clause-rows : goal.returns-clause-rows
returns-clause-rows c =
    (is_kept c.args.numbers (length c.args.table.now) c.requires.pivot.0 c.args.table.now
    c.args.row.now
    c.as_mut_slice.result.now c.make_kept_by.new.row c.of.result c.args.pivot c.requires.table
    c.requires.row c.requires.pivot.1
    (c.as_mut_slice.ensures.value ∙ c.in_ok-entries.ensures.items) c.make_kept_by.ensures.sparse
    c.make_kept_by.ensures.value
    (c.of.ensures ∙ with_items_is c.in_ok-entries.entries c.make_kept_by.new.row
    (c.make_kept_by.auto.row ∙ ap length c.as_mut_slice.ensures.value
    ∙ sym c.in_ok-entries.entries.ok.0))).rows_are
