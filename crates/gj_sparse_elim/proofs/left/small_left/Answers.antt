use Rattle.std.proofs.Common.{rules, ◌≡◌, ◌<◌, ◌^◌, ℕ, ℤ, List, pos, get_or, length, unsigned_abs, refl, sym, ap, subst, ◌∙◌}
use Rattle.std.proofs.lemmas.Int.{to_z-of_z}
use Rattle.std.specs.Prelude.{int_lt}
use mir.Syntax.{w64}
use Rattle.gj_shape.specs.Elimination.{at_column}
use Rattle.gj_theory.proofs.Entries.{divided_at_zero}
use Rattle.gj_elim.proofs.SmallDivisors.{divided_below}
use Rattle.gj_sparse_elim.specs.declared.entry.Entry.{Entry}
use Rattle.gj_sparse_elim.specs.Left.{signed_row}
use Rattle.gj_sparse_elim.specs.Sparse.{AreSparse, dense}
use Rattle.gj_sparse_elim.proofs.ColumnSets.{support_still}
use Rattle.gj_sparse_elim.proofs.LeftRows.{signed_kept}
use Rattle.gj_sparse_elim.proofs.left.small_left.Goals as goal

pub signed_entries-requires-clause-support : goal.signed_entries-requires-clause-support
signed_entries-requires-clause-support c =
    support_still c.args.touched.now c.args.row.now c.divide.new.row c.requires.support
    c.divide.auto.row
    (λ k none. ap (λ xs. at_column xs k) c.divide.ensures ∙ divided_at_zero c.args.row.now k none)

pub signed_entries-requires-clause-small : goal.signed_entries-requires-clause-small
signed_entries-requires-clause-small c k =
    subst (λ (xs : List ℤ). unsigned_abs (at_column xs k) < 2 ^ 63) (sym c.divide.ensures)
    (divided_below c.args.row.now k (2 ^ 63) (c.requires.small k))

pub returns-in_err-entries-clause-support : goal.returns-in_err-entries-clause-support
returns-in_err-entries-clause-support c =
    support_still c.args.touched.now c.args.row.now c.divide.new.row c.requires.support
    c.divide.auto.row
    (λ k none. ap (λ xs. at_column xs k) c.divide.ensures ∙ divided_at_zero c.args.row.now k none)

pub returns-clause-value : goal.returns-clause-value
returns-clause-value c =
    let read = to_z-of_z w64 (get_or c.args.row.now c.args.column (pos 0)) (search rules) in
    let len : length c.divide.new.row ≡ length c.args.row.now = c.divide.auto.row in
    record {
      column = refl;
      sparse = subst (λ (xs : List Entry). AreSparse (length c.args.row.now) xs) (sym c.of.ensures)
          (subst (λ (n : ℕ). AreSparse n c.in_ok-entries.entries.items) len
          c.in_ok-entries.ensures.sparse);
      value = ap (dense (length c.args.row.now)) c.of.ensures
          ∙ ap (λ n. dense n c.in_ok-entries.entries.items) (sym len)
          ∙ c.in_ok-entries.ensures.value
          ∙ ap (signed_row c.is_below_zero-is_negative.result) c.divide.ensures
          ∙ signed_kept c.is_below_zero-is_negative.result c.args.row.now c.args.column
          (c.is_below_zero-is_negative.ensures ∙ ap (λ x. int_lt x (pos 0)) read);
    }

pub returns-clause-support : goal.returns-clause-support
returns-clause-support c =
    support_still c.args.touched.now c.args.row.now c.divide.new.row c.requires.support
    c.divide.auto.row
    (λ k none. ap (λ xs. at_column xs k) c.divide.ensures ∙ divided_at_zero c.args.row.now k none)
