use Rattle.std.proofs.Common.{rules, ◌≡◌, ℕ, pos, neg_ℤ, int_lt, List, map, refl, sym, ap, subst, ◌∙◌}
use Rattle.std.specs.Prelude.{All}
use Rattle.std.proofs.lemmas.Int.{to_z-of_z}
use mir.Syntax.{w128}
use Rattle.gj_frac.specs.Fraction.{Fits}
use Rattle.gj_theory.proofs.DividedRows.{kept_negative, kept_positive}
use Rattle.gj_sparse_elim.specs.declared.entry.Entry.{Entry}
use Rattle.gj_sparse_elim.specs.Sparse.{dense, AreSparse}
use Rattle.gj_sparse_elim.proofs.SparseRows.{at_dense}
use Rattle.gj_limit_check_groups.specs.declared.change.Change.TheVariants.{Negate}
use Rattle.gj_limit_check_groups.specs.Changes.{changed_entry}
use Rattle.gj_limit_check_groups.proofs.ChangedRows.{changed_row}
use Rattle.gj_limit_check_groups.proofs.keep.make_kept_whole.Goals as goal

pub change_all-requires : goal.change_all-requires
change_all-requires c = c.divide.ensures.fits

-- a row with its sign turned
record IsTurned (n : ℕ) (row after : List Entry) : Type 0 where
  pub sparse : AreSparse n after
  pub value : dense n after ≡ map neg_ℤ (dense n row)

is_turned : (n : ℕ) (row after : List Entry) → AreSparse n row → All (λ e. Fits e.factor) row →
    after ≡ map (changed_entry Negate) row → IsTurned n row after
is_turned n row after sparse fits is =
    let (made, whole) = changed_row Negate n row refl sparse fits in record {
      sparse = subst (AreSparse n) (sym is) made;
      value = ap (dense n) is ∙ whole;
    }

pub returns-then-is_negative-clause-sparse : goal.returns-then-is_negative-clause-sparse
returns-then-is_negative-clause-sparse c n sparse =
    (is_turned n c.divide.new.row c.change_all.new.row (c.divide.ensures.sparse n sparse)
    c.divide.ensures.fits
    c.change_all.ensures).sparse

pub returns-then-is_negative-clause-value : goal.returns-then-is_negative-clause-value
returns-then-is_negative-clause-value c n sparse below =
    let row = c.args.row.now in
    let x = to_z-of_z w128 c.factor_of-is_negative.result (search rules) in
    let entry = c.factor_of-is_negative.ensures ∙ sym (at_dense n row c.args.column below) in
    kept_negative (dense n row) (dense n c.change_all.new.row) c.args.column
    (ap (λ z. int_lt z (pos 0)) (sym entry) ∙ simp x at c.if-is_negative.true)
    ((is_turned n c.divide.new.row c.change_all.new.row (c.divide.ensures.sparse n sparse)
    c.divide.ensures.fits
    c.change_all.ensures).value ∙ ap (map neg_ℤ) (c.divide.ensures.value n sparse))

pub returns-else-is_negative-clause-value : goal.returns-else-is_negative-clause-value
returns-else-is_negative-clause-value c n sparse below =
    let row = c.args.row.now in
    let x = to_z-of_z w128 c.factor_of-is_negative.result (search rules) in
    let entry = c.factor_of-is_negative.ensures ∙ sym (at_dense n row c.args.column below) in
    kept_positive (dense n row) (dense n c.divide.new.row) c.args.column
    (ap (λ z. int_lt z (pos 0)) (sym entry) ∙ simp x at c.if-is_negative.false)
    (c.divide.ensures.value n sparse)
