use Rattle.std.proofs.Common.{List, ℤ, ◌<◌, ◌^◌, pos, unsigned_abs, sym, ap, subst, ◌∙◌, arith}
use Rattle.std.proofs.lemmas.List.{get_or_past}
use Rattle.gj_shape.specs.Elimination.{at_column}
use Rattle.gj_theory.proofs.Entries.{divided_at_zero}
use Rattle.gj_elim.proofs.SmallDivisors.{divided_below}
use Rattle.gj_sparse_elim.proofs.ColumnSets.{support_still}
use Rattle.gj_sparse_elim.proofs.tighten.tighten.Goals as goal

pub bound_from-requires-clause-support : goal.bound_from-requires-clause-support
bound_from-requires-clause-support c =
    support_still c.args.touched.now c.args.row.now c.divide.new.row c.requires.support
    c.divide.auto.row
    (λ k none. ap (λ xs. at_column xs k) c.divide.ensures ∙ divided_at_zero c.args.row.now k none)

pub bound_from-requires-clause-zero : goal.bound_from-requires-clause-zero
bound_from-requires-clause-zero c = record {
  before = λ k below. ap (λ xs. at_column xs k) c.divide.ensures
      ∙ divided_at_zero c.args.row.now k (c.requires.row_zero k below);
  behind = λ k past. get_or_past c.divide.new.row k (pos 0) past;
}

pub bound_from-requires-clause-small : goal.bound_from-requires-clause-small
bound_from-requires-clause-small c k =
    subst (λ (xs : List ℤ). unsigned_abs (at_column xs k) < 2 ^ 63) (sym c.divide.ensures)
    (divided_below c.args.row.now k (2 ^ 63) (c.requires.small k))

pub returns-clause-extent : goal.returns-clause-extent
returns-clause-extent c = record {
  small = λ low. c.bound_from.ensures.bound;
  zero_from = λ k past. get_or_past c.divide.new.row k (pos 0) past;
  within = omega arith;
}

pub returns-clause-support : goal.returns-clause-support
returns-clause-support c =
    support_still c.args.touched.now c.args.row.now c.divide.new.row c.requires.support
    c.divide.auto.row
    (λ k none. ap (λ xs. at_column xs k) c.divide.ensures ∙ divided_at_zero c.args.row.now k none)
