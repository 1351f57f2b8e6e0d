use Rattle.std.proofs.Common.{List, ℤ, ◌<◌, ◌^◌, unsigned_abs, sym, subst, arith}
use Rattle.gj_shape.specs.Elimination.{at_column}
use Rattle.gj_elim.proofs.LazyRows.{zero_outside}
use Rattle.gj_elim.proofs.SmallDivisors.{divided_below, divided_zero_outside, divided_extent}
use Rattle.gj_elim.proofs.lazy.tighten.Goals as goal

pub bound_within-requires-clause-zero : goal.bound_within-requires-clause-zero
bound_within-requires-clause-zero c =
    divided_zero_outside c.args.row.now c.divide_small.new.row c.args.column c.args.extent.end
    c.divide_small.ensures
    (zero_outside c.args.row.now c.args.column c.args.extent.bound c.args.extent.end
    c.args.extent.end c.requires.row_zero c.requires.extent (omega arith))

pub bound_within-requires-clause-small : goal.bound_within-requires-clause-small
bound_within-requires-clause-small c k =
    subst (λ (xs : List ℤ). unsigned_abs (at_column xs k) < 2 ^ 63) (sym c.divide_small.ensures)
    (divided_below c.args.row.now k (2 ^ 63)
    (let small = c.requires.extent.small c.requires.bound k in omega arith))

pub returns-clause-extent : goal.returns-clause-extent
returns-clause-extent c =
    divided_extent c.args.row.now c.divide_small.new.row c.args.column c.args.extent.end
    c.bound_within.result c.divide_small.ensures
    (zero_outside c.args.row.now c.args.column c.args.extent.bound c.args.extent.end
    c.args.extent.end c.requires.row_zero c.requires.extent (omega arith))
    c.requires.extent.within c.bound_within.ensures.bound
