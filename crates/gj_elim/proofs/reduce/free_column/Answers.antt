use Rattle.std.proofs.Common.{None, get_or, length, sym, ◌∙◌, arith}
use Rattle.gj_elim.proofs.Places.{free_found, free_none, none_from_test}
use Rattle.gj_elim.proofs.reduce.free_column.Goals as goal

pub returns-then-is_none : goal.returns-then-is_none
returns-then-is_none c log rows lines are =
    free_found log (length c.args.places.now) c.loop-column.column (omega arith)
    (λ k low none. c.loop-column.invariant k low (are.place k (omega arith) ∙ sym none))
    (none_from_test (get_or c.args.places.now c.loop-column.column None) _ c.if-is_none.ensures
    (are.place c.loop-column.column (omega arith)))
    rows lines

pub returns : goal.returns
returns c log rows lines are =
    free_none log (length c.args.places.now) c.loop-column.column (omega arith)
    (λ k low none. c.loop-column.invariant k low (are.place k (omega arith) ∙ sym none)) rows lines
