use Rattle.std.proofs.Common.{◌∙◌, arith}
use Rattle.std.proofs.lemmas.List.{same_lists, get_or_default}
use Rattle.gj_sparse_elim.proofs.SparseRows.{no_entry}
use Rattle.gj_sparse_elim.proofs.seen.are_same.Goals as goal

pub returns : goal.returns
returns c = λ t.
    same_lists c.args.row.now c.args.other.now (omega arith)
    (λ k d below.
    get_or_default c.args.row.now k d no_entry below
    ∙ c.loop-i.invariant k (omega arith)
    ∙ get_or_default c.args.other.now k no_entry d (omega arith))
