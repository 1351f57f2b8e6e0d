use Rattle.std.proofs.Common.{inl, inr, sym, ◌∙◌, ◌+◌, arith}
use Rattle.std.proofs.lemmas.Bool.{cases_lt}
use Rattle.gj_loops.specs.IndexSets.{has}
use Rattle.gj_loops.proofs.Bits.{bit_of_past}
use Rattle.gj_loops.proofs.Shifts.{bit_of-low}
use Rattle.gj_loops.proofs.index_set.IndexSet.down.Goals as goal

pub returns : goal.returns
unfolding has
returns c i =
    elim (cases_lt i 1024) [
      | inl below ↦ c.window.ensures i below
          ∙ bit_of-low c.args.self.now.words (i + c.args.s) (omega arith)
      | inr past ↦ bit_of_past c.window.result.words i (omega arith)
          ∙ sym (bit_of_past c.args.self.now.words (i + c.args.s) (omega arith))
    ]
