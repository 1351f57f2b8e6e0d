use Rattle.std.proofs.Common.{inl, inr, sym, ◌∙◌, ◌-◌, ◌&&◌, nat_le, arith}
use Rattle.std.proofs.lemmas.Bool.{cases_lt, le-ltb, and_left}
use Rattle.gj_loops.specs.IndexSets.{has, bit_of}
use Rattle.gj_loops.proofs.Bits.{bit_of_past}
use Rattle.gj_loops.proofs.Shifts.{bit_of-high, in_limit}
use Rattle.gj_loops.proofs.index_set.IndexSet.up.Goals as goal

pub returns : goal.returns
unfolding has
returns c i =
    let words = c.args.self.now.words in
    let moved = nat_le c.args.s i && bit_of words (i - c.args.s) in
    elim (cases_lt i 1024) [
      | inl below ↦ c.window.ensures i below
          ∙ bit_of-high 1 words i c.args.s (omega arith) c.requires
          ∙ sym (in_limit i moved below)
      | inr past ↦ bit_of_past c.window.result.words i (omega arith)
          ∙ sym (and_left _ moved (le-ltb i 1024 past))
    ]
