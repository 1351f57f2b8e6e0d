use Rattle.std.proofs.Common.{ap, ◌/◌, ◌%◌, get_or}
use Rattle.std.specs.Prelude.{◌==◌}
use Rattle.std.proofs.lemmas.Nat.Bits.{shr_and_one}
use Rattle.gj_loops.specs.IndexSets.{has}
use Rattle.gj_loops.proofs.index_set.IndexSet.contains.Goals as goal

pub returns : goal.returns
unfolding has
returns c = ap (λ n. n == 1)
    (shr_and_one (get_or c.args.self.now.words (c.args.i / 64) 0) (c.args.i % 64))
