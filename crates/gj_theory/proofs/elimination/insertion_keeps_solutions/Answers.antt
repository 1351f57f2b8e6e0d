use Rattle.gj_shape.specs.Elimination.{inserted}
use Rattle.gj_theory.proofs.Insertions.{inserted_leaves}
use Rattle.gj_theory.proofs.SoundArithmetic.{whole_sound, both_ways}
use Rattle.gj_theory.proofs.elimination.insertion_keeps_solutions.Goals as goal

pub returns-clause-triangular : goal.returns-clause-triangular
returns-clause-triangular c n number kept row h len =
    (inserted_leaves whole_sound n kept row h len).triangular number (inserted n kept row).reduce

pub returns-clause-same : goal.returns-clause-same
returns-clause-same c n number kept row w h len =
    both_ways ((inserted_leaves whole_sound n kept row h len).solutions number
    (inserted n kept row).reduce w)
