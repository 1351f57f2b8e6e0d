use Rattle.std.proofs.Common.{inl, arith}
use Rattle.gj_cover.proofs.RunOrder.{two_in_order}
use Rattle.gj_tests.proofs.tests.faces.cover_of_two_runs.Goals as goal

pub cover_of_runs-requires-clause-in_order : goal.cover_of_runs-requires-clause-in_order
cover_of_runs-requires-clause-in_order c =
    two_in_order 2 (record { a = 0; from = 0; to = 1 }) (record { a = 1; from = 0; to = 0 })
    (record { row = omega arith; some = omega arith; within = omega arith })
    (record { row = omega arith; some = omega arith; within = omega arith }) (inl (omega arith))
