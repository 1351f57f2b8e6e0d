use Rattle.gj_theory.proofs.TestsFromMinimal.{tests_from_minimal}
use Rattle.gj_theory.proofs.MinimalFromTests.{minimal_by_tests}
use Rattle.gj_theory.proofs.grid.tests_say_minimal.Goals as goal

pub returns-clause-sound : goal.returns-clause-sound
returns-clause-sound c = minimal_by_tests

pub returns-clause-complete : goal.returns-clause-complete
returns-clause-complete c = tests_from_minimal
