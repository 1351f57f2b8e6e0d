-- What the search rests on of the theory of functions and their tests.
pub use Rattle.gj_theory.proofs.FirstFailed.{first_failed, tests_pass}
pub use Rattle.gj_theory.proofs.MinimalFromTests.{minimal_from_tests}
pub use Rattle.gj_theory.proofs.Continuous.{minimal_from_own_grid}
pub use Rattle.gj_theory.proofs.Violations.{first_shown, violation_denies}
pub use Rattle.gj_theory.proofs.Affine.{limit_count, some_corners}
pub use Rattle.gj_theory.proofs.Affine.{near_after, near_before, near_corner}
