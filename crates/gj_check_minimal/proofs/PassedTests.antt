-- All tests pass exactly if those at 0, those of signs, those of symmetry and those of each square
-- do.
use Rattle.std.proofs.Common.{◌↔◌}
use Rattle.gj_shape.specs.FunctionData.{FunctionData}
use Rattle.gj_shape.specs.FirstViolation.{Test, Passes, PassesAll}
use Rattle.gj_shape.specs.FirstViolation.Test.{zero_at_zero, nonnegative_at, nonnegative_after, nonnegative_before, symmetric_at, symmetric_between, subadditive_at}
use Rattle.gj_theory.specs.EarlierTests.{IsTestOf, PassesSymmetry}
use Rattle.gj_theory.proofs.EachTest.{each_test, test_has}
use Rattle.gj_check_minimal.specs.Tests.{HasNonnegativeValues, IsSymmetric, IsSubadditive}

-- those, in the order in which they are tried
abbrev pub MeetsTests : FunctionData → Type 0
MeetsTests f = ((Passes f zero_at_zero × HasNonnegativeValues f) × IsSymmetric f) × IsSubadditive f

test_passes : (f : FunctionData) → MeetsTests f → (t : Test) → IsTestOf f t → Passes f t
test_passes f h zero_at_zero is = h.0.0.0
test_passes f h (nonnegative_at i) is = (h.0.0.1 i is).0
test_passes f h (nonnegative_after i) is = (h.0.0.1 i is).1
test_passes f h (nonnegative_before i) is = (h.0.0.1 i is).2
test_passes f h (symmetric_at i) is = (h.0.1 i is).0
test_passes f h (symmetric_between i) is = (h.0.1 i is).1
test_passes f h (subadditive_at kind a b c) is = h.1 a b is.0 is.1 kind c is.2

passed_signs : (f : FunctionData) → PassesAll f → HasNonnegativeValues f
passed_signs f all i below =
    let has = test_has f (Passes f) all in (
      has (nonnegative_at i) below,
      has (nonnegative_after i) below,
      has
          (nonnegative_before i) below,
    )

passed_symmetry : (f : FunctionData) → PassesAll f → IsSymmetric f
passed_symmetry f all i below =
    let has = test_has f (Passes f) all in
    (has (symmetric_at i) below, has (symmetric_between i) below)

passed_squares : (f : FunctionData) → PassesAll f → IsSubadditive f
passed_squares f all a b a_below b_below kind c c_below =
    test_has f (Passes f) all (subadditive_at kind a b c) (a_below, b_below, c_below)

pub all_tests : (f : FunctionData) → MeetsTests f ↔ PassesAll f
all_tests f = (
  λ h. each_test f (Passes f) (test_passes f h),
  λ all.
      let zero = test_has f (Passes f) all zero_at_zero tt in
      (((zero, passed_signs f all), passed_symmetry f all), passed_squares f all),
)

-- so if the tests at 0, of signs and of symmetry pass, those of the squares decide
pub squares_decide : (f : FunctionData) → Passes f zero_at_zero → HasNonnegativeValues f →
    IsSymmetric f →
    IsSubadditive f ↔ PassesAll f
squares_decide f zero signs symmetry =
    let all = all_tests f in
    (λ h. all.0 (((zero, signs), symmetry), h), λ h. (all.1 h).1)

-- as the theory has these tests
pub symmetry_passes : (f : FunctionData) → Passes f zero_at_zero → HasNonnegativeValues f →
    IsSymmetric f → PassesSymmetry f
symmetry_passes f zero signs symmetry = record {
  mirrors = record {
    signs = record {
      values = record { zero = zero; nonnegative = λ i below. (signs i below).0 };
      after = λ i below. (signs i below).1;
      before = λ i below. (signs i below).2;
    };
    symmetric = λ i below. (symmetry i below).0;
  };
  between = λ i below. (symmetry i below).1;
}

pub all_to_symmetry : (f : FunctionData) → PassesAll f → PassesSymmetry f
all_to_symmetry f all = let h = (all_tests f).1 all in symmetry_passes f h.0.0.0 h.0.0.1 h.0.1
