use Rattle.std.proofs.Common.{IfNone, sym, subst}
use Rattle.gj_shape.specs.Table.{IsMinimal}
use Rattle.gj_minimal.specs.Failures.{test_of}
use Rattle.gj_minimal.proofs.Theory.{first_failed, minimal_from_tests, first_shown, violation_denies, minimal_from_own_grid}
use Rattle.gj_minimal.proofs.search.find_violation.Goals as goal

pub returns-in_err-failure-clause-minimal : goal.returns-in_err-failure-clause-minimal
returns-in_err-failure-clause-minimal c =
    let f = c.args.shape.now in
    subst (λ r. IfNone r (IsMinimal f)) (sym c.from_residual.ensures)
    (minimal_from_tests f c.first_failure.ensures.limits c.in_err-failure.ensures.none)

pub returns-clause-first : goal.returns-clause-first
returns-clause-first c =
    let found = c.in_ok-failure.ensures.found in
    first_failed c.args.shape.now (test_of c.in_ok-failure.failure) c.shown.result found.test
    found.before found.fails
    c.shown.ensures.shows

pub returns-clause-shown : goal.returns-clause-shown
returns-clause-shown c =
    let found = c.in_ok-failure.ensures.found in
    let first = first_failed c.args.shape.now (test_of c.in_ok-failure.failure) c.shown.result
    found.test found.before
    found.fails c.shown.ensures.shows in
    first_shown c.args.shape.now c.shown.result c.first_failure.ensures.limits first

-- a function with a failed test is not minimal
denied : (c : goal.After-shown) → IsMinimal c.args.shape.now → ⊥
denied c minimal =
    let f = c.args.shape.now in
    let limits = c.first_failure.ensures.limits in
    let found = c.in_ok-failure.ensures.found in
    let first = first_failed f (test_of c.in_ok-failure.failure) c.shown.result found.test
    found.before found.fails
    c.shown.ensures.shows in
    violation_denies f c.shown.result limits (first_shown f c.shown.result limits first) minimal

pub returns-clause-only : goal.returns-clause-only
returns-clause-only c = λ minimal. absurd (denied c minimal)

pub returns-clause-own_grid : goal.returns-clause-own_grid
returns-clause-own_grid c = λ continuous own.
    absurd (denied c (minimal_from_own_grid c.args.shape.now c.first_failure.ensures.limits
    continuous own))
