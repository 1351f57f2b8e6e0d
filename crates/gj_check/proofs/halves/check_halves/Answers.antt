use Rattle.std.proofs.Common.{◌≡◌, ◌↔◌, ◌+◌, ℕ, IsTrue, List, ℤ, subst, subst₂, arith}
use Rattle.gj_proof.specs.declared.claim.Claim.TheVariants.{NotExtreme}
use Rattle.gj_proof.specs.Rules.{IsMinimalHalf}
use Rattle.gj_check.specs.declared.rules.CheckRule.TheVariants.{Scale, First, Second, Same}
use Rattle.gj_check.specs.FirstFailure.{IsFirstFailure}
use Rattle.gj_check.specs.HalvesRules.{AreDifferent}
use Rattle.gj_check_minimal.proofs.TestsInTurn.{denied}
use Rattle.gj_check.proofs.HalvesTests.{scale_met}
use Rattle.gj_check.proofs.HalvesDemands.{halves_not_minimal, halves_not_continuous, halves_scale_fails, halves_pair_fails, halves_first_fails, halves_second_fails, halves_same_fails, halves_meet}
use Rattle.gj_check.proofs.OwnLineNumbers.{function_lines, behind_function}
use Rattle.gj_check.proofs.halves.check_halves.Goals as goal

pub returns-then-not-is_minimal-clause-fault : goal.returns-then-not-is_minimal-clause-fault
returns-then-not-is_minimal-clause-fault c =
    halves_not_minimal c.args.shape.now c.args.halves.now
    (denied _ _ c.if-not-is_minimal.true c.is_minimal.ensures)

pub returns-then-not-is_continuous-clause-fault : goal.returns-then-not-is_continuous-clause-fault
returns-then-not-is_continuous-clause-fault c =
    halves_not_continuous c.args.shape.now c.args.halves.now
    (c.is_minimal.ensures.0 c.if-not-is_minimal.false)
    (denied _ _ c.if-not-is_continuous.true c.is_continuous.ensures)

pub returns-in_default-clause-fault : goal.returns-in_default-clause-fault
returns-in_default-clause-fault c =
    let f = c.args.shape.now in
    let h = c.args.halves.now in
    let line = behind_function f _ c.line_behind_function-line.ensures.value in
    subst (λ (n : ℕ). IsFirstFailure (NotExtreme f h) n Scale) line
    (halves_scale_fails f h (c.is_minimal.ensures.0 c.if-not-is_minimal.false)
    (c.is_continuous.ensures.0 c.if-not-is_continuous.false)
    c.in_default.ensures.none)

pub returns-in-Some-failure_in_pairs-clause-fault :
    goal.returns-in-Some-failure_in_pairs-clause-fault
returns-in-Some-failure_in_pairs-clause-fault c =
    let f = c.args.shape.now in
    let h = c.args.halves.now in
    let failure = c.in-Some-failure_in_pairs.failure in
    let points = function_lines f in
    let line = c.line_of_pair-line.ensures in
    let number : f.order + 5 + (failure.index + 1) ≡ c.line_of_pair-line.result = omega arith in
    subst (λ (n : ℕ). IsFirstFailure (NotExtreme f h) n failure.rule) number
    (halves_pair_fails f h failure (c.is_minimal.ensures.0 c.if-not-is_minimal.false)
    (c.is_continuous.ensures.0 c.if-not-is_continuous.false)
    c.requires (scale_met f h c.in-Some.refinement c.in-Some.ensures.some)
    c.in-Some-failure_in_pairs.ensures)

pub returns-then-not-branch-clause-fault : goal.returns-then-not-branch-clause-fault
returns-then-not-branch-clause-fault c =
    let f = c.args.shape.now in
    let h = c.args.halves.now in
    let line = behind_function f _ c.line_behind_function-line.ensures.value in
    let one = subst (λ (values : List ℤ). IsTrue c.in_ok-is_minimal_half.field-0
    ↔ IsMinimalHalf f h values) c.as_slice-first.ensures
    c.in_ok-is_minimal_half.ensures in
    subst (λ (n : ℕ). IsFirstFailure (NotExtreme f h) n First) line
    (halves_first_fails f h (c.is_minimal.ensures.0 c.if-not-is_minimal.false)
    (c.is_continuous.ensures.0 c.if-not-is_continuous.false)
    (scale_met f h c.in-Some.refinement c.in-Some.ensures.some)
    c.in_default-failure_in_pairs.ensures (denied _ _ c.if-not-branch.true one))

pub returns-then-not-branch-2-clause-fault : goal.returns-then-not-branch-2-clause-fault
returns-then-not-branch-2-clause-fault c =
    let f = c.args.shape.now in
    let h = c.args.halves.now in
    let line = behind_function f _ c.line_behind_function-line.ensures.value in
    let one = subst (λ (values : List ℤ). IsTrue c.in_ok-is_minimal_half.field-0
    ↔ IsMinimalHalf f h values) c.as_slice-first.ensures
    c.in_ok-is_minimal_half.ensures in
    let two = subst (λ (values : List ℤ). IsTrue c.in_ok-is_minimal_half-2.field-0
    ↔ IsMinimalHalf f h values) c.as_slice-second.ensures
    c.in_ok-is_minimal_half-2.ensures in
    subst (λ (n : ℕ). IsFirstFailure (NotExtreme f h) n Second) line
    (halves_second_fails f h (c.is_minimal.ensures.0 c.if-not-is_minimal.false)
    (c.is_continuous.ensures.0 c.if-not-is_continuous.false)
    (scale_met f h c.in-Some.refinement c.in-Some.ensures.some)
    c.in_default-failure_in_pairs.ensures
    (one.0 c.if-not-branch.false) (denied _ _ c.if-not-branch-2.true two))

pub returns-then-not-are_different-clause-fault : goal.returns-then-not-are_different-clause-fault
returns-then-not-are_different-clause-fault c =
    let f = c.args.shape.now in
    let h = c.args.halves.now in
    let line = behind_function f _ c.line_behind_function-line.ensures.value in
    let one = subst (λ (values : List ℤ). IsTrue c.in_ok-is_minimal_half.field-0
    ↔ IsMinimalHalf f h values) c.as_slice-first.ensures
    c.in_ok-is_minimal_half.ensures in
    let two = subst (λ (values : List ℤ). IsTrue c.in_ok-is_minimal_half-2.field-0
    ↔ IsMinimalHalf f h values) c.as_slice-second.ensures
    c.in_ok-is_minimal_half-2.ensures in
    let differ = subst₂ (λ (xs ys : List ℤ). IsTrue c.are_different.result ↔ AreDifferent xs ys)
    c.as_slice-first.ensures
    c.as_slice-second.ensures c.are_different.ensures in
    subst (λ (n : ℕ). IsFirstFailure (NotExtreme f h) n Same) line
    (halves_same_fails f h (c.is_minimal.ensures.0 c.if-not-is_minimal.false)
    (c.is_continuous.ensures.0 c.if-not-is_continuous.false)
    (scale_met f h c.in-Some.refinement c.in-Some.ensures.some)
    c.in_default-failure_in_pairs.ensures
    (one.0 c.if-not-branch.false) (two.0 c.if-not-branch-2.false)
    (denied _ _ c.if-not-are_different.true differ))

pub returns-clause-ok : goal.returns-clause-ok
returns-clause-ok c =
    let f = c.args.shape.now in
    let h = c.args.halves.now in
    let one = subst (λ (values : List ℤ). IsTrue c.in_ok-is_minimal_half.field-0
    ↔ IsMinimalHalf f h values) c.as_slice-first.ensures
    c.in_ok-is_minimal_half.ensures in
    let two = subst (λ (values : List ℤ). IsTrue c.in_ok-is_minimal_half-2.field-0
    ↔ IsMinimalHalf f h values) c.as_slice-second.ensures
    c.in_ok-is_minimal_half-2.ensures in
    let differ = subst₂ (λ (xs ys : List ℤ). IsTrue c.are_different.result ↔ AreDifferent xs ys)
    c.as_slice-first.ensures
    c.as_slice-second.ensures c.are_different.ensures in
    halves_meet f h (c.is_minimal.ensures.0 c.if-not-is_minimal.false)
    (c.is_continuous.ensures.0 c.if-not-is_continuous.false)
    (scale_met f h c.in-Some.refinement c.in-Some.ensures.some)
    c.in_default-failure_in_pairs.ensures
    (one.0 c.if-not-branch.false) (two.0 c.if-not-branch-2.false)
    (differ.0 c.if-not-are_different.false)
