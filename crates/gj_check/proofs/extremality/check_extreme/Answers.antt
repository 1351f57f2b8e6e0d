use Rattle.std.proofs.Common.{◌≡◌, ◌+◌, ℕ, List, length, take, get_or, sym, subst, subst₂, arith}
use Rattle.std.proofs.lemmas.List.{length-take-le}
use Rattle.gj_proof.specs.ProofText.{extreme_claim, modulus_lines, group_lines}
use Rattle.gj_check_groups.specs.Groups.{IsGroupsOutcome}
use Rattle.gj_check.specs.declared.rules.CheckRule.TheVariants.{Cover, Rank}
use Rattle.gj_check.specs.CoverLines.{IsCoverOutcome}
use Rattle.gj_check.specs.FirstFailure.{IsFirstFailure}
use Rattle.gj_check_minimal.proofs.TestsInTurn.{denied}
use Rattle.gj_check.proofs.ExtremeDemands.{extreme_not_minimal, extreme_not_continuous, extreme_cover_broken, extreme_group_fails, extreme_rank_fails, extreme_meets}
use Rattle.gj_proof.proofs.LineCounts.{length-covered}
use Rattle.gj_check.proofs.OwnLineNumbers.{function_lines}
use Rattle.gj_check.proofs.extremality.check_extreme.Goals as goal

pub returns-then-not-is_minimal-clause-fault : goal.returns-then-not-is_minimal-clause-fault
returns-then-not-is_minimal-clause-fault c =
    extreme_not_minimal c.args.numbers c.args.shape.now c.args.lines.now c.args.rows.now
    (denied _ _ c.if-not-is_minimal.true c.is_minimal.ensures)

pub returns-then-not-is_continuous-clause-fault : goal.returns-then-not-is_continuous-clause-fault
returns-then-not-is_continuous-clause-fault c =
    extreme_not_continuous c.args.numbers c.args.shape.now c.args.lines.now c.args.rows.now
    (c.is_minimal.ensures.0 c.if-not-is_minimal.false)
    (denied _ _ c.if-not-is_continuous.true c.is_continuous.ensures)

pub returns-in-BrokenAt-clause-fault : goal.returns-in-BrokenAt-clause-fault
returns-in-BrokenAt-clause-fault c =
    let f = c.args.shape.now in
    let lines = c.args.lines.now in
    let rows = c.args.rows.now in
    let i = c.in-BrokenAt.index in
    let broken = subst (IsCoverOutcome f lines) c.in-BrokenAt.is c.in_ok-components.ensures in
    let points = function_lines f in
    let long = length-take-le i lines (omega (arith, broken.within)) in
    let covered = length-covered 0 (take i lines) in
    let line = c.line_behind_covers-line.ensures in
    let number : f.order + 5 + i ≡ c.line_behind_covers-line.result = omega arith in
    subst (λ (n : ℕ). IsFirstFailure (extreme_claim c.args.numbers f lines rows) n Cover) number
    (extreme_cover_broken c.args.numbers f lines rows i
    (c.is_minimal.ensures.0 c.if-not-is_minimal.false)
    (c.is_continuous.ensures.0 c.if-not-is_continuous.false) broken)

pub returns-in-Some-clause-fault : goal.returns-in-Some-clause-fault
returns-in-Some-clause-fault c =
    let f = c.args.shape.now in
    let lines = c.args.lines.now in
    let rows = c.args.rows.now in
    let components = c.in-Whole.components in
    let failure = c.in-Some.failure in
    let whole = subst (IsCoverOutcome f lines) c.in-Whole.is c.in_ok-components.ensures in
    let outcome = subst₂
    (λ (number : List ℕ) r. IsGroupsOutcome c.args.numbers f
    (λ i. get_or number i 0) components.count rows r)
    c.as_slice-number.ensures.value c.in-Some.is c.in_ok-failure.ensures in
    let points = function_lines f in
    let count = c.requires.count in
    let line = c.in_ok-line.ensures in
    let first = c.first_group_line-groups.ensures.value in
    let number : f.order + length lines + 5 + length (modulus_lines c.args.numbers) + failure.below
    ≡ c.in_ok-line.line = omega arith in
    subst₂ (IsFirstFailure (extreme_claim c.args.numbers f lines rows)) number
    (sym c.rule_on_groups.ensures)
    (extreme_group_fails c.args.numbers f lines rows components failure
    c.first_group_line-groups.ensures.limits
    (c.is_minimal.ensures.0 c.if-not-is_minimal.false)
    (c.is_continuous.ensures.0 c.if-not-is_continuous.false)
    c.requires.rows whole.0 whole.1 outcome)

pub returns-then-rows-components-clause-fault : goal.returns-then-rows-components-clause-fault
returns-then-rows-components-clause-fault c =
    let f = c.args.shape.now in
    let lines = c.args.lines.now in
    let rows = c.args.rows.now in
    let components = c.in-Whole.components in
    let whole = subst (IsCoverOutcome f lines) c.in-Whole.is c.in_ok-components.ensures in
    let outcome = subst₂
    (λ (number : List ℕ) r. IsGroupsOutcome c.args.numbers f
    (λ i. get_or number i 0) components.count rows r)
    c.as_slice-number.ensures.value c.in_default.is c.in_ok-failure.ensures in
    let points = function_lines f in
    let count = c.requires.count in
    let line = c.in_ok-line-2.ensures in
    let first = c.first_group_line-groups.ensures.value in
    let number : f.order + 5 + length lines + length (modulus_lines c.args.numbers) + length
    (group_lines 0 rows) ≡ c.in_ok-line-2.line = omega arith in
    subst (λ (n : ℕ). IsFirstFailure (extreme_claim c.args.numbers f lines rows) n Rank) number
    (extreme_rank_fails c.args.numbers f lines rows components
    c.first_group_line-groups.ensures.limits
    (c.is_minimal.ensures.0 c.if-not-is_minimal.false)
    (c.is_continuous.ensures.0 c.if-not-is_continuous.false)
    c.requires.rows whole.0 whole.1 outcome c.if-rows-components.true)

pub returns-clause-ok : goal.returns-clause-ok
returns-clause-ok c =
    let f = c.args.shape.now in
    let lines = c.args.lines.now in
    let rows = c.args.rows.now in
    let components = c.in-Whole.components in
    let whole = subst (IsCoverOutcome f lines) c.in-Whole.is c.in_ok-components.ensures in
    let outcome = subst₂
    (λ (number : List ℕ) r. IsGroupsOutcome c.args.numbers f
    (λ i. get_or number i 0) components.count rows r)
    c.as_slice-number.ensures.value c.in_default.is c.in_ok-failure.ensures in
    extreme_meets c.args.numbers f lines rows components c.first_group_line-groups.ensures.limits
    (c.is_minimal.ensures.0 c.if-not-is_minimal.false)
    (c.is_continuous.ensures.0 c.if-not-is_continuous.false)
    c.requires.rows whole.0 whole.1 outcome c.if-rows-components.false
