use Rattle.std.proofs.Common.{◌≡◌, rules, List, sym, subst, ◌∙◌}
use Rattle.std.specs.Option.{option_copied}
use Rattle.gj_problem.specs.declared.problem.Entry.{Entry}
use Rattle.gj_derivation.specs.declared.base.Base.{Base}
use Rattle.gj_derivation.specs.declared.base.Base.TheVariants as base
use Rattle.gj_derivation.specs.declared.moves.Moved.{Moved}
use Rattle.gj_derivation.specs.declared.moves.Moved.TheVariants as moved
use Rattle.gj_derivation.specs.Derivations.{Line, coefficient_in, times}
use Rattle.gj_derivation.specs.Checks.{line_of_sum, IsBaseOf, IsMovedRight, IsFirstUnmovable, IsWideFor}
use Rattle.gj_derivation.proofs.CheckedSteps.{shown_by, wide_for}
use Rattle.gj_derivation.proofs.NarrowVerdicts.{narrow_with_base, narrow_against}
use Rattle.gj_derivation.proofs.derive.claim_with.Goals as goal

pub returns-in_err-right-in-Line-clause-wide : goal.returns-in_err-right-in-Line-clause-wide
returns-in_err-right-in-Line-clause-wide c = λ fault.
    let f = option_copied c.args.function in
    let p = c.args.problem.now in
    let k = c.args.combination.now in
    let made : IsBaseOf f p k (base.Line c.in-Line.sum) =
    subst (λ (b : Base). IsBaseOf f p k b) c.in-Line.is c.in_ok-sum.ensures.is in
    wide_for f p k (record { entries = c.args.entries.now; right = k.factor }) c.in-Line.sum made
    (c.in_err-right-in-Line.ensures.wide (search rules))

pub returns-in-Right-clause-is : goal.returns-in-Right-clause-is
returns-in-Right-clause-is c =
    let f = option_copied c.args.function in
    let p = c.args.problem.now in
    let k = c.args.combination.now in
    let made : IsBaseOf f p k (base.Line c.in-Line.sum) =
    subst (λ (b : Base). IsBaseOf f p k b) c.in-Line.is c.in_ok-sum.ensures.is in
    let shown = subst (λ (m : Moved). IsMovedRight p.columns k.factor (line_of_sum c.in-Line.sum)
    (coefficient_in c.args.entries.now) m) c.in-Right.is
    c.in_ok-right-in-Line.ensures.is in
    let entries : c.of.result ≡ c.args.entries.now = c.of.ensures
    ∙ c.in_ok-from_slice-in-Right.ensures.items in (
      entries,
      shown_by f p k (record { entries = c.of.result; right = c.in-Right.right }) c.in-Line.sum made
          c.in-Right.right c.requires.factor_positive
          (subst (λ (es : List Entry). IsMovedRight p.columns k.factor (line_of_sum c.in-Line.sum)
          (coefficient_in es) (moved.Right c.in-Right.right))
          (sym entries) shown),
    )

pub returns-in-Line-clause-is : goal.returns-in-Line-clause-is
returns-in-Line-clause-is c =
    let f = option_copied c.args.function in
    let p = c.args.problem.now in
    let k = c.args.combination.now in
    let made : IsBaseOf f p k (base.Line c.in-Line.sum) =
    subst (λ (b : Base). IsBaseOf f p k b) c.in-Line.is c.in_ok-sum.ensures.is in
    let stuck = subst (λ (m : Moved). IsMovedRight p.columns k.factor (line_of_sum c.in-Line.sum)
    (coefficient_in c.args.entries.now) m) c.in-Bound.is
    c.in_ok-right-in-Line.ensures.is in (
      made.0,
      made.1,
      subst (λ (l : Line). IsFirstUnmovable p.columns (times k.factor l)
          (coefficient_in c.args.entries.now) c.in-Bound.column) made.2.same stuck,
    )

pub returns-in-Right-clause-narrow : goal.returns-in-Right-clause-narrow
returns-in-Right-clause-narrow c usable =
    let f = option_copied c.args.function in
    let p = c.args.problem.now in
    let k = c.args.combination.now in
    narrow_with_base f p k usable
    (λ (l : Line). IsWideFor p.columns k.factor l c.args.entries.now) c.in-Line.sum
    (subst (λ (b : Base). IsBaseOf f p k b) c.in-Line.is c.in_ok-sum.ensures.is)
    c.in_ok-sum.ensures.narrow c.in_ok-right-in-Line.ensures.narrow

pub returns-in-Line-clause-narrow : goal.returns-in-Line-clause-narrow
returns-in-Line-clause-narrow c usable =
    let f = option_copied c.args.function in
    let p = c.args.problem.now in
    let k = c.args.combination.now in
    narrow_with_base f p k usable
    (λ (l : Line). IsWideFor p.columns k.factor l c.args.entries.now) c.in-Line.sum
    (subst (λ (b : Base). IsBaseOf f p k b) c.in-Line.is c.in_ok-sum.ensures.is)
    c.in_ok-sum.ensures.narrow c.in_ok-right-in-Line.ensures.narrow

pub returns-clause-narrow : goal.returns-clause-narrow
returns-clause-narrow c usable =
    let f = option_copied c.args.function in
    let p = c.args.problem.now in
    let k = c.args.combination.now in
    narrow_against f p k usable (λ (l : Line). IsWideFor p.columns k.factor l c.args.entries.now)
    c.in-Against.verdict
    (subst (λ (b : Base). IsBaseOf f p k b) c.in-Against.is c.in_ok-sum.ensures.is)
    c.in_ok-sum.ensures.narrow
