use Rattle.std.proofs.Common.{◌+◌, ◌<◌, List, length, get_or, take, drop, ap, pos, sym, subst, ◌∙◌}
use Rattle.std.proofs.lemmas.List.{take_all}
use Rattle.gj_fields.specs.Rational.{rational}
use Rattle.gj_problem.proofs.AddedSums.{whole_ratio}
use Rattle.gj_problem.proofs.Prefixes.{split_at}
use Rattle.gj_derivation.specs.declared.step.Multiplier.{Multiplier}
use Rattle.gj_derivation.specs.declared.step.StepRule.TheVariants.{Linear}
use Rattle.gj_derivation.specs.Checks.{IsSumOf, IsWideAdded}
use Rattle.gj_derivation.proofs.NarrowBases.{narrow_added_none, narrow_added_next}
use Rattle.gj_derivation.proofs.CheckedSums.{no_sum, sum_more}
use Rattle.gj_derivation.proofs.NamedLines.{line_below}
use Rattle.gj_derivation.proofs.base.sum_of.Goals as goal

pub loop-multiplier-init : goal.loop-multiplier-init
loop-multiplier-init c = record {
  sum = no_sum c.args.problem.now c.in_ok-sum.sum (c.in_ok-sum.ensures.count
      ∙ ap (λ xs. length xs) c.as_slice.ensures)
      (ap rational c.in_ok-sum.ensures.right ∙ whole_ratio c.ratio.result (pos 0) c.ratio.ensures)
      c.in_ok-sum.ensures.none;
  narrow = narrow_added_none c.args.problem.now;
}

pub add_constraint-requires : goal.add_constraint-requires
add_constraint-requires c =
    let i = c.loop-multiplier.multiplier-index in
    let ms = c.args.multipliers.now in
    let m = c.multiplier-item.result in
    subst (λ (x : Multiplier). x.line < length c.args.problem.now.constraints)
    (sym c.multiplier-item.is)
    (line_below Linear c.args.problem.now (get_or ms i m)
    (c.requires i m c.loop-multiplier-test.true))

pub returns-in_err-add_constraint-clause-wide : goal.returns-in_err-add_constraint-clause-wide
returns-in_err-add_constraint-clause-wide c = λ fault. record {
  before = take c.loop-multiplier.multiplier-index c.args.multipliers.now;
  next = c.multiplier-item.result;
  after = drop (c.loop-multiplier.multiplier-index + 1) c.args.multipliers.now;
  place = split_at c.args.multipliers.now c.loop-multiplier.multiplier-index
      c.multiplier-item.result c.loop-multiplier-test.true c.multiplier-item.is;
  sum = c.loop-multiplier.sum;
  sum_is = c.loop-multiplier.invariant.sum;
  wide = c.in_err-add_constraint.ensures.wide;
}

pub loop-multiplier-preserved : goal.loop-multiplier-preserved
loop-multiplier-preserved c = record {
  sum = sum_more c.args.problem.now c.args.multipliers.now c.loop-multiplier.multiplier-index
      c.multiplier-item.result c.loop-multiplier.sum
      c.add_constraint.new.sum c.loop-multiplier-test.true c.multiplier-item.is
      c.loop-multiplier.invariant.sum c.in_ok-add_constraint.ensures.count
      c.in_ok-add_constraint.ensures.added;
  narrow = narrow_added_next c.args.problem.now c.args.multipliers.now
      c.loop-multiplier.multiplier-index c.multiplier-item.result c.loop-multiplier.sum
      c.loop-multiplier-test.true c.multiplier-item.is c.loop-multiplier.invariant.sum
      c.loop-multiplier.invariant.narrow c.in_ok-add_constraint.ensures.narrow;
}

pub returns-clause-is : goal.returns-clause-is
returns-clause-is c =
    subst (λ (ms : List Multiplier). IsSumOf c.args.problem.now ms c.loop-multiplier.sum)
    (take_all c.loop-multiplier.multiplier-index c.args.multipliers.now
    c.loop-multiplier-test.false) c.loop-multiplier.invariant.sum

pub returns-clause-narrow : goal.returns-clause-narrow
returns-clause-narrow c =
    subst (λ (ms : List Multiplier). IsWideAdded c.args.problem.now ms → ⊥)
    (take_all c.loop-multiplier.multiplier-index c.args.multipliers.now
    c.loop-multiplier-test.false) c.loop-multiplier.invariant.narrow
