use Rattle.std.proofs.Common.{◌+◌, ◌≤◌, List, length, ap, ◌∙◌, arith}
use Rattle.gj_fields.specs.Rational.{Rational}
use Rattle.gj_frac.specs.declared.Frac.{Frac}
use Rattle.gj_problem.specs.Aggregates.{Weighted, weighted}
use Rattle.gj_problem.specs.Rows.{dot}
use Rattle.gj_problem.proofs.AddedSums.{nothing_minus}
use Rattle.gj_problem.proofs.NarrowRows.{narrow_sum_of_none}
use Rattle.gj_problem.proofs.Runs.{after_kept, reached_first}
use Rattle.gj_problem.proofs.WeightedRuns.{IsAddedUp, before_added, all_added, added_more, weighted_more, weighted_around, kept_constraint}
use Rattle.gj_problem.proofs.WideRoundings.{handed_on}
use Rattle.gj_problem.proofs.slacks.added_one_by_one.Goals as goal
use Rattle.gj_problem.proofs.slacks.added_one_by_one.Goals.{After-loop-run}

pub loop-run-init : goal.loop-run-init
loop-run-init c =
    let p = c.args.problem.now in
    let ks = c.args.constraints.now in
    let sum = c.in_ok-sum.sum in
    let (behind, spread_is) = c.runs-runs.ensures in
    reached_first
    (λ front. IsAddedUp p sum.coefficients.items sum.right c.new.result.items (weighted front ks))
    c.args.multipliers.now c.runs-runs.result.now behind spread_is (record {
      sum = record {
        count = c.in_ok-sum.ensures.count ∙ ap (λ xs. length xs) c.as_slice-columns.ensures;
        adds = λ (point : List Rational).
            nothing_minus (dot sum.coefficients.items point) sum.right
            c.ratio.result (c.in_ok-sum.ensures.none point)
            c.in_ok-sum.ensures.right c.ratio.ensures;
      };
      made = c.new.ensures.items;
      narrow = narrow_sum_of_none p;
    })

pub loop-run-preserved : goal.loop-run-preserved
loop-run-preserved c =
    let p = c.args.problem.now in
    let ms = c.args.multipliers.now in
    let ks = c.args.constraints.now in
    let rs = c.runs-runs.result.now in
    let i = c.loop-run.run-index in
    let run = c.run-item.result in
    let k = c.index-constraints-index.result in
    let old = c.loop-run.made in
    let new = c.add_weighted.new.made in
    let cs = old.sum.coefficients.items in
    let r = old.sum.right in
    let ds = new.sum.coefficients.items in
    let s = new.sum.right in
    let w : Weighted = record { multiplier = run.value; constraint = k } in
    let few : length ms ≤ length ks = omega (arith, c.requires) in
    let index = c.loop-run.place + run.zeros in
    let before = before_added p cs r old.slacks.items ms ks rs i c.loop-run.place run few
    c.loop-run-test.true c.run-item.is c.loop-run.invariant in
    let (below, here) = kept_constraint _ ms rs i index run.value ks k before few
    c.index-constraints-index.is in
    after_kept _ (λ front. IsAddedUp p ds s new.slacks.items (weighted front ks)) ms rs i index
    run.value before
    (added_more p cs ds r s old.slacks.items new.slacks.items (weighted before.front ks) _ w
    (weighted_more before.front run.value ks k below here) (record {
      count = c.in_ok-add_weighted.ensures.count;
      adds = c.in_ok-add_weighted.ensures.sum;
      fits = c.in_ok-add_weighted.ensures.narrow;
    }) c.in_ok-add_weighted.ensures.slack before.holds)

pub returns-in_err-add_weighted-clause-wide : goal.returns-in_err-add_weighted-clause-wide
returns-in_err-add_weighted-clause-wide c = λ fault.
    let p = c.args.problem.now in
    let ms = c.args.multipliers.now in
    let ks = c.args.constraints.now in
    let rs = c.runs-runs.result.now in
    let i = c.loop-run.run-index in
    let run = c.run-item.result in
    let k = c.index-constraints-index.result in
    let old = c.loop-run.made in
    let cs = old.sum.coefficients.items in
    let r = old.sum.right in
    let w : Weighted = record { multiplier = run.value; constraint = k } in
    let few : length ms ≤ length ks = omega (arith, c.requires) in
    let index = c.loop-run.place + run.zeros in
    let before = before_added p cs r old.slacks.items ms ks rs i c.loop-run.place run few
    c.loop-run-test.true c.run-item.is c.loop-run.invariant in
    let (below, here) = kept_constraint _ ms rs i index run.value ks k before few
    c.index-constraints-index.is in
    record {
      before = weighted before.front ks;
      next = w;
      after = _;
      place = ap (λ (xs : List Frac). weighted xs ks) before.parts
          ∙ weighted_around before.front run.value _ ks k below here;
      coefficients = cs;
      against = r;
      sum = before.holds.sum;
      wide = c.in_err-add_weighted.ensures.wide
          (handed_on c.from_residual-in_err-add_weighted.result _ _
          c.from_residual-in_err-add_weighted.ensures.1 fault);
    }

-- all constraints were gone over
all_gone_over : (c : After-loop-run) → IsAddedUp c.args.problem.now
    c.loop-run.made.sum.coefficients.items c.loop-run.made.sum.right c.loop-run.made.slacks.items
    (weighted c.args.multipliers.now c.args.constraints.now)
all_gone_over c =
    all_added c.args.problem.now c.loop-run.made.sum.coefficients.items c.loop-run.made.sum.right
    c.loop-run.made.slacks.items c.args.multipliers.now c.args.constraints.now
    c.runs-runs.result.now c.loop-run.run-index c.loop-run.place (omega (arith, c.requires))
    c.loop-run-test.false c.loop-run.invariant

pub returns-clause-sum : goal.returns-clause-sum
returns-clause-sum c = (all_gone_over c).sum

pub returns-clause-slacks : goal.returns-clause-slacks
returns-clause-slacks c = (all_gone_over c).made

pub returns-clause-narrow : goal.returns-clause-narrow
returns-clause-narrow c = (all_gone_over c).narrow
