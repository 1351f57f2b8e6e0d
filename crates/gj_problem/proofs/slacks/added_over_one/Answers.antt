use Rattle.std.proofs.Common.{◌≡◌, ◌+◌, ◌≤◌, List, length, ap, subst₂, sym, arith}
use Rattle.gj_frac.specs.declared.Frac.{Frac}
use Rattle.gj_problem.specs.Aggregates.{IsAggregate, Weighted, weighted}
use Rattle.gj_problem.proofs.Combinations.{none_is_aggregate}
use Rattle.gj_problem.proofs.NarrowRows.{narrow_sum_of_none}
use Rattle.gj_problem.proofs.Runs.{after_kept, reached_first}
use Rattle.gj_problem.proofs.WeightedRuns.{IsAddedUp, before_added, all_added, added_more, weighted_more, kept_constraint}
use Rattle.gj_problem.proofs.slacks.added_over_one.Goals as goal
use Rattle.gj_problem.proofs.slacks.added_over_one.Goals.{In_ok-sum-2}

pub loop-run-init : goal.loop-run-init
loop-run-init c =
    let p = c.args.problem.now in
    let ks = c.args.constraints.now in
    let (cs, r, parts, none) = c.in_ok-sum.ensures in
    let (behind, spread_is) = c.runs-runs.ensures in (
      cs,
      r,
      parts,
      reached_first (λ front. IsAddedUp p cs r c.new.result.items (weighted front ks))
          c.args.multipliers.now c.runs-runs.result.now behind spread_is (record {
            sum = none_is_aggregate p _ cs r (ap (λ xs. length xs) c.as_slice-columns.ensures) none;
            made = c.new.ensures.items;
            narrow = narrow_sum_of_none p;
          }),
    )

pub loop-run-preserved : goal.loop-run-preserved
loop-run-preserved c =
    let p = c.args.problem.now in
    let ms = c.args.multipliers.now in
    let ks = c.args.constraints.now in
    let rs = c.runs-runs.result.now in
    let i = c.loop-run.run-index in
    let run = c.run-item.result in
    let k = c.index-constraints-index.result in
    let old = c.loop-run.made.slacks.items in
    let new = c.add_over_one.new.made.slacks.items in
    let w : Weighted = record { multiplier = run.value; constraint = k } in
    let few : length ms ≤ length ks = omega (arith, c.requires) in
    let (cs, r, parts, reached) = c.loop-run.invariant in
    let index = c.loop-run.place + run.zeros in
    let before = before_added p cs r old ms ks rs i c.loop-run.place run few c.loop-run-test.true
    c.run-item.is reached in
    let (below, here) = kept_constraint _ ms rs i index run.value ks k before few
    c.index-constraints-index.is in
    let (ds, s, new_parts, added) = c.in_ok-add_over_one.ensures.sum cs r parts in (
      ds,
      s,
      new_parts,
      after_kept _ (λ front. IsAddedUp p ds s new (weighted front ks)) ms rs i index run.value
          before
          (added_more p cs ds r s old new (weighted before.front ks) _ w
          (weighted_more before.front run.value ks k below here) added
          c.in_ok-add_over_one.ensures.slack before.holds),
    )

-- all constraints were gone over
added_up : (c : In_ok-sum-2) → (cs : List Frac) × (r : Frac)
    × (c.in_ok-sum-2.sum.coefficients.items ≡ cs) × (c.in_ok-sum-2.sum.right ≡ r)
    × IsAddedUp c.args.problem.now cs r c.loop-run.made.slacks.items
    (weighted c.args.multipliers.now c.args.constraints.now)
added_up c =
    let p = c.args.problem.now in
    let ks = c.args.constraints.now in
    let slacks = c.loop-run.made.slacks.items in
    let (cs, r, parts, reached) = c.loop-run.invariant in
    let same = c.in_ok-sum-2.ensures cs r parts in (
      cs,
      r,
      same.0,
      same.1,
      all_added p cs r slacks c.args.multipliers.now ks c.runs-runs.result.now
          c.loop-run.run-index c.loop-run.place (omega (arith, c.requires)) c.loop-run-test.false
          reached,
    )

pub returns-clause-sum : goal.returns-clause-sum
returns-clause-sum c =
    let (cs, r, coefficients, right, all) = added_up c in
    subst₂ (λ (xs : List Frac) (x : Frac). IsAggregate c.args.problem.now
    (weighted c.args.multipliers.now c.args.constraints.now) xs x) (sym coefficients) (sym right)
    all.sum

pub returns-clause-slacks : goal.returns-clause-slacks
returns-clause-slacks c = let (cs, r, coefficients, right, all) = added_up c in all.made

pub returns-clause-narrow : goal.returns-clause-narrow
returns-clause-narrow c = let (cs, r, coefficients, right, all) = added_up c in all.narrow
