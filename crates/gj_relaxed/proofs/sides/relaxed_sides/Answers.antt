use Rattle.std.proofs.Common.{◌≡◌, ◌+◌, ◌≤◌, List, length, get_or, sym, ap, ap₂, subst₂, ◌∙◌, arith}
use Rattle.std.proofs.lemmas.Option.{MatchOption-at_some, MatchOption-at_none}
use Rattle.gj_frac.specs.declared.Frac.{Frac}
use Rattle.gj_problem.specs.declared.problem.Constraint.{Constraint}
use Rattle.gj_problem.specs.Aggregates.{Weighted, weighted}
use Rattle.gj_problem.proofs.Runs.{after_kept, reached_first}
use Rattle.gj_problem.proofs.WeightedRuns.{weighted_around, weighted_more, kept_constraint}
use Rattle.gj_problem.proofs.WideRoundings.{handed_on}
use Rattle.gj_relaxed.specs.RelaxedSteps.{weighted_of}
use Rattle.gj_relaxed.specs.RelaxedForms.{AreForms}
use Rattle.gj_relaxed.proofs.SideForms.{zip_at, zip_count}
use Rattle.gj_relaxed.proofs.SideRuns.{AreSidesOf, before_side, all_sides, sides_more}
use Rattle.gj_relaxed.proofs.NarrowRelaxing.{wide_at_side, narrow_no_side, narrow_sides_to_free}
use Rattle.gj_relaxed.proofs.sides.relaxed_sides.Goals as goal

pub loop-run-init : goal.loop-run-init
loop-run-init c =
    let p = c.args.problem.now in
    let n = c.args.grid in
    let ms = c.args.multipliers.now in
    let rs = c.runs-runs.result.now in
    let (behind, spread_is) = c.runs-runs.ensures in
    record {
      count = ap (λ (xs : List Frac). length xs) c.new-2.ensures.items
          ∙ sym (ap (λ (cs : List Constraint). length cs) c.new.ensures.items);
      reached = reached_first
          (AreSidesOf p n (weighted c.new-2.result.items c.new.result.items) ms p.constraints rs)
          ms rs behind spread_is (record {
            are = ap₂ (λ (xs : List Frac) (cs : List Constraint). weighted xs cs)
                c.new-2.ensures.items c.new.ensures.items;
            narrow = narrow_no_side p n;
          });
    }

pub form_at-form-requires : goal.form_at-form-requires
form_at-form-requires c =
    let p = c.args.problem.now in
    let n = c.args.grid in
    let ms = c.args.multipliers.now in
    let ks = p.constraints in
    let rs = c.runs-runs.result.now in
    let made = weighted_of c.loop-run.made in
    let few : length ms ≤ length ks = omega (arith, c.requires.multipliers) in
    let before = before_side p n made ms ks rs c.loop-run.run-index c.loop-run.place
    c.run-item.result few c.loop-run-test.true c.run-item.is c.loop-run.invariant.reached in
    let count = zip_count (AreForms p n) ks c.args.forms.now c.requires.forms in
    omega (arith, before.below, few, count)

pub add_side-requires-clause-forms : goal.add_side-requires-clause-forms
add_side-requires-clause-forms c =
    let p = c.args.problem.now in
    let n = c.args.grid in
    let ms = c.args.multipliers.now in
    let ks = p.constraints in
    let rs = c.runs-runs.result.now in
    let made = weighted_of c.loop-run.made in
    let k = c.index-constraints-index.result in
    let f = c.form_at-form.result.now in
    let index = c.loop-run.place + c.run-item.result.zeros in
    let few : length ms ≤ length ks = omega (arith, c.requires.multipliers) in
    let before = before_side p n made ms ks rs c.loop-run.run-index c.loop-run.place
    c.run-item.result few c.loop-run-test.true c.run-item.is c.loop-run.invariant.reached in
    let here : k ≡ get_or ks index k =
    c.index-constraints-index.is
    ∙ ap (λ (xs : List Constraint). get_or xs index k) c.as_slice-constraints.ensures in
    subst₂ (AreForms p n) (sym here) (sym c.form_at-form.ensures)
    (zip_at (AreForms p n) ks c.args.forms.now index k f c.requires.forms
    (omega (arith, before.below, few)))

pub returns-in_err-column-clause-wide : goal.returns-in_err-column-clause-wide
returns-in_err-column-clause-wide c = λ fault.
    let p = c.args.problem.now in
    let n = c.args.grid in
    let ms = c.args.multipliers.now in
    let ks = p.constraints in
    let rs = c.runs-runs.result.now in
    let made = weighted_of c.loop-run.made in
    let i = c.loop-run.run-index in
    let run = c.run-item.result in
    let k = c.index-constraints-index.result in
    let index = c.loop-run.place + run.zeros in
    let w : Weighted = record { multiplier = run.value; constraint = k } in
    let few : length ms ≤ length ks = omega (arith, c.requires.multipliers) in
    let before = before_side p n made ms ks rs i c.loop-run.place run few c.loop-run-test.true
    c.run-item.is c.loop-run.invariant.reached in
    let (below, here) = kept_constraint _ ms rs i index run.value ks k before few
    (c.index-constraints-index.is
    ∙ ap (λ (xs : List Constraint). get_or xs index k) c.as_slice-constraints.ensures) in
    record {
      before = weighted before.front ks;
      next = w;
      after = _;
      place = ap (λ (xs : List Frac). weighted xs ks) before.parts
          ∙ weighted_around before.front run.value _ ks k below here;
      made = made;
      made_are = before.holds.are;
      wide = c.in_err-column.ensures.wide
          (handed_on c.from_residual.result _ _ c.from_residual.ensures.1 fault);
    }

pub returns-in-Some-clause-sides : goal.returns-in-Some-clause-sides
returns-in-Some-clause-sides c =
    let p = c.args.problem.now in
    let n = c.args.grid in
    let ms = c.args.multipliers.now in
    let ks = p.constraints in
    let rs = c.runs-runs.result.now in
    let made = weighted_of c.loop-run.made in
    let i = c.loop-run.run-index in
    let run = c.run-item.result in
    let k = c.index-constraints-index.result in
    let index = c.loop-run.place + run.zeros in
    let w : Weighted = record { multiplier = run.value; constraint = k } in
    let few : length ms ≤ length ks = omega (arith, c.requires.multipliers) in
    let before = before_side p n made ms ks rs i c.loop-run.place run few c.loop-run-test.true
    c.run-item.is c.loop-run.invariant.reached in
    let (below, here) = kept_constraint _ ms rs i index run.value ks k before few
    (c.index-constraints-index.is
    ∙ ap (λ (xs : List Constraint). get_or xs index k) c.as_slice-constraints.ensures) in
    record {
      before = weighted before.front ks;
      next = w;
      after = _;
      place = ap (λ (xs : List Frac). weighted xs ks) before.parts
          ∙ weighted_around before.front run.value _ ks k below here;
      made = made;
      made_are = before.holds.are;
      free = MatchOption-at_some _ _ c.in-Some.column c.in-Some.is c.in_ok-column.ensures.next;
    }

pub returns-in-Some-clause-narrow : goal.returns-in-Some-clause-narrow
returns-in-Some-clause-narrow c =
    let p = c.args.problem.now in
    let n = c.args.grid in
    let ms = c.args.multipliers.now in
    let ks = p.constraints in
    let rs = c.runs-runs.result.now in
    let made = weighted_of c.loop-run.made in
    let i = c.loop-run.run-index in
    let run = c.run-item.result in
    let k = c.index-constraints-index.result in
    let index = c.loop-run.place + run.zeros in
    let w : Weighted = record { multiplier = run.value; constraint = k } in
    let few : length ms ≤ length ks = omega (arith, c.requires.multipliers) in
    let before = before_side p n made ms ks rs i c.loop-run.place run few c.loop-run-test.true
    c.run-item.is c.loop-run.invariant.reached in
    let (below, here) = kept_constraint _ ms rs i index run.value ks k before few
    (c.index-constraints-index.is
    ∙ ap (λ (xs : List Constraint). get_or xs index k) c.as_slice-constraints.ensures) in
    narrow_sides_to_free p n ms (weighted before.front ks) _ w c.in-Some.column
    (ap (λ (xs : List Frac). weighted xs ks) before.parts
    ∙ weighted_around before.front run.value _ ks k below here)
    before.holds.narrow c.in_ok-column.ensures.narrow
    (MatchOption-at_some _ _ c.in-Some.column c.in-Some.is c.in_ok-column.ensures.next)

pub loop-run-preserved : goal.loop-run-preserved
loop-run-preserved c =
    let p = c.args.problem.now in
    let n = c.args.grid in
    let ms = c.args.multipliers.now in
    let ks = p.constraints in
    let rs = c.runs-runs.result.now in
    let old = weighted_of c.loop-run.made in
    let new = weighted_of c.add_side.new.made in
    let i = c.loop-run.run-index in
    let run = c.run-item.result in
    let k = c.index-constraints-index.result in
    let index = c.loop-run.place + run.zeros in
    let w : Weighted = record { multiplier = run.value; constraint = k } in
    let few : length ms ≤ length ks = omega (arith, c.requires.multipliers) in
    let before = before_side p n old ms ks rs i c.loop-run.place run few c.loop-run-test.true
    c.run-item.is c.loop-run.invariant.reached in
    let (below, here) = kept_constraint _ ms rs i index run.value ks k before few
    (c.index-constraints-index.is
    ∙ ap (λ (xs : List Constraint). get_or xs index k) c.as_slice-constraints.ensures) in
    let made = MatchOption-at_none _ _ c.in_default.is c.in_ok-column.ensures.next in
    record {
      count = made.0;
      reached = after_kept _ (AreSidesOf p n new ms ks rs) ms rs i index run.value before
          (sides_more p n old new (weighted before.front ks) _ w
          (weighted_more before.front run.value ks k below here) made.1
          c.in_ok-column.ensures.narrow before.holds);
    }

pub returns-clause-sides : goal.returns-clause-sides
returns-clause-sides c =
    let p = c.args.problem.now in
    let all = all_sides p c.args.grid (weighted_of c.loop-run.made) c.args.multipliers.now
    p.constraints c.runs-runs.result.now c.loop-run.run-index c.loop-run.place
    (omega (arith, c.requires.multipliers)) c.loop-run-test.false c.loop-run.invariant.reached in
    (c.loop-run.invariant.count, all.are)

pub returns-clause-narrow : goal.returns-clause-narrow
returns-clause-narrow c wide =
    let p = c.args.problem.now in
    let all = all_sides p c.args.grid (weighted_of c.loop-run.made) c.args.multipliers.now
    p.constraints c.runs-runs.result.now c.loop-run.run-index c.loop-run.place
    (omega (arith, c.requires.multipliers)) c.loop-run-test.false c.loop-run.invariant.reached in
    all.narrow (wide_at_side p c.args.grid c.args.multipliers.now wide)
