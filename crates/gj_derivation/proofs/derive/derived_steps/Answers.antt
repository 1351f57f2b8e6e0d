use Rattle.std.proofs.Common.{Option, List, [], ◌∷◌, ◌++◌, MatchOption, sym, subst}
use Rattle.std.specs.Option.{option_copied}
use Rattle.gj_derivation.specs.declared.draft.Shown.{Shown}
use Rattle.gj_derivation.specs.declared.draft.Shown.TheVariants.{Against}
use Rattle.gj_derivation.specs.declared.step.Combination.{Combination}
use Rattle.gj_derivation.specs.Derivations.{IsDerivation}
use Rattle.gj_derivation.specs.Drafts.{begun, IsPlaced, IsLost, Ends, IsNext, IsReached, TellWide, steps_of}
use Rattle.gj_derivation.proofs.DerivedSteps.{none_shown, one_shown, all_shown, reached_at, shown_derivation}
use Rattle.gj_derivation.proofs.CheckedSteps.{usable_function}
use Rattle.gj_derivation.proofs.ToldDrafts.{ready_at, told_more, told_to, told_of_all}
use Rattle.gj_derivation.proofs.derive.derived_steps.Goals as goal

pub returns-in_default-clause-is : goal.returns-in_default-clause-is
returns-in_default-clause-is c =
    let f = option_copied c.args.function in
    let r = c.loop-i.reached in
    let d = c.index-drafts-i.result in
    let lost = subst (λ (made : Option Combination). MatchOption made (IsLost r d.combination)
    (IsPlaced r d.combination)) c.in_default.is
    c.in_ok-combination.ensures in (
      r,
      d,
      subst (λ (xs : List Shown). IsReached f c.args.grid c.args.problem c.args.drafts.now
          c.loop-i.i xs r d) (sym c.of.ensures)
          (reached_at f c.args.grid c.args.problem c.args.drafts.now c.loop-i.i d
          c.loop-i.shown.items r c.loop-i-test.true c.index-drafts-i.is
          c.loop-i.invariant.shown),
      lost,
    )

pub returns-in-Some-end_of-clause-is : goal.returns-in-Some-end_of-clause-is
returns-in-Some-end_of-clause-is c =
    let f = option_copied c.args.function in
    let r = c.loop-i.reached in
    let d = c.index-drafts-i.result in
    let placed = subst (λ (made : Option Combination). MatchOption made (IsLost r d.combination)
    (IsPlaced r d.combination)) c.in-Some.is
    c.in_ok-combination.ensures in
    let end = c.in-Some-end_of.ensures in
    let next : IsNext f c.args.grid r d c.in_ok-next.next =
    (c.in-Some.combination, placed, c.in_ok-next.ensures.is) in (
      r,
      d,
      subst (λ (xs : List Shown). IsReached f c.args.grid c.args.problem c.args.drafts.now
          c.loop-i.i xs r d) (sym c.of-in-Some-end_of.ensures)
          (reached_at f c.args.grid c.args.problem c.args.drafts.now c.loop-i.i d
          c.loop-i.shown.items r c.loop-i-test.true c.index-drafts-i.is
          c.loop-i.invariant.shown),
      subst (λ (x : Shown). IsNext f c.args.grid r d x) end.0 next,
      subst (λ (x : Shown). Ends d.claim x) end.0 end.1,
    )

pub loop-i-preserved : goal.loop-i-preserved
loop-i-preserved c =
    let f = option_copied c.args.function in
    let r = c.loop-i.reached in
    let d = c.index-drafts-i.result in
    let placed = subst (λ (made : Option Combination). MatchOption made (IsLost r d.combination)
    (IsPlaced r d.combination)) c.in-Some.is
    c.in_ok-combination.ensures in
    record {
      shown = one_shown f c.args.grid c.args.problem c.args.drafts.now c.loop-i.i d
          c.loop-i.shown.items c.push.new.self.items c.in_ok-next.next r
          c.in_ok-reached-2.reached c.loop-i-test.true c.index-drafts-i.is
          c.in_ok-push.ensures.items c.in_ok-reached-2.ensures
          (c.in-Some.combination, placed, c.in_ok-next.ensures.is) c.in_default-end_of.ensures
          c.loop-i.invariant.shown;
      told = told_more f c.args.grid c.args.problem c.args.drafts.now c.loop-i.i d
          c.loop-i.shown.items c.push.new.self.items c.in_ok-next.next r c.in-Some.combination
          c.loop-i-test.true c.index-drafts-i.is c.in_ok-push.ensures.items placed
          (usable_function f d.combination.rule c.read_bounds.ensures
          (ready_at f c.args.drafts.now c.loop-i.i d c.loop-i-test.true c.index-drafts-i.is
          c.requires.ready).function)
          c.in_ok-next.ensures.narrow c.loop-i.invariant.shown c.loop-i.invariant.told;
    }

pub loop-i-init : goal.loop-i-init
loop-i-init c =
    let f = option_copied c.args.function in
    record {
      shown = none_shown f c.args.grid c.args.problem c.new-shown.result.items
          c.in_ok-reached.reached c.new-shown.ensures.items c.in_ok-reached.ensures;
      told = subst (TellWide f c.args.grid (begun c.args.problem) [])
          (sym c.new-shown.ensures.items)
          tt;
    }

pub returns-in_default-clause-narrow : goal.returns-in_default-clause-narrow
returns-in_default-clause-narrow c =
    let f = option_copied c.args.function in
    subst (TellWide f c.args.grid (begun c.args.problem) c.args.drafts.now) (sym c.of.ensures)
    (told_of_all f c.args.grid c.args.problem c.args.drafts.now c.loop-i.i c.loop-i.shown.items
    c.loop-i.invariant.told)

pub returns-in-Some-end_of-clause-narrow : goal.returns-in-Some-end_of-clause-narrow
returns-in-Some-end_of-clause-narrow c =
    let f = option_copied c.args.function in
    let r = c.loop-i.reached in
    let d = c.index-drafts-i.result in
    let v = c.in-Some-end_of.verdict in
    let placed = subst (λ (made : Option Combination). MatchOption made (IsLost r d.combination)
    (IsPlaced r d.combination)) c.in-Some.is
    c.in_ok-combination.ensures in
    subst (λ (xs : List Shown). TellWide f c.args.grid (begun c.args.problem) c.args.drafts.now
    (xs ++ Against v ∷ [])) (sym c.of-in-Some-end_of.ensures)
    (subst (λ (x : Shown). TellWide f c.args.grid (begun c.args.problem) c.args.drafts.now
    (c.loop-i.shown.items ++ x ∷ [])) c.in-Some-end_of.ensures.0
    (told_to f c.args.grid c.args.problem c.args.drafts.now c.loop-i.i d c.loop-i.shown.items
    c.in_ok-next.next r c.in-Some.combination c.loop-i-test.true c.index-drafts-i.is placed
    (usable_function f d.combination.rule c.read_bounds.ensures
    (ready_at f c.args.drafts.now c.loop-i.i d c.loop-i-test.true c.index-drafts-i.is
    c.requires.ready).function)
    c.in_ok-next.ensures.narrow c.loop-i.invariant.shown c.loop-i.invariant.told))

pub returns-clause-narrow : goal.returns-clause-narrow
returns-clause-narrow c =
    let f = option_copied c.args.function in
    subst (TellWide f c.args.grid (begun c.args.problem) c.args.drafts.now) (sym c.of-2.ensures)
    (told_of_all f c.args.grid c.args.problem c.args.drafts.now c.loop-i.i c.loop-i.shown.items
    c.loop-i.invariant.told)

pub returns-clause-derivation : goal.returns-clause-derivation
returns-clause-derivation c =
    let f = option_copied c.args.function in
    subst (λ (xs : List Shown). IsDerivation f c.args.problem (steps_of xs)) (sym c.of-2.ensures)
    (shown_derivation f c.args.grid (begun c.args.problem) c.args.drafts.now c.loop-i.shown.items
    (all_shown f c.args.grid c.args.problem c.args.drafts.now c.loop-i.i c.loop-i.shown.items
    c.loop-i.reached c.loop-i-test.false c.loop-i.invariant.shown))
