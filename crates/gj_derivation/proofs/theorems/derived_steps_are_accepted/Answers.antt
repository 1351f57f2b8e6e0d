use Rattle.gj_derivation.specs.Drafts.{begun}
use Rattle.gj_derivation.proofs.DerivedSteps.{shown_ready, shown_accepted}
use Rattle.gj_derivation.proofs.NarrowSteps.{none_is_wide, told_accepted}
use Rattle.gj_derivation.proofs.theorems.derived_steps_are_accepted.Goals as goal

pub returns-clause-ready : goal.returns-clause-ready
returns-clause-ready c = λ f grid p drafts xs ready h. shown_ready f grid (begun p) drafts xs h
    ready

pub returns-clause-narrow : goal.returns-clause-narrow
returns-clause-narrow c = λ f grid p drafts xs i usable h told wide. none_is_wide f grid usable p
    drafts xs h told i wide

pub returns-clause-always : goal.returns-clause-always
returns-clause-always c = λ f grid p drafts xs k usable h told checked. told_accepted f grid usable
    p drafts xs k h told checked

pub returns-clause-accepted : goal.returns-clause-accepted
returns-clause-accepted c = λ f grid p drafts xs k usable h checked. shown_accepted f grid p drafts
    xs k usable h checked
