use Rattle.std.proofs.Common.{inr, IfOk, OnOk, List, subst, ◌∙◌}
use Rattle.std.proofs.lemmas.Result.{IfOk-weaker, on_ok_weaker}
use Rattle.gj_frac.specs.declared.Frac.{Frac}
use Rattle.gj_safe_cut.specs.SafeCuts.{IsOfProblem}
use Rattle.gj_safe_cut.specs.declared.cut.SafeCut.TheVariants.{Wide}
use Rattle.gj_relaxed.specs.declared.problems.RelaxedProblem.{RelaxedProblem}
use Rattle.gj_relaxed.specs.RelaxedProblems.{IsRelaxedProblem, IsRelaxedOf}
use Rattle.gj_relaxed.specs.RelaxedCuts.{IsRelaxedCutOf}
use Rattle.gj_relaxed.proofs.NarrowRelaxing.{narrow_of_relaxed_problem, narrow_of_free_side}
use Rattle.gj_relaxed.proofs.RelaxedCuts.{of_relaxed_problem}
use Rattle.gj_relaxed.proofs.cuts.cut_on_grid.Goals as goal

pub returns-in_ok-kept-in-Problem-clause-cut : goal.returns-in_ok-kept-in-Problem-clause-cut
returns-in_ok-kept-in-Problem-clause-cut g c =
    let n = c.args.grid in
    let p = c.args.problem.now in
    let ms = c.args.multipliers.now in
    let ups = c.args.at_upper.now in
    let p' = c.in-Problem.relaxed in
    let ms' = c.in-Problem.kept.items in
    let IsCut = IsOfProblem (g.C.RowCutter.is_cut c.args.by.now) in
    let is : IsRelaxedProblem n p ms p' ms' =
    subst (λ (made : RelaxedProblem). IsRelaxedOf n p ms made) c.in-Problem.is
    c.in_ok-relaxed.ensures.relaxed in
    IfOk-weaker c.cut_of_problem.result (IsCut p' ms' ups) (IsRelaxedCutOf n IsCut p ms ups)
    (of_relaxed_problem n IsCut p p' ms ms' ups is)
    (subst (λ (xs : List Frac). IfOk c.cut_of_problem.result (IsCut p' xs ups))
    (c.in_ok-kept-in-Problem.ensures ∙ c.as_slice.ensures.value) c.cut_of_problem.ensures.cut)

pub returns-in_ok-kept-in-Problem-clause-wide : goal.returns-in_ok-kept-in-Problem-clause-wide
returns-in_ok-kept-in-Problem-clause-wide g c = λ fault.
    let n = c.args.grid in
    let p = c.args.problem.now in
    let ms = c.args.multipliers.now in
    let p' = c.in-Problem.relaxed in
    let IsCut = IsOfProblem (g.C.RowCutter.is_cut c.args.by.now) in
    inr (
      p',
      c.in-Problem.kept.items,
      subst (λ (made : RelaxedProblem). IsRelaxedOf n p ms made) c.in-Problem.is
          c.in_ok-relaxed.ensures.relaxed,
      subst (λ (xs : List Frac). IsCut p' xs c.args.at_upper.now Wide)
          (c.in_ok-kept-in-Problem.ensures ∙ c.as_slice.ensures.value)
          (c.cut_of_problem.ensures.wide fault),
    )

pub returns-in_ok-kept-in-Problem-clause-narrow : goal.returns-in_ok-kept-in-Problem-clause-narrow
returns-in_ok-kept-in-Problem-clause-narrow g c =
    let n = c.args.grid in
    let p = c.args.problem.now in
    let ms = c.args.multipliers.now in
    let ups = c.args.at_upper.now in
    let p' = c.in-Problem.relaxed in
    let ms' = c.in-Problem.kept.items in
    let IsCut = IsOfProblem (g.C.RowCutter.is_cut c.args.by.now) in
    let is : IsRelaxedProblem n p ms p' ms' =
    subst (λ (made : RelaxedProblem). IsRelaxedOf n p ms made) c.in-Problem.is
    c.in_ok-relaxed.ensures.relaxed in
    on_ok_weaker c.cut_of_problem.result
    (narrow_of_relaxed_problem n IsCut p ms ups c.in_ok-relaxed.ensures.narrow p' ms' is)
    (subst (λ (xs : List Frac). OnOk c.cut_of_problem.result (IsCut p' xs ups Wide → ⊥))
    (c.in_ok-kept-in-Problem.ensures ∙ c.as_slice.ensures.value) c.cut_of_problem.ensures.narrow)

pub returns-in-Free-clause-narrow : goal.returns-in-Free-clause-narrow
returns-in-Free-clause-narrow g c =
    let n = c.args.grid in
    let p = c.args.problem.now in
    let ms = c.args.multipliers.now in
    narrow_of_free_side n
    (IsOfProblem (g.C.RowCutter.is_cut c.args.by.now)) p ms
    c.args.at_upper.now
    c.in_ok-relaxed.ensures.narrow c.in-Free.column
    (subst (λ (made : RelaxedProblem). IsRelaxedOf n p ms made) c.in-Free.is
    c.in_ok-relaxed.ensures.relaxed)
