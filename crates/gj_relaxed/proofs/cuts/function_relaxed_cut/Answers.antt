use Rattle.std.proofs.lemmas.Result.{IfOk-weaker}
use Rattle.gj_frac.specs.declared.Frac.{Frac}
use Rattle.gj_shape.specs.FunctionData.{FunctionData}
use Rattle.gj_rule.specs.declared.kind.RuleKind.TheVariants.{Table}
use Rattle.gj_safe_cut.specs.SafeCuts.{IsCutOfRow, IsOfProblem, SafeCutHolds, SafeCutHasTerms}
use Rattle.gj_safe_cut.specs.declared.cut.SafeCut.{SafeCut}
use Rattle.gj_safe_cut.proofs.FunctionCuts.{by_slopes, tells_by_slopes}
use Rattle.gj_relaxed.specs.declared.rows.RightMove.TheVariants.{Kept}
use Rattle.gj_relaxed.specs.RelaxedCuts.{IsOfRelaxedRow, IsRelaxedCutOf, IsFunctionRelaxedCutOf}
use Rattle.gj_relaxed.proofs.RelaxedCuts.{function_relaxed_holds, function_relaxed_terms}
use Rattle.gj_relaxed.proofs.cuts.function_relaxed_cut.Goals as goal

pub returns-clause-is : goal.returns-clause-is
returns-clause-is c =
    let by = c.of.result in
    let n = c.args.grid in
    by_slopes (λ (f : FunctionData) (up down : Frac). IsRelaxedCutOf n
    (IsOfProblem (IsOfRelaxedRow Kept n (IsCutOfRow (Table f) up down)))
    c.args.problem.now c.args.multipliers.now c.args.at_upper.now)
    c.args.shape.now by.shape.now by.at_zero.up by.at_zero.down c.of.ensures.shape
    c.of.ensures.slopes c.relaxed_cut.result c.relaxed_cut.ensures.is

pub returns-clause-narrow : goal.returns-clause-narrow
returns-clause-narrow c =
    let by = c.of.result in
    let n = c.args.grid in
    tells_by_slopes (λ (f : FunctionData) (up down : Frac). IsRelaxedCutOf n
    (IsOfProblem (IsOfRelaxedRow Kept n (IsCutOfRow (Table f) up down)))
    c.args.problem.now c.args.multipliers.now c.args.at_upper.now)
    c.args.shape.now by.shape.now by.at_zero.up by.at_zero.down c.of.ensures.shape
    c.of.ensures.slopes c.relaxed_cut.result c.of.ensures.bounds c.relaxed_cut.ensures.narrow

pub returns-clause-holds : goal.returns-clause-holds
returns-clause-holds c =
    let f = c.args.shape.now in
    let n = c.args.grid in
    let p = c.args.problem.now in
    let ms = c.args.multipliers.now in
    let ups = c.args.at_upper.now in
    IfOk-weaker c.relaxed_cut.result (IsFunctionRelaxedCutOf f n p ms ups) (SafeCutHolds p)
    (λ (cut : SafeCut). function_relaxed_holds f n p ms ups cut c.of.ensures.bounds
    c.requires.minimal c.requires.jumps_not c.requires.at_upper)
    (returns-clause-is c)

pub returns-clause-terms : goal.returns-clause-terms
returns-clause-terms c =
    let f = c.args.shape.now in
    let n = c.args.grid in
    let p = c.args.problem.now in
    let ms = c.args.multipliers.now in
    let ups = c.args.at_upper.now in
    IfOk-weaker c.relaxed_cut.result (IsFunctionRelaxedCutOf f n p ms ups) (SafeCutHasTerms p)
    (function_relaxed_terms f n p ms ups) (returns-clause-is c)
