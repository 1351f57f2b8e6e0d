use Rattle.std.proofs.lemmas.Result.{IfOk-weaker}
use Rattle.gj_frac.specs.declared.Frac.{Frac}
use Rattle.gj_shape.specs.FunctionData.{FunctionData}
use Rattle.gj_rule.specs.declared.kind.RuleKind.TheVariants.{Table}
use Rattle.gj_safe_cut.specs.SafeCuts.{IsSafeCutOf, IsFunctionSafeCutOf, SafeCutHolds}
use Rattle.gj_safe_cut.specs.declared.cut.SafeCut.{SafeCut}
use Rattle.gj_safe_cut.proofs.FunctionCuts.{by_slopes, tells_by_slopes}
use Rattle.gj_safe_cut.proofs.HeldCuts.{holds_by_rule}
use Rattle.gj_safe_cut.proofs.function_cuts.function_safe_cut.Goals as goal

pub returns-clause-is : goal.returns-clause-is
returns-clause-is c =
    let by = c.of-by.result in
    by_slopes (λ (f : FunctionData) (up down : Frac). IsSafeCutOf (Table f) up down
    c.args.problem.now c.args.multipliers.now c.args.at_upper.now)
    c.args.shape.now by.shape.now by.at_zero.up by.at_zero.down c.of-by.ensures.shape
    c.of-by.ensures.slopes c.safe_cut.result c.safe_cut.ensures.is

pub returns-clause-narrow : goal.returns-clause-narrow
returns-clause-narrow c =
    let by = c.of-by.result in
    tells_by_slopes (λ (f : FunctionData) (up down : Frac). IsSafeCutOf (Table f) up down
    c.args.problem.now c.args.multipliers.now c.args.at_upper.now)
    c.args.shape.now by.shape.now by.at_zero.up by.at_zero.down c.of-by.ensures.shape
    c.of-by.ensures.slopes c.safe_cut.result c.of-by.ensures.bounds c.safe_cut.ensures.narrow

pub returns-clause-holds : goal.returns-clause-holds
returns-clause-holds c =
    let f = c.args.shape.now in
    let p = c.args.problem.now in
    let ms = c.args.multipliers.now in
    let ups = c.args.at_upper.now in
    IfOk-weaker c.safe_cut.result (IsFunctionSafeCutOf f p ms ups) (SafeCutHolds p)
    (λ (cut : SafeCut) (up, down, slopes, is).
    holds_by_rule (Table f) up down p ms ups cut c.requires.at_upper
    (λ q made. c.of-by.ensures.bounds) c.requires.minimal (c.requires.jumps_not, slopes) is)
    (returns-clause-is c)
