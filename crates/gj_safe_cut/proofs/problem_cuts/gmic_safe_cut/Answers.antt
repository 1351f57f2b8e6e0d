use Rattle.std.proofs.lemmas.Result.{IfOk-weaker}
use Rattle.gj_safe_cut.specs.SafeCuts.{IsGmicSafeCutOf, SafeCutHolds}
use Rattle.gj_safe_cut.specs.declared.cut.SafeCut.{SafeCut}
use Rattle.gj_safe_cut.proofs.HeldCuts.{holds_by_gmic}
use Rattle.gj_safe_cut.proofs.problem_cuts.gmic_safe_cut.Goals as goal

pub returns-clause-holds : goal.returns-clause-holds
returns-clause-holds c =
    let p = c.args.problem.now in
    let ms = c.args.multipliers.now in
    let ups = c.args.at_upper.now in
    IfOk-weaker c.safe_cut.result (IsGmicSafeCutOf p ms ups) (SafeCutHolds p)
    (λ (cut : SafeCut). holds_by_gmic p ms ups cut c.requires.at_upper) c.safe_cut.ensures.is
