use Rattle.std.proofs.lemmas.Result.{IfOk-weaker}
use Rattle.gj_safe_cut.specs.SafeCuts.{SafeCutHolds, SafeCutHasTerms}
use Rattle.gj_safe_cut.specs.declared.cut.SafeCut.{SafeCut}
use Rattle.gj_relaxed.specs.RelaxedCuts.{IsGmicRelaxedCutOf}
use Rattle.gj_relaxed.proofs.RelaxedCuts.{gmic_relaxed_holds, gmic_relaxed_terms}
use Rattle.gj_relaxed.proofs.cuts.gmic_relaxed_cut.Goals as goal

pub returns-clause-holds : goal.returns-clause-holds
returns-clause-holds c =
    let n = c.args.grid in
    let p = c.args.problem.now in
    let ms = c.args.multipliers.now in
    let ups = c.args.at_upper.now in
    IfOk-weaker c.relaxed_cut.result (IsGmicRelaxedCutOf n p ms ups) (SafeCutHolds p)
    (λ (cut : SafeCut). gmic_relaxed_holds n p ms ups cut c.requires.at_upper)
    c.relaxed_cut.ensures.is

pub returns-clause-terms : goal.returns-clause-terms
returns-clause-terms c =
    let n = c.args.grid in
    let p = c.args.problem.now in
    let ms = c.args.multipliers.now in
    let ups = c.args.at_upper.now in
    IfOk-weaker c.relaxed_cut.result (IsGmicRelaxedCutOf n p ms ups) (SafeCutHasTerms p)
    (gmic_relaxed_terms n p ms ups) c.relaxed_cut.ensures.is
