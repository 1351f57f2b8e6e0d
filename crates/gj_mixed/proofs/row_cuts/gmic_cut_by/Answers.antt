use Rattle.std.proofs.Common.{sym, subst, subst₂}
use Rattle.std.proofs.lemmas.Result.{IfOk-weaker}
use Rattle.gj_frac.specs.declared.Frac.{Frac}
use Rattle.gj_rule.specs.declared.kind.RuleKind.{RuleKind}
use Rattle.gj_mixed.specs.MixedCuts.{IsMixedCutOf, IsMixedCutOfKind, IsGmicMixedCutOf}
use Rattle.gj_mixed.specs.Slopes.{AreGmicSlopes}
use Rattle.gj_mixed.proofs.MixedTerms.{mixed_cut_of_kind, gmic_mixed_cut_of}
use Rattle.gj_mixed.proofs.row_cuts.gmic_cut_by.Goals as goal

pub cut_at_place-requires-clause-slopes : goal.cut_at_place-requires-clause-slopes
cut_at_place-requires-clause-slopes g c =
    rw (c.new-rule.ensures.kind, c.new-slopes.ensures.up, c.new-slopes.ensures.down)
    c.requires.slopes

pub returns-clause-cut : goal.returns-clause-cut
returns-clause-cut g c =
    let answers = g.E.Evaluator.answers in
    let weighs = g.G.Evaluator.answers in
    let rule = c.new-rule.result in
    let slopes = c.new-slopes.result in
    let continuous = c.args.continuous.now in
    let row = c.args.row.now in
    let f = c.args.f in
    IfOk-weaker c.cut_at_place.result (IsMixedCutOf answers weighs rule slopes continuous row)
    (IsGmicMixedCutOf continuous row)
    (λ cut h. gmic_mixed_cut_of f slopes.up slopes.down continuous row cut
    (subst₂ (λ (up down : Frac). AreGmicSlopes f up down) (sym c.new-slopes.ensures.up)
    (sym c.new-slopes.ensures.down) c.requires.slopes)
    c.requires.side.1
    (subst (λ (k : RuleKind). IsMixedCutOfKind k slopes.up slopes.down continuous row cut)
    c.new-rule.ensures.kind
    (mixed_cut_of_kind answers weighs rule slopes continuous row cut h)))
    c.cut_at_place.ensures.cut
