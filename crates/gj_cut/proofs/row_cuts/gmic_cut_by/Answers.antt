use Rattle.std.proofs.Common.{subst}
use Rattle.std.proofs.lemmas.Result.{IfOk-weaker}
use Rattle.gj_rule.specs.declared.kind.RuleKind.{RuleKind}
use Rattle.gj_cut.specs.RowCuts.{IsCutOf, IsCutOfKind, IsGmicCutOf}
use Rattle.gj_cut.proofs.RowTerms.{cut_of_kind, gmic_cut_of}
use Rattle.gj_cut.proofs.row_cuts.gmic_cut_by.Goals as goal

pub returns-clause-cut : goal.returns-clause-cut
returns-clause-cut g c =
    let answers = g.E.Evaluator.answers in
    let rule = c.new-rule.result in
    let row = c.args.row.now in
    let f = c.args.f in
    IfOk-weaker c.cut_at_place.result (IsCutOf answers rule row) (IsGmicCutOf row)
    (λ cut h. gmic_cut_of f row cut c.requires.side.1
    (subst (λ (kind : RuleKind). IsCutOfKind kind row cut) c.new-rule.ensures.kind
    (cut_of_kind answers rule row cut h)))
    c.cut_at_place.ensures.cut
