-- `extreme` never ends with Wide on a function that has an uncovered interval, or at most four
-- components.
use Rattle.std.proofs.Common.{◌≡◌, ◌≢◌, ◌⊎◌, inl, inr, ℕ, Bool, List, ap, subst, ◌∙◌, arith}
use Rattle.gj_shape.specs.Additive.{IsTight}
use Rattle.gj_shape.specs.Cover.{components_in}
use Rattle.gj_shape.specs.FunctionData.{FunctionData, IsWithinBounds}
use Rattle.gj_extreme.specs.Decision.{IsTooWide}
use Rattle.gj_extreme.proofs.FewComponents.{few_components}
use Rattle.gj_extreme.proofs.OneCover.{one_cover}
use Rattle.gj_extreme.proofs.OneDecision.{all_are_covered}
use Rattle.gj_top.specs.declared.reply.End.TheVariants as end
use Rattle.gj_top.specs.declared.status.Status.TheVariants.{Wide}
use Rattle.gj_top.specs.Extreme.{extreme}
use Rattle.gj_top.specs.Asked.{AskIfExtreme}
use Rattle.gj_top.specs.Narrow.{HasUncoveredInterval, HasAtMostComponents}
use Rattle.gj_top.specs.Outcome.{IsOutcome}
use Rattle.gj_top.specs.Run.{Run, IsGiven}
use Rattle.gj_top.specs.Task.{IsReply}
use Rattle.gj_top.proofs.Clauses.{cause_clause, caused_reply}
use Rattle.gj_top.proofs.TextLaws.{spelled_is_bounded, one_spelled}

-- no number of the decision is too wide
narrow : (f : FunctionData) → IsWithinBounds f → HasUncoveredInterval f ⊎ HasAtMostComponents 4 f →
    IsTooWide f → ⊥
narrow f within (inl (i, low, uncovered)) wide =
    uncovered (all_are_covered f wide.lines wide.component wide.n wide.covered i low)
narrow f within (inr (lines, are_lines, few)) wide =
    let same : wide.lines ≡ lines =
    one_cover f.order (IsTight f) wide.lines lines wide.covered.are_lines are_lines in
    let count : wide.n ≡ components_in lines = wide.covered.count ∙ ap components_in same in
    few_components f wide.lines wide.component wide.n within wide.covered (omega arith) wide

pub narrow_clause : (run : Run) → IsOutcome run →
    (input : List ℕ) (json : Bool) (f : FunctionData) → IsGiven run input →
    AskIfExtreme json run.words input f → HasUncoveredInterval f ⊎ HasAtMostComponents 4 f →
    run.status ≢ Wide
narrow_clause run o input json f given asked few is =
    let (text, reply) = caused_reply run.words input run.status end.Wide _ is asked.named
    (cause_clause run o input given) in
    let told : IsReply (extreme json) input end.Wide text = reply in
    let same : told.thing ≡ f = one_spelled json input told.thing f told.spelled asked.spelled in
    narrow f (spelled_is_bounded json input f asked.spelled) few
    (subst IsTooWide same told.replied.2)
