-- A minimal function with two slopes is called extreme.
use Rattle.std.proofs.Common.{◌≡◌, ◌≢◌, ℕ, Bool, List, String, Option, refl, subst}
use Rattle.std.specs.declared.alloc.Global.{Global}
use Rattle.gj_words.specs.declared.requests.Request.{Request}
use Rattle.gj_shape.specs.FunctionData.{FunctionData, IsWithinBounds}
use Rattle.gj_shape.specs.Table.{IsMinimal}
use Rattle.gj_shape.specs.TwoSlopes.{HasTwoSlopes}
use Rattle.gj_proof.specs.declared.claim.Claim.{Claim}
use Rattle.gj_proof.specs.declared.numbers.Numbers.TheVariants.{Whole}
use Rattle.gj_proof.specs.ProofText.{IsProofText}
use Rattle.gj_extreme.proofs.TwoSlopeDecisions.{two_slopes_decided, two_slopes_not_wide, continuous_no_jump}
use Rattle.gj_top.specs.declared.reply.End.{End}
use Rattle.gj_top.specs.declared.reply.End.TheVariants as end
use Rattle.gj_top.specs.declared.status.Status.{Status}
use Rattle.gj_top.specs.declared.status.Status.TheVariants.{Done, Wide, NotContinuous}
use Rattle.gj_top.specs.Asked.{AskIfExtreme}
use Rattle.gj_top.specs.Causes.{IsCause, IsDoneRun}
use Rattle.gj_top.specs.Command.{task_for}
use Rattle.gj_top.specs.Decisive.{CallsExtreme, IsCalledExtreme}
use Rattle.gj_top.specs.Extreme.{IsExtremality, IsExtremeText, extreme}
use Rattle.gj_top.specs.Forms.{SpellsFunction}
use Rattle.gj_top.specs.Outcome.{IsOutcome}
use Rattle.gj_top.specs.Reply.{status_of}
use Rattle.gj_top.specs.Report.{IsToldReply}
use Rattle.gj_top.specs.Run.{Run, IsGiven, OfWritten}
use Rattle.gj_top.specs.Task.{IsReply}
use Rattle.gj_top.proofs.Clauses.{cause_clause, caused_reply, reply_clause, weaker}
use Rattle.gj_top.proofs.Commands.{one_named}
use Rattle.gj_top.proofs.OneReport.{told}
use Rattle.gj_top.proofs.TextLaws.{spelled_is_bounded, one_spelled}

called_extreme : (f : FunctionData) (e : End) (text : List ℕ) → IsWithinBounds f → IsMinimal f →
    HasTwoSlopes f →
    IsExtremality f e text → (e ≡ end.Done) × IsExtremeText f text
called_extreme f end.Done text l minimal two d =
    let (lines, rows, same) = two_slopes_decided f d.claim l minimal two d.decided in
    (refl, (Whole, lines, rows, subst (λ (c : Claim). IsProofText c text) same d.spelled))
called_extreme f end.NotContinuous text l minimal two h =
    absurd (continuous_no_jump f h.1.index two.continuous h.1.first.jump)
called_extreme f end.Wide text l minimal two h = absurd (two_slopes_not_wide f l minimal two h.2)
called_extreme f e text l minimal two h = absurd h

-- so does the proof text of a report
told_extreme : (json : Bool) (f : FunctionData) (e : End) (text : List ℕ) → IsWithinBounds f →
    IsMinimal f → HasTwoSlopes f →
    IsToldReply json IsExtremality f e text → (e ≡ end.Done) × CallsExtreme json f text
told_extreme json f end.Done text l minimal two h = (
  refl,
  told json (IsExtremality f end.Done) (IsExtremeText f)
      (λ proof d. (called_extreme f end.Done proof l minimal two d).1) text h,
)
told_extreme json f e text l minimal two h =
    let ended = (called_extreme f e text l minimal two h).0 in
    absurd (cc)

-- a reply
pub two_slope_reply : (json : Bool) (f : FunctionData) (input text : List ℕ) (e : End) →
    SpellsFunction json input f →
    IsMinimal f → HasTwoSlopes f → IsReply (extreme json) input e text →
    (e ≡ end.Done) × CallsExtreme json f text
two_slope_reply json f input text e spelled minimal two r =
    let same : r.thing ≡ f = one_spelled json input r.thing f r.spelled spelled in
    told_extreme json f e text (spelled_is_bounded json input f spelled) minimal two
    (subst (λ (g : FunctionData). IsToldReply json IsExtremality g e text) same r.replied)

-- ---- runs

module _ (words : List (String Global)) (input : List ℕ) (json : Bool) (f : FunctionData)
    (asked : AskIfExtreme json words input f)
    (minimal : IsMinimal f) (two : HasTwoSlopes f) where
  -- a run whose status is that of an end ended with Done
  ended : (s : Status) (e : End) → s ≡ status_of e → IsCause words input s → e ≡ end.Done
  ended s e is cause =
      let (text, reply) = caused_reply words input s e _ is asked.named cause in
      (two_slope_reply json f input text e asked.spelled minimal two reply).0

  pub caused : (s : Status) → IsCause words input s → (s ≢ Wide) × (s ≢ NotContinuous)
  caused s cause = (
    λ is. let done = ended s end.Wide is cause in cc,
    λ is. let done = ended s end.NotContinuous is cause in cc,
  )

  pub called : (before : List ℕ) (written : Option (List ℕ)) →
      IsDoneRun words input before written → IsCalledExtreme json f before written
  called before written d = record {
    text = d.text;
    gain = d.gain;
    called = (two_slope_reply json f input d.text end.Done asked.spelled minimal two
        (subst (λ (q : Request). IsReply (task_for q) input end.Done d.text)
        (one_named words d.request _ d.named asked.named) d.reply)).1;
  }

pub two_slopes_clause : (run : Run) → IsOutcome run →
    (input : List ℕ) (json : Bool) (f : FunctionData) → IsGiven run input →
    AskIfExtreme json run.words input f → IsMinimal f → HasTwoSlopes f →
    (run.status ≢ Wide) × (run.status ≢ NotContinuous)
two_slopes_clause run o input json f given asked minimal two =
    caused run.words input json f asked minimal two run.status (cause_clause run o input given)

pub called_extreme_clause : (run : Run) → IsOutcome run → run.status ≡ Done →
    (input : List ℕ) (json : Bool) (f : FunctionData) →
    IsGiven run input → AskIfExtreme json run.words input f → IsMinimal f → HasTwoSlopes f →
    OfWritten run (IsCalledExtreme json f)
called_extreme_clause run o done input json f given asked minimal two =
    weaker run.written (λ before. IsDoneRun run.words input before run.written_after)
    (λ before. IsCalledExtreme json f before run.written_after)
    (λ before. called run.words input json f asked minimal two before run.written_after)
    (reply_clause run o done input given)
