-- What holds of every task: no input in its form is refused, and none if it reads none; and a reply
-- that ends with Done keeps the promise.
use Rattle.std.proofs.Common.{inl, inr, ℕ, Bool, true, false, List, IsTrue, refl}
use Rattle.gj_shape.specs.FunctionData.{FunctionData, IsWithinBounds, IsContinuous}
use Rattle.gj_words.specs.declared.requests.Command.{Command}
use Rattle.gj_words.specs.declared.requests.Command.TheVariants.{Minimal, Extreme, Cut, Check, Show, Faces, Demo, Mixed, Problem, Derive, Fill, Group, Times, Mirror, Restrict}
use Rattle.gj_words.specs.declared.requests.Request.{Request}
use Rattle.gj_top.specs.declared.reply.End.{End}
use Rattle.gj_top.specs.declared.reply.End.TheVariants.{Done}
use Rattle.gj_top.specs.Promise.{reads, Spells}
use Rattle.gj_top.specs.Task.{Task, EndsDone}
use Rattle.gj_json.proofs.OneFunction.{no_reason}
use Rattle.gj_top.specs.Forms.{SpellsFunction, IsProofOf, RefusesFunction, RefusesProofText, function_task}
use Rattle.gj_derivation.proofs.ClaimsHold.{claims_hold}
use Rattle.gj_derivation.specs.Drafts.{steps_of}
use Rattle.gj_top.proofs.DerivationForms.{no_draft_fault, no_derivation_fault, proof_begins_otherwise, derivation_begins}
use Rattle.gj_top.specs.Minimal.{IsVerdict, IsTrueVerdict}
use Rattle.gj_top.specs.Extreme.{IsExtremality, IsTrueExtremality, extreme}
use Rattle.gj_top.specs.Show.{IsShownText, show}
use Rattle.gj_top.specs.Check.Checkable.{of_claim, of_limit_claim, of_steps}
use Rattle.gj_top.specs.Check.{Checkable, SpellsCheckable, RefusesCheckable, IsCheckReply, IsTrueCheck, check}
use Rattle.gj_top.specs.Derive.{IsDerivedReply, IsTrueDerivedText, derive}
use Rattle.gj_verdict_text.specs.FacesText.{IsFacesText}
use Rattle.gj_top.specs.Faces.{IsJumpsFacesText}
use Rattle.gj_top.specs.Continuity.{IsContinuousReply}
use Rattle.gj_top.specs.Cut.{cut}
use Rattle.gj_top.specs.Mixed.{mixed}
use Rattle.gj_top.specs.Problem.{problem}
use Rattle.gj_top.specs.Fill.{IsFillText, IsFillReply}
use Rattle.gj_top.specs.Group.{IsGroupVerdict, IsTrueGroupText, IsGroupReply}
use Rattle.gj_top.specs.Transform.{IsTimesText, IsTimesReply, IsMirrorText, IsRestrictionText, IsRestrictionReply}
use Rattle.gj_top.specs.Report.{Tells, IsToldReply, proof_task}
use Rattle.gj_top.specs.Demo.{IsTrueDemonstration, demo}
use Rattle.gj_demo.specs.Summary.{HasSummary}
use Rattle.gj_extreme.proofs.DecidedHolds.{decided_holds}
use Rattle.gj_proof.specs.Meaning.{ClaimHolds, ShowHalves}
use Rattle.gj_proof.specs.declared.claim.Claim.TheVariants.{NotExtreme}
use Rattle.gj_shape.specs.declared.extremality.Halves.{Halves}
use Rattle.gj_top.proofs.CutForm.{cut_input_refuses_only_others}
use Rattle.gj_top.specs.Command.{task_with, task_for}
use Rattle.gj_top.specs.LimitExtreme.{IsJumpsExtremality, IsTrueJumpsExtremality, extreme_with_jumps}
use Rattle.gj_top.proofs.Extremality.{extremality_true}
use Rattle.gj_top.proofs.LimitExtremality.{jumps_extremality_true}
use Rattle.gj_top.proofs.LimitTexts.{limit_begins, limit_begins_otherwise, limit_proof_has_no_fault, proof_begins_by_no_limits}
use Rattle.gj_top.proofs.OneReport.{told}
use Rattle.gj_problem_text.proofs.InputParts.{no_fault}
use Rattle.gj_top.proofs.ProblemCuts.{true_cuts}
use Rattle.gj_theory.proofs.Violations.{violation_denies}
use Rattle.gj_top.proofs.TextLaws.{spelled_is_bounded, function_text_has_no_fault, proof_text_has_no_fault}

-- no input is both in the form and refused
abbrev pub RefusesOnlyOthers : {Thing : Type 0} → (List ℕ → Thing → Type 0) →
    (List ℕ → List ℕ → Type 0) → Type 0
RefusesOnlyOthers {Thing} spells refuses = (input text : List ℕ) (thing : Thing) →
    spells input thing → refuses input text → ⊥

pub record IsSound (task : Task) : Type 0 where
  pub form : RefusesOnlyOthers (Spells task.promise.form) task.work.refuses
  pub refusals : (input text : List ℕ) → task.work.refuses input text →
      IsTrue (reads task.promise.form)
  pub work : (input : List ℕ) (thing : task.promise.Thing) (text : List ℕ) →
      Spells task.promise.form input thing →
      task.work.replies thing Done text → task.promise.headline thing text

proof_text_sound : RefusesOnlyOthers IsProofOf RefusesProofText
proof_text_sound input text c spelled refused =
    proof_text_has_no_fault input c refused.at_line refused.reason spelled refused.first

function_sound : (json : Bool) → RefusesOnlyOthers (SpellsFunction json) (RefusesFunction json)
function_sound false input text f spelled refused =
    function_text_has_no_fault input f refused.at_line refused.reason spelled refused.first
function_sound true input text f spelled refused =
    no_reason input f refused.reason spelled refused.first

-- a task about functions, if its replies to those within the limits keep the promise
of_functions : (json : Bool) (headline : FunctionData → List ℕ → Type 0) (replies : FunctionData →
    End → List ℕ → Type 0) →
    ((f : FunctionData) (text : List ℕ) → IsWithinBounds f → replies f Done text →
    headline f text) →
    IsSound (function_task json headline replies)
of_functions json headline replies keeps = record {
  form = function_sound json;
  refusals = λ input text refused. refl;
  work = λ input f text spelled. keeps f text (spelled_is_bounded json input f spelled);
}

-- one about continuous functions
of_continuous : (headline : FunctionData → List ℕ → Type 0) (replies : FunctionData → End → List ℕ →
    Type 0) →
    ((f : FunctionData) (text : List ℕ) → IsContinuous f → replies f Done text → headline f text) →
    IsSound (function_task false headline (IsContinuousReply replies))
of_continuous headline replies keeps =
    of_functions false headline (IsContinuousReply replies)
    (λ f text within h. keeps f text h.0 h.1)

-- and one that tells proof texts
of_proofs : (json : Bool) (headline : FunctionData → List ℕ → Type 0) (replies : FunctionData →
    End → List ℕ → Type 0) →
    ((f : FunctionData) (text : List ℕ) → IsWithinBounds f → replies f Done text →
    headline f text) →
    IsSound (proof_task json headline replies)
of_proofs json headline replies keeps =
    of_functions json (λ f. Tells json (headline f)) (IsToldReply json replies)
    (λ f text within. told json (replies f Done) (headline f) (λ proof. keeps f proof within) text)

verdict_true : (f : FunctionData) (text : List ℕ) → IsWithinBounds f → IsVerdict f text →
    IsTrueVerdict f text
verdict_true f text within (inl m) = inl (m.2, m.0)
verdict_true f text within (inr v) = inr (v.0, v.4, v.2, violation_denies f v.0 within v.2)

pub extreme_sound : (json : Bool) → IsSound (extreme json)
extreme_sound json = of_proofs json IsTrueExtremality IsExtremality extremality_true

extreme_with_jumps_sound : (json : Bool) → IsSound (extreme_with_jumps json)
extreme_with_jumps_sound json =
    of_functions json (IsTrueJumpsExtremality json) (IsJumpsExtremality json)
    (jumps_extremality_true json)

pub show_sound : (json : Bool) → IsSound (show json)
show_sound json = of_functions json (IsShownText json) (EndsDone (IsShownText json))
    (λ f text within shown. shown)

check_text_sound : RefusesOnlyOthers SpellsCheckable RefusesCheckable
check_text_sound input text (of_claim c) spelled (inl (begins, refused)) =
    proof_begins_otherwise c input spelled.spelled begins
check_text_sound input text (of_claim c) spelled (inr (inl (not, limits, refused))) =
    proof_begins_by_no_limits c input spelled.spelled limits
check_text_sound input text (of_claim c) spelled (inr (inr (not, none, refused))) =
    proof_text_sound input text c spelled refused
check_text_sound input text (of_limit_claim c) spelled (inl (begins, refused)) =
    limit_begins_otherwise c input spelled.spelled begins
check_text_sound input text (of_limit_claim c) spelled (inr (inl (not, limits, refused))) =
    limit_proof_has_no_fault input c refused.at_line refused.reason spelled refused.first
check_text_sound input text (of_limit_claim c) spelled (inr (inr (not, none, refused))) =
    none (limit_begins c input spelled.spelled)
check_text_sound input text (of_steps t) spelled (inl (begins, refused)) =
    no_derivation_fault input t.told refused.at_line refused.reason spelled.1 refused.first
check_text_sound input text (of_steps t) spelled (inr (inl (not, limits, refused))) =
    not (derivation_begins input t.told spelled.1)
check_text_sound input text (of_steps t) spelled (inr (inr (not, none, refused))) =
    not (derivation_begins input t.told spelled.1)

check_true : (thing : Checkable) (text : List ℕ) → IsCheckReply thing Done text →
    IsTrueCheck thing text
check_true (of_claim c) text accepted = (accepted.holds, accepted.spelled)
check_true (of_limit_claim c) text accepted = (accepted.holds, accepted.spelled)
check_true (of_steps t) text (usable, accepted) = (
  claims_hold t.told.function t.told.problem t.told.steps usable accepted.derivation,
  accepted.spelled,
)

pub check_sound : IsSound check
check_sound = record {
  form = check_text_sound;
  refusals = λ input text refused. refl;
  work = λ input thing text spelled replied. check_true thing text replied;
}

derive_sound : IsSound derive
derive_sound = record {
  form = λ input text t spelled refused. no_draft_fault input t.told refused.at_line refused.reason
      spelled.1 refused.first;
  refusals = λ input text refused. refl;
  work = λ input t text spelled replied. record {
    shown = replied.1.shown;
    filled_in = replied.1.filled_in;
    derivation = replied.1.derivation;
    hold = claims_hold t.told.function t.told.drafts.task.problem
        (steps_of replied.1.shown) replied.0 replied.1.derivation;
  };
}

pub cut_sound : IsSound cut
cut_sound = record {
  form = cut_input_refuses_only_others;
  refusals = λ input text refused. refl;
  work = λ input thing text spelled made. made.1.cuts;
}

mixed_sound : IsSound mixed
mixed_sound = record {
  form = cut_input_refuses_only_others;
  refusals = λ input text refused. refl;
  work = λ input thing text spelled made. made.1;
}

problem_sound : IsSound problem
problem_sound = record {
  form = λ input text asked spelled refused. no_fault input asked refused.at_line refused.reason
      spelled refused.first;
  refusals = λ input text refused. refl;
  work = λ input asked text spelled made. true_cuts asked text made.1;
}

group_true : (f : FunctionData) (text : List ℕ) → IsContinuous f → IsGroupVerdict f text →
    IsTrueGroupText f text
group_true f text continuous decided =
    record {
      continuous = continuous;
      answer = decided.answer;
      says = decided.says;
      spelled =
          decided.spelled;
    }

demo_true : (n : ℕ) (text : List ℕ) → HasSummary n text → IsTrueDemonstration n text
demo_true n text h =
    let holds = decided_holds h.function (NotExtreme h.function h.halves) h.within h.verdict in
    record {
      function = h.function;
      halves = h.halves;
      is_function = h.summary.demo;
      continuous = holds.0;
      minimal = holds.1;
      shown = shown_of h.function h.halves holds;
    }
  where
    shown_of : (f : FunctionData) (halves : Halves) → ClaimHolds (NotExtreme f halves) →
        ShowHalves f halves
    shown_of f halves (jumps_not, is_minimal, shown) = shown

demo_sound : (n : ℕ) → IsSound (demo n)
demo_sound n = record {
  form = λ input text thing spelled refused. refused;
  refusals = λ input text refused. absurd refused;
  work = λ input n text spelled. demo_true n text;
}

-- the task of each request is sound
sound_with : (c : Command) (json jumps : Bool) → IsSound (task_with c json jumps)
sound_with Minimal json jumps = of_proofs json IsTrueVerdict (EndsDone IsVerdict) verdict_true
sound_with Check json jumps = check_sound
sound_with Extreme json false = extreme_sound json
sound_with Extreme json true = extreme_with_jumps_sound json
sound_with Cut json jumps = cut_sound
sound_with Show json jumps = show_sound json
sound_with Faces json false = of_continuous (λ f text. IsContinuous f) (EndsDone IsFacesText)
    (λ f text continuous listed. continuous)
sound_with Faces json true = of_functions false IsJumpsFacesText (EndsDone IsJumpsFacesText)
    (λ f text within listed. listed)
sound_with (Demo n) json jumps = demo_sound n
sound_with Mixed json jumps = mixed_sound
sound_with Problem json jumps = problem_sound
sound_with Derive json jumps = derive_sound
sound_with Fill json jumps =
    of_continuous IsFillText IsFillReply (λ f text continuous filled. filled)
sound_with Group json jumps = of_continuous IsTrueGroupText IsGroupReply group_true
sound_with (Times n j) json jumps = of_functions false (IsTimesText n j) (IsTimesReply n j)
    (λ f text within shown. shown)
sound_with Mirror json jumps = of_functions false IsMirrorText (EndsDone IsMirrorText)
    (λ f text within shown. shown)
sound_with (Restrict d) json jumps = of_continuous (IsRestrictionText d) (IsRestrictionReply d)
    (λ f text continuous shown. shown)

pub sound : (r : Request) → IsSound (task_for r)
sound r = sound_with r.command r.json r.jumps
