-- What a run by the words of one command has written, in the fewest words.
use Rattle.std.proofs.Common.{◌≡◌, ◌⊎◌, inl, inr, ℕ, true, false, List, [], ◌∷◌, ◌++◌, All, codes, map, drop, if◌then◌else◌, nat_eq}
use Rattle.std.proofs.Common.{IfSome, Option, Some, String, string_bytes, refl, sym, ap, subst, ◌∙◌}
use Rattle.std.proofs.lemmas.List.{append-nil}
use Rattle.std.specs.declared.alloc.Global.{Global}
use Rattle.gj_shape.specs.Extreme.{IsExtreme}
use Rattle.gj_shape.specs.FunctionData.{FunctionData, IsWithinBounds, IsContinuous}
use Rattle.gj_shape.specs.Table.{IsMinimal}
use Rattle.gj_shape.specs.declared.extremality.Halves.{Halves}
use Rattle.gj_proof.specs.Meaning.{ClaimHolds, CutLineHolds}
use Rattle.gj_proof.specs.ProofText.{Subject, subject_of, AreSubjectLines, numbers_of, claim_word, own_text, IsProofText}
use Rattle.gj_proof.specs.ProofText.Subject.{function}
use Rattle.gj_limit_proof.specs.declared.claim.LimitClaim.{LimitClaim}
use Rattle.gj_limit_proof.specs.declared.claim.LimitClaim.TheVariants as limit
use Rattle.gj_limit_proof.specs.LimitText.{IsLimitProofText, claim_word as limit_claim_word, function_of as limit_function_of, own_text as own_limit_text}
use Rattle.gj_proof.specs.declared.claim.Claim.{Claim}
use Rattle.gj_proof.specs.declared.claim.Claim.TheVariants as claim
use Rattle.gj_proof.specs.declared.cut.CutLine.{CutLine}
use Rattle.gj_proof.specs.declared.cut.CutRule.{CutRule}
use Rattle.gj_proof.specs.declared.numbers.Numbers.TheVariants.{Whole, Residues}
use Rattle.gj_cut_text.specs.MixedLines.{AreMixedCutsOf, MixedLineHolds}
use Rattle.gj_cut_text.specs.declared.mixed_lines.MixedLine.{MixedLine}
use Rattle.gj_demo.specs.Summary.{IsSummary, HasSummary}
use Rattle.gj_json.specs.JsonFunction.{IsJsonFunction}
use Rattle.gj_json.specs.JsonText.{IsJsonText, IsReport}
use Rattle.gj_words.specs.Grammar.{HasFlag, command_words, IsInBounds, json_word, jumps_word, takes_json, takes_jumps}
use Rattle.gj_words.specs.declared.requests.Command.{Command}
use Rattle.gj_words.specs.declared.requests.Command.TheVariants as command
use Rattle.gj_words.specs.declared.requests.Request.{Request}
use Rattle.gj_extreme.proofs.DecidedHolds.{decided_holds}
use Rattle.gj_extreme.proofs.DecidedTexts.{decided_is_bounded}
use Rattle.gj_extreme.proofs.TwoSlopeDecisions.{shown_halves_deny}
use Rattle.gj_verdict_text.specs.FacesText.{IsFacesText}
use Rattle.gj_top.specs.declared.reply.End.TheVariants as end
use Rattle.gj_top.specs.declared.status.Status.{Status}
use Rattle.gj_top.specs.declared.status.Status.TheVariants.{Done}
use Rattle.gj_top.specs.Causes.{IsInput, IsDoneRun}
use Rattle.gj_top.specs.Command.{IsNamed, promise_for, task_for}
use Rattle.gj_top.specs.Cut.{AreCutsOf, SpellsCutInput}
use Rattle.gj_top.specs.declared.cut_input.CutInput.{CutInput}
use Rattle.gj_problem_text.specs.PrintedInput.{IsPrintedInput}
use Rattle.gj_problem_text.specs.SafeInputs.{IsSafeInput}
use Rattle.gj_problem_text.specs.declared.input.SafeInput.{SafeInput}
use Rattle.gj_problem_text.proofs.InputParts.{one_input}
use Rattle.gj_problem_text.proofs.PrintedInputs.{printed_is_read}
use Rattle.gj_problem.specs.Problems.{Holds}
use Rattle.gj_problem.specs.declared.problem.Problem.{Problem}
use Rattle.gj_derivation.specs.Drafts.{steps_of}
use Rattle.gj_derivation.specs.declared.step.Step.{Step}
use Rattle.gj_derivation_text.specs.DerivationInputs.{IsDraftText}
use Rattle.gj_derivation_text.specs.declared.input.DerivationInput.{DerivationInput}
use Rattle.gj_derivation_text.specs.declared.input.DraftInput.{DraftInput}
use Rattle.gj_top.specs.Faces.{IsJumpsFacesText}
use Rattle.gj_top.specs.LimitExtreme.{IsJumpsExtremality, IsTrueLimitExtremality, IsTrueJumpsExtremality}
use Rattle.gj_top.specs.Derive.{IsTrueDerivedText}
use Rattle.gj_top.specs.Told.{Told, IsTold}
use Rattle.gj_top.specs.Problem.{AreProblemCuts}
use Rattle.gj_top.specs.Extreme.{IsTrueExtremality, IsDecisionText}
use Rattle.gj_top.specs.Forms.{IsFunctionInput, IsProofOf, function_promise}
use Rattle.gj_top.specs.Minimal.{IsTrueVerdict}
use Rattle.gj_top.specs.Promise.{Promise, IsTrueReply}
use Rattle.gj_top.specs.Report.{claims, limit_claims, IsReportBy, Tells}
use Rattle.gj_top.specs.Show.{IsShownText}
use Rattle.gj_top.specs.Task.{IsReply}
use Rattle.gj_commands.specs.CommandTexts.{HasWritten, IsTextOf, IsProofWith, Calls, Reports, TellsMinimality, TellsExtremality}
use Rattle.gj_commands.specs.CommandTexts.{ShowsNotMinimal, ShowsNotExtreme, IsTextOfCutLines, IsTextOfMixedLines}
use Rattle.gj_commands.specs.CommandTexts.{IsPrintedDerivation, AreTrueSteps}
use Rattle.gj_commands.specs.CommandTexts.{IsLimitProofWith, CallsByLimits, TellsJumpsExtremality, ShowsNotExtremeByLimits}
use Rattle.gj_commands.specs.CommandTexts.{ProvesClaim}
use Rattle.gj_top.proofs.Clauses.{weaker}
use Rattle.gj_top.proofs.Commands.{one_named}
use Rattle.gj_top.proofs.LimitTexts.{limit_decided_bounded}
use Rattle.gj_top.proofs.OneCuts.{one_cut_spelled}
use Rattle.gj_top.proofs.Sound.{sound}
use Rattle.gj_top.proofs.TextLaws.{function_is_bounded, one_function, one_spelled, canonical_text_is_read}

-- ---- a run

-- a command without a flag, with `--json`, with `--jumps`, and with both
abbrev pub plain : Command → Request
plain c = record { command = c; json = false; jumps = false }

abbrev pub flagged : Command → Request
flagged c = record { command = c; json = true; jumps = false }

abbrev pub jumping : Command → Request
jumping c = record { command = c; json = false; jumps = true }

abbrev pub jumping_flagged : Command → Request
jumping_flagged c = record { command = c; json = true; jumps = true }

-- the words of a command name it
plain_named : (words : List (String Global)) (c : Command) → IsInBounds c →
    map string_bytes words ≡ command_words c → IsNamed words (plain c)
plain_named words c bounds same = record {
  in_bounds = bounds;
  json_allowed = λ e. absurd (cc);
  jumps_allowed = λ e. absurd (cc);
  placed = (command_words c, refl, same);
}

-- with a flag behind them, too
flag_behind : (flag : List ℕ) (bare : List (List ℕ)) → HasFlag flag true bare (bare ++ flag ∷ [])
flag_behind flag bare = (bare, [], sym (append-nil bare), refl)

flagged_named : (words : List (String Global)) (c : Command) → IsInBounds c → takes_json c ≡ true →
    map string_bytes words ≡ command_words c ++ json_word ∷ [] → IsNamed words (flagged c)
flagged_named words c bounds takes same = record {
  in_bounds = bounds;
  json_allowed = λ e. takes;
  jumps_allowed = λ e. absurd (cc);
  placed = (command_words c ++ json_word ∷ [], flag_behind json_word (command_words c), same);
}

jumping_named : (words : List (String Global)) (c : Command) → IsInBounds c → takes_jumps c ≡ true →
    map string_bytes words ≡ command_words c ++ jumps_word ∷ [] → IsNamed words (jumping c)
jumping_named words c bounds takes same = record {
  in_bounds = bounds;
  json_allowed = λ e. absurd (cc);
  jumps_allowed = λ e. takes;
  placed = (
    command_words c,
    refl,
    subst (HasFlag jumps_word true (command_words c)) (sym same)
        (flag_behind jumps_word (command_words c)),
  );
}

jumping_flagged_named : (words : List (String Global)) (c : Command) → IsInBounds c →
    takes_json c ≡ true → takes_jumps c ≡ true →
    map string_bytes words ≡ (command_words c ++ json_word ∷ []) ++ jumps_word ∷ [] →
    IsNamed words (jumping_flagged c)
jumping_flagged_named words c bounds takes too same = record {
  in_bounds = bounds;
  json_allowed = λ e. takes;
  jumps_allowed = λ e. too;
  placed = (
    command_words c ++ json_word ∷ [],
    flag_behind json_word (command_words c),
    subst (HasFlag jumps_word true (command_words c ++ json_word ∷ [])) (sym same)
        (flag_behind jumps_word (command_words c ++ json_word ∷ [])),
  );
}

-- what holds of each reply with Done to a request holds of what words that name it have written
written_by : (spelled : List (List ℕ)) (r : Request) (P : List ℕ → List ℕ → Type 0) →
    ((words : List (String Global)) → map string_bytes words ≡ spelled → IsNamed words r) →
    ((input text : List ℕ) → IsReply (task_for r) input end.Done text → P input text) →
    (words : List (String Global)) (status : Status) (left before after : Option (List ℕ)) →
    (status ≡ Done → (input : List ℕ) → IsInput words left input →
    IfSome before (λ b. IsDoneRun words input b after)) →
    HasWritten spelled P words status left before after
written_by spelled r P named keeps words status left before after run = λ same done input told.
    weaker before (λ b. IsDoneRun words input b after)
    (λ b. (text : List ℕ) × (after ≡ Some (b ++ text)) × P input text)
    (λ b d. (
      d.text,
      d.gain,
      keeps input d.text (subst (λ (q : Request). IsReply (task_for q) input end.Done d.text)
          (one_named words d.request r d.named (named words same)) d.reply),
    ))
    (run done input (λ q other read. told))

-- a command without a flag
pub written : (c : Command) (P : List ℕ → List ℕ → Type 0) → IsInBounds c →
    ((input text : List ℕ) → IsReply (task_for (plain c)) input end.Done text → P input text) →
    (words : List (String Global)) (status : Status) (left before after : Option (List ℕ)) →
    (status ≡ Done → (input : List ℕ) → IsInput words left input →
    IfSome before (λ b. IsDoneRun words input b after)) →
    HasWritten (command_words c) P words status left before after
written c P bounds keeps =
    written_by (command_words c) (plain c) P (λ words. plain_named words c bounds) keeps

-- with `--json`
pub written_with : (c : Command) (P : List ℕ → List ℕ → Type 0) → IsInBounds c →
    takes_json c ≡ true →
    ((input text : List ℕ) → IsReply (task_for (flagged c)) input end.Done text → P input text) →
    (words : List (String Global)) (status : Status) (left before after : Option (List ℕ)) →
    (status ≡ Done → (input : List ℕ) → IsInput words left input →
    IfSome before (λ b. IsDoneRun words input b after)) →
    HasWritten (command_words c ++ json_word ∷ []) P words status left before after
written_with c P bounds takes keeps =
    written_by (command_words c ++ json_word ∷ []) (flagged c) P
    (λ words. flagged_named words c bounds takes) keeps

-- with `--jumps`
pub written_jumping : (c : Command) (P : List ℕ → List ℕ → Type 0) → IsInBounds c →
    takes_jumps c ≡ true →
    ((input text : List ℕ) → IsReply (task_for (jumping c)) input end.Done text → P input text) →
    (words : List (String Global)) (status : Status) (left before after : Option (List ℕ)) →
    (status ≡ Done → (input : List ℕ) → IsInput words left input →
    IfSome before (λ b. IsDoneRun words input b after)) →
    HasWritten (command_words c ++ jumps_word ∷ []) P words status left before after
written_jumping c P bounds takes keeps =
    written_by (command_words c ++ jumps_word ∷ []) (jumping c) P
    (λ words. jumping_named words c bounds takes) keeps

-- and with both flags
pub written_jumping_with : (c : Command) (P : List ℕ → List ℕ → Type 0) → IsInBounds c →
    takes_json c ≡ true → takes_jumps c ≡ true →
    ((input text : List ℕ) → IsReply (task_for (jumping_flagged c)) input end.Done text →
    P input text) →
    (words : List (String Global)) (status : Status) (left before after : Option (List ℕ)) →
    (status ≡ Done → (input : List ℕ) → IsInput words left input →
    IfSome before (λ b. IsDoneRun words input b after)) →
    HasWritten ((command_words c ++ json_word ∷ []) ++ jumps_word ∷ []) P words status left before
    after
written_jumping_with c P bounds takes too keeps =
    written_by ((command_words c ++ json_word ∷ []) ++ jumps_word ∷ []) (jumping_flagged c) P
    (λ words. jumping_flagged_named words c bounds takes too) keeps

-- a reply keeps what its request promises
pub true_of : (r : Request) (input text : List ℕ) → IsReply (task_for r) input end.Done text →
    IsTrueReply (promise_for r) input text
true_of r input text reply = record {
  thing = reply.thing;
  spelled = reply.spelled;
  holds = (sound r).work input reply.thing text reply.spelled reply.replied;
}

-- ---- functions

-- the input with the canonical text of a function spells it
pub input_of : (f : FunctionData) (input : List ℕ) → IsTextOf f input → IsFunctionInput input f
input_of f input (within, canonical) = canonical_text_is_read f input within canonical

-- what is promised of the function of an input holds of the one that it spells
promised : (headline : FunctionData → List ℕ → Type 0) (f : FunctionData) (input text : List ℕ) →
    IsFunctionInput input f →
    IsTrueReply (function_promise false headline) input text → headline f text
promised headline f input text given kept =
    subst (λ (g : FunctionData). headline g text)
    (one_function input kept.thing f kept.spelled given) kept.holds

-- ---- verdicts

-- the proof text of a claim about a function
proof_of : (c : Claim) (f : FunctionData) (text : List ℕ) → subject_of c ≡ function f →
    IsProofText c text →
    IsProofWith (claim_word c) f (own_text c) text
proof_of c f text about p = record {
  numbers = numbers_of c;
  function_lines = p.subject;
  are_function_lines =
      subst (λ (s : Subject). AreSubjectLines s p.subject) about p.are_subject_lines;
  spelled = p.spelled;
}

-- it calls the function by the word of the claim
pub calls : (c : Claim) (f : FunctionData) (text : List ℕ) → subject_of c ≡ function f →
    IsProofText c text → Calls f text (claim_word c)
calls c f text about p = (own_text c, proof_of c f text about p)

minimality : (f : FunctionData) (text : List ℕ) → IsTrueVerdict f text →
    TellsMinimality f (Calls f text)
minimality f text (inl (p, minimal)) = inl (calls (claim.Minimal f) f text refl p, minimal)
minimality f text (inr (v, p, shown, denied)) =
    inr (calls (claim.NotMinimal f v) f text refl p, denied)

minimality_shown : (f : FunctionData) (text : List ℕ) → IsTrueVerdict f text →
    (Calls f text (codes "minimal") ⊎ ShowsNotMinimal f text)
minimality_shown f text (inl (p, minimal)) = inl (calls (claim.Minimal f) f text refl p)
minimality_shown f text (inr (v, p, shown, denied)) =
    inr (v, proof_of (claim.NotMinimal f v) f text refl p, shown)

minimality_claimed : (f : FunctionData) (text : List ℕ) → IsWithinBounds f → IsTrueVerdict f text →
    (c : Claim) × IsProofOf text c × ClaimHolds c
minimality_claimed f text within (inl (p, minimal)) =
    (claim.Minimal f, record { bounded = within; spelled = p }, minimal)
minimality_claimed f text within (inr (v, p, shown, denied)) =
    (claim.NotMinimal f v, record { bounded = within; spelled = p }, shown)

extremality : (f : FunctionData) (text : List ℕ) → IsTrueExtremality f text →
    TellsExtremality f (Calls f text)
extremality f text (inl ((Whole, lines, rows, p), continuous, extreme)) =
    inl (calls (claim.Extreme f lines rows) f text refl p, continuous, extreme)
extremality f text (inl ((Residues, lines, rows, p), continuous, extreme)) =
    inl (calls (claim.ExtremeByResidues f lines rows) f text refl p, continuous, extreme)
extremality f text (inr (inl (h, p, continuous, minimal, shown, denied))) =
    inr (inl (calls (claim.NotExtreme f h) f text refl p, continuous, minimal, denied))
extremality f text (inr (inr (v, p, shown, denied))) =
    inr (inr (calls (claim.NotMinimal f v) f text refl p, denied))

extremality_shown : (f : FunctionData) (text : List ℕ) → IsTrueExtremality f text →
    (Calls f text (codes "extreme") ⊎ ShowsNotExtreme f text ⊎ ShowsNotMinimal f text)
extremality_shown f text (inl ((Whole, lines, rows, p), continuous, extreme)) =
    inl (calls (claim.Extreme f lines rows) f text refl p)
extremality_shown f text (inl ((Residues, lines, rows, p), continuous, extreme)) =
    inl (calls (claim.ExtremeByResidues f lines rows) f text refl p)
extremality_shown f text (inr (inl (h, p, continuous, minimal, shown, denied))) =
    inr (inl (h, proof_of (claim.NotExtreme f h) f text refl p, shown))
extremality_shown f text (inr (inr (v, p, shown, denied))) =
    inr (inr (v, proof_of (claim.NotMinimal f v) f text refl p, shown))

-- ---- verdicts by limits

limit_proof_of : (c : LimitClaim) (text : List ℕ) → IsLimitProofText c text →
    IsLimitProofWith (limit_claim_word c) (limit_function_of c) (own_limit_text c) text
limit_proof_of c text p =
    record {
      function_lines = p.subject;
      are_function_lines = p.are_function_lines;
      spelled =
          p.spelled;
    }

pub calls_by_limits : (c : LimitClaim) (text : List ℕ) → IsLimitProofText c text →
    CallsByLimits (limit_function_of c) text (limit_claim_word c)
calls_by_limits c text p = (own_limit_text c, limit_proof_of c text p)

limit_extremality : (f : FunctionData) (text : List ℕ) → IsTrueLimitExtremality f text →
    TellsJumpsExtremality f (Calls f text) (CallsByLimits f text)
limit_extremality f text (inl ((numbers, lines, rows, p), jumps, extreme)) =
    inr (inl (calls_by_limits (limit.Extreme numbers f lines rows) text p, jumps, extreme))
limit_extremality f text (inr (h, p, jumps, minimal, shown, denied)) =
    inr (inr (calls_by_limits (limit.NotExtreme f h) text p, jumps, minimal, denied))

jumps_extremality : (f : FunctionData) (text : List ℕ) → IsTrueJumpsExtremality false f text →
    TellsJumpsExtremality f (Calls f text) (CallsByLimits f text)
jumps_extremality f text (inl h) = inl (extremality f text h)
jumps_extremality f text (inr h) = limit_extremality f text h

-- the lines that show a verdict
abbrev Shown : FunctionData → List ℕ → Type 0
Shown f text =
    Calls f text (codes "extreme") ⊎ ShowsNotExtreme f text ⊎ ShowsNotMinimal f text
    ⊎ CallsByLimits f text (codes "extreme")
    ⊎ ShowsNotExtremeByLimits f text

as_shown : (f : FunctionData) (text : List ℕ) →
    (Calls f text (codes "extreme") ⊎ ShowsNotExtreme f text ⊎ ShowsNotMinimal f text) →
    Shown f text
as_shown f text (inl h) = inl h
as_shown f text (inr (inl h)) = inr (inl h)
as_shown f text (inr (inr h)) = inr (inr (inl h))

jumps_extremality_shown : (f : FunctionData) (text : List ℕ) → IsTrueJumpsExtremality false f text →
    Shown f text
jumps_extremality_shown f text (inl h) = as_shown f text (extremality_shown f text h)
jumps_extremality_shown f text (inr (inl ((numbers, lines, rows, p), jumps, extreme))) =
    inr (inr (inr (inl (calls_by_limits (limit.Extreme numbers f lines rows) text p))))
jumps_extremality_shown f text (inr (inr (h, p, jumps, minimal, shown, denied))) =
    inr (inr (inr (inr (h, limit_proof_of (limit.NotExtreme f h) text p, shown))))

-- ---- reports

-- the bytes before the first line feed
before_feed : List ℕ → List ℕ
before_feed [] = []
before_feed (b ∷ bytes) = if nat_eq b 10 then [] else b ∷ before_feed bytes

-- those of the second line of a proof text, behind `claim `
word_in : List ℕ → List ℕ
word_in text = before_feed (drop 17 text)

word_is : (c : Claim) (text : List ℕ) → IsProofText c text → word_in text ≡ claim_word c
unfolding word_in before_feed
word_is (claim.Minimal f) text p = ap word_in p.spelled
word_is (claim.NotMinimal f v) text p = ap word_in p.spelled
word_is (claim.Cut r rows) text p = ap word_in p.spelled
word_is (claim.Extreme f lines rows) text p = ap word_in p.spelled
word_is (claim.ExtremeByResidues f lines rows) text p = ap word_in p.spelled
word_is (claim.NotExtreme f h) text p = ap word_in p.spelled

limit_word_is : (c : LimitClaim) (text : List ℕ) → IsLimitProofText c text →
    word_in text ≡ limit_claim_word c
unfolding word_in before_feed
limit_word_is (limit.Extreme numbers f lines rows) text p = ap word_in p.spelled
limit_word_is (limit.NotExtreme f h) text p = ap word_in p.spelled

-- the verdict of a report is the word of each claim with its proof text
reports : (c : Claim) (P : List ℕ → Type 0) (text : List ℕ) (r : IsReportBy claims P text) →
    IsProofText c r.proof → Reports text (claim_word c)
reports c P text r p = (
  r.proof,
  subst (λ (w : List ℕ). IsReport w r.proof text)
      (sym (word_is r.claim r.proof r.spelled) ∙ word_is c r.proof p) r.report,
)

reports_limits : (c : LimitClaim) (P : List ℕ → Type 0) (text : List ℕ)
    (r : IsReportBy limit_claims P text) → IsLimitProofText c r.proof →
    Reports text (limit_claim_word c)
reports_limits c P text r p = (
  r.proof,
  subst (λ (w : List ℕ). IsReport w r.proof text)
      (sym (limit_word_is r.claim r.proof r.spelled) ∙ limit_word_is c r.proof p) r.report,
)

module _ (f : FunctionData) (text : List ℕ) where
  minimality_reported : (r : IsReportBy claims (IsTrueVerdict f) text) → IsTrueVerdict f r.proof →
      TellsMinimality f (Reports text)
  minimality_reported r (inl (p, minimal)) = inl (reports (claim.Minimal f) _ text r p, minimal)
  minimality_reported r (inr (v, p, shown, denied)) =
      inr (reports (claim.NotMinimal f v) _ text r p, denied)

  extremality_reported : (r : IsReportBy claims (IsTrueExtremality f) text) →
      IsTrueExtremality f r.proof → TellsExtremality f (Reports text)
  extremality_reported r (inl ((Whole, lines, rows, p), continuous, extreme)) =
      inl (reports (claim.Extreme f lines rows) _ text r p, continuous, extreme)
  extremality_reported r (inl ((Residues, lines, rows, p), continuous, extreme)) =
      inl (reports (claim.ExtremeByResidues f lines rows) _ text r p, continuous, extreme)
  extremality_reported r (inr (inl (h, p, continuous, minimal, shown, denied))) =
      inr (inl (reports (claim.NotExtreme f h) _ text r p, continuous, minimal, denied))
  extremality_reported r (inr (inr (v, p, shown, denied))) =
      inr (inr (reports (claim.NotMinimal f v) _ text r p, denied))

  limit_extremality_reported : (r : IsReportBy limit_claims (IsTrueLimitExtremality f) text) →
      IsTrueLimitExtremality f r.proof →
      TellsJumpsExtremality f (Reports text) (Reports text)
  limit_extremality_reported r (inl ((numbers, lines, rows, p), jumps, extreme)) =
      inr (inl (reports_limits (limit.Extreme numbers f lines rows) _ text r p, jumps, extreme))
  limit_extremality_reported r (inr (h, p, jumps, minimal, shown, denied)) =
      inr (inr (reports_limits (limit.NotExtreme f h) _ text r p, jumps, minimal, denied))

  jumps_extremality_reported : IsTrueJumpsExtremality true f text →
      TellsJumpsExtremality f (Reports text) (Reports text)
  jumps_extremality_reported (inl r) = inl (extremality_reported r r.holds)
  jumps_extremality_reported (inr r) = limit_extremality_reported r r.holds

-- what is promised of the function in JSON holds of the one that the input says
promised_json : (headline : FunctionData → List ℕ → Type 0) (f : FunctionData)
    (input text : List ℕ) → IsJsonFunction input f →
    IsTrueReply (function_promise true headline) input text → headline f text
promised_json headline f input text given kept =
    subst (λ (g : FunctionData). headline g text)
    (one_spelled true input kept.thing f kept.spelled given) kept.holds

pub minimal_json : (input text : List ℕ) →
    IsReply (task_for (flagged command.Minimal)) input end.Done text → (f : FunctionData) →
    IsJsonFunction input f → TellsMinimality f (Reports text)
minimal_json input text reply f given =
    let report : IsReportBy claims (IsTrueVerdict f) text =
    promised_json (λ g. Tells true (IsTrueVerdict g)) f input text given
    (true_of (flagged command.Minimal) input text reply) in
    minimality_reported f text report report.holds

pub extreme_json : (input text : List ℕ) →
    IsReply (task_for (flagged command.Extreme)) input end.Done text → (f : FunctionData) →
    IsJsonFunction input f → TellsExtremality f (Reports text)
extreme_json input text reply f given =
    let report : IsReportBy claims (IsTrueExtremality f) text =
    promised_json (λ g. Tells true (IsTrueExtremality g)) f input text given
    (true_of (flagged command.Extreme) input text reply) in
    extremality_reported f text report report.holds

pub jumps_json : (input text : List ℕ) →
    IsReply (task_for (jumping_flagged command.Extreme)) input end.Done text → (f : FunctionData) →
    IsJsonFunction input f → TellsJumpsExtremality f (Reports text) (Reports text)
jumps_json input text reply f given =
    jumps_extremality_reported f text
    (promised_json (IsTrueJumpsExtremality true) f input text given
    (true_of (jumping_flagged command.Extreme) input text reply))

pub show_json : (input text : List ℕ) →
    IsReply (task_for (flagged command.Show)) input end.Done text → (f : FunctionData) →
    IsJsonFunction input f → IsJsonText text f
show_json input text reply f given =
    promised_json (IsShownText true) f input text given
    (true_of (flagged command.Show) input text reply)

-- ---- `minimal`

module _ (input text : List ℕ)
    (reply : IsReply (task_for (plain command.Minimal)) input end.Done text) where
  true_verdict : IsTrueReply (function_promise false IsTrueVerdict) input text
  true_verdict = true_of (plain command.Minimal) input text reply

  pub minimal_told : (f : FunctionData) × IsWithinBounds f × TellsMinimality f (Calls f text)
  minimal_told = (
    true_verdict.thing,
    function_is_bounded input true_verdict.thing true_verdict.spelled,
    minimality true_verdict.thing text true_verdict.holds,
  )

  pub minimal_of_input : (f : FunctionData) → IsFunctionInput input f →
      TellsMinimality f (Calls f text)
  minimal_of_input f given =
      minimality f text (promised IsTrueVerdict f input text given true_verdict)

  pub minimal_shown : (f : FunctionData) × IsWithinBounds f
      × (Calls f text (codes "minimal") ⊎ ShowsNotMinimal f text)
  minimal_shown = (
    true_verdict.thing,
    function_is_bounded input true_verdict.thing true_verdict.spelled,
    minimality_shown true_verdict.thing text true_verdict.holds,
  )

  pub minimal_claimed : (c : Claim) × IsProofOf text c × ClaimHolds c
  minimal_claimed =
      minimality_claimed true_verdict.thing text
      (function_is_bounded input true_verdict.thing true_verdict.spelled) true_verdict.holds

-- ---- `extreme`

module _ (input text : List ℕ)
    (reply : IsReply (task_for (plain command.Extreme)) input end.Done text) where
  true_extremality : IsTrueReply (function_promise false IsTrueExtremality) input text
  true_extremality = true_of (plain command.Extreme) input text reply

  pub extreme_told : (f : FunctionData) × IsWithinBounds f × TellsExtremality f (Calls f text)
  extreme_told = (
    true_extremality.thing,
    function_is_bounded input true_extremality.thing true_extremality.spelled,
    extremality true_extremality.thing text true_extremality.holds,
  )

  pub extreme_of_input : (f : FunctionData) → IsFunctionInput input f →
      TellsExtremality f (Calls f text)
  extreme_of_input f given =
      extremality f text (promised IsTrueExtremality f input text given true_extremality)

  pub extreme_shown : (f : FunctionData) × IsWithinBounds f ×
      (Calls f text (codes "extreme") ⊎ ShowsNotExtreme f text ⊎ ShowsNotMinimal f text)
  extreme_shown = (
    true_extremality.thing,
    function_is_bounded input true_extremality.thing true_extremality.spelled,
    extremality_shown true_extremality.thing text true_extremality.holds,
  )

  pub extreme_claimed : (c : Claim) × IsProofOf text c × ClaimHolds c
  extreme_claimed =
      let said : IsDecisionText reply.thing text = reply.replied in (
        said.claim,
        record {
          bounded = decided_is_bounded reply.thing said.claim
              (function_is_bounded input reply.thing reply.spelled) said.decided;
          spelled = said.spelled;
        },
        said.holds,
      )

-- ---- `extreme --jumps`

module _ (input text : List ℕ)
    (reply : IsReply (task_for (jumping command.Extreme)) input end.Done text) where
  true_jumps : IsTrueReply (function_promise false (IsTrueJumpsExtremality false)) input text
  true_jumps = true_of (jumping command.Extreme) input text reply

  pub jumps_told : (f : FunctionData) × IsWithinBounds f × TellsJumpsExtremality f (Calls f text)
      (CallsByLimits f text)
  jumps_told = (
    true_jumps.thing,
    function_is_bounded input true_jumps.thing true_jumps.spelled,
    jumps_extremality true_jumps.thing text true_jumps.holds,
  )

  pub jumps_of_input : (f : FunctionData) → IsFunctionInput input f →
      TellsJumpsExtremality f (Calls f text) (CallsByLimits f text)
  jumps_of_input f given =
      jumps_extremality f text
      (promised (IsTrueJumpsExtremality false) f input text given true_jumps)

  pub jumps_shown : (f : FunctionData) × IsWithinBounds f × Shown f text
  jumps_shown = (
    true_jumps.thing,
    function_is_bounded input true_jumps.thing true_jumps.spelled,
    jumps_extremality_shown true_jumps.thing text true_jumps.holds,
  )

  pub jumps_claimed : ProvesClaim text
  jumps_claimed = go reply.replied
    where
      within : IsWithinBounds reply.thing
      within = function_is_bounded input reply.thing reply.spelled

      go : IsJumpsExtremality false reply.thing end.Done text → ProvesClaim text
      go (inl d) = inl (
        d.claim,
        record {
          bounded = decided_is_bounded reply.thing d.claim within d.decided;
          spelled =
              d.spelled;
        },
        d.holds,
      )
      go (inr d) = inr (
        d.claim,
        record {
          bounded = limit_decided_bounded reply.thing d.claim within d.decided;
          spelled =
              d.spelled;
        },
        d.holds,
      )

-- a function with such halves is not extreme
pub by_halves : (f : FunctionData) (h : Halves) → ClaimHolds (claim.NotExtreme f h) →
    IsContinuous f × IsMinimal f × (IsExtreme f → ⊥)
by_halves f h (continuous, minimal, shown) = (continuous, minimal, shown_halves_deny f h shown)

-- the proof text of a claim about cuts
pub cut_lines_of : (r : CutRule) (lines : List CutLine) (text : List ℕ) →
    IsProofText (claim.Cut r lines) text → IsTextOfCutLines r lines text
cut_lines_of r lines text p =
    record { rule_lines = p.subject; are_rule_lines = p.are_subject_lines; spelled = p.spelled }

-- ---- `derive`

module _ (input text : List ℕ)
    (reply : IsReply (task_for (plain command.Derive)) input end.Done text) where
  pub derived_of_input : (t : Told DraftInput) × IsTold IsDraftText input t
      × IsTrueDerivedText t text
  derived_of_input = let kept = true_of (plain command.Derive) input text reply in
      (kept.thing, kept.spelled, kept.holds)

  pub derived_told : (d : DerivationInput) × IsPrintedDerivation d text × AreTrueSteps d
  derived_told =
      let (t, told, h) = derived_of_input in
      let filled = h.filled_in in
      let d = filled.derivation in (
        d,
        record {
          readable = filled.readable;
          constraint_names = _;
          names = _;
          shown =
              h.shown;
          text_is = filled.text_is;
        },
        subst (λ (steps : List Step). All (λ (s : Step). Holds d.problem s.claim) steps)
            (sym filled.text_is.steps)
            (subst (λ (p : Problem). All (λ (s : Step). Holds p s.claim) (steps_of h.shown))
            (sym filled.problem) h.hold),
      )

-- ---- cuts

pub cut_told : (input text : List ℕ) → IsReply (task_for (plain command.Cut)) input end.Done text →
    (r : CutRule) × (lines : List CutLine) × IsTextOfCutLines r lines text × All CutLineHolds lines
cut_told input text reply =
    let cuts : AreCutsOf reply.thing text = reply.replied.1.cuts in (
      reply.thing.rule,
      cuts.lines,
      cut_lines_of reply.thing.rule cuts.lines text cuts.spelled,
      cuts.hold,
    )

pub mixed_told : (input text : List ℕ) →
    IsReply (task_for (plain command.Mixed)) input end.Done text →
    (r : CutRule) × (lines : List MixedLine) × IsTextOfMixedLines r lines text
    × All MixedLineHolds lines
mixed_told input text reply =
    let cuts : AreMixedCutsOf reply.thing.rule reply.thing.tableau text = reply.replied.1 in (
      reply.thing.rule,
      cuts.lines,
      record {
        rule_lines = cuts.subject;
        are_rule_lines = cuts.subject_is;
        spelled =
            cuts.spelled;
      },
      cuts.hold,
    )

-- the cuts of the program that the input spells
pub problem_told : (input text : List ℕ) →
    IsReply (task_for (plain command.Problem)) input end.Done text →
    (asked : SafeInput) × IsSafeInput input asked × AreProblemCuts asked text
problem_told input text reply =
    let kept = true_of (plain command.Problem) input text reply in
    (kept.thing, kept.spelled, kept.holds)

-- and of the problem whose printed text the input is
pub problem_of_printed : (input text : List ℕ) →
    IsReply (task_for (plain command.Problem)) input end.Done text → (asked : SafeInput) →
    IsPrintedInput asked input → AreProblemCuts asked text
problem_of_printed input text reply asked printed =
    let (read, spelled, cuts) = problem_told input text reply in
    subst (λ (a : SafeInput). AreProblemCuts a text)
    (one_input input read asked spelled (printed_is_read asked input printed)) cuts

-- the rows are those of the tableau that the input spells
pub cut_of_input : (input text : List ℕ) →
    IsReply (task_for (plain command.Cut)) input end.Done text → (given : CutInput) →
    SpellsCutInput input given → AreCutsOf given text
cut_of_input input text reply given spelled =
    subst (λ (i : CutInput). AreCutsOf i text)
    (one_cut_spelled input reply.thing given reply.spelled spelled) reply.replied.1.cuts

pub mixed_of_input : (input text : List ℕ) →
    IsReply (task_for (plain command.Mixed)) input end.Done text → (given : CutInput) →
    SpellsCutInput input given → AreMixedCutsOf given.rule given.tableau text
mixed_of_input input text reply given spelled =
    subst (λ (i : CutInput). AreMixedCutsOf i.rule i.tableau text)
    (one_cut_spelled input reply.thing given reply.spelled spelled) reply.replied.1

-- ---- the other commands

-- what a command promises of a function holds of the one that the input spells
pub of_input : (c : Command) (headline : FunctionData → List ℕ → Type 0) →
    promise_for (plain c) ≡ function_promise false headline →
    (f : FunctionData) (input text : List ℕ) → IsFunctionInput input f →
    IsReply (task_for (plain c)) input end.Done text → headline f text
of_input c headline same f input text given reply =
    promised headline f input text given
    (subst (λ (p : Promise). IsTrueReply p input text) same
    (true_of (plain c) input text reply))

-- or that has its canonical text there
pub of_text : (c : Command) (headline : FunctionData → List ℕ → Type 0) →
    promise_for (plain c) ≡ function_promise false headline →
    (input text : List ℕ) → IsReply (task_for (plain c)) input end.Done text → (f : FunctionData) →
    IsTextOf f input → headline f text
of_text c headline same input text reply f given =
    of_input c headline same f input text (input_of f input given) reply

pub faces_told : (input text : List ℕ) →
    IsReply (task_for (plain command.Faces)) input end.Done text → (f : FunctionData) →
    IsTextOf f input →
    IsFacesText f text
faces_told input text reply f given =
    subst (λ (g : FunctionData). IsFacesText g text)
    (one_function input reply.thing f reply.spelled (input_of f input given)) reply.replied.1

pub jumps_faces_told : (input text : List ℕ) →
    IsReply (task_for (jumping command.Faces)) input end.Done text → (f : FunctionData) →
    IsTextOf f input →
    IsJumpsFacesText f text
jumps_faces_told input text reply f given =
    promised IsJumpsFacesText f input text (input_of f input given)
    (true_of (jumping command.Faces) input text reply)

pub demo_told : (n : ℕ) (input text : List ℕ) →
    IsReply (task_for (plain (command.Demo n))) input end.Done text →
    (f : FunctionData) × (h : Halves) × IsSummary n f h text × IsContinuous f × IsMinimal f
    × (IsExtreme f → ⊥)
demo_told n input text reply =
    let summed : HasSummary n text =
    subst (λ (m : ℕ). HasSummary m text) reply.spelled reply.replied in
    let f = summed.function in
    let h = summed.halves in
    let holds = by_halves f h
    (decided_holds f (claim.NotExtreme f h) summed.within summed.verdict) in
    (f, h, summed.summary, holds.0, holds.1, holds.2)
