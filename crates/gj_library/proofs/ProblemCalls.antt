-- What a call with the word `problem` says.
use Rattle.std.proofs.Common.{◌≡◌, ◌≢◌, ◌⊎◌, inl, inr, ℕ, ◌<◌, ◌≤◌, Bool, true, false, ◌&&◌, List, [], ◌∷◌, All, length, Some, String, refl, sym, ap, subst, ◌∙◌, arith}
use Rattle.std.specs.Prelude.{nat_lt}
use Rattle.std.proofs.lemmas.Bool.{ltb-true, and_parts}
use Rattle.std.specs.declared.alloc.Global.{Global}
use Rattle.std.proofs.lemmas.List.Elements.{All-nil, All-cons}
use Rattle.std.proofs.lemmas.Str.{IsUtf8-from_ascii}
use Rattle.std.proofs.lemmas.Str.Ascii.{IsAscii-from_all}
use Rattle.gj_port.specs.Runs.{IsSourceFault}
use Rattle.gj_words.specs.declared.requests.Command.TheVariants.{Problem}
use Rattle.gj_words.specs.declared.requests.Request.{Request}
use Rattle.gj_problem_text.specs.SafeInputs.{IsSafeInput}
use Rattle.gj_problem_text.specs.declared.input.SafeInput.{SafeInput}
use Rattle.gj_problem_text.proofs.InputParts.{one_input}
use Rattle.gj_top.specs.declared.reply.End.{End}
use Rattle.gj_top.specs.declared.reply.End.TheVariants as end
use Rattle.gj_top.specs.declared.status.Status.{Status}
use Rattle.gj_top.specs.Answer.{IsAnswer, IsAnswerTo}
use Rattle.gj_top.specs.Answer.IsAnswer.{no_request, read_fault, of_request}
use Rattle.gj_top.specs.Answer.IsAnswerTo.{too_long, refused, replied}
use Rattle.gj_top.specs.Code.{code_of}
use Rattle.gj_top.specs.Command.{IsNamed, task_for}
use Rattle.gj_top.specs.InputRead.{input_limit}
use Rattle.gj_top.specs.Outcome.IsOutcome.{silent, told, cut_off}
use Rattle.gj_top.specs.Problem.{problem, AreProblemCuts, IsProblemReply}
use Rattle.gj_top.specs.Reply.{status_of}
use Rattle.gj_top.specs.Task.{IsReply}
use Rattle.gj_top.proofs.Clauses.{answer_to_input, ended_reply}
use Rattle.gj_top.proofs.Commands.{one_named}
use Rattle.gj_top.proofs.Sound.{sound}
use Rattle.gj_library.specs.Call.{AreWordsOf, IsCall}
use Rattle.gj_library.specs.ProblemCall.{problem_word, IsProblemCall, IsProblemCode, IsProblemRefusal}
use Rattle.gj_library.proofs.Codes.{back, status_is}

abbrev request : Request
request = record { command = Problem; json = false; jumps = false }

-- the word is text
abbrev are_small : List ℕ → Bool
are_small [] = true
are_small (b ∷ bytes) = nat_lt b 128 && are_small bytes

small : (bytes : List ℕ) → are_small bytes ≡ true → All (λ b. b < 128) bytes
small [] h = All-nil (λ b. b < 128)
small (b ∷ bytes) h =
    let (less, rest) = and_parts (nat_lt b 128) (are_small bytes) h in
    All-cons (λ b. b < 128) b bytes (ltb-true b 128 less) (small bytes rest)

-- and it names the request
named_problem : (words : List (String Global)) → AreWordsOf problem_word words →
    IsNamed words request
named_problem words (inl are) = record {
  in_bounds = tt;
  json_allowed = λ flag. absurd (let no : false ≡ true = flag in cc);
  jumps_allowed = λ flag. absurd (let no : false ≡ true = flag in cc);
  placed = (problem_word ∷ [], refl, are.1);
}
named_problem words (inr are) =
    absurd (are.0 (IsUtf8-from_ascii problem_word
    (IsAscii-from_all problem_word (small problem_word refl))))

-- no end has one of these codes
end_code : (e : End) → (code_of (status_of e) ≢ 3) × (code_of (status_of e) ≢ 5)
    × (code_of (status_of e) ≢ 6)
end_code end.Done = (λ h. cc, λ h. cc, λ h. cc)
end_code end.Rejected = (λ h. cc, λ h. cc, λ h. cc)
end_code end.Wide = (λ h. cc, λ h. cc, λ h. cc)
end_code end.NotContinuous = (λ h. cc, λ h. cc, λ h. cc)
end_code end.NoFunction = (λ h. cc, λ h. cc, λ h. cc)
end_code end.NotSubadditive = (λ h. cc, λ h. cc, λ h. cc)
end_code end.OrderLimit = (λ h. cc, λ h. cc, λ h. cc)
end_code end.BadOrder = (λ h. cc, λ h. cc, λ h. cc)

abbrev IsEnd : ℕ → Type 0
IsEnd code = (code ≡ 0) ⊎ (code ≡ 3) ⊎ (code ≡ 5) ⊎ (code ≡ 6) ⊎ (code ≡ 8) ⊎ (code ≡ 9)

-- the ends of the replies
ends_of_reply : (asked : SafeInput) (e : End) (text : List ℕ) (code : ℕ) →
    IsProblemReply asked e text → code ≡ code_of (status_of e) → IsEnd code
ends_of_reply asked end.Done text code h is = inl is
ends_of_reply asked end.NotContinuous text code h is = inr (inr (inr (inr (inl is))))
ends_of_reply asked end.NoFunction text code h is = inr (inr (inr (inr (inr is))))
ends_of_reply asked end.Rejected text code h is = absurd h
ends_of_reply asked end.Wide text code h is = absurd h
ends_of_reply asked end.NotSubadditive text code h is = absurd h
ends_of_reply asked end.OrderLimit text code h is = absurd h
ends_of_reply asked end.BadOrder text code h is = absurd h

-- ---- an answer with its code

module _ (input front : List ℕ) (code : ℕ) (s : Status) (is : code ≡ code_of s) where
  reply_by : (e : End) → code ≡ code_of (status_of e) → IsAnswerTo problem input s front →
      IsReply problem input e front
  reply_by e at a =
      let same : s ≡ status_of e = status_is s (code_of (status_of e)) (sym is ∙ at)
      ∙ back (status_of e) in
      ended_reply problem input front s e same a

  refusal_by : code ≡ 3 → IsAnswerTo problem input s front → IsProblemRefusal input front
  refusal_by three (too_long a) = inl (a.long, a.spelled)
  refusal_by three (refused a) = inr a.refused
  refusal_by three (replied a) =
      absurd ((end_code a.end).0 (sym (is ∙ ap code_of a.status_is) ∙ three))

  ends_by : IsAnswerTo problem input s front → IsEnd code
  ends_by (too_long a) = inr (inl (is ∙ ap code_of a.status_is))
  ends_by (refused a) = inr (inl (is ∙ ap code_of a.status_is))
  ends_by (replied a) = ends_of_reply a.reply.thing a.end front code a.reply.replied
      (is ∙ ap code_of a.status_is)

  -- what is asked within the limit is answered
  asked_by : (asked : SafeInput) → IsSafeInput input asked → length input ≤ input_limit →
      IsAnswerTo problem input s front →
      IsProblemCode asked code
  asked_by asked spelled within (too_long a) = let long = a.long in absurd (omega arith)
  asked_by asked spelled within (refused a) =
      absurd ((sound request).form input front asked spelled a.refused)
  asked_by asked spelled within (replied a) = (
    a.end,
    front,
    is ∙ ap code_of a.status_is,
    subst (λ (thing : SafeInput). IsProblemReply thing a.end front)
        (one_input input a.reply.thing asked a.reply.spelled spelled) a.reply.replied,
  )

-- ---- the call

module _ (input front : List ℕ) (room code : ℕ) (c : IsCall problem_word input room front code)
  where
    named : IsNamed c.words request
    named = named_problem c.words c.are_words

    of_answer : (text : List ℕ) →
        IsAnswer c.words (IsSourceFault true 0 0) (Some input) c.left c.status text →
        IsAnswerTo problem input c.status text
    of_answer text (no_request a) = absurd (a.unnamed request named)
    of_answer text (read_fault a) = absurd (a.failed.1 refl)
    of_answer text (of_request a) =
        subst (λ (r : Request). IsAnswerTo (task_for r) input c.status text)
        (one_named c.words a.request request a.named named)
        (answer_to_input c.words (Some input) c.left c.status text input (λ r other reads. refl) a)

    answered : (code ≡ 5) ⊎ (code ≡ 6) ⊎ IsAnswerTo problem input c.status front
    answered = elim c.is_run.outcome [
      | silent o ↦ inr (inl (c.code_is ∙ ap code_of o.status_is))
      | cut_off o ↦ inl (c.code_is ∙ ap code_of o.status_is)
      | told o ↦
          let gain : Some front ≡ Some o.text = o.gain in
          let same : o.text ≡ front = cc in
          inr (inr (subst (λ (text : List ℕ). IsAnswerTo problem input c.status text) same
          (of_answer o.text o.answer)))
    ]

    -- with another code there is an answer
    otherwise : code ≢ 5 → code ≢ 6 → IsAnswerTo problem input c.status front
    otherwise room memory = elim answered [
      | inl five ↦ absurd (room five)
      | inr (inl six) ↦ absurd (memory six)
      | inr (inr a) ↦ a
    ]

    reply_at : (e : End) → code ≡ code_of (status_of e) → IsReply problem input e front
    reply_at e at =
        reply_by input front code c.status c.code_is e at
        (otherwise (λ five. (end_code e).1 (sym at ∙ five)) (λ six. (end_code e).2 (sym at ∙ six)))

    true_cuts : code ≡ 0 → (asked : SafeInput) × IsSafeInput input asked
        × AreProblemCuts asked front
    true_cuts zero =
        let reply = reply_at end.Done zero in (
          reply.thing,
          reply.spelled,
          (sound request).work input reply.thing front reply.spelled
              reply.replied,
        )

    unrefused : (asked : SafeInput) → IsSafeInput input asked → length input ≤ input_limit →
        code ≢ 3
    unrefused asked spelled within three =
        let (e, text, is, reply) = asked_by input front code c.status c.code_is asked spelled within
        (otherwise (λ five. absurd (let no : 3 ≡ 5 = sym three ∙ five in cc))
        (λ six. absurd (let no : 3 ≡ 6 = sym three ∙ six in cc))) in
        (end_code e).0 (sym is ∙ three)

    pub problem_call : IsProblemCall input front code
    problem_call = record {
      headline = true_cuts;
      reply = reply_at end.Done;
      no_function = reply_at end.NoFunction;
      not_continuous = reply_at end.NotContinuous;
      refused = λ three. refusal_by input front code c.status c.code_is three
          (otherwise (λ five. absurd (let no : 3 ≡ 5 = sym three ∙ five in cc))
          (λ six. absurd (let no : 3 ≡ 6 = sym three ∙ six in cc)));
      complete = λ asked spelled within. (
        unrefused asked spelled within,
        λ room memory. asked_by input front code c.status c.code_is asked spelled within
            (otherwise room memory),
      );
      ends = elim answered [
        | inl five ↦ inr (inr (inl five))
        | inr (inl six) ↦ inr (inr (inr (inl six)))
        | inr (inr a) ↦ ends_by input front code c.status c.code_is a
      ];
    }
