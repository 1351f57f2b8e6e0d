-- What follows from the outcome of a run.
use Rattle.std.proofs.Common.{◌≡◌, ◌≢◌, ◌⊎◌, inl, inr, ℕ, ◌+◌, ◌≤◌, Bool, true, false, List, [], ◌++◌, length, IsTrue, IfSome, Option}
use Rattle.std.proofs.Common.{None, Some, String, refl, ap, subst, ◌∙◌, arith}
use Rattle.std.proofs.lemmas.List.{drop_all}
use Rattle.std.specs.declared.alloc.Global.{Global}
use Rattle.gj_port.specs.Runs.{IsSourceFault, Gains}
use Rattle.gj_words.specs.declared.requests.Request.{Request}
use Rattle.gj_top.specs.declared.reply.End.{End}
use Rattle.gj_top.specs.declared.reply.End.TheVariants as end
use Rattle.gj_top.specs.declared.status.Status.{Status}
use Rattle.gj_top.specs.declared.status.Status.TheVariants.{Done, Words, Input, ReadFault, WriteFault, Memory}
use Rattle.gj_top.specs.InputRead.{input_limit, IsReadWhole}
use Rattle.gj_top.specs.Lines.{words_line, fault_line}
use Rattle.gj_top.specs.Command.{IsNamed, NameNone, promise_for, task_for}
use Rattle.gj_top.specs.Promise.{Form, reads, Spells}
use Rattle.gj_top.specs.Promise.Form.{reading, reading_nothing}
use Rattle.gj_top.specs.Reply.{status_of}
use Rattle.gj_top.specs.Task.{Task, IsInForm, IsReply}
use Rattle.gj_top.specs.Answer.{IsAnswerTo, IsRequestAnswer, IsAnswer, IsUnanswered, IsWithinLimit}
use Rattle.gj_top.specs.Answer.IsAnswerTo.{too_long, refused, replied}
use Rattle.gj_top.specs.Answer.IsUnanswered.{unread, so_far}
use Rattle.gj_top.specs.Answer.IsAnswer.{no_request, read_fault, of_request}
use Rattle.gj_top.specs.Causes.{IsTrueRun, IsDoneRun, IsInput, IsGoodInput, IsBadInput, ReadNothing, IsStatusOf, IsCause, IsStatusOfReply}
use Rattle.gj_top.specs.Run.{Run, SourceFailed, SinkFailed, IsGiven, OfWritten}
use Rattle.gj_top.specs.Outcome.{IsOutcome, IsUnsure}
use Rattle.gj_top.specs.Outcome.IsOutcome.{silent, told, cut_off}
use Rattle.gj_top.proofs.Commands.{one_named}
use Rattle.gj_top.proofs.Ends.{one_end, no_end, not_answered}
use Rattle.gj_top.proofs.InputRead.{told_input}
use Rattle.gj_top.proofs.Sound.{sound}

-- ---- forms that read nothing

unread_spells : {Thing : Type 0} (form : Form Thing) (a b : List ℕ) (thing : Thing) →
    reads form ≡ false → Spells form a thing → Spells form b thing
unread_spells (reading spells) a b thing e h = absurd (cc)
unread_spells (reading_nothing given) a b thing e h = h

not_both : (b : Bool) → b ≡ false → IsTrue b → ⊥
not_both b e h = cc

-- if nothing is read, the input does not matter
unread_answer : (c : Request) (a b : List ℕ) (s : Status) (text : List ℕ) →
    reads (promise_for c).form ≡ false →
    IsAnswerTo (task_for c) a s text → IsAnswerTo (task_for c) b s text
unread_answer c a b s text e (too_long x) = absurd (not_both (reads (promise_for c).form) e x.read)
unread_answer c a b s text e (refused x) =
    absurd (not_both (reads (promise_for c).form) e ((sound c).refusals a text x.refused))
unread_answer c a b s text e (replied x) = replied (record {
  within = λ r. absurd (not_both (reads (promise_for c).form) e r);
  end = x.end;
  status_is = x.status_is;
  reply = record {
    thing = x.reply.thing;
    spelled = unread_spells (promise_for c).form a b x.reply.thing e x.reply.spelled;
    replied = x.reply.replied;
  };
})

-- if an input is read, the answer is one to the input that the source told
moved : (c : Request) (b : Bool) (own input : List ℕ) (left after : Option (List ℕ)) (s : Status)
    (text : List ℕ) →
    reads (promise_for c).form ≡ b → (IsTrue b → left ≡ Some input) → IsReadWhole b own left after →
    IsAnswerTo (task_for c) own s text →
    IsAnswerTo (task_for c) input s text
moved c true own input left after s text e given whole a =
    subst (λ (i : List ℕ). IsAnswerTo (task_for c) i s text)
    (told_input input own left after (given refl) whole) a
moved c false own input left after s text e given whole a = unread_answer c own input s text e a

pub answer_to_input : (words : List (String Global)) (left after : Option (List ℕ)) (s : Status)
    (text input : List ℕ) → IsInput words left input →
    (a : IsRequestAnswer words left after s text) → IsAnswerTo (task_for a.request) input s text
answer_to_input words left after s text input given a =
    moved a.request (reads (promise_for a.request).form) a.input input left after s text refl
    (given a.request a.named) a.whole a.answer

-- ---- answers to an input

-- one whose status is that of an end is a reply with this end
pub ended_reply : (task : Task) (input text : List ℕ) (s : Status) (e : End) → s ≡ status_of e →
    IsAnswerTo task input s text →
    IsReply task input e text
ended_reply task input text s e is (too_long a) = absurd (no_end s Input e a.status_is refl is)
ended_reply task input text s e is (refused a) = absurd (no_end s Input e a.status_is refl is)
ended_reply task input text s e is (replied a) =
    subst (λ (d : End). IsReply task input d text) (one_end s a.end e a.status_is is) a.reply

-- so is a run whose status is that of an end
pub caused_reply : (words : List (String Global)) (input : List ℕ) (s : Status) (e : End)
    (r : Request) → s ≡ status_of e → IsNamed words r →
    IsCause words input s → (text : List ℕ) × IsReply (task_for r) input e text
caused_reply words input s e r is n (inl same) = absurd (no_end s Memory e same refl is)
caused_reply words input s e r is n (inr (inl same)) = absurd (no_end s ReadFault e same refl is)
caused_reply words input s e r is n (inr (inr (inl same))) =
    absurd (no_end s WriteFault e same refl is)
caused_reply words input s e r is n (inr (inr (inr (inl none)))) = absurd (none.1 r n)
caused_reply words input s e r is n (inr (inr (inr (inr (c, m, text, a))))) = (
  text,
  subst (λ (d : Request). IsReply (task_for d) input e text) (one_named words c r m n)
      (ended_reply (task_for c) input text s e is a),
)

-- its status is one of the task
status_of_answer : (c : Request) (input text : List ℕ) (s : Status) →
    IsAnswerTo (task_for c) input s text → IsStatusOf (task_for c) s
status_of_answer c input text s (too_long a) = inr (inr (inl (a.read, inr a.status_is)))
status_of_answer c input text s (refused a) =
    inr (inr (inl ((sound c).refusals input text a.refused, inr a.status_is)))
status_of_answer c input text s (replied a) =
    inr (inr (inr (a.end, a.status_is, (a.reply.thing, text, a.reply.replied))))

-- over an input in the form of the request and within the limit it is a reply
status_in_form : (c : Request) (input text : List ℕ) (s : Status) → IsInForm (task_for c) input →
    IsWithinLimit (task_for c) input →
    IsAnswerTo (task_for c) input s text → IsStatusOfReply (task_for c) input s
status_in_form c input text s form within (too_long a) = let short = within a.read in
    let long = a.long in absurd (omega arith)
status_in_form c input text s form within (refused a) =
    absurd ((sound c).form input text form.0 form.1 a.refused)
status_in_form c input text s form within (replied a) = (a.end, a.status_is, text, a.reply)

-- over one that is too long or outside the form it is a refusal
status_of_bad : (c : Request) (left : Option (List ℕ)) (input text : List ℕ) (s : Status) →
    IsBadInput (task_for c) left input →
    IsAnswerTo (task_for c) input s text → s ≡ Input
status_of_bad c left input text s bad (too_long a) = a.status_is
status_of_bad c left input text s bad (refused a) = a.status_is
status_of_bad c left input text s bad (replied a) = elim bad.bad [
  | inl long ↦ let short = a.within bad.read in absurd (omega arith)
  | inr line ↦ absurd ((sound c).form input line.0 a.reply.thing a.reply.spelled line.1)
]

-- an answer is no failure of the sink
pub no_write_fault : (words : List (String Global)) (Fault : Type 0) (left after : Option (List ℕ))
    (s : Status) (text : List ℕ) →
    IsAnswer words Fault left after s text → s ≡ WriteFault → ⊥
no_write_fault words Fault left after s text (no_request a) e = let is = a.status_is in cc
no_write_fault words Fault left after s text (read_fault a) e = let is = a.status_is in cc
no_write_fault words Fault left after s text (of_request a) e =
    not_answered (task_for a.request) a.input s WriteFault text e refl a.answer

-- and it is a failure of the source only if the source failed
pub failed_source : (words : List (String Global)) (Fault : Type 0) (left after : Option (List ℕ))
    (s : Status) (text : List ℕ) →
    IsAnswer words Fault left after s text → s ≡ ReadFault → Fault
failed_source words Fault left after s text (no_request a) e = absurd (let is = a.status_is in cc)
failed_source words Fault left after s text (read_fault a) e = a.failed
failed_source words Fault left after s text (of_request a) e =
    absurd (not_answered (task_for a.request) a.input s ReadFault text e refl a.answer)

-- nor is it that there was no memory
pub no_memory : (words : List (String Global)) (Fault : Type 0) (left after : Option (List ℕ))
    (s : Status) (text : List ℕ) →
    IsAnswer words Fault left after s text → s ≡ Memory → ⊥
no_memory words Fault left after s text (no_request a) e = let is = a.status_is in cc
no_memory words Fault left after s text (read_fault a) e = let is = a.status_is in cc
no_memory words Fault left after s text (of_request a) e =
    not_answered (task_for a.request) a.input s Memory text e refl a.answer

-- the lines of the answers to no input
fault_text : (words : List (String Global)) (Fault : Type 0) (left after : Option (List ℕ))
    (s : Status) (text : List ℕ) →
    IsAnswer words Fault left after s text → s ≡ ReadFault → text ≡ fault_line
fault_text words Fault left after s text (no_request a) e = absurd (let is = a.status_is in cc)
fault_text words Fault left after s text (read_fault a) e = a.spelled
fault_text words Fault left after s text (of_request a) e =
    absurd (not_answered (task_for a.request) a.input s ReadFault text e refl a.answer)

words_answer : (words : List (String Global)) (Fault : Type 0) (left after : Option (List ℕ))
    (s : Status) (text : List ℕ) →
    IsAnswer words Fault left after s text → s ≡ Words → NameNone words × (text ≡ words_line)
words_answer words Fault left after s text (no_request a) e = (a.unnamed, a.spelled)
words_answer words Fault left after s text (read_fault a) e = absurd (let is = a.status_is in cc)
words_answer words Fault left after s text (of_request a) e =
    absurd (not_answered (task_for a.request) a.input s Words text e refl a.answer)

-- words that name no request have one answer
unnamed_answer : (words : List (String Global)) (Fault : Type 0) (left after : Option (List ℕ))
    (s : Status) (text : List ℕ) →
    IsAnswer words Fault left after s text → NameNone words → s ≡ Words
unnamed_answer words Fault left after s text (no_request a) none = a.status_is
unnamed_answer words Fault left after s text (read_fault a) none = absurd (none a.request a.named)
unnamed_answer words Fault left after s text (of_request a) none = absurd (none a.request a.named)

-- ---- what is read

-- a request of words that read nothing reads nothing
reads_not : (words : List (String Global)) (c : Request) → IsNamed words c → ReadNothing words →
    reads (promise_for c).form ≡ false
reads_not words c m (inl none) = absurd (none c m)
reads_not words c m (inr n) = subst (λ (d : Request). reads (promise_for d).form ≡ false)
    (one_named words n.0 c n.1 m) n.2

-- so an answer to them leaves the source as it was, and so does none
unread_by_answer : (words : List (String Global)) (Fault : Type 0) (left left' : Option (List ℕ))
    (s : Status) (text : List ℕ) →
    IsAnswer words Fault left left' s text → ReadNothing words → left' ≡ left
unread_by_answer words Fault left left' s text (no_request a) nothing = a.unread
unread_by_answer words Fault left left' s text (read_fault a) nothing =
    absurd (not_both (reads (promise_for a.request).form)
    (reads_not words a.request a.named nothing) a.read)
unread_by_answer words Fault left left' s text (of_request a) nothing =
    subst (λ (b : Bool). IsReadWhole b a.input left left')
    (reads_not words a.request a.named nothing) a.whole

unread_unanswered : (words : List (String Global)) (left left' : Option (List ℕ)) →
    IsUnanswered words left left' → ReadNothing words →
    left' ≡ left
unread_unanswered words left left' (unread same) nothing = same
unread_unanswered words left left' (so_far u) nothing =
    absurd (not_both (reads (promise_for u.request).form)
    (reads_not words u.request u.named nothing) u.read)

module _ (words : List (String Global)) (Fault : Type 0) (input : List ℕ)
    (left' : Option (List ℕ)) where
  -- an input within the limit that was read whole was read to its end
  read_to_end : (b : Bool) (all : List ℕ) → IsTrue b → length input ≤ input_limit →
      IsReadWhole b all (Some input) left' → left' ≡ Some []
  read_to_end true all t within whole =
      let same : input ≡ all = whole.0 in
      whole.1 ∙ ap Some (drop_all (input_limit + 1) all (omega (arith, ap length same)))
  read_to_end false all t within whole = absurd (not_both false refl t)

  end_at : (s : Status) (text : List ℕ) → IsAnswer words Fault (Some input) left' s text →
      (s ≡ ReadFault → Fault → ⊥) → (c : Request) →
      IsNamed words c → IsTrue (reads (promise_for c).form) → length input ≤ input_limit →
      left' ≡ Some []
  end_at s text (no_request a) no_fault c n read within = absurd (a.unnamed c n)
  end_at s text (read_fault a) no_fault c n read within = absurd (no_fault a.status_is a.failed)
  end_at s text (of_request a) no_fault c n read within =
      read_to_end (reads (promise_for a.request).form) a.input
      (subst (λ (d : Request). IsTrue (reads (promise_for d).form))
      (one_named words c a.request n a.named) read) within a.whole

read_answer : (words : List (String Global)) (Fault : Type 0) (left left' : Option (List ℕ))
    (s r : Status) (text : List ℕ) (Unread : Type 0) →
    IsAnswer words Fault left left' s text →
    (s ≡ ReadFault → Fault → (r ≡ ReadFault) ⊎ ((r ≡ WriteFault) × Unread)) →
    IfSome left (λ input. (c : Request) → IsNamed words c → IsTrue (reads (promise_for c).form) →
    length input ≤ input_limit →
    r ≢ Memory → r ≢ ReadFault → (r ≡ WriteFault → Unread → ⊥) → left' ≡ Some [])
read_answer words Fault None left' s r text Unread a fault = tt
read_answer words Fault (Some input) left' s r text Unread a fault = λ c n read within m f w.
    end_at words Fault input left' s text a
    (λ e failed. elim (fault e failed) [ inl q ↦ f q | inr q ↦ w q.0 q.1 ]) c n read within

-- what holds of a value follows from a stronger fact, or from none
pub weaker : {A : Type 0} (o : Option A) (P Q : A → Type 0) → ((x : A) → P x → Q x) → IfSome o P →
    IfSome o Q
weaker None P Q f h = tt
weaker (Some x) P Q f h = f x h

always : {A : Type 0} (o : Option A) (P : A → Type 0) → ((x : A) → P x) → IfSome o P
always None P f = tt
always (Some x) P f = f x

-- a reply keeps what its request promises
true_done : (words : List (String Global)) (input before : List ℕ) (written : Option (List ℕ)) →
    IsDoneRun words input before written →
    IsTrueRun words input before written
true_done words input before written done = record {
  request = done.request;
  named = done.named;
  text = done.text;
  true_reply = record {
    thing = done.reply.thing;
    spelled = done.reply.spelled;
    holds = (sound done.request).work _ done.reply.thing done.text done.reply.spelled
        done.reply.replied;
  };
  gain = done.gain;
}

-- ---- the clauses

module _ (run : Run) where
  -- the source failed, so that it was answered
  abbrev Fault : Type 0
  Fault = IsSourceFault run.steady run.read_faults run.read_faults_after

  pub ends_clause : IsOutcome run → (c : Request) → IsNamed run.words c →
      IsStatusOf (task_for c) run.status
  ends_clause (silent o) c n = inl o.status_is
  ends_clause (cut_off o) c n = inr (inl o.status_is)
  ends_clause (told o) c n = elim o.answer [
    | no_request a ↦ absurd (a.unnamed c n)
    | read_fault a ↦ inr (inr (inl (
      subst (λ (d : Request). IsTrue (reads (promise_for d).form))
          (one_named run.words a.request c a.named n) a.read,
      inl a.status_is,
    )))
    | of_request a ↦ subst (λ (d : Request). IsStatusOf (task_for d) run.status)
        (one_named run.words a.request c a.named n)
        (status_of_answer a.request a.input o.text run.status a.answer)
  ]

  pub cause_clause : IsOutcome run → (input : List ℕ) → IsGiven run input →
      IsCause run.words input run.status
  cause_clause (silent o) input t = inl o.status_is
  cause_clause (cut_off o) input t = inr (inr (inl o.status_is))
  cause_clause (told o) input t = elim o.answer [
    | no_request a ↦ inr (inr (inr (inl (a.status_is, a.unnamed))))
    | read_fault a ↦ inr (inl a.status_is)
    | of_request a ↦ inr (inr (inr (inr (
      a.request,
      a.named,
      o.text,
      answer_to_input run.words run.left run.left_after run.status o.text input t a,
    ))))
  ]

  pub reply_clause : IsOutcome run → run.status ≡ Done → (input : List ℕ) → IsGiven run input →
      OfWritten run (IsDoneRun run.words input)
  reply_clause (silent o) e input t = absurd (let is = o.status_is in cc)
  reply_clause (cut_off o) e input t = absurd (let is = o.status_is in cc)
  reply_clause (told o) e input t = elim o.answer [
    | no_request a ↦ absurd (let is = a.status_is in cc)
    | read_fault a ↦ absurd (let is = a.status_is in cc)
    | of_request a ↦
        let answer = answer_to_input run.words run.left run.left_after run.status o.text input t
        a in
        let reply = ended_reply (task_for a.request) input o.text run.status end.Done e answer in
        weaker run.written (λ before. run.written_after ≡ Some (before ++ o.text))
        (λ before. IsDoneRun run.words input before run.written_after)
        (λ before gain. record {
          request = a.request;
          named = a.named;
          text = o.text;
          reply = reply;
          gain = gain;
        }) o.gain
  ]

  pub headline_clause : IsOutcome run → run.status ≡ Done → (input : List ℕ) → IsGiven run input →
      OfWritten run (IsTrueRun run.words input)
  headline_clause o e input t =
      weaker run.written (λ before. IsDoneRun run.words input before run.written_after)
      (λ before. IsTrueRun run.words input before run.written_after)
      (λ before. true_done run.words input before run.written_after) (reply_clause o e input t)

  pub memory_clause : IsOutcome run → run.status ≡ Memory → run.written_after ≡ run.written
  memory_clause (silent o) e = o.unwritten
  memory_clause (told o) e =
      absurd (no_memory run.words Fault run.left run.left_after run.status o.text o.answer e)
  memory_clause (cut_off o) e = absurd (let is = o.status_is in cc)

  pub fault_clause : IsOutcome run → run.status ≡ ReadFault →
      Gains run.written run.written_after fault_line
  fault_clause (silent o) e = absurd (let is = o.status_is in cc)
  fault_clause (told o) e =
      subst (Gains run.written run.written_after)
      (fault_text run.words Fault run.left run.left_after run.status o.text o.answer e) o.gain
  fault_clause (cut_off o) e = absurd (let is = o.status_is in cc)

  pub words_told_clause : IsOutcome run → run.status ≡ Words →
      Gains run.written run.written_after words_line
  words_told_clause (silent o) e = absurd (let is = o.status_is in cc)
  words_told_clause (told o) e =
      subst (Gains run.written run.written_after)
      (words_answer run.words Fault run.left run.left_after run.status o.text o.answer e).1
      o.gain
  words_told_clause (cut_off o) e = absurd (let is = o.status_is in cc)

  pub words_clause : IsOutcome run → run.status ≡ Words → NameNone run.words
  words_clause (silent o) e = absurd (let is = o.status_is in cc)
  words_clause (told o) e =
      (words_answer run.words Fault run.left run.left_after run.status o.text o.answer e).0
  words_clause (cut_off o) e = absurd (let is = o.status_is in cc)

  pub command_clause : IsOutcome run → NameNone run.words →
      (run.status ≡ Words) ⊎ (run.status ≡ WriteFault) ⊎ (run.status ≡ Memory)
  command_clause (silent o) none = inr (inr o.status_is)
  command_clause (told o) none =
      inl (unnamed_answer run.words Fault run.left run.left_after run.status o.text o.answer none)
  command_clause (cut_off o) none = inr (inl o.status_is)

  pub unread_clause : IsOutcome run → ReadNothing run.words → run.left_after ≡ run.left
  unread_clause (silent o) = unread_unanswered run.words run.left run.left_after o.unanswered
  unread_clause (told o) =
      unread_by_answer run.words Fault run.left run.left_after run.status o.text o.answer
  unread_clause (cut_off o) =
      unread_by_answer run.words Fault run.left run.left_after o.status o.text o.answer

  pub input_clause : IsOutcome run →
      IfSome run.left (λ input. (c : Request) → IsNamed run.words c →
      IsTrue (reads (promise_for c).form) →
      length input ≤ input_limit → run.status ≢ Memory → run.status ≢ ReadFault →
      (run.status ≡ WriteFault → SourceFailed run → ⊥) →
      run.left_after ≡ Some [])
  input_clause (silent o) =
      always run.left _ (λ input c n read within memory. absurd (memory o.status_is))
  input_clause (told o) =
      read_answer run.words Fault run.left run.left_after run.status run.status o.text
      (SourceFailed run) o.answer (λ e failed. inl e)
  input_clause (cut_off o) =
      read_answer run.words Fault run.left run.left_after o.status run.status o.text
      (SourceFailed run) o.answer
      (λ e failed. inr (o.status_is, failed.0))

  source_failed : IsOutcome run → run.status ≡ ReadFault → Fault
  source_failed (silent o) e = absurd (let is = o.status_is in cc)
  source_failed (told o) e =
      failed_source run.words Fault run.left run.left_after run.status o.text o.answer e
  source_failed (cut_off o) e = absurd (let is = o.status_is in cc)

  pub read_fault_clause : IsOutcome run → run.status ≡ ReadFault → SourceFailed run
  read_fault_clause o e = (source_failed o e).0

  pub steady_clause : IsOutcome run → IsTrue run.steady → run.status ≢ ReadFault
  steady_clause o steady e = (source_failed o e).1 steady

  pub sure_clause : IsOutcome run → run.status ≡ WriteFault → IsUnsure run
  sure_clause (silent o) e = absurd (let is = o.status_is in cc)
  sure_clause (told o) e =
      absurd (no_write_fault run.words Fault run.left run.left_after run.status o.text o.answer e)
  sure_clause (cut_off o) e = (o.status, o.text, o.answer, o.unsure)

  pub complete_clause : IsOutcome run → (run.status ≡ WriteFault → SinkFailed run) →
      (c : Request) (input : List ℕ) → IsNamed run.words c →
      IsGoodInput (task_for c) run.left input →
      (IsTrue (reads (promise_for c).form) → SourceFailed run → ⊥) → (SinkFailed run → ⊥) →
      (run.status ≡ Memory) ⊎ IsStatusOfReply (task_for c) input run.status
  complete_clause (silent o) f c input n i x y = inl o.status_is
  complete_clause (cut_off o) f c input n i x y = absurd (y (f o.status_is))
  complete_clause (told o) f c input n i x y = elim o.answer [
    | no_request a ↦ absurd (a.unnamed c n)
    | read_fault a ↦
        let read = subst (λ (d : Request). IsTrue (reads (promise_for d).form))
        (one_named run.words a.request c a.named n) a.read in
        absurd (x read a.failed.0)
    | of_request a ↦
        let told_input : IsGiven run input = λ d m read.
        i.told (subst (λ (e : Request). IsTrue (reads (promise_for e).form))
        (one_named run.words d c m n) read) in
        let answer = answer_to_input run.words run.left run.left_after run.status o.text input
        told_input a in
        inr (status_in_form c input o.text run.status i.form i.within
        (subst (λ (d : Request). IsAnswerTo (task_for d) input run.status o.text)
        (one_named run.words a.request c a.named n) answer))
  ]

  pub refused_clause : IsOutcome run → (run.status ≡ WriteFault → SinkFailed run) →
      (c : Request) (input : List ℕ) → IsNamed run.words c →
      IsBadInput (task_for c) run.left input → (SourceFailed run → ⊥) → (SinkFailed run → ⊥) →
      (run.status ≡ Memory) ⊎ (run.status ≡ Input)
  refused_clause (silent o) f c input n bad x y = inl o.status_is
  refused_clause (cut_off o) f c input n bad x y = absurd (y (f o.status_is))
  refused_clause (told o) f c input n bad x y = elim o.answer [
    | no_request a ↦ absurd (a.unnamed c n)
    | read_fault a ↦ absurd (x a.failed.0)
    | of_request a ↦
        let answer = answer_to_input run.words run.left run.left_after run.status o.text input
        (λ d m read. bad.told) a in
        inr (status_of_bad c run.left input o.text run.status bad
        (subst (λ (d : Request). IsAnswerTo (task_for d) input run.status o.text)
        (one_named run.words a.request c a.named n) answer))
  ]
