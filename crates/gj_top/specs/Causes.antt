-- What the status of a run says of its words and its input (own).
use Rattle.std.specs.Prelude.{ℕ, ◌≡◌, ◌⊎◌, ◌<◌, false, List, ◌++◌, length, IsTrue, Option, Some, String}
use Rattle.std.specs.declared.alloc.Global.{Global}
use Rattle.gj_words.specs.declared.requests.Request.{Request}
use Rattle.gj_top.specs.declared.reply.End.{End}
use Rattle.gj_top.specs.declared.reply.End.TheVariants as end
use Rattle.gj_top.specs.declared.status.Status.{Status}
use Rattle.gj_top.specs.declared.status.Status.TheVariants.{Words, Input, ReadFault, WriteFault, Memory}
use Rattle.gj_top.specs.Command.{IsNamed, NameNone, promise_for, task_for}
use Rattle.gj_top.specs.Reply.{status_of}
use Rattle.gj_top.specs.InputRead.{input_limit}
use Rattle.gj_top.specs.Promise.{reads, IsTrueReply}
use Rattle.gj_top.specs.Task.{Task, IsInForm, IsReply, HasEnd}
use Rattle.gj_top.specs.Answer.{IsAnswerTo, IsWithinLimit}

-- the input of a run: the source told it, if the words name a request that reads one
abbrev pub IsInput : List (String Global) → Option (List ℕ) → List ℕ → Type 0
IsInput words left input = (r : Request) → IsNamed words r → IsTrue (reads (promise_for r).form) →
    left ≡ Some input

-- the headline: the words name a request, the input is in its form, and what was written keeps what
-- the request promises
pub record IsTrueRun (words : List (String Global)) (input before : List ℕ)
    (written : Option (List ℕ)) : Type 0 where
  pub request : Request
  pub named : IsNamed words request
  pub text : List ℕ
  pub true_reply : IsTrueReply (promise_for request) input text
  pub gain : written ≡ Some (before ++ text)

-- the words name a request, and what was written is the reply to what the input spells, as the
-- request's task has it
pub record IsDoneRun (words : List (String Global)) (input before : List ℕ)
    (written : Option (List ℕ)) : Type 0 where
  pub request : Request
  pub named : IsNamed words request
  pub text : List ℕ
  pub reply : IsReply (task_for request) input end.Done text
  pub gain : written ≡ Some (before ++ text)

-- the words name no request, or one that reads nothing
abbrev pub ReadNothing : List (String Global) → Type 0
ReadNothing words = NameNone words
    ⊎ ((r : Request) × IsNamed words r × (reads (promise_for r).form ≡ false))

-- the statuses of a task: want of memory and a failing sink come with each, a failing source and a
-- refused input with those that read, and else an end of its replies
abbrev pub IsStatusOf : Task → Status → Type 0
IsStatusOf task s =
    (s ≡ Memory)
    ⊎ (s ≡ WriteFault)
    ⊎ (IsTrue (reads task.promise.form) × ((s ≡ ReadFault) ⊎ (s ≡ Input)))
    ⊎ ((end : End) × (s ≡ status_of end) × HasEnd task end)

-- why a run over this input has the status: there was no memory, the source or the sink failed, the
-- words name no request, or it is the status of the answer to the input
abbrev pub IsCause : List (String Global) → List ℕ → Status → Type 0
IsCause words input s =
    (s ≡ Memory)
    ⊎ (s ≡ ReadFault)
    ⊎ (s ≡ WriteFault)
    ⊎ ((s ≡ Words) × NameNone words)
    ⊎ ((r : Request) × IsNamed words r × (text : List ℕ) × IsAnswerTo (task_for r) input s text)

-- an input in the form of the task; if the task reads one, the source told it, and it is within the
-- limit
pub record IsGoodInput (task : Task) (left : Option (List ℕ)) (input : List ℕ) : Type 0 where
  pub told : IsTrue (reads task.promise.form) → left ≡ Some input
  pub within : IsWithinLimit task input
  pub form : IsInForm task input

-- an input that the source told to a task that reads one, and that is too long or outside its form
pub record IsBadInput (task : Task) (left : Option (List ℕ)) (input : List ℕ) : Type 0 where
  pub read : IsTrue (reads task.promise.form)
  pub told : left ≡ Some input
  pub bad : (input_limit < length input) ⊎ ((text : List ℕ) × task.work.refuses input text)

-- the input spells a thing, and the status is that of its reply
abbrev pub IsStatusOfReply : Task → List ℕ → Status → Type 0
IsStatusOfReply task input s = (end : End) × (s ≡ status_of end) × (text : List ℕ)
    × IsReply task input end text
