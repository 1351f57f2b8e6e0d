-- The answer of the program: its status and its text, and what it read for them (own).
use Rattle.std.specs.Prelude.{ℕ, ◌≡◌, ◌<◌, ◌≤◌, List, length, IsTrue, Option, String}
use Rattle.std.specs.declared.alloc.Global.{Global}
use Rattle.gj_top.specs.InputRead.{input_limit, IsReadWhole, IsReadInPart}
use Rattle.gj_top.specs.Lines.{words_line, fault_line, long_line}
use Rattle.gj_words.specs.declared.requests.Request.{Request}
use Rattle.gj_top.specs.declared.answer.Answer.{Answer}
use Rattle.gj_top.specs.declared.answer.Answer.TheVariants as answer
use Rattle.gj_top.specs.declared.reply.End.{End}
use Rattle.gj_top.specs.declared.status.Status.{Status}
use Rattle.gj_top.specs.declared.status.Status.TheVariants.{Words, Input, ReadFault}
use Rattle.gj_top.specs.Command.{IsNamed, NameNone, promise_for, task_for}
use Rattle.gj_top.specs.Reply.{status_of}
use Rattle.gj_top.specs.Promise.{reads}
use Rattle.gj_top.specs.Task.{Task, IsReply}

-- ---- the answer to an input, if nothing fails

-- the input is longer than the limit
pub record IsTooLong (task : Task) (input : List ℕ) (status : Status) (text : List ℕ) : Type 0 where
  pub read : IsTrue (reads task.promise.form)
  pub long : input_limit < length input
  pub status_is : status ≡ Input
  pub spelled : text ≡ long_line

-- the input, if one is read, is within the limit
abbrev pub IsWithinLimit : Task → List ℕ → Type 0
IsWithinLimit task input = IsTrue (reads task.promise.form) → length input ≤ input_limit

-- the input is outside its form
pub record IsRefused (task : Task) (input : List ℕ) (status : Status) (text : List ℕ) : Type 0 where
  pub within : IsWithinLimit task input
  pub status_is : status ≡ Input
  pub refused : task.work.refuses input text

-- the input is in its form, and the reply ends with this status
pub record IsReplied (task : Task) (input : List ℕ) (status : Status) (text : List ℕ) : Type 0 where
  pub within : IsWithinLimit task input
  pub end : End
  pub status_is : status ≡ status_of end
  pub reply : IsReply task input end text

-- the status and the text are the answer of a task to an input
pub data IsAnswerTo (task : Task) (input : List ℕ) (status : Status) (text : List ℕ) : Type 0 where
  too_long : IsTooLong task input status text → IsAnswerTo task input status text
  refused : IsRefused task input status text → IsAnswerTo task input status text
  replied : IsReplied task input status text → IsAnswerTo task input status text

-- ---- the answer to words, and what the source, if it tells its bytes, has left

-- the words name no request: the source is as it was
pub record IsWordsAnswer (words : List (String Global)) (left after : Option (List ℕ))
    (status : Status) (text : List ℕ) : Type 0 where
  pub unnamed : NameNone words
  pub unread : after ≡ left
  pub status_is : status ≡ Words
  pub spelled : text ≡ words_line

-- the words name a request, and the source failed: at most the limit was read
pub record IsFaultAnswer (words : List (String Global)) (Fault : Type 0)
    (left after : Option (List ℕ)) (status : Status) (text : List ℕ) :
    Type 0 where
  pub request : Request
  pub named : IsNamed words request
  pub read : IsTrue (reads (promise_for request).form)
  pub failed : Fault
  pub part : IsReadInPart left after
  pub status_is : status ≡ ReadFault
  pub spelled : text ≡ fault_line

-- the words name a request, and this is the answer to it over the input
pub record IsRequestAnswer (words : List (String Global)) (left after : Option (List ℕ))
    (status : Status) (text : List ℕ) : Type 0 where
  pub request : Request
  pub named : IsNamed words request
  pub input : List ℕ
  pub whole : IsReadWhole (reads (promise_for request).form) input left after
  pub answer : IsAnswerTo (task_for request) input status text

-- the status and the text are the answer to the words, if `Fault` says that the source failed
pub data IsAnswer (words : List (String Global)) (Fault : Type 0) (left after : Option (List ℕ))
    (status : Status) (text : List ℕ) : Type 0 where
  no_request : IsWordsAnswer words left after status text →
      IsAnswer words Fault left after status text
  read_fault : IsFaultAnswer words Fault left after status text →
      IsAnswer words Fault left after status text
  of_request : IsRequestAnswer words left after status text →
      IsAnswer words Fault left after status text

-- the words name a request that reads an input, and at most the limit was read of it
pub record IsReadSoFar (words : List (String Global)) (left after : Option (List ℕ)) : Type 0 where
  pub request : Request
  pub named : IsNamed words request
  pub read : IsTrue (reads (promise_for request).form)
  pub part : IsReadInPart left after

-- there is no answer for want of memory: the source is as it was, or was read in part
pub data IsUnanswered (words : List (String Global)) (left after : Option (List ℕ)) : Type 0 where
  unread : after ≡ left → IsUnanswered words left after
  so_far : IsReadSoFar words left after → IsUnanswered words left after

-- ---- an answer as a value of the program

abbrev pub answer_status : Answer → Status
answer_status answer.NoRequest = Words
answer_status answer.ReadFault = ReadFault
answer_status answer.TooLong = Input
answer_status (answer.Refused text) = Input
answer_status (answer.Replied reply) = status_of reply.end

abbrev pub answer_text : Answer → List ℕ
answer_text answer.NoRequest = words_line
answer_text answer.ReadFault = fault_line
answer_text answer.TooLong = long_line
answer_text (answer.Refused text) = text.items
answer_text (answer.Replied reply) = reply.text.items
