-- What a run was given, and what it did (own).
use Rattle.std.specs.Prelude.{ℕ, Bool, List, Option, IfSome, String}
use Rattle.std.specs.declared.alloc.Global.{Global}
use Rattle.gj_port.specs.Faults.{HasFailed}
use Rattle.gj_port.specs.Runs.{IsSourceFault}
use Rattle.gj_top.specs.declared.status.Status.{Status}
use Rattle.gj_top.specs.Answer.{IsAnswer}
use Rattle.gj_top.specs.Causes.{IsInput}

-- the words and the status; of the source whether it never fails, what it had left before and
-- after, if it tells, and its counts of faults; of the sink how many bytes it was sure to take, what
-- it had taken before and after, if it tells, and its counts of faults
pub record Run : Type 0 where
  pub words : List (String Global)
  pub steady : Bool
  pub left : Option (List ℕ)
  pub left_after : Option (List ℕ)
  pub read_faults : ℕ
  pub read_faults_after : ℕ
  pub sure : ℕ
  pub written : Option (List ℕ)
  pub written_after : Option (List ℕ)
  pub write_faults : ℕ
  pub write_faults_after : ℕ
  pub status : Status

-- the source failed
abbrev pub SourceFailed : Run → Type 0
SourceFailed run = HasFailed run.read_faults run.read_faults_after

-- the sink failed
abbrev pub SinkFailed : Run → Type 0
SinkFailed run = HasFailed run.write_faults run.write_faults_after

-- the source told this input, if the words name a request that reads one
abbrev pub IsGiven : Run → List ℕ → Type 0
IsGiven run input = IsInput run.words run.left input

-- this holds of what the sink had taken before and after, if it tells
abbrev pub OfWritten : Run → (List ℕ → Option (List ℕ) → Type 0) → Type 0
OfWritten run P = IfSome run.written (λ before. P before run.written_after)

-- the status and the text are the answer to the words
abbrev pub IsAnswerOf : Run → Status → List ℕ → Type 0
IsAnswerOf run status text =
    IsAnswer run.words (IsSourceFault run.steady run.read_faults run.read_faults_after) run.left
    run.left_after status text
