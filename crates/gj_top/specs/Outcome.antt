-- What came of a run: which answer it had, and what the sink, if it tells its bytes, has taken of
-- it (own).
use Rattle.std.specs.Prelude.{ℕ, ◌≡◌, ◌<◌, List, length}
use Rattle.gj_port.specs.Runs.{Gains, GainsFront}
use Rattle.gj_top.specs.declared.status.Status.{Status}
use Rattle.gj_top.specs.declared.status.Status.TheVariants.{WriteFault, Memory}
use Rattle.gj_top.specs.Answer.{IsUnanswered}
use Rattle.gj_top.specs.Run.{Run, IsAnswerOf}

-- there was no memory for an answer, and nothing was written
pub record IsSilent (run : Run) : Type 0 where
  pub status_is : run.status ≡ Memory
  pub unanswered : IsUnanswered run.words run.left run.left_after
  pub unwritten : run.written_after ≡ run.written

-- the answer was written, and the status is its status
pub record IsTold (run : Run) : Type 0 where
  pub text : List ℕ
  pub answer : IsAnswerOf run run.status text
  pub gain : Gains run.written run.written_after text

-- the sink, which was not sure of the whole text of the answer, failed and took a front of it
pub record IsCutOff (run : Run) : Type 0 where
  pub status_is : run.status ≡ WriteFault
  pub status : Status
  pub text : List ℕ
  pub answer : IsAnswerOf run status text
  pub unsure : run.sure < length text
  pub gain : GainsFront run.written run.written_after text

-- one of these
pub data IsOutcome (run : Run) : Type 0 where
  silent : IsSilent run → IsOutcome run
  told : IsTold run → IsOutcome run
  cut_off : IsCutOff run → IsOutcome run

-- the sink was not sure of the whole text of an answer that the run can have had
abbrev pub IsUnsure : Run → Type 0
IsUnsure run = (status : Status) × (text : List ℕ) × IsAnswerOf run status text
    × (run.sure < length text)
