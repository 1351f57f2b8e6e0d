-- What holds of each run of the program, beside the headline (own).
use Rattle.std.specs.Prelude.{ℕ, ◌≡◌, ◌≢◌, ◌⊎◌, ◌≤◌, Bool, List, [], length, IsTrue, Some, IfSome}
use Rattle.gj_port.specs.Runs.{Gains}
use Rattle.gj_shape.specs.FunctionData.{FunctionData}
use Rattle.gj_shape.specs.Table.{IsMinimal}
use Rattle.gj_shape.specs.TwoSlopes.{HasTwoSlopes}
use Rattle.gj_words.specs.declared.requests.Request.{Request}
use Rattle.gj_top.specs.declared.status.Status.TheVariants.{Done, Words, Input, ReadFault, WriteFault, Memory, Wide, NotContinuous}
use Rattle.gj_top.specs.Command.{IsNamed, NameNone, promise_for, task_for}
use Rattle.gj_top.specs.Promise.{reads}
use Rattle.gj_top.specs.InputRead.{input_limit}
use Rattle.gj_top.specs.Lines.{words_line, fault_line}
use Rattle.gj_top.specs.Asked.{AskIfExtreme, AskIfExtremeWithJumps}
use Rattle.gj_top.specs.Continuity.{Jumps}
use Rattle.gj_top.specs.Narrow.{HasUncoveredInterval, HasAtMostComponents}
use Rattle.gj_top.specs.Decisive.{IsDecisive, IsCalledExtreme, IsLimitDecisive}
use Rattle.gj_top.specs.Causes.{IsGoodInput, IsBadInput, IsDoneRun, ReadNothing, IsStatusOf, IsCause, IsStatusOfReply}
use Rattle.gj_top.specs.Run.{Run, SourceFailed, SinkFailed, IsGiven, OfWritten}
use Rattle.gj_top.specs.Outcome.{IsOutcome, IsUnsure}

-- a field for each clause
pub record IsRun (run : Run) : Type 0 where
  -- with Done, what was written is the reply of the request to what the input spells, every byte
  pub reply : run.status ≡ Done → (input : List ℕ) → IsGiven run input →
      OfWritten run (IsDoneRun run.words input)
  -- the answer was written, all of it, or as far as the sink took it, or nothing for want of memory
  pub outcome : IsOutcome run
  -- what was written if no input was answered
  pub memory : run.status ≡ Memory → run.written_after ≡ run.written
  pub fault_told : run.status ≡ ReadFault → Gains run.written run.written_after fault_line
  pub words_told : run.status ≡ Words → Gains run.written run.written_after words_line
  -- the words alone decide whether they name a request, and then which statuses there can be
  pub words : run.status ≡ Words → NameNone run.words
  pub command : NameNone run.words → (run.status ≡ Words) ⊎ (run.status ≡ WriteFault)
      ⊎ (run.status ≡ Memory)
  pub ends : (r : Request) → IsNamed run.words r → IsStatusOf (task_for r) run.status
  -- each status has its cause in the words and the input
  pub cause : (input : List ℕ) → IsGiven run input → IsCause run.words input run.status
  -- an input in its form is answered, unless there was no memory or a fault, and another is refused
  pub complete : (r : Request) (input : List ℕ) → IsNamed run.words r →
      IsGoodInput (task_for r) run.left input →
      (IsTrue (reads (promise_for r).form) → SourceFailed run → ⊥) → (SinkFailed run → ⊥) →
      (run.status ≡ Memory) ⊎ IsStatusOfReply (task_for r) input run.status
  pub refused : (r : Request) (input : List ℕ) → IsNamed run.words r →
      IsBadInput (task_for r) run.left input →
      (SourceFailed run → ⊥) → (SinkFailed run → ⊥) → (run.status ≡ Memory) ⊎ (run.status ≡ Input)
  -- words that read nothing leave the source as it was
  pub unread : ReadNothing run.words → run.left_after ≡ run.left
  -- an input within the limit is read to its end, whether or not the sink took the answer, unless
  -- there was no memory or the source failed
  pub input : IfSome run.left (λ told. (r : Request) → IsNamed run.words r →
      IsTrue (reads (promise_for r).form) → length told ≤ input_limit →
      run.status ≢ Memory → run.status ≢ ReadFault →
      (run.status ≡ WriteFault → SourceFailed run → ⊥) → run.left_after ≡ Some [])
  -- a fault of the source is answered only if there was one
  pub read_fault : run.status ≡ ReadFault → SourceFailed run
  pub steady : IsTrue run.steady → run.status ≢ ReadFault
  pub read_count : run.read_faults ≤ run.read_faults_after
  -- so is one of the sink, and only if the sink was not sure of the whole answer
  pub write_fault : run.status ≡ WriteFault → SinkFailed run
  pub sure : run.status ≡ WriteFault → IsUnsure run
  pub write_count : run.write_faults ≤ run.write_faults_after
  -- `extreme` never ends with Wide on a function that has an uncovered interval, or at most four
  -- components
  pub narrow : (input : List ℕ) (json : Bool) (f : FunctionData) → IsGiven run input →
      AskIfExtreme json run.words input f →
      HasUncoveredInterval f ⊎ HasAtMostComponents 4 f → run.status ≢ Wide
  -- and it calls a function extreme exactly if it is continuous and its table of order 4 q is extreme
  pub order_4q : run.status ≡ Done → (input : List ℕ) (json : Bool) (f : FunctionData) →
      IsGiven run input → AskIfExtreme json run.words input f →
      OfWritten run (IsDecisive json f)
  -- of a minimal function with two slopes it tells neither that a number is too wide nor that the
  -- function jumps, and with Done it calls it extreme
  pub two_slopes : (input : List ℕ) (json : Bool) (f : FunctionData) → IsGiven run input →
      AskIfExtreme json run.words input f →
      IsMinimal f → HasTwoSlopes f → (run.status ≢ Wide) × (run.status ≢ NotContinuous)
  pub called_extreme : run.status ≡ Done → (input : List ℕ) (json : Bool) (f : FunctionData) →
      IsGiven run input →
      AskIfExtreme json run.words input f → IsMinimal f → HasTwoSlopes f →
      OfWritten run (IsCalledExtreme json f)
  -- with `--jumps` it calls a function that jumps extreme exactly if it is minimal and no average of
  -- two different minimal functions
  pub by_limits : run.status ≡ Done → (input : List ℕ) (json : Bool) (f : FunctionData) →
      IsGiven run input →
      AskIfExtremeWithJumps json run.words input f → Jumps f →
      OfWritten run (IsLimitDecisive json f)
