-- What a call with the word `problem` says (own).
use Rattle.std.specs.Prelude.{ℕ, ◌≡◌, ◌≢◌, ◌⊎◌, ◌<◌, ◌≤◌, List, codes, length}
use Rattle.gj_problem_text.specs.SafeInputs.{IsSafeInput}
use Rattle.gj_problem_text.specs.declared.input.SafeInput.{SafeInput}
use Rattle.gj_top.specs.declared.reply.End.{End}
use Rattle.gj_top.specs.declared.reply.End.TheVariants as end
use Rattle.gj_top.specs.Code.{code_of}
use Rattle.gj_top.specs.InputRead.{input_limit}
use Rattle.gj_top.specs.Lines.{long_line}
use Rattle.gj_top.specs.Problem.{problem, AreProblemCuts, IsProblemReply, RefusesProblem}
use Rattle.gj_top.specs.Reply.{status_of}
use Rattle.gj_top.specs.Task.{IsReply}

-- the word
abbrev pub problem_word : List ℕ
problem_word = codes "problem"

-- the input is longer than the limit, or is no problem text, and the text says so
abbrev pub IsProblemRefusal : List ℕ → List ℕ → Type 0
IsProblemRefusal input text = ((input_limit < length input) × (text ≡ long_line))
    ⊎ RefusesProblem input text

-- a call that answers what is asked has this code
abbrev pub IsProblemCode : SafeInput → ℕ → Type 0
IsProblemCode asked code = (e : End) × (text : List ℕ) × (code ≡ code_of (status_of e))
    × IsProblemReply asked e text

-- a call over an input, what its output took and its code
pub record IsProblemCall (input front : List ℕ) (code : ℕ) : Type 0 where
  -- each cut that was written holds at all feasible points of the problem
  pub headline : code ≡ 0 → (asked : SafeInput) × IsSafeInput input asked
      × AreProblemCuts asked front
  -- what was written is the text of the cuts, or a line that says why there are none
  pub reply : code ≡ 0 → IsReply problem input end.Done front
  pub no_function : code ≡ 9 → IsReply problem input end.NoFunction front
  pub not_continuous : code ≡ 8 → IsReply problem input end.NotContinuous front
  pub refused : code ≡ 3 → IsProblemRefusal input front
  -- a problem text within the limit is answered as its rule asks, unless there is no room
  pub complete : (asked : SafeInput) → IsSafeInput input asked → length input ≤ input_limit →
      (code ≢ 3) × (code ≢ 5 → code ≢ 6 → IsProblemCode asked code)
  pub ends : (code ≡ 0) ⊎ (code ≡ 3) ⊎ (code ≡ 5) ⊎ (code ≡ 6) ⊎ (code ≡ 8) ⊎ (code ≡ 9)
