-- The command `demo`: the summary of the decision on a function that no text gives (own).
use Rattle.std.specs.Prelude.{ℕ, List}
use Rattle.gj_shape.specs.FunctionData.{FunctionData, IsContinuous}
use Rattle.gj_shape.specs.Table.{IsMinimal}
use Rattle.gj_shape.specs.declared.extremality.Halves.{Halves}
use Rattle.gj_proof.specs.Meaning.{ShowHalves}
use Rattle.gj_demo.specs.Demo.{IsDemo}
use Rattle.gj_demo.specs.Summary.{HasSummary}
use Rattle.gj_top.specs.Promise.{Promise}
use Rattle.gj_top.specs.Promise.Form.{reading_nothing}
use Rattle.gj_top.specs.Task.{Task, EndsDone}

-- the headline: the n-th function is minimal and, as the halves show, not extreme; what the text
-- counts is said by the reply
pub record IsTrueDemonstration (n : ℕ) (text : List ℕ) : Type 0 where
  pub function : FunctionData
  pub halves : Halves
  pub is_function : IsDemo n function
  pub continuous : IsContinuous function
  pub minimal : IsMinimal function
  pub shown : ShowHalves function halves

abbrev pub demo_promise : ℕ → Promise
demo_promise n = record { Thing = ℕ; form = reading_nothing n; headline = IsTrueDemonstration }

-- no input is refused, since none is read
abbrev pub demo : ℕ → Task
demo n = record {
  promise = demo_promise n;
  work = record { refuses = λ input text. ⊥; replies = EndsDone HasSummary };
}
