-- The command `problem`: the text of a mixed-integer program with multipliers is answered with the
-- cuts of its rows, by a function in front of it or by the mixed-integer cut (Gomory 1960; Gomory
-- and Johnson 1972; Cook, Dash, Fukasawa and Goycoolea 2009; the form is own).
use Rattle.std.specs.Prelude.{ℕ, ◌≡◌, List, [], ◌∷◌, ◌++◌, All, length, codes, flat_map}
use Rattle.gj_frac.specs.declared.Frac.{Frac}
use Rattle.gj_function_lines.specs.FunctionLines.{line}
use Rattle.gj_safe_cut.specs.SafeCuts.{SafeCutHolds}
use Rattle.gj_safe_cut.specs.declared.cut.SafeCut.{SafeCut}
use Rattle.gj_proof.specs.CutRules.{MakesContinuousCuts}
use Rattle.gj_proof.specs.ProofText.{AreSubjectLines, subject_of_rule}
use Rattle.gj_problem_text.specs.CutText.{cut_lines, IsCutsTextBy}
use Rattle.gj_problem_text.specs.SafeInputs.{IsSafeInput, IsFirstFaultOfInput}
use Rattle.gj_problem_text.specs.declared.input.SafeInput.{SafeInput}
use Rattle.gj_problem_text.specs.declared.task.Request.{Request}
use Rattle.gj_problem_text.specs.declared.task.Request.TheVariants.{Upper, Sum}
use Rattle.gj_top.specs.declared.reply.End.{End}
use Rattle.gj_top.specs.declared.reply.End.TheVariants.{Done}
use Rattle.gj_top.specs.Promise.{Form, Promise}
use Rattle.gj_top.specs.Promise.Form.{reading}
use Rattle.gj_top.specs.Task.{Task}
use Rattle.gj_top.specs.Forms.{NamesFault}
use Rattle.gj_top.specs.Objection.{IsObjection}

-- a problem text with its rule
abbrev pub problem_form : Form SafeInput
problem_form = reading IsSafeInput

-- the input is none, and the text names the first line at fault
abbrev pub RefusesProblem : List ℕ → List ℕ → Type 0
RefusesProblem input text = NamesFault (IsFirstFaultOfInput input) text

-- the multipliers of the rows that are to give cuts, one row for each line `sum`, in their order
abbrev pub multipliers_of : List Request → List (List Frac)
multipliers_of [] = []
multipliers_of (Upper j ∷ requests) = multipliers_of requests
multipliers_of (Sum multipliers ∷ requests) = multipliers ∷ multipliers_of requests

-- the headline: behind the lines of the rule the text has a cut, or why there is none, as often as
-- there are rows, and each cut holds at all feasible points of the problem
pub record AreProblemCuts (asked : SafeInput) (text : List ℕ) : Type 0 where
  pub cuts : List SafeCut
  pub count : length cuts ≡ length (multipliers_of asked.task.requests)
  pub hold : All (SafeCutHolds asked.task.problem) cuts
  pub rule_lines : List ℕ
  pub rule_lines_are : AreSubjectLines (subject_of_rule asked.rule) rule_lines
  pub text_is : text ≡ line (codes "gj-safe 1") ++ rule_lines ++ flat_map
      (cut_lines asked.task.names) cuts ++ line (codes "end")

-- the cuts of the rows by their multipliers, if the rule makes such cuts, and else why it does not
abbrev pub IsProblemReply : SafeInput → End → List ℕ → Type 0
IsProblemReply asked Done text = MakesContinuousCuts asked.rule
    × IsCutsTextBy asked.rule asked.task text
IsProblemReply asked end text = IsObjection asked.rule end text

abbrev pub problem_promise : Promise
problem_promise = record { Thing = SafeInput; form = problem_form; headline = AreProblemCuts }

abbrev pub problem : Task
problem = record {
  promise = problem_promise;
  work = record { refuses = RefusesProblem; replies = IsProblemReply };
}
