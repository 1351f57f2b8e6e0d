-- The text of cuts, put together.
use Rattle.std.proofs.Common.{◌≡◌, ℕ, List, ◌++◌, Result, Err, MatchResult, codes, flat_map, ap, ◌∙◌}
use Rattle.gj_function_lines.specs.FunctionLines.{line}
use Rattle.gj_proof.specs.ProofText.{AreSubjectLines, subject_of_rule}
use Rattle.gj_proof.specs.declared.cut.CutRule.{CutRule}
use Rattle.gj_problem_text.specs.CutText.{cut_lines, IsCutsTextBy}
use Rattle.gj_problem_text.specs.declared.faults.ProblemFault.{ProblemFault}
use Rattle.gj_problem_text.specs.declared.task.Task.{Task}
use Rattle.gj_problem_text.proofs.AnsweredRequests.{IsAnswered}

pub whole_text : (r : CutRule) (s : Task) (title rule_lines start middle text : List ℕ) →
    title ≡ line (codes "gj-safe 1") →
    AreSubjectLines (subject_of_rule r) rule_lines → start ≡ title ++ rule_lines →
    IsAnswered r s start s.requests middle →
    text ≡ middle ++ line (codes "end") → IsCutsTextBy r s text
whole_text r s title rule_lines start middle text titled ruled begun
    (cuts, are, hold, pushed) ended = record {
      cuts = cuts;
      are_cuts = are;
      hold = hold;
      rule_lines = rule_lines;
      rule_lines_are = ruled;
      text_is = ended
          ∙ ap (λ t. t ++ line (codes "end"))
          (pushed ∙ ap (λ t. t ++ flat_map (cut_lines s.names) cuts)
          (begun ∙ ap (λ t. t ++ rule_lines) titled));
    }

-- an error that is passed on is that of the callee
pub passed_on : {T : Type 0} (P : T → Type 0) (Q : ProblemFault → Type 0) (e y : ProblemFault)
    (r : Result T ProblemFault) → r ≡ Err y →
    y ≡ e → Q e → MatchResult r P Q
passed_on P Q e y r is same h = rw (is, same) h
