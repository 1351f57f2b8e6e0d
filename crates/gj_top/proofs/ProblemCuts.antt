-- The cuts of a problem: one for each row that is to give one, by a rule that makes cuts.
use Rattle.std.proofs.Common.{◌≡◌, ℕ, suc, Bool, true, List, [], ◌∷◌, length, slice_set, ap, ◌∙◌}
use Rattle.gj_safe_cut.specs.declared.cut.SafeCut.{SafeCut}
use Rattle.gj_proof.specs.declared.cut.CutRule.{CutRule}
use Rattle.gj_problem_text.specs.Cuts.{AreAnswers, none_turned}
use Rattle.gj_problem_text.specs.CutText.{IsCutsTextBy}
use Rattle.gj_problem_text.specs.declared.input.SafeInput.{SafeInput}
use Rattle.gj_problem_text.specs.declared.task.Request.{Request}
use Rattle.gj_problem_text.specs.declared.task.Request.TheVariants.{Upper, Sum}
use Rattle.gj_problem_text.specs.declared.task.Task.{Task}
use Rattle.gj_top.specs.Problem.{multipliers_of, AreProblemCuts}

-- each row has one answer
counted : (r : CutRule) (s : Task) (at_upper : List Bool) (requests : List Request)
    (cuts : List SafeCut) → AreAnswers r s at_upper requests cuts →
    length cuts ≡ length (multipliers_of requests)
counted r s at_upper [] cuts none = ap length none
counted r s at_upper (Upper j ∷ requests) cuts h =
    counted r s (slice_set at_upper j true) requests cuts h
counted r s at_upper (Sum multipliers ∷ requests) cuts (cut, others, are, answer, h) =
    ap length are ∙ ap suc (counted r s at_upper requests others h)

pub true_cuts : (asked : SafeInput) (text : List ℕ) → IsCutsTextBy asked.rule asked.task text →
    AreProblemCuts asked text
true_cuts asked text made = record {
  cuts = made.cuts;
  count = counted asked.rule asked.task (none_turned asked.task) asked.task.requests made.cuts
      made.are_cuts;
  hold = made.hold;
  rule_lines = made.rule_lines;
  rule_lines_are = made.rule_lines_are;
  text_is = made.text_is;
}
