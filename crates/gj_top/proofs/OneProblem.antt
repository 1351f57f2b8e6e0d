-- The command `problem` has one answer.
use Rattle.std.proofs.Common.{◌≡◌, inl, inr, ℕ, List, refl, sym, subst}
use Rattle.gj_function_text.proofs.FunctionTexts.{function_is_within}
use Rattle.gj_proof.specs.ProofText.{IsBoundedRule}
use Rattle.gj_problem_text.specs.SafeInputs.{IsSafeInput}
use Rattle.gj_problem_text.specs.declared.input.SafeInput.{SafeInput}
use Rattle.gj_problem_text.proofs.InputParts.{one_input, one_fault}
use Rattle.gj_problem_text.proofs.OneTextOfCuts.{one_text}
use Rattle.gj_top.specs.declared.reply.End.{End}
use Rattle.gj_top.specs.declared.reply.End.TheVariants.{Done}
use Rattle.gj_top.specs.Problem.{IsProblemReply, RefusesProblem, problem}
use Rattle.gj_top.proofs.Determined.{RefusesOne, IsDetermined, one_named_fault}
use Rattle.gj_top.proofs.OneObjection.{no_objection, one_objection}

rule_is_bounded : (input : List ℕ) (asked : SafeInput) → IsSafeInput input asked →
    IsBoundedRule asked.rule
rule_is_bounded input asked (rest, inl (is, (f, middle, function, (task, read, made)))) =
    subst (λ (a : SafeInput). IsBoundedRule a.rule) (sym made)
    (function_is_within input f middle function)
rule_is_bounded input asked (rest, inr (not, (task, read, made))) =
    subst (λ (a : SafeInput). IsBoundedRule a.rule) (sym made) tt

one_refusal : RefusesOne RefusesProblem
one_refusal input x y h k = one_named_fault _ (λ n m e d. one_fault input n m e d) x y h k

module _ (asked : SafeInput) (l : IsBoundedRule asked.rule) where
  one_reply : (e d : End) (x y : List ℕ) → IsProblemReply asked e x → IsProblemReply asked d y →
      (e ≡ d) × (x ≡ y)
  one_reply Done Done x y h k = (refl, one_text asked.rule asked.task x y l h.1 k.1)
  one_reply Done d x y h k = absurd (no_objection asked.rule d y l h.0 k)
  one_reply e Done x y h k = absurd (no_objection asked.rule e x l k.0 h)
  one_reply e d x y h k = one_objection asked.rule e d x y l h k

pub problem_is_determined : IsDetermined problem
problem_is_determined = record {
  spells = λ input a b. one_input input a b;
  refuses = one_refusal;
  replies = λ input asked spelled. one_reply asked (rule_is_bounded input asked spelled);
}
