-- Requests that are answered one behind another.
use Rattle.std.proofs.Common.{◌≡◌, ℕ, Bool, List, [], ◌∷◌, ◌++◌, All, flat_map, refl, sym, ap, subst, ◌∙◌}
use Rattle.std.proofs.lemmas.List.{append_assoc, append-nil}
use Rattle.std.proofs.lemmas.List.Elements.{All-nil, All-cons}
use Rattle.gj_safe_cut.specs.SafeCuts.{SafeCutHolds}
use Rattle.gj_safe_cut.specs.declared.cut.SafeCut.{SafeCut}
use Rattle.gj_proof.specs.declared.cut.CutRule.{CutRule}
use Rattle.gj_problem_text.specs.AnswersMade.{IsRequestStep}
use Rattle.gj_problem_text.specs.Cuts.{AreAnswers, none_turned}
use Rattle.gj_problem_text.specs.CutText.{cut_lines}
use Rattle.gj_problem_text.specs.declared.task.Request.{Request}
use Rattle.gj_problem_text.specs.declared.task.Request.TheVariants.{Upper, Sum}
use Rattle.gj_problem_text.specs.declared.task.Task.{Task}

-- the text is what stood before, and the lines of the answers to the requests
abbrev pub IsAnswered : CutRule → Task → List ℕ → List Request → List ℕ → Type 0
IsAnswered r s before requests text =
    (cuts : List SafeCut) × AreAnswers r s (none_turned s) requests cuts
    × All (SafeCutHolds s.problem) cuts
    × (text ≡ before ++ flat_map (cut_lines s.names) cuts)

-- with the answers to what is left, all are answered
pub record LeadsToAnswers (r : CutRule) (s : Task) (before : List ℕ) (requests : List Request)
    (at_upper : List Bool) (left : List Request)
    (now : List ℕ) : Type 0 where
  pub leads : (more : List SafeCut) → AreAnswers r s at_upper left more →
      All (SafeCutHolds s.problem) more →
      IsAnswered r s before requests (now ++ flat_map (cut_lines s.names) more)

module _ (r : CutRule) (s : Task) (before : List ℕ) (requests : List Request) where
  pub none_answered : (at_upper : List Bool) → at_upper ≡ none_turned s →
      LeadsToAnswers r s before requests at_upper requests before
  none_answered at_upper e = record {
    leads = λ more are hold.
        (more, subst (λ (ups : List Bool). AreAnswers r s ups requests more) e are, hold, refl);
  }

  pub one_answered : (at_upper next_upper : List Bool) (left behind : List Request)
      (asked : Request) (now next : List ℕ) →
      LeadsToAnswers r s before requests at_upper left now → left ≡ asked ∷ behind →
      IsRequestStep r s at_upper now asked next_upper next →
      LeadsToAnswers r s before requests next_upper behind next
  one_answered at_upper next_upper left behind (Upper j) now next h e (turned, same) = record {
    leads = λ more are hold.
        subst (λ (t : List ℕ). IsAnswered r s before requests
        (t ++ flat_map (cut_lines s.names) more)) (sym same)
        (h.leads more (subst (λ (rs : List Request). AreAnswers r s at_upper rs more) (sym e)
        (subst (λ (ups : List Bool). AreAnswers r s ups behind more) turned are)) hold);
  }
  one_answered at_upper next_upper left behind (Sum multipliers) now next h e
      (same, (cut, answer, holds, pushed)) = record {
        leads = λ more are hold.
            subst (IsAnswered r s before requests)
            (sym (ap (λ t. t ++ flat_map (cut_lines s.names) more) pushed
            ∙ append_assoc now (cut_lines s.names cut) (flat_map (cut_lines s.names) more)))
            (h.leads (cut ∷ more)
            (subst (λ (rs : List Request). AreAnswers r s at_upper rs (cut ∷ more)) (sym e) (
              cut,
              more,
              refl,
              answer,
              subst (λ (ups : List Bool). AreAnswers r s ups behind more) same
                  are,
            ))
            (All-cons (SafeCutHolds s.problem) cut more holds hold));
      }

  pub all_answered : (at_upper : List Bool) (left : List Request) (now : List ℕ) →
      LeadsToAnswers r s before requests at_upper left now → left ≡ [] →
      IsAnswered r s before requests now
  all_answered at_upper left now h e =
      subst (IsAnswered r s before requests) (append-nil now)
      (h.leads [] (subst (λ (rs : List Request). AreAnswers r s at_upper rs []) (sym e) refl)
      (All-nil (SafeCutHolds s.problem)))
