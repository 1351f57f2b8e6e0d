-- The entries of the cuts that are answered are not 0, and stand in the order of the columns.
use Rattle.std.proofs.Common.{ℕ, Bool, true, Option, Some, None, List, [], ◌∷◌, All, slice_set, sym, subst}
use Rattle.std.proofs.lemmas.List.Elements.{All-nil, All-cons}
use Rattle.gj_frac.specs.declared.Frac.{Frac}
use Rattle.gj_rule.specs.declared.kind.RuleKind.TheVariants as kind
use Rattle.gj_problem.specs.Problems.{HasTerms}
use Rattle.gj_problem.specs.declared.problem.Inequality.{Inequality}
use Rattle.gj_problem.specs.declared.problem.Problem.{Problem}
use Rattle.gj_problem.specs.declared.rounding.RoundedCut.TheVariants as rounding
use Rattle.gj_problem.proofs.MovedEntries.{rounded_terms}
use Rattle.gj_safe_cut.specs.SafeCuts.{SafeCutHasTerms}
use Rattle.gj_safe_cut.specs.declared.cut.SafeCut.{SafeCut}
use Rattle.gj_safe_cut.specs.declared.cut.SafeCut.TheVariants.{Cut, Integral, OtherFraction, Free, Wide}
use Rattle.gj_safe_cut.proofs.HeldCuts.{gmic_terms, rule_terms}
use Rattle.gj_relaxed.proofs.RelaxedCuts.{gmic_relaxed_terms, function_relaxed_terms}
use Rattle.gj_proof.specs.declared.cut.CutRule.{CutRule}
use Rattle.gj_proof.specs.declared.cut.CutRule.TheVariants.{Gmic, Table}
use Rattle.gj_problem_text.specs.Cuts.{IsRoundedTo, IsOnGridOf, IsCutBy, AreAnswers}
use Rattle.gj_problem_text.specs.declared.task.Request.{Request}
use Rattle.gj_problem_text.specs.declared.task.Request.TheVariants.{Upper, Sum}
use Rattle.gj_problem_text.specs.declared.task.Task.{Task}

terms_by : (r : CutRule) (round : Option ℕ) (p : Problem) (ms : List Frac) (ups : List Bool)
    (cut : SafeCut) →
    IsCutBy r round p ms ups cut → SafeCutHasTerms p cut
terms_by Gmic None p ms ups cut h = gmic_terms p ms ups cut h
terms_by Gmic (Some n) p ms ups cut h = gmic_relaxed_terms n p ms ups cut h
terms_by (Table f) None p ms ups cut (up, down, slopes, h) =
    rule_terms (kind.Table f) up down p ms ups cut h
terms_by (Table f) (Some n) p ms ups cut h = function_relaxed_terms f n p ms ups cut h

terms_rounded : (p : Problem) (n : ℕ) (q : Inequality) (answer : SafeCut) → HasTerms p q →
    IsRoundedTo p n q answer → SafeCutHasTerms p answer
terms_rounded p n q (Cut rounded) terms h = rounded_terms p n q (rounding.Cut rounded) h terms
terms_rounded p n q Integral terms h = tt
terms_rounded p n q OtherFraction terms h = tt
terms_rounded p n q (Free j) terms h = tt
terms_rounded p n q Wide terms h = tt

terms_on_grid : (p : Problem) (grid : Option ℕ) (cut answer : SafeCut) → SafeCutHasTerms p cut →
    IsOnGridOf p grid cut answer →
    SafeCutHasTerms p answer
terms_on_grid p (Some n) (Cut q) answer terms h = terms_rounded p n q answer terms h
terms_on_grid p (Some n) Integral answer terms h = subst (SafeCutHasTerms p) (sym h) tt
terms_on_grid p (Some n) OtherFraction answer terms h = subst (SafeCutHasTerms p) (sym h) tt
terms_on_grid p (Some n) (Free j) answer terms h = subst (SafeCutHasTerms p) (sym h) tt
terms_on_grid p (Some n) Wide answer terms h = subst (SafeCutHasTerms p) (sym h) tt
terms_on_grid p None cut answer terms h = subst (SafeCutHasTerms p) (sym h) terms

pub answers_have_terms : (r : CutRule) (s : Task) (ups : List Bool) (requests : List Request)
    (cuts : List SafeCut) →
    AreAnswers r s ups requests cuts → All (SafeCutHasTerms s.problem) cuts
answers_have_terms r s ups [] cuts h =
    subst (All (SafeCutHasTerms s.problem)) (sym h) (All-nil (SafeCutHasTerms s.problem))
answers_have_terms r s ups (Upper j ∷ requests) cuts h =
    answers_have_terms r s (slice_set ups j true) requests cuts h
answers_have_terms r s ups (Sum ms ∷ requests) cuts (cut, others, is, answer, rest) =
    subst (All (SafeCutHasTerms s.problem)) (sym is)
    (All-cons (SafeCutHasTerms s.problem) cut others
    (terms_on_grid s.problem s.grid answer.0 cut
    (terms_by r s.round s.problem ms ups answer.0 answer.1) answer.3)
    (answers_have_terms r s ups requests others rest))
