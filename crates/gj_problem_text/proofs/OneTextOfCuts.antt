-- A problem and a rule have one text of cuts, since each cut is `Wide` where a number does not fit.
use Rattle.std.proofs.Common.{◌≡◌, ℕ, Bool, true, Option, Some, None, Result, Ok, Err, IfOk, List, [], ◌∷◌, ◌++◌, codes, flat_map, slice_set, refl, sym, ap, ap₂, subst, ◌∙◌}
use Rattle.gj_frac.specs.declared.Frac.{Frac}
use Rattle.gj_function_lines.specs.FunctionLines.{line}
use Rattle.gj_problem.specs.declared.problem.Inequality.{Inequality}
use Rattle.gj_problem.specs.declared.problem.Problem.{Problem}
use Rattle.gj_problem.specs.declared.rounding.RoundedCut.{RoundedCut}
use Rattle.gj_problem.specs.declared.rounding.RoundedCut.TheVariants as rounding
use Rattle.gj_problem.specs.RoundedCuts.{IsRoundedOf, TellsWideRounding}
use Rattle.gj_problem.proofs.OneRounding.{one_rounding}
use Rattle.gj_safe_cut.specs.SafeCuts.{TellsWide}
use Rattle.gj_safe_cut.specs.declared.cut.SafeCut.{SafeCut}
use Rattle.gj_safe_cut.specs.declared.cut.SafeCut.TheVariants.{Cut, Integral, OtherFraction, Free, Wide}
use Rattle.gj_safe_cut.proofs.OneCut.{one_gmic_answer, one_function_answer}
use Rattle.gj_relaxed.proofs.OneRelaxedCut.{one_gmic_relaxed_answer, one_function_relaxed_answer}
use Rattle.gj_proof.specs.ProofText.{AreSubjectLines, IsBoundedRule, subject_of_rule}
use Rattle.gj_proof.specs.declared.cut.CutRule.{CutRule}
use Rattle.gj_proof.specs.declared.cut.CutRule.TheVariants.{Gmic, Table}
use Rattle.gj_function_lines.proofs.OneTextOfLines.{one_text_of_lines}
use Rattle.gj_problem_text.specs.Cuts.{IsRoundedTo, IsOnGridOf, IsCutBy, IsAnswer, AreAnswers, none_turned}
use Rattle.gj_problem_text.specs.CutText.{cut_lines, IsCutsTextBy}
use Rattle.gj_problem_text.specs.declared.task.Request.{Request}
use Rattle.gj_problem_text.specs.declared.task.Request.TheVariants.{Upper, Sum}
use Rattle.gj_problem_text.specs.declared.task.Task.{Task}

-- ---- an answer

pub answered : {E : Type 0} (r : CutRule) (s : Task) (ms : List Frac) (ups : List Bool)
    (cut : SafeCut) (made : Result SafeCut E) →
    IsCutBy r s.round s.problem ms ups cut → TellsWide (IsCutBy r s.round s.problem ms ups) cut →
    IfOk made (IsOnGridOf s.problem s.grid cut) →
    IfOk made (TellsWide (IsOnGridOf s.problem s.grid cut)) → IfOk made (IsAnswer r s ms ups)
answered r s ms ups cut (Ok answer) is tells on_grid grid_tells =
    (cut, is, tells, on_grid, grid_tells)
answered r s ms ups cut (Err e) is tells on_grid grid_tells = tt

-- ---- one cut

one_cut_by : (r : CutRule) (round : Option ℕ) (p : Problem) (ms : List Frac) (ups : List Bool)
    (a b : SafeCut) → IsBoundedRule r →
    IsCutBy r round p ms ups a → IsCutBy r round p ms ups b →
    TellsWide (IsCutBy r round p ms ups) a → TellsWide (IsCutBy r round p ms ups) b →
    a ≡ b
one_cut_by Gmic None p ms ups a b l h k tells tells' = one_gmic_answer p ms ups a b h k tells tells'
one_cut_by Gmic (Some n) p ms ups a b l h k tells tells' =
    one_gmic_relaxed_answer n p ms ups a b h k tells tells'
one_cut_by (Table f) None p ms ups a b l h k tells tells' =
    one_function_answer f p ms ups a b l h k tells tells'
one_cut_by (Table f) (Some n) p ms ups a b l h k tells tells' =
    one_function_relaxed_answer f n p ms ups a b l h k tells tells'

-- ---- one rounded cut

abbrev answer_of : RoundedCut → SafeCut
answer_of (rounding.Cut q) = Cut q
answer_of (rounding.Free j) = Free j
answer_of rounding.Wide = Wide

module _ (p : Problem) (n : ℕ) (q : Inequality) where
  rounded_from : (a : SafeCut) → IsRoundedTo p n q a → (r : RoundedCut) × IsRoundedOf p n q r
      × (a ≡ answer_of r)
  rounded_from (Cut rounded) h = (rounding.Cut rounded, h, refl)
  rounded_from (Free j) h = (rounding.Free j, h, refl)
  rounded_from Wide h = (rounding.Wide, h, refl)
  rounded_from Integral h = absurd h
  rounded_from OtherFraction h = absurd h

  wide_from : (r : RoundedCut) → answer_of r ≡ Wide → r ≡ rounding.Wide
  wide_from (rounding.Cut rounded) e = absurd (cc)
  wide_from (rounding.Free j) e = absurd (cc)
  wide_from rounding.Wide e = refl

  tells_from : (a : SafeCut) (r : RoundedCut) → a ≡ answer_of r → TellsWide (IsRoundedTo p n q) a →
      TellsWideRounding p n q r
  tells_from a r is tells wide = wide_from r (sym is ∙ tells wide)

  one_rounded_to : (a b : SafeCut) → IsRoundedTo p n q a → IsRoundedTo p n q b →
      TellsWide (IsRoundedTo p n q) a → TellsWide (IsRoundedTo p n q) b →
      a ≡ b
  one_rounded_to a b h k tells tells' =
      let (r, is, a_is) = rounded_from a h in
      let (t, is', b_is) = rounded_from b k in
      a_is ∙ ap answer_of (one_rounding p n q r t is is' (tells_from a r a_is tells)
      (tells_from b t b_is tells')) ∙ sym b_is

one_on_grid : (p : Problem) (grid : Option ℕ) (cut a b : SafeCut) → IsOnGridOf p grid cut a →
    IsOnGridOf p grid cut b →
    TellsWide (IsOnGridOf p grid cut) a → TellsWide (IsOnGridOf p grid cut) b → a ≡ b
one_on_grid p (Some n) (Cut q) a b h k tells tells' = one_rounded_to p n q a b h k tells tells'
one_on_grid p (Some n) Integral a b h k tells tells' = h ∙ sym k
one_on_grid p (Some n) OtherFraction a b h k tells tells' = h ∙ sym k
one_on_grid p (Some n) (Free j) a b h k tells tells' = h ∙ sym k
one_on_grid p (Some n) Wide a b h k tells tells' = h ∙ sym k
one_on_grid p None cut a b h k tells tells' = h ∙ sym k

-- ---- one list

one_answer : (r : CutRule) (s : Task) (ms : List Frac) (ups : List Bool) (a b : SafeCut) →
    IsBoundedRule r → IsAnswer r s ms ups a →
    IsAnswer r s ms ups b → a ≡ b
one_answer r s ms ups a b l (cut, is, tells, on_grid, grid_tells)
    (other, is', tells', on_grid', grid_tells') =
    let same : other ≡ cut =
    one_cut_by r s.round s.problem ms ups other cut l is' is tells' tells in
    one_on_grid s.problem s.grid cut a b on_grid
    (subst (λ (c : SafeCut). IsOnGridOf s.problem s.grid c b) same on_grid') grid_tells
    (subst (λ (c : SafeCut). TellsWide (IsOnGridOf s.problem s.grid c) b) same grid_tells')

pub one_list_of_answers : (r : CutRule) (s : Task) (ups : List Bool) (requests : List Request)
    (cuts others : List SafeCut) → IsBoundedRule r →
    AreAnswers r s ups requests cuts → AreAnswers r s ups requests others → cuts ≡ others
one_list_of_answers r s ups [] cuts others l h k = h ∙ sym k
one_list_of_answers r s ups (Upper j ∷ requests) cuts others l h k =
    one_list_of_answers r s (slice_set ups j true) requests cuts others l h k
one_list_of_answers r s ups (Sum ms ∷ requests) cuts others l (a, more_cuts, cuts_are, is, more)
    (b, more_others, others_are, is', more') =
    cuts_are
    ∙ ap₂ (λ (c : SafeCut) (cs : List SafeCut). c ∷ cs) (one_answer r s ms ups a b l is is')
    (one_list_of_answers r s ups requests more_cuts more_others l more more')
    ∙ sym others_are

-- ---- one text

pub one_rule_text : (r : CutRule) (x y : List ℕ) → IsBoundedRule r →
    AreSubjectLines (subject_of_rule r) x → AreSubjectLines (subject_of_rule r) y → x ≡ y
one_rule_text Gmic x y l h k = h ∙ sym k
one_rule_text (Table f) x y l h k = one_text_of_lines f x y l h k

pub one_text : (r : CutRule) (s : Task) (text other : List ℕ) → IsBoundedRule r →
    IsCutsTextBy r s text → IsCutsTextBy r s other → text ≡ other
one_text r s text other l h k =
    h.text_is
    ∙ ap₂ (λ (rule_lines : List ℕ) (cuts : List SafeCut).
    line (codes "gj-safe 1") ++ rule_lines ++ flat_map (cut_lines s.names) cuts ++ line
    (codes "end"))
    (one_rule_text r h.rule_lines k.rule_lines l h.rule_lines_are k.rule_lines_are)
    (one_list_of_answers r s (none_turned s) s.requests h.cuts k.cuts l h.are_cuts k.are_cuts)
    ∙ sym k.text_is
