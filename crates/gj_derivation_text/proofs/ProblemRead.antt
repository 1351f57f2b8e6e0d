-- The lines of the problem of a derivation, one after another.
use Rattle.std.proofs.Common.{◌≡◌, ◌⊎◌, inl, inr, ℕ, ◌<◌, List, [], ◌∷◌, length, Bool, refl, subst}
use Rattle.gj_lex.specs.declared.reason.Reason.{Reason}
use Rattle.gj_lex.specs.declared.spelling.Spelling.TheVariants.{Lenient}
use Rattle.gj_forms.specs.TextLines.{HasLine}
use Rattle.gj_forms.specs.Parts.{line_part, empty_part, IsFaultOf, IsNoLine}
use Rattle.gj_forms.specs.declared.fault.PartFault.{PartFault}
use Rattle.gj_forms.specs.declared.fault.PartFault.TheVariants.{Refused}
use Rattle.gj_forms.proofs.LoopRead.{LeadsOn, leads_on, leads_to_end, leads_to_fault}
use Rattle.gj_forms.proofs.PartLaws.{line_refused, no_line_refused, fault_in_made}
use Rattle.gj_forms.proofs.WhereLaws.{fault_else}
use Rattle.gj_derivation_text.specs.OpenSteps.{StepsGoOn}
use Rattle.gj_derivation_text.specs.DerivationText.{no_drafts, problem_rule, next_of_problem, problem_part}
use Rattle.gj_derivation_text.specs.declared.drafts.Drafts.{Drafts}
use Rattle.gj_derivation_text.proofs.ExactText.{More, one_more}
use Rattle.gj_derivation_text.proofs.WordLines.{nothing_goes_on}

module _ (drafts : Bool) (s : Drafts) (text : List ℕ) where
  in_line : (e : PartFault) → (StepsGoOn text → ⊥) →
      IsFaultOf (line_part Lenient (problem_rule drafts s)) text e →
      IsFaultOf (next_of_problem drafts s) text e
  in_line e not fault =
      fault_else StepsGoOn (empty_part (inr s)) (one_more drafts s) text e not
      (fault_in_made More (line_part Lenient (problem_rule drafts s)) text e fault)

  -- there is no line
  pub no_line : (e : PartFault) → IsNoLine Lenient text e →
      IsFaultOf (next_of_problem drafts s) text e
  no_line e none = in_line e (nothing_goes_on text e none)
      (no_line_refused Lenient (problem_rule drafts s) text e none)

  module _ (start word : List ℕ) (words spelled : List (List ℕ)) (rest : List ℕ)
      (line : HasLine Lenient text start (word ∷ words) rest)
      (are : spelled ≡ word ∷ words) (not : StepsGoOn text → ⊥) where
    -- a line is read
    pub line_read : (t : Drafts) → (problem_rule drafts s).Spells spelled t →
        (next_of_problem drafts s).Reads text (inl t) rest
    line_read t spells =
        inr (
          not,
          (
            t,
            (
              start,
              word ∷ words,
              line,
              subst (λ ws. (problem_rule drafts s).Spells ws t)
                  are spells,
            ),
            refl,
          ),
        )

    -- or refused
    pub line_fault : (e : PartFault) (reason : Reason) →
        (problem_rule drafts s).Breaks spelled reason → e ≡ Refused (length start) reason →
        IsFaultOf (next_of_problem drafts s) text e
    line_fault e reason breaks is =
        in_line e not (line_refused Lenient (problem_rule drafts s) text start
        (word ∷ words) rest reason e line
        (subst (λ ws. (problem_rule drafts s).Breaks ws reason) are breaks) is)

-- ---- all lines

module _ (drafts own : Bool) (text : List ℕ) (s : Drafts) (rest : List ℕ) (same : own ≡ drafts)
    (h : LeadsOn (next_of_problem drafts) no_drafts text s rest) where
  pub problem_on : (t : Drafts) (behind : List ℕ) →
      (next_of_problem own s).Reads rest (inl t) behind →
      LeadsOn (next_of_problem drafts) no_drafts text t behind
  problem_on t behind one =
      leads_on (next_of_problem drafts) no_drafts text s t rest behind h
      (subst (λ (b : Bool). (next_of_problem b s).Reads rest (inl t) behind) same one)

  pub problem_ends : (t : Drafts) (behind : List ℕ) →
      (next_of_problem own s).Reads rest (inr t) behind → (problem_part drafts).Reads text t behind
  problem_ends t behind one =
      leads_to_end (next_of_problem drafts) no_drafts text s rest t behind h
      (subst (λ (b : Bool). (next_of_problem b s).Reads rest (inr t) behind) same one)

  pub problem_fault : (e : PartFault) → IsFaultOf (next_of_problem own s) rest e →
      IsFaultOf (problem_part drafts) text e
  problem_fault e fault =
      leads_to_fault (next_of_problem drafts) no_drafts text s rest e h
      (subst (λ (b : Bool). IsFaultOf (next_of_problem b s) rest e) same fault)
