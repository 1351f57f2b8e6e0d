-- The lines of steps, one after another.
use Rattle.std.proofs.Common.{◌≡◌, ◌⊎◌, inl, inr, ℕ, ◌<◌, List, [], ◌∷◌, length, Bool, IsTrue, codes, refl, sym, ap, subst, ◌∙◌}
use Rattle.gj_lex.specs.declared.reason.Reason.{Reason}
use Rattle.gj_lex.specs.declared.spelling.Spelling.{Spelling}
use Rattle.gj_lex.specs.declared.spelling.Spelling.TheVariants.{Lenient}
use Rattle.gj_forms.specs.TextLines.{HasLine}
use Rattle.gj_forms.specs.Parts.{LineRule, line_part, made_part, loop_part, BeginsWithWord, IsFaultOf, IsNoLine}
use Rattle.gj_forms.specs.declared.fault.PartFault.{PartFault}
use Rattle.gj_forms.specs.declared.fault.PartFault.TheVariants.{Refused, Memory}
use Rattle.gj_forms.proofs.LoopRead.{LeadsOn, leads_on, leads_to_end, leads_to_fault}
use Rattle.gj_forms.proofs.PartLaws.{line_refused, no_line_refused, fault_in_made, fault_in_first, fault_in_next}
use Rattle.gj_forms.proofs.WhereLaws.{fault_where, fault_else}
use Rattle.gj_forms.specs.LineForms.{LineForm}
use Rattle.gj_forms.specs.SpelledForms.{Spell}
use Rattle.gj_line.specs.FieldForms.{name_word, no_form, then_form}
use Rattle.gj_line.proofs.NamedLines.{line_spells}
use Rattle.gj_derivation.specs.declared.draft.Draft.{Draft}
use Rattle.gj_derivation_text.specs.StepLines.{rule_kind}
use Rattle.gj_derivation_text.specs.OpenSteps.{begun, StepsGoOn, EndsHere, IsDraftOf, step_line_rule, next_of_step, lines_of_step}
use Rattle.gj_derivation_text.specs.DerivationText.{Head, RefusesHead, head_rule, placed_line, names_of, with_step, step_part, next_step}
use Rattle.gj_derivation_text.specs.declared.drafts.Drafts.{Drafts}
use Rattle.gj_derivation_text.specs.declared.names.Names.{Names}
use Rattle.gj_derivation_text.specs.declared.open.OpenStep.{OpenStep}
use Rattle.gj_derivation_text.proofs.ExactSteps.{Ends, ends, GoesOn, goes_on}
use Rattle.gj_derivation_text.proofs.ExactText.{More, Done, end_line, head_line, Makes, behind_head}
use Rattle.gj_derivation_text.proofs.WordLines.{nothing_goes_on, steps_go_on, steps_end}

-- ---- a line of a step

module _ (c : Names) (s : OpenStep) (text : List ℕ) where
  in_line : (e : PartFault) → (EndsHere c s text → ⊥) →
      IsFaultOf (line_part Lenient (step_line_rule c s)) text e →
      IsFaultOf (next_of_step c s) text e
  in_line e not fault =
      fault_else (EndsHere c s) (ends s) (goes_on c s) text e not
      (fault_in_made GoesOn (line_part Lenient (step_line_rule c s)) text e fault)

  -- there is no line
  pub no_step_line : (e : PartFault) → IsNoLine Lenient text e → IsFaultOf (next_of_step c s) text e
  no_step_line e none =
      in_line e (λ h. nothing_goes_on text e none h.1)
      (no_line_refused Lenient (step_line_rule c s) text e none)

  module _ (start word : List ℕ) (words : List (List ℕ)) (rest : List ℕ)
      (line : HasLine Lenient text start (word ∷ words) rest)
      (not : (IsTrue c.drafts ⊎ IsTrue s.is_claimed)
      × ((word ≡ codes "step") ⊎ (word ≡ codes "end")) → ⊥) where
    not_here : EndsHere c s text → ⊥
    not_here (may, begins) = steps_end text start word words rest line (λ h. not (may, h)) begins

    -- a line is read
    pub step_line_read : (t : OpenStep) → (step_line_rule c s).Spells (word ∷ words) t →
        (next_of_step c s).Reads text (inl t) rest
    step_line_read t spells = inr (not_here, (t, (start, word ∷ words, line, spells), refl))

    -- or refused
    pub step_line_fault : (e : PartFault) (reason : Reason) →
        (step_line_rule c s).Breaks (word ∷ words) reason →
        e ≡ Refused (length start) reason → IsFaultOf (next_of_step c s) text e
    step_line_fault e reason breaks is =
        in_line e not_here (line_refused Lenient (step_line_rule c s) text start
        (word ∷ words) rest reason e line breaks is)

-- ---- all lines of a step

module _ (c : Names) (first : OpenStep) (text : List ℕ) (s : OpenStep) (rest : List ℕ)
    (h : LeadsOn (next_of_step c) first text s rest) where
  pub step_on : (t : OpenStep) (behind : List ℕ) → (next_of_step c s).Reads rest (inl t) behind →
      LeadsOn (next_of_step c) first text t behind
  step_on t behind one = leads_on (next_of_step c) first text s t rest behind h one

  pub step_fault : (e : PartFault) → IsFaultOf (next_of_step c s) rest e →
      IsFaultOf (lines_of_step c first) text e
  step_fault e fault = leads_to_fault (next_of_step c) first text s rest e h fault

  pub step_is : (t : OpenStep) (d : Draft) → EndsHere c s rest × (t ≡ s) → IsDraftOf t d →
      (lines_of_step c first).Reads text d rest
  step_is t d (here, same) is =
      leads_to_end (next_of_step c) first text s rest d rest h
      (inl (here, (tt, (refl, refl), (d, subst (λ (u : OpenStep). IsDraftOf u d) same is, refl))))

-- ---- a first line

abbrev head_fields : LineForm Head
head_fields = then_form name_word (then_form rule_kind no_form)

-- the words behind `step` spell a name and a rule that are refused
pub head_breaks : (has_function : Bool) (s : Drafts) (w : List ℕ) (ws : List (List ℕ)) (h : Head)
    (e : Reason) → w ≡ codes "step" →
    Spell Lenient head_fields ws h → RefusesHead has_function s h e →
    (head_rule has_function s).Breaks (w ∷ ws) e
head_breaks has_function s w ws h e is spelled refused =
    inr (h, line_spells Lenient (codes "step") head_fields (w ∷ ws) w ws h is refl spelled, refused)

module _ {A : Type 0} (rule : LineRule A) (text : List ℕ) where
  pub no_head : (e : PartFault) → IsNoLine Lenient text e →
      IsFaultOf (placed_line Lenient rule) text e
  no_head (Refused left e) none = no_line_refused Lenient rule text (Refused left e) none
  no_head (Memory a) none = tt

  pub head_refused : (start : List ℕ) (words : List (List ℕ)) (rest : List ℕ) (reason : Reason)
      (e : PartFault) → HasLine Lenient text start words rest →
      rule.Breaks words reason → e ≡ Refused (length start) reason →
      IsFaultOf (placed_line Lenient rule) text e
  head_refused start words rest reason e line breaks is =
      subst (IsFaultOf (placed_line Lenient rule) text) (sym is)
      (start, refl, inl (words, rest, line, breaks))

-- ---- a step

module _ (drafts has_function : Bool) (s : Drafts) (text : List ℕ) where
  pub fault_in_head : (e : PartFault) → IsFaultOf (head_line has_function s) text e →
      IsFaultOf (step_part drafts has_function s) text e
  fault_in_head e fault =
      fault_in_first (head_line has_function s) (behind_head drafts s) text e fault

  module _ (own : Names) (same : own ≡ names_of drafts s) (p : Head × ℕ) (behind : List ℕ)
      (head : (head_line has_function s).Reads text p behind) where
    pub fault_in_lines : (e : PartFault) → IsFaultOf (lines_of_step own (begun p.0.1.0)) behind e →
        IsFaultOf (step_part drafts has_function s) text e
    fault_in_lines e fault =
        fault_in_next (head_line has_function s) (behind_head drafts s) text p behind e head
        (fault_in_made (Makes s p) (lines_of_step (names_of drafts s) (begun p.0.1.0)) behind e
        (subst (λ (n : Names). IsFaultOf (lines_of_step n (begun p.0.1.0)) behind e) same fault))

    pub step_read : (d : Draft) (rest : List ℕ) (t : Drafts) →
        (lines_of_step own (begun p.0.1.0)).Reads behind d rest →
        t ≡ with_step s p.0.0 p.1 d → (step_part drafts has_function s).Reads text t rest
    step_read d rest t lines is = (
      p,
      behind,
      head,
      (
        d,
        subst
            (λ (n : Names). (lines_of_step n (begun p.0.1.0)).Reads behind d rest) same lines,
        is,
      ),
    )

-- ---- all steps

abbrev Ended : List ℕ → Type 0
Ended text = BeginsWithWord Lenient (codes "end") text

module _ (drafts has_function own : Bool) (first : Drafts) (text : List ℕ) (s : Drafts)
    (rest : List ℕ) (same : own ≡ drafts)
    (h : LeadsOn (next_step drafts has_function) first text s rest) where
  pub steps_on : (t : Drafts) (behind : List ℕ) → (Ended rest → ⊥) →
      (step_part own has_function s).Reads rest t behind →
      LeadsOn (next_step drafts has_function) first text t behind
  steps_on t behind not one =
      leads_on (next_step drafts has_function) first text s t rest behind h
      (inr (
        not,
        (
          t,
          subst (λ (b : Bool). (step_part b has_function s).Reads rest t behind) same
              one,
          refl,
        ),
      ))

  pub fault_in_step : (e : PartFault) → (Ended rest → ⊥) →
      IsFaultOf (step_part own has_function s) rest e →
      IsFaultOf (loop_part (next_step drafts has_function) first) text e
  fault_in_step e not fault =
      leads_to_fault (next_step drafts has_function) first text s rest e h
      (fault_else Ended (made_part (Done s) end_line)
      (made_part More (step_part drafts has_function s)) rest e not
      (fault_in_made More (step_part drafts has_function s) rest e
      (subst (λ (b : Bool). IsFaultOf (step_part b has_function s) rest e) same fault)))

  pub steps_end_here : (behind : List ℕ) → Ended rest → end_line.Reads rest tt behind →
      (loop_part (next_step drafts has_function) first).Reads text s behind
  steps_end_here behind is one =
      leads_to_end (next_step drafts has_function) first text s rest s behind h
      (inl (is, (tt, one, refl)))

  pub fault_at_end : (e : PartFault) → Ended rest → IsFaultOf end_line rest e →
      IsFaultOf (loop_part (next_step drafts has_function) first) text e
  fault_at_end e is fault =
      leads_to_fault (next_step drafts has_function) first text s rest e h
      (fault_where Ended (made_part (Done s) end_line)
      (made_part More (step_part drafts has_function s)) rest e is
      (fault_in_made (Done s) end_line rest e fault))
