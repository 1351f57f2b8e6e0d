-- The lines of a step make one draft of it, or have one first fault.
use Rattle.std.proofs.Common.{◌≡◌, ◌⊎◌, inl, inr, pos, Option, Some, None, ℕ, List, [], ◌∷◌, ◌++◌, Bool, true, false, sym, ap, ◌∙◌, arith}
use Rattle.gj_frac.specs.declared.Frac.{Frac}
use Rattle.gj_frac.proofs.SameValues.{same_from_is}
use Rattle.gj_lex.specs.declared.reason.Reason.{Reason}
use Rattle.gj_lex.specs.declared.spelling.Spelling.TheVariants.{Lenient}
use Rattle.gj_forms.specs.Parts.{Part, line_part, empty_part, made_part, IsExactRule, IsExactPart}
use Rattle.gj_forms.proofs.LoopLaws.{loop_part_is_exact}
use Rattle.gj_forms.proofs.PartLaws.{line_part_is_exact, empty_part_is_exact, made_part_is_exact}
use Rattle.gj_forms.proofs.SpelledLaws.{made_rule_is_exact}
use Rattle.gj_forms.proofs.WhereLaws.{where_part_is_exact}
use Rattle.gj_derivation.specs.declared.draft.Draft.{Draft}
use Rattle.gj_problem_text.specs.NumberLines.{number_rule}
use Rattle.gj_problem_text.specs.Tasks.{Never}
use Rattle.gj_problem_text.proofs.ExactTasks.{never, unless, met, one_bound, one_index}
use Rattle.gj_derivation_text.specs.StepLines.{StepLine, by, upper, times, claim, term, line_form}
use Rattle.gj_derivation_text.specs.OpenSteps.{index_in, HasNewIndex, IsNewIn, lines_named, columns_claimed, SpellsRight, Adds, Refuses, step_line_rule, IsFactor, draft_of, IsDraftOf, EndsHere, next_of_step, lines_of_step}
use Rattle.gj_derivation_text.specs.declared.names.Names.{Names}
use Rattle.gj_derivation_text.specs.declared.open.OpenStep.{OpenStep}
use Rattle.gj_derivation_text.proofs.StepKinds.{line_rule_is_exact}

-- ---- one more line

-- the index of a new name is one
pub one_new : (names : List (List ℕ)) (name : List ℕ) (taken : List ℕ) (i j : ℕ) →
    HasNewIndex names name taken i → HasNewIndex names name taken j →
    i ≡ j
one_new names name taken i j h k = one_index i j (index_in names name) h.0 k.0

one_step : (c : Names) (s : OpenStep) (line : StepLine) (t u : OpenStep) → Adds c s line t →
    Adds c s line u → t ≡ u
one_step c s (by name value) t u (before, i, new, is) (before', j, new', is') =
    let same = one_new c.lines name (lines_named s) i j new new' in
    is ∙ ap (λ (k : ℕ). record s
    { multipliers = s.multipliers ++ record { line = k; value = value } ∷ [] }) same ∙ sym is'
one_step c s (upper name) t u (before, i, new, is) (before', j, new', is') =
    let same = one_new c.columns name s.at_upper i j new new' in
    is ∙ ap (λ (k : ℕ). record s { at_upper = s.at_upper ++ k ∷ [] }) same ∙ sym is'
one_step c s (times factor) t u (before, is) (before', is') = is ∙ sym is'
one_step c s (claim word) t u (before, right, spelled, is) (before', right', spelled', is') =
    is ∙ ap (λ (r : Option Frac). record s { is_claimed = true; right = r })
    (one_bound word right right' spelled.0 spelled'.0) ∙ sym is'
one_step c s (term name value) t u (before, i, new, is) (before', j, new', is') =
    let same = one_new c.columns name (columns_claimed s) i j new new' in
    is ∙ ap (λ (k : ℕ). record s
    { entries = s.entries ++ record { column = k; value = value } ∷ [] }) same ∙ sym is'

one_reason : (c : Names) (s : OpenStep) (line : StepLine) (e d : Reason) → Refuses c s line e →
    Refuses c s line d → e ≡ d
one_reason c s (by name value) e d = unless _ _ _ (unless _ _ Never never) e d
one_reason c s (upper name) e d = unless _ _ _ (unless _ _ Never never) e d
one_reason c s (times factor) e d = unless _ _ Never never e d
one_reason c s (claim word) e d = unless _ _ _ (unless _ _ Never never) e d
one_reason c s (term name value) e d = unless _ _ _ (unless _ _ Never never) e d

not_both : (c : Names) (s : OpenStep) (line : StepLine) (t : OpenStep) (e : Reason) →
    Adds c s line t → Refuses c s line e → ⊥
not_both c s (by name value) t e (before, i, new, is) r =
    met _ _ _ before (met (IsNewIn c.lines name (lines_named s)) _ _ (i, new) (λ k. k)) r
not_both c s (upper name) t e (before, i, new, is) r =
    met _ _ _ before (met (IsNewIn c.columns name s.at_upper) _ _ (i, new) (λ k. k)) r
not_both c s (times factor) t e (before, is) r = met _ _ _ before (λ k. k) r
not_both c s (claim word) t e (before, right, spelled, is) r =
    met _ _ _ before (met ((q : Option Frac) × SpellsRight c.drafts word q) _ _ (right, spelled)
    (λ k. k)) r
not_both c s (term name value) t e (before, i, new, is) r =
    met _ _ _ before (met (IsNewIn c.columns name (columns_claimed s)) _ _ (i, new) (λ k. k)) r

pub step_line_rule_is_exact : (c : Names) (s : OpenStep) →
    IsExactRule (step_line_rule c s).Spells (step_line_rule c s).Breaks
step_line_rule_is_exact c s =
    made_rule_is_exact (Adds c s) (Refuses c s) (number_rule line_form) line_rule_is_exact
    (one_step c s) (one_reason c s) (not_both c s)

-- ---- the end

one_factor : (told : Option Frac) (x y : Frac) → IsFactor told x → IsFactor told y → x ≡ y
one_factor None x y h k = same_from_is x y (pos 1) (pos 1) (λ z. omega arith) h k
one_factor (Some z) x y h k = h ∙ sym k

one_draft : (s : OpenStep) (d e : Draft) → IsDraftOf s d → IsDraftOf s e → d ≡ e
one_draft s d e (x, h, is) (y, k, is') = is ∙ ap (draft_of s) (one_factor s.factor x y h k)
    ∙ sym is'

abbrev pub Ends : OpenStep → Unit {0} → OpenStep ⊎ Draft → Type 0
Ends s u next = (draft : Draft) × IsDraftOf s draft × (next ≡ inr draft)

one_end : (s : OpenStep) (u : Unit {0}) (m n : OpenStep ⊎ Draft) → Ends s u m → Ends s u n → m ≡ n
one_end s u m n (d, h, is) (e, k, is') = is ∙ ap inr (one_draft s d e h k) ∙ sym is'

-- ---- all lines

abbrev pub ends : OpenStep → Part (OpenStep ⊎ Draft)
ends s = made_part (Ends s) (empty_part tt)

abbrev pub GoesOn : OpenStep → OpenStep ⊎ Draft → Type 0
GoesOn t next = next ≡ inl t

abbrev pub goes_on : Names → OpenStep → Part (OpenStep ⊎ Draft)
goes_on c s = made_part GoesOn (line_part Lenient (step_line_rule c s))

next_of_step_is_exact : (c : Names) (s : OpenStep) →
    IsExactPart (next_of_step c s).Reads (next_of_step c s).Faults
next_of_step_is_exact c s =
    where_part_is_exact (EndsHere c s) (ends s) (goes_on c s)
    (made_part_is_exact (Ends s) (one_end s) (empty_part tt) (empty_part_is_exact tt))
    (made_part_is_exact GoesOn (λ t m n h k. h ∙ sym k) (line_part Lenient (step_line_rule c s))
    (line_part_is_exact Lenient (step_line_rule c s) (step_line_rule_is_exact c s)))

pub lines_of_step_is_exact : (c : Names) (s : OpenStep) →
    IsExactPart (lines_of_step c s).Reads (lines_of_step c s).Faults
lines_of_step_is_exact c = loop_part_is_exact (next_of_step c) (next_of_step_is_exact c)
