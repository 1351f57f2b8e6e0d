-- Lines that tell a function by its breakpoints are an exact part of a text.
use Rattle.std.proofs.Common.{◌≡◌, ◌⊎◌, inl, inr, ◌≤◌, sym, subst, ◌∙◌, unsigned_abs}
use Rattle.gj_frac.specs.declared.Frac.{Frac}
use Rattle.gj_frac.specs.Fraction.{denominator, IsInside}
use Rattle.gj_lex.specs.declared.spelling.Spelling.TheVariants.{Lenient}
use Rattle.gj_lex.specs.declared.reason.Reason.{Reason}
use Rattle.gj_lex.specs.declared.reason.Reason.TheVariants as reason
use Rattle.gj_forms.specs.Parts.{words_rule, Part, line_part, made_part, loop_part, IsExactRule, IsExactPart}
use Rattle.gj_forms.proofs.PartLaws.{line_part_is_exact, words_rule_is_exact, then_part_is_exact, made_part_is_exact}
use Rattle.gj_forms.proofs.WhereLaws.{where_part_is_exact}
use Rattle.gj_forms.proofs.LoopLaws.{loop_part_is_exact}
use Rattle.gj_shape.specs.FunctionData.{FunctionData}
use Rattle.gj_shape.specs.Breaks.{BreakList, no_breaks, Follows, IsBreakFault, IsOfBreaks, AreTooFine}
use Rattle.gj_shape.specs.declared.breaks.Break.{Break}
use Rattle.gj_shape.specs.declared.breaks.BreakFault.{BreakFault}
use Rattle.gj_shape.specs.declared.breaks.BreakFault.TheVariants as fault
use Rattle.gj_shape.proofs.BreakLaws.{one_following, IsNoMemory, one_break_fault, follows_or_fault, one_function_of_list, given_or_too_fine}
use Rattle.gj_shape.specs.Limits.{greatest_order}
use Rattle.gj_forms.specs.SpelledForms.{rule_in}
use Rattle.gj_forms.proofs.SpelledLaws.{rule_in_is_exact, made_rule_is_exact}
use Rattle.gj_function_lines.specs.BreakLines.{spelled_break_rule}
use Rattle.gj_function_lines.specs.FunctionLines.{place_form}
use Rattle.gj_function_lines.proofs.ClearLines.{place_is_clear}
use Rattle.gj_function_lines.proofs.ExactBreaks.{spelled_break_is_exact}
use Rattle.gj_function_text.specs.BreaksText.{end_words, start_rule, IsReasonOfBreak, break_rule, end_rule, EndsHere, next_break, breaks_part}
use Rattle.gj_function_text.specs.FunctionText.{breaks_title_words, breaks_text}

-- ---- the line of f

start_rule_is_exact : IsExactRule start_rule.Spells start_rule.Breaks
start_rule_is_exact =
    made_rule_is_exact (λ x s. IsInside x × (unsigned_abs (denominator x) ≤ greatest_order)
    × (s ≡ no_breaks x)) Refused
    (rule_in Lenient place_form) (rule_in_is_exact Lenient place_form place_is_clear)
    (λ x s t h k. h.2 ∙ sym k.2) one_reason not_both
  where
    Refused : Frac → Reason → Type 0
    Refused x e = ((e ≡ reason.Place) × (IsInside x → ⊥))
        ⊎ ((e ≡ reason.Pieces) × IsInside x × (unsigned_abs (denominator x) ≤ greatest_order → ⊥))

    one_reason : (x : Frac) (e d : Reason) → Refused x e → Refused x d → e ≡ d
    one_reason x e d (inl h) (inl k) = h.0 ∙ sym k.0
    one_reason x e d (inl h) (inr k) = absurd (h.1 k.1)
    one_reason x e d (inr h) (inl k) = absurd (k.1 h.1)
    one_reason x e d (inr h) (inr k) = h.0 ∙ sym k.0

    not_both : (x : Frac) (s : BreakList) (e : Reason) →
        IsInside x × (unsigned_abs (denominator x) ≤ greatest_order) × (s ≡ no_breaks x) →
        Refused x e → ⊥
    not_both x s e h (inl k) = k.1 h.0
    not_both x s e h (inr k) = k.2 h.1

-- ---- the line of a breakpoint

no_memory : (f : BreakFault) (e : Reason) → IsReasonOfBreak f e → IsNoMemory f
no_memory fault.Break e is = tt
no_memory fault.Pieces e is = tt
no_memory fault.Large e is = tt
no_memory fault.Fine e is = tt
no_memory (fault.Memory a) e is = is

one_reason_of_fault : (f : BreakFault) (e d : Reason) → IsReasonOfBreak f e → IsReasonOfBreak f d →
    e ≡ d
one_reason_of_fault fault.Break e d h k = h ∙ sym k
one_reason_of_fault fault.Pieces e d h k = h ∙ sym k
one_reason_of_fault fault.Large e d h k = h ∙ sym k
one_reason_of_fault fault.Fine e d h k = h ∙ sym k
one_reason_of_fault (fault.Memory a) e d h k = absurd h

pub break_rule_is_exact : (s : BreakList) → IsExactRule (break_rule s).Spells (break_rule s).Breaks
break_rule_is_exact s =
    made_rule_is_exact (Follows s) Refused spelled_break_rule spelled_break_is_exact
    (one_following s) one_reason not_both
  where
    Refused : Break → Reason → Type 0
    Refused b e = (f : BreakFault) × IsBreakFault s b f × IsReasonOfBreak f e

    one_reason : (b : Break) (e d : Reason) → Refused b e → Refused b d → e ≡ d
    one_reason b e d (f, h, is) (g, k, is') =
        let same = one_break_fault s b f g (no_memory f e is) (no_memory g d is') h k in
        one_reason_of_fault g e d (subst (λ (x : BreakFault). IsReasonOfBreak x e) same is) is'

    not_both : (b : Break) (t : BreakList) (e : Reason) → Follows s b t → Refused b e → ⊥
    not_both b t e follows (f, h, is) = follows_or_fault s b t f (no_memory f e is) follows h

-- ---- the line `end`

end_rule_is_exact : (s : BreakList) → IsExactRule (end_rule s).Spells (end_rule s).Breaks
end_rule_is_exact s =
    made_rule_is_exact (λ (t : Unit {0}) (f : FunctionData). IsOfBreaks s f)
    (λ t e. (e ≡ reason.Fine) × AreTooFine s.order s.breaks)
    (words_rule end_words) (words_rule_is_exact end_words)
    (λ t f g h k. one_function_of_list s f g h k) (λ t e d h k. h.0 ∙ sym k.0)
    (λ t f e of fine. given_or_too_fine s.order of.0 s.breaks f of.2 fine.1)

-- ---- the lines

abbrev pub last_of : BreakList → Part (BreakList ⊎ FunctionData)
last_of s = made_part (λ (f : FunctionData) next. next ≡ inr f) (line_part Lenient (end_rule s))

abbrev pub more_of : BreakList → Part (BreakList ⊎ FunctionData)
more_of s = made_part (λ (t : BreakList) next. next ≡ inl t) (line_part Lenient (break_rule s))

next_break_is_exact : (s : BreakList) → IsExactPart (next_break s).Reads (next_break s).Faults
next_break_is_exact s =
    where_part_is_exact (EndsHere s) (last_of s) (more_of s)
    (made_part_is_exact (λ (f : FunctionData) next. next ≡ inr f) (λ f m n h k. h ∙ sym k)
    (line_part Lenient (end_rule s))
    (line_part_is_exact Lenient (end_rule s) (end_rule_is_exact s)))
    (made_part_is_exact (λ (t : BreakList) next. next ≡ inl t) (λ t m n h k. h ∙ sym k)
    (line_part Lenient (break_rule s))
    (line_part_is_exact Lenient (break_rule s) (break_rule_is_exact s)))

breaks_part_is_exact : IsExactPart breaks_part.Reads breaks_part.Faults
breaks_part_is_exact =
    then_part_is_exact (line_part Lenient start_rule) (λ s. loop_part next_break s)
    (line_part_is_exact Lenient start_rule start_rule_is_exact)
    (loop_part_is_exact next_break next_break_is_exact)

pub breaks_text_is_exact : IsExactPart breaks_text.Reads breaks_text.Faults
breaks_text_is_exact =
    then_part_is_exact (line_part Lenient (words_rule breaks_title_words)) (λ t. breaks_part)
    (line_part_is_exact Lenient (words_rule breaks_title_words)
    (words_rule_is_exact breaks_title_words)) (λ t. breaks_part_is_exact)
