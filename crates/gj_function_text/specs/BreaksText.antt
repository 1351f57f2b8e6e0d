-- Functions by their breakpoints, in lenient spelling (own): the line `f F`, a line `point X V` or
-- `point X L V R` for each breakpoint, and the line `end`.
use Rattle.std.specs.Prelude.{ℕ, ◌≡◌, ◌≢◌, ◌⊎◌, ◌≤◌, List, [], ◌∷◌, codes, unsigned_abs}
use Rattle.std.proofs.Common.{inl, inr}
use Rattle.gj_frac.specs.Fraction.{denominator, IsInside}
use Rattle.gj_forms.specs.Parts.{words_rule, LineRule, Part, line_part, then_part, made_part, where_part, loop_part, BeginsWithWord}
use Rattle.gj_lex.specs.declared.spelling.Spelling.TheVariants.{Lenient}
use Rattle.gj_lex.specs.declared.reason.Reason.{Reason}
use Rattle.gj_lex.specs.declared.reason.Reason.TheVariants as reason
use Rattle.gj_shape.specs.Limits.{greatest_order}
use Rattle.gj_shape.specs.FunctionData.{FunctionData}
use Rattle.gj_shape.specs.Breaks.{BreakList, no_breaks, Follows, IsBreakFault, IsOfBreaks, AreTooFine}
use Rattle.gj_shape.specs.declared.breaks.BreakFault.{BreakFault}
use Rattle.gj_shape.specs.declared.breaks.BreakFault.TheVariants as fault
use Rattle.gj_forms.specs.SpelledForms.{rule_in, made_rule}
use Rattle.gj_function_lines.specs.FunctionLines.{place_form}
use Rattle.gj_function_lines.specs.BreakLines.{spelled_break_rule}

-- the words of the last line
abbrev pub end_words : List (List ℕ)
end_words = codes "end" ∷ []

-- `f F`, with F between 0 and 1 and a denominator of at most 1,000
abbrev pub start_rule : LineRule BreakList
start_rule =
    made_rule (λ x s. IsInside x × (unsigned_abs (denominator x) ≤ greatest_order)
    × (s ≡ no_breaks x))
    (λ x e. ((e ≡ reason.Place) × (IsInside x → ⊥))
    ⊎ ((e ≡ reason.Pieces) × IsInside x × (unsigned_abs (denominator x) ≤ greatest_order → ⊥)))
    (rule_in Lenient place_form)

-- ---- `point X V` or `point X L V R`, of a breakpoint that can follow those before

-- how a line is refused whose breakpoint cannot follow
abbrev pub IsReasonOfBreak : BreakFault → Reason → Type 0
IsReasonOfBreak fault.Break e = e ≡ reason.Break
IsReasonOfBreak fault.Pieces e = e ≡ reason.Pieces
IsReasonOfBreak fault.Large e = e ≡ reason.Large
IsReasonOfBreak fault.Fine e = e ≡ reason.Fine
IsReasonOfBreak (fault.Memory a) e = ⊥

abbrev pub break_rule : BreakList → LineRule BreakList
break_rule s =
    made_rule (Follows s) (λ b e. (f : BreakFault) × IsBreakFault s b f × IsReasonOfBreak f e)
    spelled_break_rule

-- `end`, of a function whose fractions on the grid have a common denominator
abbrev pub end_rule : BreakList → LineRule FunctionData
end_rule s =
    made_rule (λ t f. IsOfBreaks s f) (λ t e. (e ≡ reason.Fine) × AreTooFine s.order s.breaks)
    (words_rule end_words)

-- ---- the lines

-- there is a breakpoint, and the next line begins with `end`
abbrev pub EndsHere : BreakList → List ℕ → Type 0
EndsHere s text = (s.breaks ≢ []) × BeginsWithWord Lenient (codes "end") text

-- the next line: the last one, or that of one more breakpoint
abbrev pub next_break : BreakList → Part (BreakList ⊎ FunctionData)
next_break s =
    where_part (EndsHere s) (made_part (λ f next. next ≡ inr f) (line_part Lenient (end_rule s)))
    (made_part (λ (t : BreakList) next. next ≡ inl t) (line_part Lenient (break_rule s)))

abbrev pub breaks_part : Part FunctionData
breaks_part = then_part (line_part Lenient start_rule) (λ s. loop_part next_break s)
