-- How the lines of breakpoints that were read make the lines of the text, and a fault of theirs one
-- of the text.
use Rattle.std.proofs.Common.{◌≡◌, ◌⊎◌, inl, inr, ℕ, List, length, Result, Ok, Err, refl}
use Rattle.std.specs.Borrow.{Bor}
use Rattle.gj_forms.specs.declared.fault.PartFault.{PartFault}
use Rattle.gj_lex.specs.declared.spelling.Spelling.TheVariants.{Lenient}
use Rattle.gj_forms.specs.TextLines.{HasLine}
use Rattle.gj_forms.specs.Parts.{line_part, loop_part, IsFaultOf, IsReading}
use Rattle.gj_forms.proofs.PartLaws.{fault_in_made}
use Rattle.gj_forms.proofs.WhereLaws.{fault_where, fault_else}
use Rattle.gj_forms.proofs.LoopRead.{LeadsOn, leads_on, leads_to_end, leads_to_fault}
use Rattle.gj_shape.specs.FunctionData.{FunctionData}
use Rattle.gj_shape.specs.Given.{IsTooFineOf}
use Rattle.gj_shape.specs.Breaks.{BreakList, IsBreakFault, AreListsOfBreaks}
use Rattle.gj_shape.specs.declared.breaks.Break.{Break}
use Rattle.gj_shape.specs.declared.breaks.BreakFault.{BreakFault}
use Rattle.gj_shape.specs.declared.breaks.BreakFault.TheVariants as fault
use Rattle.gj_shape.specs.declared.faults.ShapeFault.{ShapeFault}
use Rattle.gj_shape.specs.declared.faults.ShapeFault.TheVariants as shape
use Rattle.gj_function_lines.specs.BreakLines.{spelled_break_rule}
use Rattle.gj_function_text.specs.BreaksText.{end_words, break_rule, end_rule, EndsHere, next_break}
use Rattle.gj_function_text.specs.BreaksRead.{refusal_of, end_refusal}
use Rattle.gj_function_text.proofs.ExactBreaks.{last_of, more_of}

-- ---- the line of a breakpoint

-- the breakpoint of a line cannot follow
pub break_refused : (text start rest : List ℕ) (words : List (List ℕ)) (s : BreakList) (b : Break)
    (f : BreakFault) →
    HasLine Lenient text start words rest → spelled_break_rule.Spells words b → IsBreakFault s b f →
    IsFaultOf (line_part Lenient (break_rule s)) text (refusal_of f (length start))
break_refused text start rest words s b fault.Break line spelled h =
    (start, refl, inl (words, rest, line, inr (b, spelled, (fault.Break, h, refl))))
break_refused text start rest words s b fault.Pieces line spelled h =
    (start, refl, inl (words, rest, line, inr (b, spelled, (fault.Pieces, h, refl))))
break_refused text start rest words s b fault.Large line spelled h =
    (start, refl, inl (words, rest, line, inr (b, spelled, (fault.Large, h, refl))))
break_refused text start rest words s b fault.Fine line spelled h =
    (start, refl, inl (words, rest, line, inr (b, spelled, (fault.Fine, h, refl))))
break_refused text start rest words s b (fault.Memory a) line spelled h = tt

-- ---- the line `end`

-- there is no function behind the line
pub end_refused : (text start rest : List ℕ) (words : List (List ℕ)) (s : BreakList)
    (f : ShapeFault) →
    HasLine Lenient text start words rest → words ≡ end_words →
    IsTooFineOf (AreListsOfBreaks s.order s.breaks) f →
    IsFaultOf (line_part Lenient (end_rule s)) text (end_refusal f (length start))
end_refused text start rest words s (shape.Memory a) line is h = tt
end_refused text start rest words s shape.Order line is h = absurd h
end_refused text start rest words s shape.Place line is h = absurd h
end_refused text start rest words s shape.Count line is h = absurd h
end_refused text start rest words s (shape.TooLarge i) line is h = absurd h
end_refused text start rest words s (shape.TooFine i) line is
    (left, value, right, (points, grid, left_is, value_is, right_is), fine) = (
      start,
      refl,
      inl (
        words,
        rest,
        line,
        inr
            (tt, is, (refl, (points, i, grid, rw (← left_is, ← value_is, ← right_is) fine))),
      ),
    )

-- ---- the lines in turn

module _ (first : BreakList) (text : List ℕ) where
  pub break_on : (s t : BreakList) (rest behind : List ℕ) → LeadsOn next_break first text s rest →
      (EndsHere s rest → ⊥) →
      (line_part Lenient (break_rule s)).Reads rest t behind →
      LeadsOn next_break first text t behind
  break_on s t rest behind h not line =
      leads_on next_break first text s t rest behind h (inr (not, (t, line, refl)))

  pub fault_in_break : (s : BreakList) (rest : List ℕ) (e : PartFault) →
      LeadsOn next_break first text s rest → (EndsHere s rest → ⊥) →
      IsFaultOf (line_part Lenient (break_rule s)) rest e →
      IsFaultOf (loop_part next_break first) text e
  fault_in_break s rest e h not fault =
      leads_to_fault next_break first text s rest e h
      (fault_else (EndsHere s) (last_of s) (more_of s) rest e not
      (fault_in_made {B = BreakList ⊎ FunctionData} (λ (t : BreakList) next. next ≡ inl t)
      (line_part Lenient (break_rule s)) rest e fault))

  pub breaks_end : (s : BreakList) (rest : List ℕ)
      (result : Result (FunctionData × Bor (List ℕ)) PartFault) →
      LeadsOn next_break first text s rest → EndsHere s rest →
      IsReading (line_part Lenient (end_rule s)) rest result →
      IsReading (loop_part next_break first) text result
  breaks_end s rest (Ok r) h ends line =
      leads_to_end next_break first text s rest r.0 r.1.now h (inl (ends, (r.0, line, refl)))
  breaks_end s rest (Err e) h ends fault =
      leads_to_fault next_break first text s rest e h
      (fault_where (EndsHere s) (last_of s) (more_of s) rest e ends
      (fault_in_made {B = BreakList ⊎ FunctionData} (λ (f : FunctionData) next. next ≡ inr f)
      (line_part Lenient (end_rule s)) rest e fault))
