-- The parts of the text of a derivation, one after another, and the function in front.
use Rattle.std.proofs.Common.{◌≡◌, inl, inr, Option, Some, None, ℕ, List, Bool, true, false, Result, Ok, Err, MatchResult, IfOk, IfErr, map, ◌∷◌, [], refl, sym, ap, subst, ◌∙◌}
use Rattle.gj_lex.specs.declared.spelling.Spelling.TheVariants.{Lenient}
use Rattle.gj_lex.specs.declared.reason.Reason.{Reason}
use Rattle.gj_forms.specs.TextLines.{HasNothing}
use Rattle.gj_forms.specs.Parts.{Part, then_part, IsExactPart, IsFaultOf, IsTail}
use Rattle.gj_forms.specs.declared.fault.PartFault.{PartFault}
use Rattle.gj_forms.proofs.LineNumbers as numbers
use Rattle.gj_forms.proofs.PartLaws.{made_part_is_exact, then_part_is_exact, fault_in_first, fault_in_next, fault_in_made, tail_refused}
use Rattle.gj_forms.proofs.WhereLaws.{where_part_is_exact, fault_where, fault_else}
use Rattle.gj_shape.specs.FunctionData.{FunctionData}
use Rattle.gj_function_text.specs.FirstFault.{IsFirstFaultOfFunction}
use Rattle.gj_function_text.specs.FunctionText.{function_text, IsFunctionText}
use Rattle.gj_function_text.proofs.OneText.{function_text_is_exact}
use Rattle.gj_problem_text.specs.FirstFault.{IsMemoryFault}
use Rattle.gj_problem_text.specs.SafeInputs.{BeginsAsFunction}
use Rattle.gj_problem_text.specs.declared.faults.ProblemFault.{ProblemFault}
use Rattle.gj_problem_text.specs.declared.faults.ProblemFault.TheVariants.{Refused, Memory}
use Rattle.gj_derivation_text.specs.DerivationText.{problem_part, derivation_part}
use Rattle.gj_derivation_text.specs.DerivationInputs.{with_function, input_part, Tells, NamesFirstFaultIn}
use Rattle.gj_derivation_text.specs.declared.drafts.Drafts.{Drafts}
use Rattle.gj_derivation_text.specs.declared.input.DraftInput.{DraftInput}
use Rattle.gj_derivation_text.proofs.ExactText.{title_line, steps_part, ended, behind_problem, behind_title, derivation_part_is_exact}

-- ---- a text without a function

module _ (drafts has_function : Bool) (text : List ℕ) where
  pub fault_in_title : (e : PartFault) → IsFaultOf title_line text e →
      IsFaultOf (derivation_part drafts has_function) text e
  fault_in_title e fault =
      fault_in_first title_line (λ t. behind_title drafts has_function) text e fault

  module _ (lines : List ℕ) (title : title_line.Reads text tt lines) where
    in_rest : (e : PartFault) → IsFaultOf (behind_title drafts has_function) lines e →
        IsFaultOf (derivation_part drafts has_function) text e
    in_rest e fault = fault_in_next title_line (λ t. behind_title drafts has_function) text tt lines
        e title fault

    pub fault_in_problem : (e : PartFault) → IsFaultOf (problem_part drafts) lines e →
        IsFaultOf (derivation_part drafts has_function) text e
    fault_in_problem e fault =
        in_rest e (fault_in_first (problem_part drafts) (behind_problem drafts has_function) lines e
        fault)

    module _ (s : Drafts) (middle : List ℕ) (problem : (problem_part drafts).Reads lines s middle)
      where
        in_steps : (e : PartFault) → IsFaultOf (behind_problem drafts has_function s) middle e →
            IsFaultOf (derivation_part drafts has_function) text e
        in_steps e fault = in_rest e
            (fault_in_next (problem_part drafts) (behind_problem drafts has_function) lines s middle
            e
            problem fault)

        module _ (own : Bool) (same : own ≡ drafts) where
          pub fault_in_steps : (e : PartFault) →
              IsFaultOf (steps_part own has_function s) middle e →
              IsFaultOf (derivation_part drafts has_function) text e
          fault_in_steps e fault =
              in_steps e (fault_in_first (steps_part drafts has_function s) ended middle e
              (subst (λ (b : Bool). IsFaultOf (steps_part b has_function s) middle e) same fault))

          pub fault_behind : (t : Drafts) (rest : List ℕ) (e : PartFault) →
              (steps_part own has_function s).Reads middle t rest →
              IsTail Lenient rest e → IsFaultOf (derivation_part drafts has_function) text e
          fault_behind t rest e h tail =
              in_steps e (fault_in_next (steps_part drafts has_function s) ended middle t rest e
              (subst (λ (b : Bool). (steps_part b has_function s).Reads middle t rest) same h)
              (tail_refused Lenient t rest e tail))

          pub whole_text : (t : Drafts) (rest : List ℕ) →
              (steps_part own has_function s).Reads middle t rest → HasNothing Lenient rest →
              Tells (derivation_part drafts has_function) text t
          whole_text t rest h nothing =
              let read = subst (λ (b : Bool). (steps_part b has_function s).Reads middle t rest)
              same
              h in (
                rest,
                (
                  tt,
                  lines,
                  title,
                  (s, middle, problem, (t, rest, read, (refl, refl, nothing))),
                ),
              )

-- ---- with a function, or without one

abbrev is_with : Option FunctionData → Drafts → DraftInput → Type 0
is_with f s a = a ≡ record { function = f; drafts = s }

abbrev plain_part : Bool → Part DraftInput
plain_part drafts = with_function None (derivation_part drafts false)

abbrev behind_function : Bool → FunctionData → Part DraftInput
behind_function drafts f = with_function (Some f) (derivation_part drafts true)

abbrev function_part : Bool → Part DraftInput
function_part drafts = then_part function_text (behind_function drafts)

module _ (drafts : Bool) (text : List ℕ) (not : BeginsAsFunction text → ⊥) where
  pub plain_read : (s : Drafts) → Tells (derivation_part drafts false) text s →
      Tells (input_part drafts) text (record { function = None; drafts = s })
  plain_read s (rest, h) = (rest, inr (not, (s, h, refl)))

  pub plain_fault : (e : PartFault) → IsFaultOf (derivation_part drafts false) text e →
      IsFaultOf (input_part drafts) text e
  plain_fault e fault =
      fault_else BeginsAsFunction (function_part drafts) (plain_part drafts) text e not
      (fault_in_made (is_with None) (derivation_part drafts false) text e fault)

module _ (drafts : Bool) (text : List ℕ) (is : BeginsAsFunction text) where
  pub function_fault : (n : ℕ) (e : Reason) → IsFirstFaultOfFunction text n e →
      NamesFirstFaultIn (input_part drafts) text (Refused n e)
  function_fault n e (start, h, at) = (start, inl (is, inl h), at)

  module _ (f : FunctionData) (middle : List ℕ) (function : IsFunctionText text f middle) where
    pub behind_read : (s : Drafts) → Tells (derivation_part drafts true) middle s →
        Tells (input_part drafts) text (record { function = Some f; drafts = s })
    behind_read s (rest, h) = (rest, inl (is, (f, middle, function, (s, h, refl))))

    pub behind_fault : (e : PartFault) → IsFaultOf (derivation_part drafts true) middle e →
        IsFaultOf (input_part drafts) text e
    behind_fault e h =
        fault_where BeginsAsFunction (function_part drafts) (plain_part drafts) text e is
        (fault_in_next function_text (behind_function drafts) text f middle e function
        (fault_in_made (is_with (Some f)) (derivation_part drafts true) middle e h))

-- ---- one input

with_function_is_exact : (f : Option FunctionData) (p : Part Drafts) →
    IsExactPart p.Reads p.Faults →
    IsExactPart (with_function f p).Reads (with_function f p).Faults
with_function_is_exact f p exact = made_part_is_exact (is_with f) (λ s a b h k. h ∙ sym k) p exact

pub input_part_is_exact : (drafts : Bool) →
    IsExactPart (input_part drafts).Reads (input_part drafts).Faults
input_part_is_exact drafts =
    where_part_is_exact BeginsAsFunction (function_part drafts) (plain_part drafts)
    (then_part_is_exact function_text (behind_function drafts) function_text_is_exact
    (λ f. with_function_is_exact (Some f) (derivation_part drafts true)
    (derivation_part_is_exact drafts true)))
    (with_function_is_exact None (derivation_part drafts false)
    (derivation_part_is_exact drafts false))

-- what is read is the one that is told, and only want of memory keeps it from being read
module _ {A : Type 0} (p : Part A) (exact : IsExactPart p.Reads p.Faults) where
  pub one_told : (text : List ℕ) (a b : A) → Tells p text a → Tells p text b → a ≡ b
  one_told text a b (r, h) (t, k) = (exact.one_thing text a b r t h k).0

  pub only_one : (text : List ℕ) (a : A) (r : Result A ProblemFault) → IfOk r (Tells p text) →
      IfErr r (NamesFirstFaultIn p text) →
      Tells p text a → MatchResult r (λ b. b ≡ a) IsMemoryFault
  only_one text a (Ok b) found fault h = one_told text b a found h
  only_one text a (Err (Refused n e)) found fault (rest, h) =
      numbers.no_first_fault p exact text a rest n e h fault
  only_one text a (Err (Memory m)) found fault h = tt
