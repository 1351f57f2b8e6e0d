use Rattle.std.proofs.Common.{◌≡◌, ◌+◌, ℕ, refl, sym, ap, ◌∙◌, arith}
use Rattle.gj_shape.specs.FunctionData.{FunctionData}
use Rattle.gj_check.proofs.OwnLineNumbers.{function_lines}
use Rattle.gj_limit_check_halves.specs.declared.failure.HalvesFailure.{HalvesFailure}
use Rattle.gj_limit_check_halves.specs.declared.failure.HalvesFailure.TheVariants.{Scale, Range, Average, First, Second, Same}
use Rattle.gj_limit_check.specs.HalvesLines.{halves_fault_line}
use Rattle.gj_limit_check.proofs.halves.line_of.Goals as goal

-- a failure that is at no point
at_halves : (f : FunctionData) (failure : HalvesFailure) → ((i : ℕ) → failure ≡ Range i → ⊥) →
    ((i : ℕ) → failure ≡ Average i → ⊥) →
    halves_fault_line f failure ≡ f.order + 5
at_halves f Scale range average = refl
at_halves f (Range i) range average = absurd (range i refl)
at_halves f (Average i) range average = absurd (average i refl)
at_halves f First range average = refl
at_halves f Second range average = refl
at_halves f Same range average = refl

pub returns-in_default : goal.returns-in_default
returns-in_default c =
    let f = c.args.shape.now in
    let points = function_lines f in
    let line = c.line_behind_function.ensures.value in
    let number : c.line_behind_function.result ≡ f.order + 5 = omega arith in
    number ∙ sym (at_halves f c.args.failure (λ i. c.in_default.not-Range i)
    (λ i. c.in_default.not-Average i))

pub returns-in-Range : goal.returns-in-Range
returns-in-Range c =
    let f = c.args.shape.now in
    let points = function_lines f in
    let line = c.line_of_pair.ensures in
    let number : c.line_of_pair.result ≡ f.order + 5 + (c.in-Range.index + 1) = omega arith in
    number ∙ ap (halves_fault_line f) (sym c.in-Range.is)

pub returns-in-Average : goal.returns-in-Average
returns-in-Average c =
    let f = c.args.shape.now in
    let points = function_lines f in
    let line = c.line_of_pair-in-Average.ensures in
    let number : c.line_of_pair-in-Average.result ≡ f.order + 5 + (c.in-Average.index + 1) =
    omega arith in
    number ∙ ap (halves_fault_line f) (sym c.in-Average.is)
