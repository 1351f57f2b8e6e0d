-- A derivation as it is printed: in one order, each number in its one spelling (own).
use Rattle.std.specs.Prelude.{ℕ, pos, ◌≡◌, Bool, ◌&&◌, if◌then◌else◌, Option, Some, None, List, [], ◌∷◌, ◌++◌, All, codes, flat_map, length, map}
use Rattle.std.specs.Ordering.{int_eq}
use Rattle.gj_frac.specs.Fraction.{numerator, denominator}
use Rattle.gj_frac.specs.declared.Frac.{Frac}
use Rattle.gj_lex.specs.Name.{IsName}
use Rattle.gj_lex.specs.NumberText.{fraction_text}
use Rattle.gj_forms.specs.LineForms.{line_of}
use Rattle.gj_shape.specs.FunctionData.{FunctionData}
use Rattle.gj_function_lines.specs.FunctionLines.{line}
use Rattle.gj_function_text.specs.FunctionText.{IsCanonicalText}
use Rattle.gj_problem.specs.declared.problem.Entry.{Entry}
use Rattle.gj_problem.specs.declared.problem.Inequality.{Inequality}
use Rattle.gj_problem.specs.declared.problem.Problem.{Problem}
use Rattle.gj_derivation.specs.declared.draft.Shown.{Shown}
use Rattle.gj_derivation.specs.declared.draft.Shown.TheVariants as shown
use Rattle.gj_derivation.specs.declared.step.Combination.{Combination}
use Rattle.gj_derivation.specs.declared.step.Multiplier.{Multiplier}
use Rattle.gj_derivation.specs.declared.step.Step.{Step}
use Rattle.gj_derivation.specs.Drafts.{steps_of}
use Rattle.gj_problem_text.specs.CutText.{name_at}
use Rattle.gj_problem_text.specs.PrintedProblem.{problem_lines}
use Rattle.gj_derivation_text.specs.StepLines.{StepLine, by, upper, times, claim, term, step_form, line_form}
use Rattle.gj_derivation_text.specs.VerdictLines.{left_out_line}
use Rattle.gj_derivation_text.specs.declared.input.DerivationInput.{DerivationInput}

-- what is made of the things of two lists, pair by pair, one behind another
abbrev pub each_pair : {A B C : Type 0} → (A → B → List C) → List A → List B → List C
each_pair make (a ∷ first) (b ∷ second) = make a b ++ each_pair make first second
each_pair make first second = []

-- ---- a step

-- what a line of a multiplier tells; the names are those of the lines
abbrev pub by_told : List (List ℕ) → Multiplier → StepLine
by_told lines m = by (name_at lines m.line) m.value

-- a column that is turned, and a term; the names are those of the columns
abbrev pub upper_told : List (List ℕ) → ℕ → StepLine
upper_told columns j = upper (name_at columns j)

abbrev pub term_told : List (List ℕ) → Entry → StepLine
term_told columns e = term (name_at columns e.column) e.value

-- the factor, but for 1
abbrev pub is_one : Frac → Bool
is_one x = int_eq (numerator x) (pos 1) && int_eq (denominator x) (pos 1)

abbrev pub factor_told : Frac → List StepLine
factor_told x = if is_one x then [] else times x ∷ []

abbrev pub combination_told : List (List ℕ) → List (List ℕ) → Combination → List StepLine
combination_told columns lines c =
    map (by_told lines) c.multipliers
    ++ (map (upper_told columns) c.at_upper ++ factor_told c.factor)

abbrev pub claim_told : List (List ℕ) → Inequality → List StepLine
claim_told columns q = claim (fraction_text q.right) ∷ map (term_told columns) q.entries

abbrev pub step_told : List (List ℕ) → List (List ℕ) → Step → List StepLine
step_told columns lines s =
    combination_told columns lines s.combination ++ claim_told columns s.claim

-- the lines that tell so
abbrev pub printed_lines : List StepLine → List ℕ
printed_lines told = flat_map (line_of line_form) told

-- the first line of a step, and those behind it
abbrev pub step_lines : List (List ℕ) → List (List ℕ) → List ℕ → Step → List ℕ
step_lines columns lines name s =
    line_of step_form (name, (s.combination.rule, tt)) ++ printed_lines (step_told columns lines s)

-- ---- steps, and those that are left out

abbrev pub shown_line : List (List ℕ) → List (List ℕ) → List ℕ → Shown → List ℕ
shown_line columns lines name (shown.Step s) = step_lines columns lines name s
shown_line columns lines name (shown.Against v) = left_out_line columns lines name v

-- with these names
abbrev pub shown_lines : List (List ℕ) → List (List ℕ) → List (List ℕ) → List Shown → List ℕ
shown_lines columns lines names xs = each_pair (shown_line columns lines) names xs

-- the names of those that are not left out
abbrev pub kept_name : List ℕ → Shown → List (List ℕ)
kept_name name (shown.Step s) = name ∷ []
kept_name name (shown.Against v) = []

abbrev pub kept_names : List (List ℕ) → List Shown → List (List ℕ)
kept_names names xs = each_pair kept_name names xs

-- ---- the whole

-- the canonical text of the function, if there is one
abbrev pub HasFunctionText : Option FunctionData → List ℕ → Type 0
HasFunctionText None text = text ≡ []
HasFunctionText (Some f) text = IsCanonicalText text f

-- the lines in front of the steps: the function, the title, and the problem with these names
abbrev pub IsFront : Option FunctionData → List (List ℕ) → List (List ℕ) → Problem → List ℕ → Type 0
IsFront f columns constraints p front =
    (text : List ℕ) × HasFunctionText f text
    × (front ≡ text ++ (line (codes "gj-derivation 1") ++ problem_lines columns constraints p))

-- the lines of the steps that are shown, and of those that are left out, with these names, and the
-- line `end`; the names of the constraints and of the steps are those of the lines
abbrev pub steps_text : List (List ℕ) → List (List ℕ) → List (List ℕ) → List Shown → List ℕ
steps_text columns constraints names xs =
    shown_lines columns (constraints ++ kept_names names xs) names xs ++ line (codes "end")

-- the text of the derivation whose constraints and steps have these names, and of whose steps those
-- are left out that show nothing
pub record IsDerivedText (d : DerivationInput) (constraints names : List (List ℕ)) (xs : List Shown)
    (text : List ℕ) : Type 0 where
  pub steps : d.steps ≡ steps_of xs
  pub lines : d.lines ≡ constraints ++ kept_names names xs
  pub count : length names ≡ length xs
  pub are : All IsName names
  pub front : List ℕ
  pub front_is : IsFront d.function d.columns constraints d.problem front
  pub text_is : text ≡ front ++ steps_text d.columns constraints names xs
