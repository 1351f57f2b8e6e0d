-- Derivations as the command `check` answers them: chains of inequalities, each of which follows
-- from constraints and earlier ones (Chvátal 1973; Cook, Dash, Fukasawa and Goycoolea 2009; Cheung,
-- Gleixner and Steffy 2017; the form is own).
use Rattle.std.specs.Prelude.{ℕ, ◌≡◌, ◌⊎◌, List, All, Option, Some, None, IfSome, codes}
use Rattle.gj_lex.specs.declared.spelling.Spelling.TheVariants.{Lenient}
use Rattle.gj_forms.specs.Parts.{BeginsWithWord, IsFirstFaultIn}
use Rattle.gj_shape.specs.FunctionData.{FunctionData}
use Rattle.gj_proof.specs.declared.cut.CutRule.{CutRule}
use Rattle.gj_proof.specs.declared.cut.CutRule.TheVariants.{Gmic, Table}
use Rattle.gj_problem.specs.Problems.{Holds}
use Rattle.gj_problem_text.specs.SafeInputs.{BeginsAsFunction}
use Rattle.gj_derivation.specs.Derivations.{IsUsable, IsDerivation}
use Rattle.gj_derivation.specs.StepLists.{IsFailure, TellsWide}
use Rattle.gj_derivation.specs.declared.step.Verdict.TheVariants.{Wide}
use Rattle.gj_derivation.specs.declared.steps.Checked.TheVariants.{Accepted, Failed}
use Rattle.gj_derivation.specs.declared.steps.Failure.{Failure}
use Rattle.gj_derivation_text.specs.DerivationInputs.{derivation_input, IsDerivationText, IsLineOfStep}
use Rattle.gj_derivation_text.specs.VerdictLines.{accepted_line, rejected_line}
use Rattle.gj_derivation_text.specs.declared.input.DerivationInput.{DerivationInput}
use Rattle.gj_top.specs.declared.reply.End.{End}
use Rattle.gj_top.specs.declared.reply.End.TheVariants.{Done, Rejected}
use Rattle.gj_top.specs.Forms.{NamesFault}
use Rattle.gj_top.specs.Objection.{IsObjection}
use Rattle.gj_top.specs.Told.{Told, IsTold}

-- ---- the input

-- the first line that is not skipped begins with the word `gj-derivation` or `gj-function`
abbrev pub BeginsAsDerivation : List ℕ → Type 0
BeginsAsDerivation input = BeginsWithWord Lenient (codes "gj-derivation") input
    ⊎ BeginsAsFunction input

-- the input tells the derivation, with the function in front of it, if there is one
abbrev pub SpellsDerivation : List ℕ → Told DerivationInput → Type 0
SpellsDerivation input t = IsTold IsDerivationText input t

-- it tells none, and the text names the first line at fault
abbrev pub RefusesDerivation : List ℕ → List ℕ → Type 0
RefusesDerivation input text = NamesFault (IsFirstFaultIn derivation_input input) text

-- ---- the answer

-- the rule for which the function in front stands; without one the mixed-integer cut
abbrev pub rule_in_front : Option FunctionData → CutRule
rule_in_front None = Gmic
rule_in_front (Some f) = Table f

-- and the function of a rule
abbrev pub function_of : CutRule → Option FunctionData
function_of Gmic = None
function_of (Table f) = Some f

-- the steps are a derivation in which each number fits, and the text says that it is accepted
pub record IsAcceptedDerivation (t : Told DerivationInput) (text : List ℕ) : Type 0 where
  pub derivation : IsDerivation t.told.function t.told.problem t.told.steps
  pub wide : TellsWide t.told.function t.told.problem t.told.steps Accepted
  pub spelled : text ≡ accepted_line

-- the text names the line of the first step that fails, and what stands against it: that is `wide`
-- where a number does not fit, and a derivation is rejected only there
pub record IsRejectedDerivation (t : Told DerivationInput) (text : List ℕ) : Type 0 where
  pub failure : Failure
  pub first : IsFailure t.told.function t.told.problem t.told.steps failure
  pub narrow : IsDerivation t.told.function t.told.problem t.told.steps → failure.verdict ≡ Wide
  pub wide : TellsWide t.told.function t.told.problem t.told.steps (Failed failure)
  pub at_line : ℕ
  pub begins : IsLineOfStep t.text t.told.left failure.step at_line
  pub spelled : text ≡ rejected_line t.told.columns t.told.lines at_line failure.verdict

-- what the checker says of the steps, if cuts by the function in front hold, and else why it makes
-- none
abbrev pub IsDerivationReply : Told DerivationInput → End → List ℕ → Type 0
IsDerivationReply t Done text = IfSome t.told.function IsUsable × IsAcceptedDerivation t text
IsDerivationReply t Rejected text = IfSome t.told.function IsUsable × IsRejectedDerivation t text
IsDerivationReply t end text = IsObjection (rule_in_front t.told.function) end text

-- the headline: each claim holds at all feasible points of the problem, and the text says that the
-- derivation is accepted
abbrev pub IsTrueDerivation : Told DerivationInput → List ℕ → Type 0
IsTrueDerivation t text = All (λ s. Holds t.told.problem s.claim) t.told.steps
    × (text ≡ accepted_line)
