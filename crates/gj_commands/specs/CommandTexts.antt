-- What one command writes, in the fewest words (own).
use Rattle.std.specs.Prelude.{ℕ, ◌≡◌, ◌⊎◌, List, ◌++◌, All, codes, flat_map, map, IfSome, Option, Some, String, string_bytes}
use Rattle.std.specs.declared.alloc.Global.{Global}
use Rattle.gj_forms.specs.LineForms.{bytes_of}
use Rattle.gj_shape.specs.Extreme.{IsExtreme}
use Rattle.gj_shape.specs.FunctionData.{FunctionData, IsWithinBounds, IsContinuous}
use Rattle.gj_shape.specs.Table.{IsMinimal}
use Rattle.gj_shape.specs.Violation.{ShowsViolation}
use Rattle.gj_shape.specs.declared.extremality.Halves.{Halves}
use Rattle.gj_shape.specs.declared.extremality.LimitHalves.{LimitHalves}
use Rattle.gj_shape.specs.declared.violations.Violation.{Violation}
use Rattle.gj_function_lines.specs.FunctionLines.{line, AreFunctionLines}
use Rattle.gj_function_text.specs.FunctionText.{IsCanonicalText}
use Rattle.gj_json.specs.JsonText.{IsReport}
use Rattle.gj_proof.specs.Meaning.{ClaimHolds, ShowHalves}
use Rattle.gj_proof.specs.ProofText.{AreSubjectLines, subject_of_rule, title_fields, claim_fields, violation_line, halves_text, row_text}
use Rattle.gj_proof.specs.declared.cut.CutLine.{CutLine}
use Rattle.gj_proof.specs.declared.cut.CutRule.{CutRule}
use Rattle.gj_proof.specs.declared.numbers.Numbers.{Numbers}
use Rattle.gj_proof.specs.declared.numbers.Numbers.TheVariants.{Whole}
use Rattle.gj_proof.specs.declared.claim.Claim.{Claim}
use Rattle.gj_limit_averages.specs.Averages.{IsExtremeFunction}
use Rattle.gj_limit_proof.specs.LimitMeaning.{LimitClaimHolds, ShowLimitHalves}
use Rattle.gj_limit_proof.specs.LimitText.{halves_text as limit_halves_text}
use Rattle.gj_limit_proof.specs.declared.claim.LimitClaim.{LimitClaim}
use Rattle.gj_cut_text.specs.MixedLines.{mixed_row_text}
use Rattle.gj_cut_text.specs.declared.mixed_lines.MixedLine.{MixedLine}
use Rattle.gj_problem.specs.Problems.{Holds}
use Rattle.gj_derivation.specs.declared.draft.Shown.{Shown}
use Rattle.gj_derivation.specs.declared.step.Step.{Step}
use Rattle.gj_derivation_text.specs.PrintedDerivation.{IsDerivedText}
use Rattle.gj_derivation_text.specs.Readable.{IsReadableDerivation}
use Rattle.gj_derivation_text.specs.declared.input.DerivationInput.{DerivationInput}
use Rattle.gj_top.specs.Forms.{IsProofOf, IsLimitProofOf}
use Rattle.gj_top.specs.declared.status.Status.{Status}
use Rattle.gj_top.specs.declared.status.Status.TheVariants.{Done}

-- ---- a run

-- if these were the words, the status is Done and the source told the input, then this holds of the
-- input and of the text that the sink took, if it tells
abbrev pub HasWritten : List (List ℕ) → (List ℕ → List ℕ → Type 0) → List (String Global) → Status →
    Option (List ℕ) → Option (List ℕ) →
    Option (List ℕ) → Type 0
HasWritten spelled P words status left written after =
    map string_bytes words ≡ spelled → status ≡ Done → (input : List ℕ) → left ≡ Some input →
    IfSome written (λ before. (text : List ℕ) × (after ≡ Some (before ++ text)) × P input text)

-- the input is the canonical text of f, which is within the limits
abbrev pub IsTextOf : FunctionData → List ℕ → Type 0
IsTextOf f input = IsWithinBounds f × IsCanonicalText input f

-- ---- proof texts

-- the text is the title, the line `claim W`, the lines of f, these lines, and `end`
pub record IsProofWith (word : List ℕ) (f : FunctionData) (own text : List ℕ) : Type 0 where
  pub numbers : Numbers
  pub function_lines : List ℕ
  pub are_function_lines : AreFunctionLines f function_lines
  pub spelled : text ≡ bytes_of (title_fields numbers) ++ bytes_of (claim_fields word)
      ++ function_lines ++ own ++ line (codes "end")

-- the text calls f so: it is such a proof text, with any lines behind those of f
abbrev pub Calls : FunctionData → List ℕ → List ℕ → Type 0
Calls f text word = (own : List ℕ) × IsProofWith word f own text

-- the text is a JSON report with this verdict
abbrev pub Reports : List ℕ → List ℕ → Type 0
Reports text verdict = (proof : List ℕ) × IsReport verdict proof text

-- f is called minimal, and it is; or not minimal, and it is not
abbrev pub TellsMinimality : FunctionData → (List ℕ → Type 0) → Type 0
TellsMinimality f IsCalled =
    (IsCalled (codes "minimal") × IsMinimal f)
    ⊎ (IsCalled (codes "not-minimal") × (IsMinimal f → ⊥))

-- f is called extreme, and it is continuous and extreme; or not extreme, and it is continuous and
-- minimal, and not extreme; or not minimal, and it is not
abbrev pub TellsExtremality : FunctionData → (List ℕ → Type 0) → Type 0
TellsExtremality f IsCalled =
    (IsCalled (codes "extreme") × IsContinuous f × IsExtreme f)
    ⊎ (IsCalled (codes "not-extreme") × IsContinuous f × IsMinimal f × (IsExtreme f → ⊥))
    ⊎ (IsCalled (codes "not-minimal") × (IsMinimal f → ⊥))

-- the text has the lines of a violation, which shows that f is not minimal
abbrev pub ShowsNotMinimal : FunctionData → List ℕ → Type 0
ShowsNotMinimal f text = (v : Violation)
    × IsProofWith (codes "not-minimal") f (violation_line v) text × ShowsViolation f v

-- the text has the lines of halves, which show that f is not extreme
abbrev pub ShowsNotExtreme : FunctionData → List ℕ → Type 0
ShowsNotExtreme f text = (h : Halves) × IsProofWith (codes "not-extreme") f (halves_text h) text
    × ShowHalves f h

-- ---- proof texts about functions that jump

-- the text is the line `gj-proof 3`, the line `claim W`, the lines of f, these lines, and `end`
pub record IsLimitProofWith (word : List ℕ) (f : FunctionData) (own text : List ℕ) : Type 0 where
  pub function_lines : List ℕ
  pub are_function_lines : AreFunctionLines f function_lines
  pub spelled : text ≡ line (codes "gj-proof 3") ++ bytes_of (claim_fields word) ++ function_lines
      ++ own ++ line (codes "end")

-- the text calls f so: it is such a proof text, with any lines behind those of f
abbrev pub CallsByLimits : FunctionData → List ℕ → List ℕ → Type 0
CallsByLimits f text word = (own : List ℕ) × IsLimitProofWith word f own text

-- f is told as without `--jumps`; or it jumps, and is called extreme, and it is minimal and no
-- average of two different minimal functions; or it jumps and is called not extreme, and it is
-- minimal, and such an average
abbrev pub TellsJumpsExtremality : FunctionData → (List ℕ → Type 0) → (List ℕ → Type 0) → Type 0
TellsJumpsExtremality f IsCalled IsCalledByLimits =
    TellsExtremality f IsCalled
    ⊎ (IsCalledByLimits (codes "extreme") × (IsContinuous f → ⊥) × IsExtremeFunction f)
    ⊎ (IsCalledByLimits (codes "not-extreme") × (IsContinuous f → ⊥) × IsMinimal f
    × (IsExtremeFunction f → ⊥))

-- the text has the lines of halves, which show that f is not extreme
abbrev pub ShowsNotExtremeByLimits : FunctionData → List ℕ → Type 0
ShowsNotExtremeByLimits f text = (h : LimitHalves) × IsLimitProofWith (codes "not-extreme") f
    (limit_halves_text h) text × ShowLimitHalves f h

-- what is accepted of a text: f is called extreme in it, and it is continuous and extreme; or by
-- limits, and it is no average of two different minimal functions
abbrev pub IsCalledExtremeIn : FunctionData → List ℕ → Type 0
IsCalledExtremeIn f text =
    (Calls f text (codes "extreme") × IsContinuous f × IsExtreme f)
    ⊎ (CallsByLimits f text (codes "extreme") × IsExtremeFunction f)

-- or f is called not extreme in it, and it is minimal and not extreme
abbrev pub IsCalledNotExtremeIn : FunctionData → List ℕ → Type 0
IsCalledNotExtremeIn f text =
    (Calls f text (codes "not-extreme") × IsContinuous f × IsMinimal f × (IsExtreme f → ⊥))
    ⊎ (CallsByLimits f text (codes "not-extreme") × IsMinimal f × (IsExtremeFunction f → ⊥))

-- the text is the proof text of a claim that holds, or of one about a function that jumps
abbrev pub ProvesClaim : List ℕ → Type 0
ProvesClaim text =
    ((c : Claim) × IsProofOf text c × ClaimHolds c)
    ⊎ ((c : LimitClaim) × IsLimitProofOf text c × LimitClaimHolds c)

-- ---- acceptance

-- the line of an accepted claim with this word
abbrev pub accepted : List ℕ → List ℕ
accepted word = line (codes "accepted " ++ word)

-- ---- cuts

-- the text is the title, the line `claim cut`, the lines of the rule, those of the cuts, and `end`
pub record IsTextOfCutLines («rule» : CutRule) (lines : List CutLine) (text : List ℕ) : Type 0 where
  pub rule_lines : List ℕ
  pub are_rule_lines : AreSubjectLines (subject_of_rule «rule») rule_lines
  pub spelled : text ≡ bytes_of (title_fields Whole) ++ bytes_of (claim_fields (codes "cut"))
      ++ rule_lines
      ++ flat_map row_text lines ++ line (codes "end")

-- the text is the line `gj-mixed 1`, the lines of the rule, those of the cuts, and `end`
pub record IsTextOfMixedLines («rule» : CutRule) (lines : List MixedLine) (text : List ℕ) :
    Type 0 where
  pub rule_lines : List ℕ
  pub are_rule_lines : AreSubjectLines (subject_of_rule «rule») rule_lines
  pub spelled : text ≡ line (codes "gj-mixed 1") ++ rule_lines ++ flat_map mixed_row_text lines
      ++ line (codes "end")

-- ---- derivations

-- the text is the printed one of the derivation; steps that are left out are comments in it
pub record IsPrintedDerivation (d : DerivationInput) (text : List ℕ) : Type 0 where
  pub readable : IsReadableDerivation d
  pub constraint_names : List (List ℕ)
  pub names : List (List ℕ)
  pub shown : List Shown
  pub text_is : IsDerivedText d constraint_names names shown text

-- each claim holds at all feasible points of the problem
abbrev pub AreTrueSteps : DerivationInput → Type 0
AreTrueSteps d = All (λ (s : Step). Holds d.problem s.claim) d.steps
