-- What a run that ends with Done says over a field in which each number lies between a whole number
-- and the next, so over the real numbers (own; the words are those of Gomory and Johnson 1972).
use Rattle.std.specs.Prelude.{ℕ, ◌≡◌, ◌⊎◌, Bool, true, false, List, ◌++◌, All, map, Option, Some, String}
use Rattle.std.specs.declared.alloc.Global.{Global}
use Rattle.gj_shape.specs.FunctionData.{FunctionData}
use Rattle.gj_shape.specs.declared.violations.Violation.{Violation}
use Rattle.gj_shape.specs.declared.extremality.Halves.{Halves}
use Rattle.gj_shape.specs.declared.extremality.LimitHalves.{LimitHalves}
use Rattle.gj_limit_proof.specs.declared.claim.LimitClaim.{LimitClaim}
use Rattle.gj_row.specs.declared.tableau.Tableau.{Tableau}
use Rattle.gj_proof.specs.declared.claim.Claim.{Claim}
use Rattle.gj_proof.specs.declared.cut.CutRule.{CutRule}
use Rattle.gj_proof.specs.declared.cut.CutLine.{CutLine}
use Rattle.gj_proof.specs.declared.cut.CutLine.TheVariants as cuts
use Rattle.gj_proof.specs.declared.cut.CutTerm.{CutTerm}
use Rattle.gj_cut_text.specs.MixedLines.{AreMixedCutsOf}
use Rattle.gj_cut_text.specs.declared.mixed_lines.MixedLine.{MixedLine}
use Rattle.gj_problem_text.specs.declared.input.SafeInput.{SafeInput}
use Rattle.gj_derivation.specs.Drafts.{steps_of}
use Rattle.gj_derivation_text.specs.VerdictLines.{accepted_line as accepted_derivation}
use Rattle.gj_derivation_text.specs.declared.input.DraftInput.{DraftInput}
use Rattle.gj_words.specs.declared.requests.Command.{Command}
use Rattle.gj_words.specs.declared.requests.Command.TheVariants.{Minimal, Extreme, Cut, Show, Check, Faces, Demo, Mixed, Problem, Derive, Fill, Group, Times, Mirror, Restrict}
use Rattle.gj_words.specs.declared.requests.Request.{Request}
use Rattle.gj_top.specs.Promise.{Spells}
use Rattle.gj_top.specs.Command.{IsNamed, promise_with, promise_for}
use Rattle.gj_top.specs.Minimal.{IsMinimalText, IsNotMinimalText}
use Rattle.gj_top.specs.Extreme.{IsExtremeText, IsNotExtremeText}
use Rattle.gj_top.specs.LimitExtreme.{IsLimitExtremeText, IsLimitNotExtremeText}
use Rattle.gj_top.specs.Check.Checkable.{of_claim, of_limit_claim, of_steps}
use Rattle.gj_top.specs.Check.{Checkable, accepted_line, accepted_limit_line}
use Rattle.gj_top.specs.Derive.{IsTrueDerivedText}
use Rattle.gj_top.specs.Told.{Told}
use Rattle.gj_top.specs.declared.cut_input.CutInput.{CutInput}
use Rattle.gj_top.specs.Problem.{AreProblemCuts}
use Rattle.gj_top.specs.Report.{claims, limit_claims, IsReportBy, Tells, TellsBy}
use Rattle.gj_fields.specs.Fields.{OrderedField, HasFloor}
use Rattle.gj_real_answers.specs.RealMeaning.{IsRealMinimal, IsRealExtreme, RealClaimHolds, RealLimitClaimHolds}
use Rattle.gj_real_cuts.specs.RealRows.{RealCutHolds}
use Rattle.gj_real_problems.specs.RealProblems.{RealHolds, RealSafeCutHolds}

-- the text calls f minimal, and f is minimal among the valid functions; or not minimal, and it is
-- not
abbrev pub IsRealVerdict : {R : Type 0} (K : OrderedField R) → HasFloor K → FunctionData → List ℕ →
    Type 0
IsRealVerdict K floors f text =
    (IsMinimalText f text × IsRealMinimal K floors f)
    ⊎ ((v : Violation) × IsNotMinimalText f v text × (IsRealMinimal K floors f → ⊥))

-- the text calls f extreme, and f is minimal and no average of two different valid functions; or
-- not extreme, and f is minimal and not extreme; or not minimal, and it is not
abbrev pub IsRealExtremality : {R : Type 0} (K : OrderedField R) → HasFloor K → FunctionData →
    List ℕ → Type 0
IsRealExtremality K floors f text =
    (IsExtremeText f text × IsRealExtreme K floors f)
    ⊎ ((h : Halves) × IsNotExtremeText f h text × IsRealMinimal K floors f
    × (IsRealExtreme K floors f → ⊥))
    ⊎ ((v : Violation) × IsNotMinimalText f v text × (IsRealMinimal K floors f → ⊥))

-- the same of a function that jumps, in a text of its own kind
abbrev pub IsRealLimitExtremality : {R : Type 0} (K : OrderedField R) → HasFloor K → FunctionData →
    List ℕ → Type 0
IsRealLimitExtremality K floors f text =
    (IsLimitExtremeText f text × IsRealExtreme K floors f)
    ⊎ ((h : LimitHalves) × IsLimitNotExtremeText f h text × IsRealMinimal K floors f
    × (IsRealExtreme K floors f → ⊥))

-- one of both, or with `--json` the report of such a text
abbrev pub IsRealJumpsExtremality : {R : Type 0} (K : OrderedField R) → HasFloor K → Bool →
    FunctionData → List ℕ → Type 0
IsRealJumpsExtremality K floors json f text =
    Tells json (IsRealExtremality K floors f) text
    ⊎ TellsBy limit_claims json (IsRealLimitExtremality K floors f) text

-- ---- what is claimed

-- the text calls the claim accepted, and so it is over the field
abbrev pub IsRealAcceptance : {R : Type 0} (K : OrderedField R) → HasFloor K → Claim → List ℕ →
    Type 0
IsRealAcceptance K floors c text = RealClaimHolds K floors c × (text ≡ accepted_line c)

abbrev pub IsRealLimitAcceptance : {R : Type 0} (K : OrderedField R) → HasFloor K → LimitClaim →
    List ℕ → Type 0
IsRealLimitAcceptance K floors c text =
    RealLimitClaimHolds K floors c × (text ≡ accepted_limit_line c)

-- the text calls what is checked accepted; a claim holds over the field, and the claims of a
-- derivation hold at all feasible points of real numbers
abbrev pub IsRealCheck : {R : Type 0} (K : OrderedField R) → HasFloor K → Checkable → List ℕ →
    Type 0
IsRealCheck K floors (of_claim c) text = IsRealAcceptance K floors c text
IsRealCheck K floors (of_limit_claim c) text = IsRealLimitAcceptance K floors c text
IsRealCheck K floors (of_steps t) text =
    All (λ s. RealHolds K t.told.problem s.claim) t.told.steps × (text ≡ accepted_derivation)

-- the text is the printed one of a derivation, and each claim holds at all feasible points of real
-- numbers
pub record IsRealDerivedText {R : Type 0} (K : OrderedField R) (t : Told DraftInput)
    (text : List ℕ) : Type 0 where
  pub derived : IsTrueDerivedText t text
  pub hold : All (λ s. RealHolds K t.told.drafts.task.problem s.claim) (steps_of derived.shown)

-- ---- cuts

-- the cut of a line, if it has one, holds at all whole and real amounts
abbrev pub RealLineHolds : {R : Type 0} → OrderedField R → CutLine → List CutTerm → Type 0
RealLineHolds K (cuts.Cut name right terms) weights =
    RealCutHolds K (map (λ t. t.entry) terms) (map (λ t. t.entry) weights) right
    (map (λ t. t.cut) terms) (map (λ t. t.cut) weights)
RealLineHolds K (cuts.Skip name right reason) weights = Unit {0}

abbrev pub RealMixedLineHolds : {R : Type 0} → OrderedField R → MixedLine → Type 0
RealMixedLineHolds K m = RealLineHolds K m.line m.weights

-- the text has the mixed cuts of the rows, and each holds at all whole and real amounts
pub record AreRealMixedCuts {R : Type 0} (K : OrderedField R) («rule» : CutRule) (tableau : Tableau)
    (text : List ℕ) : Type 0 where
  pub cuts : AreMixedCutsOf «rule» tableau text
  pub hold : All (RealMixedLineHolds K) cuts.lines

-- the text has cuts of the problem, and each holds at all feasible points of real numbers
pub record AreRealProblemCuts {R : Type 0} (K : OrderedField R) (asked : SafeInput)
    (text : List ℕ) :
    Type 0 where
  pub cuts : AreProblemCuts asked text
  pub hold : All (RealSafeCutHolds K asked.task.problem) cuts.cuts

-- what is promised of a text, over the field; where no real number enters, as for cuts of whole
-- columns, it is what is promised
abbrev pub real_headline : {R : Type 0} (K : OrderedField R) → HasFloor K →
    (command : Command) (json jumps : Bool) → (promise_with command json jumps).Thing → List ℕ →
    Type 0
real_headline K floors Minimal true jumps =
    λ f text. IsReportBy claims (IsRealVerdict K floors f) text
real_headline K floors Minimal false jumps = IsRealVerdict K floors
real_headline K floors Extreme true false =
    λ f text. IsReportBy claims (IsRealExtremality K floors f) text
real_headline K floors Extreme false false = IsRealExtremality K floors
real_headline K floors Extreme json true = IsRealJumpsExtremality K floors json
real_headline K floors Check json jumps = IsRealCheck K floors
real_headline K floors Mixed json jumps =
    λ (input : CutInput) text. AreRealMixedCuts K input.rule input.tableau text
real_headline K floors Problem json jumps = AreRealProblemCuts K
real_headline K floors Derive json jumps = IsRealDerivedText K
real_headline K floors Show true jumps = (promise_with Show true jumps).headline
real_headline K floors Show false jumps = (promise_with Show false jumps).headline
real_headline K floors Faces json false = (promise_with Faces json false).headline
real_headline K floors Faces json true = (promise_with Faces json true).headline
real_headline K floors Cut json jumps = (promise_with Cut json jumps).headline
real_headline K floors (Demo n) json jumps = (promise_with (Demo n) json jumps).headline
real_headline K floors Fill json jumps = (promise_with Fill json jumps).headline
real_headline K floors Group json jumps = (promise_with Group json jumps).headline
real_headline K floors (Times n j) json jumps = (promise_with (Times n j) json jumps).headline
real_headline K floors Mirror json jumps = (promise_with Mirror json jumps).headline
real_headline K floors (Restrict d) json jumps = (promise_with (Restrict d) json jumps).headline

-- the words name a request, the input is in its form, and what was written keeps this
pub record IsTrueRealRun {R : Type 0} (K : OrderedField R) (floors : HasFloor K)
    (words : List (String Global)) (input before : List ℕ) (written : Option (List ℕ)) :
    Type 0 where
  pub request : Request
  pub named : IsNamed words request
  pub text : List ℕ
  pub thing : (promise_for request).Thing
  pub spelled : Spells (promise_for request).form input thing
  pub holds : real_headline K floors request.command request.json request.jumps thing text
  pub gain : written ≡ Some (before ++ text)
