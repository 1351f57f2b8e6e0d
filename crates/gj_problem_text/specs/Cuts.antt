-- The cuts of a problem that a text asks for (own).
use Rattle.std.specs.Prelude.{ℕ, ◌≡◌, Option, Some, None, Bool, true, false, List, [], ◌∷◌, length, slice_set, replicate}
use Rattle.gj_frac.specs.declared.Frac.{Frac}
use Rattle.gj_problem.specs.RoundedCuts.{IsRoundedCut, IsFirstFreeEntry, IsWideRounding}
use Rattle.gj_problem.specs.declared.problem.Inequality.{Inequality}
use Rattle.gj_problem.specs.declared.problem.Problem.{Problem}
use Rattle.gj_relaxed.specs.RelaxedCuts.{IsGmicRelaxedCutOf, IsFunctionRelaxedCutOf}
use Rattle.gj_safe_cut.specs.SafeCuts.{IsGmicSafeCutOf, IsFunctionSafeCutOf, TellsWide}
use Rattle.gj_safe_cut.specs.declared.cut.SafeCut.{SafeCut}
use Rattle.gj_safe_cut.specs.declared.cut.SafeCut.TheVariants.{Cut, Integral, OtherFraction, Free, Wide}
use Rattle.gj_proof.specs.declared.cut.CutRule.{CutRule}
use Rattle.gj_proof.specs.declared.cut.CutRule.TheVariants.{Gmic, Table}
use Rattle.gj_problem_text.specs.declared.task.Request.{Request}
use Rattle.gj_problem_text.specs.declared.task.Request.TheVariants.{Upper, Sum}
use Rattle.gj_problem_text.specs.declared.task.Task.{Task}

-- the inequality rounded to multiples of 1/n, or why it is not
abbrev pub IsRoundedTo : Problem → ℕ → Inequality → SafeCut → Type 0
IsRoundedTo p n q (Cut rounded) = IsRoundedCut p n q rounded
IsRoundedTo p n q (Free j) = IsFirstFreeEntry p n q.entries j
IsRoundedTo p n q Wide = IsWideRounding p n q
IsRoundedTo p n q Integral = ⊥
IsRoundedTo p n q OtherFraction = ⊥

-- a cut is rounded if there is a grid
abbrev pub IsOnGridOf : Problem → Option ℕ → SafeCut → SafeCut → Type 0
IsOnGridOf p (Some n) (Cut q) answer = IsRoundedTo p n q answer
IsOnGridOf p (Some n) cut answer = answer ≡ cut
IsOnGridOf p None cut answer = answer ≡ cut

-- the cut by the rule: the mixed-integer cut, or that by a function and its slopes at 0; of the
-- problem and its row as they are, or with all data on the grid of all k/n
abbrev pub IsCutBy : CutRule → Option ℕ → Problem → List Frac → List Bool → SafeCut → Type 0
IsCutBy Gmic None p multipliers at_upper cut = IsGmicSafeCutOf p multipliers at_upper cut
IsCutBy Gmic (Some n) p multipliers at_upper cut = IsGmicRelaxedCutOf n p multipliers at_upper cut
IsCutBy (Table f) None p multipliers at_upper cut = IsFunctionSafeCutOf f p multipliers at_upper cut
IsCutBy (Table f) (Some n) p multipliers at_upper cut =
    IsFunctionRelaxedCutOf f n p multipliers at_upper cut

-- what is answered to the multipliers, if these columns are turned by their upper bounds; it is
-- `Wide` where a number does not fit, and so is the cut before it is rounded
abbrev pub IsAnswer : CutRule → Task → List Frac → List Bool → SafeCut → Type 0
IsAnswer r s multipliers at_upper answer =
    (cut : SafeCut) × IsCutBy r s.round s.problem multipliers at_upper cut
    × TellsWide (IsCutBy r s.round s.problem multipliers at_upper) cut
    × IsOnGridOf s.problem s.grid cut answer × TellsWide (IsOnGridOf s.problem s.grid cut) answer

-- what is answered to the requests, in their order
abbrev pub AreAnswers : CutRule → Task → List Bool → List Request → List SafeCut → Type 0
AreAnswers r s at_upper [] cuts = cuts ≡ []
AreAnswers r s at_upper (Upper j ∷ requests) cuts =
    AreAnswers r s (slice_set at_upper j true) requests cuts
AreAnswers r s at_upper (Sum multipliers ∷ requests) cuts =
    (cut : SafeCut) × (others : List SafeCut) × (cuts ≡ cut ∷ others)
    × IsAnswer r s multipliers at_upper cut
    × AreAnswers r s at_upper requests others

-- at first no column is turned by its upper bound
abbrev pub none_turned : Task → List Bool
none_turned s = replicate (length s.problem.columns) false
