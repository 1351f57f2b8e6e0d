-- What the code makes of a request (own).
use Rattle.std.specs.Prelude.{ℕ, ◌≡◌, Bool, true, Option, Some, None, List, ◌++◌, slice_set}
use Rattle.gj_problem.specs.declared.problem.Problem.{Problem}
use Rattle.gj_relaxed.specs.declared.forms.RelaxedParts.{RelaxedParts}
use Rattle.gj_relaxed.specs.RelaxedForms.{ArePartsOf}
use Rattle.gj_safe_cut.specs.SafeCuts.{SafeCutHolds}
use Rattle.gj_safe_cut.specs.declared.cut.SafeCut.{SafeCut}
use Rattle.gj_proof.specs.declared.cut.CutRule.{CutRule}
use Rattle.gj_problem_text.specs.Cuts.{IsAnswer}
use Rattle.gj_problem_text.specs.CutText.{cut_lines}
use Rattle.gj_problem_text.specs.declared.task.Request.{Request}
use Rattle.gj_problem_text.specs.declared.task.Request.TheVariants.{Upper, Sum}
use Rattle.gj_problem_text.specs.declared.task.Task.{Task}

-- a column is turned, or the lines of a cut that holds are appended
abbrev pub IsRequestStep : CutRule → Task → List Bool → List ℕ → Request → List Bool → List ℕ →
    Type 0
IsRequestStep r s at_upper text (Upper j) next_upper next = (next_upper ≡ slice_set at_upper j true)
    × (next ≡ text)
IsRequestStep r s at_upper text (Sum multipliers) next_upper next =
    (next_upper ≡ at_upper)
    × ((cut : SafeCut) × IsAnswer r s multipliers at_upper cut × SafeCutHolds s.problem cut
    × (next ≡ text ++ cut_lines s.names cut))

-- the parts of the problem on the grid of all k/n, if there is one
abbrev pub ArePartsFor : Option ℕ → Problem → Option RelaxedParts → Type 0
ArePartsFor (Some n) p (Some parts) = ArePartsOf n p parts
ArePartsFor (Some n) p None = ⊥
ArePartsFor None p parts = parts ≡ None
