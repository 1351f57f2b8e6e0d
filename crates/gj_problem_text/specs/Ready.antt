-- What each task has that a text tells (own).
use Rattle.std.specs.Prelude.{ℕ, ◌≡◌, ◌<◌, All, IfSome, length}
use Rattle.gj_problem_text.specs.declared.task.Request.{Request}
use Rattle.gj_problem_text.specs.declared.task.Request.TheVariants.{Upper, Sum}
use Rattle.gj_problem_text.specs.declared.task.Task.{Task}

-- there are so many multipliers
abbrev pub HasMultipliers : ℕ → Request → Type 0
HasMultipliers n (Upper j) = Unit {0}
HasMultipliers n (Sum multipliers) = length multipliers ≡ n

-- each row has a multiplier for each constraint, and each grid is that of 1/n with n above 0
pub record IsReady (s : Task) : Type 0 where
  pub multipliers : All (HasMultipliers (length s.problem.constraints)) s.requests
  pub grid : IfSome s.grid (λ n. 0 < n)
  pub round : IfSome s.round (λ n. 0 < n)
