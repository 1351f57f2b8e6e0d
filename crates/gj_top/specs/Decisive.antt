-- What `extreme` says of a function: by its table of order 4 q (own), if it has two slopes (Gomory
-- and Johnson 1972), and if it jumps.
use Rattle.std.specs.Prelude.{ℕ, ◌≡◌, ◌↔◌, Bool, List, ◌++◌, Option, Some}
use Rattle.gj_shape.specs.FunctionData.{FunctionData, IsContinuous}
use Rattle.gj_limit_averages.specs.Averages.{IsExtremeFunction}
use Rattle.gj_extreme.specs.Decision.{IsExtremeOnGrid4}
use Rattle.gj_top.specs.Extreme.{IsExtremeText}
use Rattle.gj_top.specs.LimitExtreme.{IsLimitExtremeText}
use Rattle.gj_top.specs.Report.{limit_claims, Tells, TellsBy}

-- the text calls f extreme, or with `--json` it is the report of a proof text that does
abbrev pub CallsExtreme : Bool → FunctionData → List ℕ → Type 0
CallsExtreme json f text = Tells json (IsExtremeText f) text

-- what was written calls f extreme
pub record IsCalledExtreme (json : Bool) (f : FunctionData) (before : List ℕ)
    (written : Option (List ℕ)) : Type 0 where
  pub text : List ℕ
  pub gain : written ≡ Some (before ++ text)
  pub called : CallsExtreme json f text

-- f is continuous, and its table of order 4 q is extreme
abbrev pub IsExtremeByOrder4q : FunctionData → Type 0
IsExtremeByOrder4q f = IsContinuous f × IsExtremeOnGrid4 f

-- what was written calls f extreme exactly if it is so
pub record IsDecisive (json : Bool) (f : FunctionData) (before : List ℕ)
    (written : Option (List ℕ)) : Type 0 where
  pub text : List ℕ
  pub gain : written ≡ Some (before ++ text)
  pub called : CallsExtreme json f text ↔ IsExtremeByOrder4q f

-- ---- functions that jump

-- the text, of the kind about functions that jump, calls f extreme, or with `--json` it is the
-- report of a proof text that does
abbrev pub CallsExtremeByLimits : Bool → FunctionData → List ℕ → Type 0
CallsExtremeByLimits json f text = TellsBy limit_claims json (IsLimitExtremeText f) text

-- what was written calls f extreme exactly if it is so: minimal, and no average of two different
-- minimal functions
pub record IsLimitDecisive (json : Bool) (f : FunctionData) (before : List ℕ)
    (written : Option (List ℕ)) : Type 0 where
  pub text : List ℕ
  pub gain : written ≡ Some (before ++ text)
  pub called : CallsExtremeByLimits json f text ↔ IsExtremeFunction f
