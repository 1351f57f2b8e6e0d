-- The command `show`: a function is answered with its canonical text, or with `--json` with its
-- JSON text (own).
use Rattle.std.specs.Prelude.{ℕ, Bool, true, false, List}
use Rattle.gj_shape.specs.FunctionData.{FunctionData}
use Rattle.gj_function_text.specs.FunctionText.{IsCanonicalText}
use Rattle.gj_json.specs.JsonText.{IsJsonText}
use Rattle.gj_top.specs.Promise.{Promise}
use Rattle.gj_top.specs.Task.{Task, EndsDone}
use Rattle.gj_top.specs.Forms.{function_promise, function_task}

-- the text is the canonical text of f, or with `--json` its one JSON text
abbrev pub IsShownText : Bool → FunctionData → List ℕ → Type 0
IsShownText false f text = IsCanonicalText text f
IsShownText true f text = IsJsonText text f

-- the headline is all of that
abbrev pub show_promise : Bool → Promise
show_promise json = function_promise json (IsShownText json)

abbrev pub show : Bool → Task
show json = function_task json (IsShownText json) (EndsDone (IsShownText json))
