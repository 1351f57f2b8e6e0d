-- Runs that ask whether a function is extreme (own).
use Rattle.std.specs.Prelude.{ℕ, Bool, true, false, List, String}
use Rattle.std.specs.declared.alloc.Global.{Global}
use Rattle.gj_words.specs.declared.requests.Command.TheVariants.{Extreme}
use Rattle.gj_shape.specs.FunctionData.{FunctionData}
use Rattle.gj_top.specs.Command.{IsNamed}
use Rattle.gj_top.specs.Forms.{SpellsFunction}

-- the words ask for `extreme`, with `--jumps` or without and with `--json` or without, and the input
-- spells f
pub record AskIfExtremeBy (jumps json : Bool) (words : List (String Global)) (input : List ℕ)
    (f : FunctionData) : Type 0 where
  pub named : IsNamed words (record { command = Extreme; json = json; jumps = jumps })
  pub spelled : SpellsFunction json input f

-- without `--jumps`, and with it
abbrev pub AskIfExtreme : Bool → List (String Global) → List ℕ → FunctionData → Type 0
AskIfExtreme = AskIfExtremeBy false

abbrev pub AskIfExtremeWithJumps : Bool → List (String Global) → List ℕ → FunctionData → Type 0
AskIfExtremeWithJumps = AskIfExtremeBy true
