use Rattle.std.proofs.Common.{◌≡◌, map, take}
use Rattle.gj_function_text.specs.FunctionText.{even_break}
use Rattle.gj_function_text.proofs.print_breaks.write_breaks.Given as goal

abbrev pub invariant-loop-pair : goal.invariant-loop-pair
invariant-loop-pair l = l.breaks.items ≡ map even_break (take l.pair-index l.points)
