use Rattle.std.proofs.Common.{take}
use Rattle.gj_function_text.specs.FamilyLine.{AreSigns}
use Rattle.gj_function_text.proofs.family.signs_of.Given as goal

abbrev pub invariant-loop-byte : goal.invariant-loop-byte
invariant-loop-byte l = AreSigns (take l.byte-index l.word) l.signs.items
