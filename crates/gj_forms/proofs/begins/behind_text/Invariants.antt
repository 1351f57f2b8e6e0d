use Rattle.std.proofs.Common.{◌≡◌, ◌++◌, take}
use Rattle.gj_forms.proofs.begins.behind_text.Given as goal

abbrev pub invariant-loop-byte : goal.invariant-loop-byte
invariant-loop-byte l = l.bytes ≡ take l.byte-index l.text ++ l.rest
