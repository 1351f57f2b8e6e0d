-- What is known of the bytes written so far.
use Rattle.std.proofs.Common.{◌≡◌, ℕ, ◌+◌, List, ◌++◌, take, drop, ◌∙◌, append_assoc}
use Rattle.std.proofs.Common.{Option, None, Some, Ok, IfSome}
use Rattle.std.proofs.Math.Seq.{take-add}
use Rattle.gj_port.specs.Sink.{Writes}
use Rattle.gj_port.specs.declared.fault.Failed.{Failed}

-- a write that takes n bytes of the rest goes on
pub write_more :
    (start now after : Option (List ℕ)) (bytes piece : List ℕ) (done n : ℕ)
    → IfSome start (λ before. now ≡ Some (before ++ take done bytes))
    → Writes {E = Failed} now after piece (Ok n) → piece ≡ drop done bytes
    → IfSome start (λ before. after ≡ Some (before ++ take (done + n) bytes))
write_more None now after bytes piece done n so_far told is = tt
write_more (Some before) None after bytes piece done n so_far told is = absurd (cc)
write_more (Some before) (Some taken) after bytes piece done n so_far told is =
    let same : taken ≡ before ++ take done bytes = cc in
    told ∙ rw (same, is, take-add, append_assoc)
