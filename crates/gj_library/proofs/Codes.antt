-- The status of each code.
use Rattle.std.proofs.Common.{◌≡◌, ◌==◌, ℕ, cond, refl, sym, ap, ◌∙◌}
use Rattle.gj_top.specs.declared.status.Status.{Status}
use Rattle.gj_top.specs.declared.status.Status.TheVariants.{Done, Rejected, Words, Input, ReadFault, WriteFault, Memory, Wide}
use Rattle.gj_top.specs.declared.status.Status.TheVariants.{NotContinuous, NoFunction, NotSubadditive, OrderLimit, BadOrder}
use Rattle.gj_top.specs.Code.{code_of}

-- the status whose code this is
abbrev pub status_at : ℕ → Status
status_at n =
    cond (n == 0) Done (cond (n == 1) Rejected
    (cond (n == 2) Words (cond (n == 3) Input (cond (n == 4) ReadFault (cond (n == 5) WriteFault
    (cond (n == 6) Memory
    (cond (n == 7) Wide (cond (n == 8) NotContinuous
    (cond (n == 9) NoFunction (cond (n == 10) NotSubadditive
    (cond (n == 11) OrderLimit BadOrder)))))))))))

pub back : (s : Status) → status_at (code_of s) ≡ s
back Done = refl
back Rejected = refl
back Words = refl
back Input = refl
back ReadFault = refl
back WriteFault = refl
back Memory = refl
back Wide = refl
back NotContinuous = refl
back NoFunction = refl
back NotSubadditive = refl
back OrderLimit = refl
back BadOrder = refl

pub status_is : (s : Status) (code : ℕ) → code_of s ≡ code → s ≡ status_at code
status_is s code e = sym (back s) ∙ ap status_at e
