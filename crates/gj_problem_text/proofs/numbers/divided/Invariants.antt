use Rattle.std.proofs.Common.{◌≡◌, ◌*◌, ◌^◌, ◌<◌, ℕ, pos}
use Rattle.gj_frac.specs.Fraction.{IsRatio}
use Rattle.gj_problem_text.proofs.numbers.divided.Given as goal

abbrev pub invariant-loop-left : goal.invariant-loop-left
invariant-loop-left l =
    (bottom : ℕ) × (0 < bottom) ×
    (bottom * l.base ^ l.left ≡ l.base ^ l.power) × IsRatio l.quotient (pos l.top) (pos bottom)

abbrev pub decreases-loop-left : goal.decreases-loop-left
decreases-loop-left l = l.left
