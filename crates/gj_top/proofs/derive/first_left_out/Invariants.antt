use Rattle.std.proofs.Common.{All, take}
use Rattle.gj_derivation.specs.declared.step.Multiplier.{Multiplier}
use Rattle.gj_top.specs.Derive.{IsLeftOut}
use Rattle.gj_top.proofs.derive.first_left_out.Given as goal

abbrev pub invariant-loop-multiplier : goal.invariant-loop-multiplier
invariant-loop-multiplier l = All (λ (m : Multiplier). IsLeftOut l.constraints l.shown m.line → ⊥)
    (take l.multiplier-index l.multipliers)
