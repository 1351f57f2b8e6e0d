use Rattle.std.proofs.Common.{◌<◌, ℕ, Option, None, List, length, get_or, refl, sym, ap, subst, ◌∙◌}
use Rattle.gj_derivation.specs.declared.step.Multiplier.{Multiplier}
use Rattle.gj_derivation.proofs.DerivedSteps.{one_placed}
use Rattle.gj_derivation.proofs.derive.placed.Goals as goal

pub returns-in_default : goal.returns-in_default
returns-in_default c =
    let i = c.loop-multiplier.multiplier-index in
    let m = c.multiplier-item.result in
    let items = c.as_slice-multiplier-items.ensures in (
      i,
      m,
      subst (λ (ms : List Multiplier). i < length ms) items c.loop-multiplier-test.true,
      sym (c.multiplier-item.is ∙ ap (λ (ms : List Multiplier). get_or ms i m) items),
      sym (c.constraint_of.ensures ∙ ap (λ (ls : List (Option ℕ)). get_or ls m.line None)
          c.as_slice.ensures) ∙ c.in_default.is,
    )

pub loop-multiplier-preserved : goal.loop-multiplier-preserved
loop-multiplier-preserved c =
    one_placed c.args.reached.now c.as_slice-multiplier-items.result.now
    c.loop-multiplier.multiplier-index c.multiplier-item.result
    (record { line = c.in-Some.line; value = c.multiplier-item.result.value })
    c.loop-multiplier.multipliers.items c.push.new.self.items
    c.loop-multiplier-test.true c.multiplier-item.is
    (sym (c.constraint_of.ensures ∙ ap (λ (ls : List (Option ℕ)). get_or ls
    c.multiplier-item.result.line None) c.as_slice.ensures) ∙ c.in-Some.is)
    refl c.in_ok-push.ensures.items c.loop-multiplier.invariant
