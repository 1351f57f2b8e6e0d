use Rattle.std.proofs.Common.{◌≡◌, ◌+◌, List, ◌∷◌, ◌++◌, [], All, take, drop, refl, sym, ap, subst, ◌∙◌}
use Rattle.std.proofs.lemmas.List.{take_more, take_all}
use Rattle.std.proofs.lemmas.List.Elements.{All-push}
use Rattle.gj_problem.proofs.Prefixes.{split_at}
use Rattle.gj_derivation.specs.declared.step.Multiplier.{Multiplier}
use Rattle.gj_top.specs.Derive.{IsLeftOut}
use Rattle.gj_top.proofs.derive.first_left_out.Goals as goal

pub returns-then-is_left_out : goal.returns-then-is_left_out
returns-then-is_left_out c =
    let i = c.loop-multiplier.multiplier-index in
    let ms = c.args.multipliers.now in
    let m = c.multiplier-item.result in (
      take i ms,
      m,
      drop (i + 1) ms,
      split_at ms i m c.loop-multiplier-test.true c.multiplier-item.is,
      c.loop-multiplier.invariant,
      c.is_left_out.ensures.0 c.if-is_left_out.true,
      refl,
    )

pub loop-multiplier-preserved : goal.loop-multiplier-preserved
loop-multiplier-preserved c =
    let i = c.loop-multiplier.multiplier-index in
    let ms = c.args.multipliers.now in
    let m = c.multiplier-item.result in
    let more : take (i + 1) ms ≡ take i ms ++ m ∷ [] =
    take_more ms i m c.loop-multiplier-test.true
    ∙ ap (λ (z : Multiplier). take i ms ++ z ∷ []) (sym c.multiplier-item.is) in
    subst (All (λ (n : Multiplier). IsLeftOut c.args.constraints c.args.shown.now n.line → ⊥))
    (sym more)
    (All-push (λ (n : Multiplier). IsLeftOut c.args.constraints c.args.shown.now n.line → ⊥)
    (take i ms) m c.loop-multiplier.invariant
    (λ left. let yes = c.is_left_out.ensures.1 left in let no = c.if-is_left_out.false in cc))

pub returns : goal.returns
returns c =
    subst (All (λ (n : Multiplier). IsLeftOut c.args.constraints c.args.shown.now n.line → ⊥))
    (take_all c.loop-multiplier.multiplier-index c.args.multipliers.now
    c.loop-multiplier-test.false) c.loop-multiplier.invariant
