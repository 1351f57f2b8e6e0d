use Rattle.std.proofs.Common.{◌≡◌, ℕ, IfOk, List, Vec, Global, [], ◌∷◌, ◌++◌, map, sym, ap, ap₂, subst, ◌∙◌}
use Rattle.std.proofs.lemmas.List.{map_more, take_all}
use Rattle.gj_shape.specs.declared.breaks.Break.{Break}
use Rattle.gj_function_text.specs.FunctionText.{canonical_breaks_text, even_break}
use Rattle.gj_function_text.proofs.print_breaks.write_breaks.Goals as goal

pub loop-pair-init : goal.loop-pair-init
loop-pair-init c = c.in_ok-breaks.ensures.items

pub loop-pair-preserved : goal.loop-pair-preserved
loop-pair-preserved c =
    let points = c.args.points.now in
    let i = c.loop-pair.pair-index in
    c.in_ok-push.ensures.items
    ∙ ap₂ (λ (bs : List Break) p. bs ++ even_break p ∷ []) c.loop-pair.invariant c.pair-item.is
    ∙ sym (map_more even_break points i _ c.loop-pair-test.true)

pub returns : goal.returns
returns c =
    let points = c.args.points.now in
    let breaks = c.as_slice.ensures.value ∙ c.loop-pair.invariant
    ∙ ap (map even_break) (take_all c.loop-pair.pair-index points c.loop-pair-test.false) in
    subst (λ (bs : List Break). IfOk c.write_breaks_with_limits.result
    (λ (text : Vec ℕ Global). text.items ≡ canonical_breaks_text c.args.f bs))
    breaks c.write_breaks_with_limits.ensures
