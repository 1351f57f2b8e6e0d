use Rattle.std.proofs.Common.{[], ◌∷◌, max, min, ap, sym, subst, ◌∙◌}
use Rattle.gj_limit_halves.specs.LimitLanes.{AreLeastIn}
use Rattle.gj_limit_halves.proofs.FaceLanes.{of_three}
use Rattle.gj_limit_halves.proofs.lanes.of_three.Goals as goal

pub returns : goal.returns
returns c = λ s t r first second third.
    let z = c.args.z in
    let chosen = c.where_greatest_is_none.result in
    let least = c.min-least.ensures ∙ ap (λ n. min n z) c.min.ensures in
    let greatest = c.max-2.ensures ∙ ap (λ n. max n z) c.max.ensures in
    subst (λ n. AreLeastIn (s ∷ t ∷ r ∷ []) n chosen) (sym least)
    (of_three s t r c.args.x c.args.y z chosen
    (λ e. c.where_greatest_is_none.ensures.none (greatest ∙ e) ∙ least)
    (λ other. c.where_greatest_is_none.ensures.some (λ e. other (sym greatest ∙ e))) first second
    third)
