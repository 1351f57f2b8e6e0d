use Rattle.std.proofs.Common.{[], ◌∷◌, sym, subst, ◌∙◌}
use Rattle.gj_limit_halves.specs.LimitLanes.{AreLeastIn}
use Rattle.gj_limit_halves.proofs.FaceLanes.{of_two}
use Rattle.gj_limit_halves.proofs.lanes.of_two.Goals as goal

pub returns : goal.returns
returns c = λ s t first second.
    let chosen = c.where_greatest_is_none.result in
    let least = c.min-least.ensures in
    let greatest = c.max.ensures in
    subst (λ n. AreLeastIn (s ∷ t ∷ []) n chosen) (sym least)
    (of_two s t c.args.x c.args.y chosen (λ e. c.where_greatest_is_none.ensures.none (greatest ∙ e)
    ∙ least)
    (λ other. c.where_greatest_is_none.ensures.some (λ e. other (sym greatest ∙ e))) first second)
