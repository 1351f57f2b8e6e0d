use Rattle.std.proofs.Common.{◌||◌, eqb, refl, ap, ◌∙◌}
use Rattle.gj_jumps.specs.LimitCover.{IsTightAt}
use Rattle.gj_limit_cover.specs.Linking.{limit_linking}
use Rattle.gj_limit_cover.proofs.Linked.{limit_linked}
use Rattle.gj_cover.specs.Reached.{ReachedData}
use Rattle.gj_cover.proofs.Classes.{reached_start}
use Rattle.gj_limit_cover.proofs.reached.Reached.new.Goals as goal

pub returns : goal.returns
returns c =
    let t = c.args.shape.now in
    let r : ReachedData = record { reached = c.insert.new.self; waiting = c.insert.new.self } in
    reached_start (limit_linking t.order (IsTightAt t)) (limit_linked t.order (IsTightAt t))
    c.args.start r
    c.requires.start
    (λ i. c.insert.ensures i ∙ ap (λ x. x || eqb i c.args.start) (c.empty-reached.ensures i))
    (λ i. refl)
