use Rattle.std.proofs.Common.{◌<◌, ◌&&◌, not, eqb, ap, ◌∙◌, arith}
use Rattle.gj_loops.specs.IndexSets.{has}
use Rattle.gj_jumps.specs.LimitCover.{IsTightAt}
use Rattle.gj_limit_cover.specs.Linking.{limit_linking}
use Rattle.gj_limit_cover.proofs.Linked.{limit_linked}
use Rattle.gj_cover.specs.Reached.{ReachedData}
use Rattle.gj_limit_cover.specs.Reached.{reached_data}
use Rattle.gj_cover.proofs.Classes.{looked_at}
use Rattle.gj_limit_cover.proofs.reached.Reached.reach.Goals as goal

pub returns : goal.returns
returns c =
    let t = c.args.shape.now in
    let old = reached_data c.args.self.now in
    let new : ReachedData = record { reached = c.or-self.result; waiting = c.remove.new.self } in
    let few = c.args.table.now.joins.few.1 in
    let order = c.requires.table.joins.order in
    looked_at (limit_linking t.order (IsTightAt t)) (limit_linked t.order (IsTightAt t))
    c.args.interval c.args.free.now c.joined.result
    c.and_not-more.result old new
    (let low : c.args.interval < 1024 = omega (arith, c.requires.within, few, order) in low)
    c.requires.reached c.requires.waits c.joined.ensures.within
    (λ k low other. c.joined.ensures.joined k low)
    (λ i. c.and_not-more.ensures i ∙ ap (λ x. x && not (has old.reached i)) (c.and.ensures i))
    c.or-self.ensures
    (λ i. c.remove.ensures i ∙ ap (λ x. x && not (eqb i c.args.interval)) (c.or-self-2.ensures i))
