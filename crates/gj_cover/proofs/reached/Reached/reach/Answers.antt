use Rattle.std.proofs.Common.{◌<◌, ◌&&◌, not, eqb, ap, ◌∙◌, arith}
use Rattle.gj_loops.specs.IndexSets.{has}
use Rattle.gj_cover.specs.Linking.{tight_linking}
use Rattle.gj_cover.proofs.Linked.{tight_linked}
use Rattle.gj_cover.specs.Table.{IsTightInTable}
use Rattle.gj_cover.specs.Reached.{ReachedData, reached_data}
use Rattle.gj_cover.proofs.Classes.{looked_at}
use Rattle.gj_cover.proofs.reached.Reached.reach.Goals as goal

pub returns : goal.returns
returns c =
    let t = c.args.table.now in
    let old = reached_data c.args.self.now in
    let new : ReachedData = record { reached = c.or-self.result; waiting = c.remove.new.self } in
    let few = t.few.1 in
    looked_at (tight_linking t.order (IsTightInTable t)) (tight_linked t.order (IsTightInTable t))
    c.args.interval c.args.free.now c.joined.result
    c.and_not-more.result old new
    (let low : c.args.interval < 1024 = omega (arith, c.requires.within, few) in low)
    c.requires.reached c.requires.waits c.joined.ensures.within c.joined.ensures.joined
    (λ i. c.and_not-more.ensures i ∙ ap (λ x. x && not (has old.reached i)) (c.and.ensures i))
    c.or-self.ensures
    (λ i. c.remove.ensures i ∙ ap (λ x. x && not (eqb i c.args.interval)) (c.or-self-2.ensures i))
