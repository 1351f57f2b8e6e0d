use Rattle.std.proofs.Common.{◌||◌, eqb, refl, ap, ◌∙◌}
use Rattle.gj_cover.specs.Linking.{tight_linking}
use Rattle.gj_cover.proofs.Linked.{tight_linked}
use Rattle.gj_cover.specs.Table.{IsTightInTable}
use Rattle.gj_cover.specs.Reached.{ReachedData}
use Rattle.gj_cover.proofs.Classes.{reached_start}
use Rattle.gj_cover.proofs.reached.Reached.new.Goals as goal

pub returns : goal.returns
returns c =
    let t = c.args.table.now in
    let r : ReachedData = record { reached = c.insert.new.self; waiting = c.insert.new.self } in
    reached_start (tight_linking t.order (IsTightInTable t))
    (tight_linked t.order (IsTightInTable t))
    c.args.start r c.requires
    (λ i. c.insert.ensures i ∙ ap (λ x. x || eqb i c.args.start) (c.empty-reached.ensures i))
    (λ i. refl)
