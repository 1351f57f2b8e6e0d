use Rattle.std.proofs.Common.{◌≡◌, true, false, sym, ◌∙◌}
use Rattle.gj_frac.specs.TotalOrder.{parts_Decides}
use Rattle.gj_cut.proofs.RightSides.{part_at_place}
use Rattle.gj_cut.proofs.right_sides.right_side.Goals as goal

pub returns-then-eq-clause-side : goal.returns-then-eq-clause-side
returns-then-eq-clause-side g c =
    let f = c.in-Some.f in
    let place = c.place.result in
    let side = c.in-Some.ensures.side in (
      side.0,
      (part_at_place c.args.rule.now.kind c.args.right f place c.place.ensures.limits side.1
          c.place.ensures.place).0
          ((parts_Decides f place).0 (sym c.eq.ensures ∙ c.if-eq.true)),
    )

pub returns-else-eq-clause-side : goal.returns-else-eq-clause-side
returns-else-eq-clause-side g c =
    let f = c.in-Some.f in
    let place = c.place.result in
    let side = c.in-Some.ensures.side in (
      side.0,
      λ h.
          let same = (part_at_place c.args.rule.now.kind c.args.right f place c.place.ensures.limits
          side.1 c.place.ensures.place).1 h in
          let wrong : false ≡ true = sym c.if-eq.false ∙ c.eq.ensures
          ∙ (parts_Decides f place).1 same in
          cc,
    )
