use Rattle.std.proofs.Common.{◌%◌, refl, ap, sym, ◌∙◌}
use Rattle.std.proofs.Math.Nat.{mod-mod}
use Rattle.gj_cover.specs.Table.{IsTightInTable}
use Rattle.gj_cover.proofs.TablePairs.{same_tight}
use Rattle.gj_cover.proofs.table.Table.is_tight.Goals as goal

pub returns : goal.returns
unfolding IsTightInTable
returns c =
    let t = c.args.self.now in
    let j = c.wrapped.result in
    let at = c.contains.ensures ∙ c.row.ensures j c.wrapped.ensures.below
    ∙ same_tight t c.args.i j c.args.i c.args.j refl (ap (λ n. n % t.order) c.wrapped.ensures.value
    ∙ mod-mod c.args.j t.order) in
    (λ h. sym at ∙ h, λ h. at ∙ h)
