use Rattle.std.proofs.Common.{sym, ◌∙◌}
use Rattle.gj_cover.specs.Table.{IsTightInTable}
use Rattle.gj_cover.proofs.table.Table.has_pair_right.Goals as goal

pub returns : goal.returns
unfolding IsTightInTable
returns c =
    let at = c.contains.ensures ∙ c.row.ensures c.args.j c.requires.second in
    (λ h. sym at ∙ h, λ h. at ∙ h)
