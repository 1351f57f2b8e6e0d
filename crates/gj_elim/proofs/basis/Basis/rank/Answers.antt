use Rattle.std.proofs.Common.{ap, length, sym, ◌∙◌, arith}
use Rattle.gj_elim.specs.KeptRows.{kept_rows}
use Rattle.gj_theory.proofs.Triangular.{rank_at_most}
use Rattle.gj_elim.proofs.Keeping.{length-kept_rows}
use Rattle.gj_elim.proofs.basis.Basis.rank.Goals as goal

pub overflow_cast-result : goal.overflow_cast-result
overflow_cast-result c =
    let most = rank_at_most c.self.inside.columns
    (kept_rows c.self.inside.kept.log.items c.self.inside.kept.rows.items)
    c.self.invariant.kept.triangular in
    let same = length-kept_rows c.self.inside.kept.log.items c.self.inside.kept.rows.items
    c.self.invariant.kept.lines in
    let len = c.self.inside.kept.log.ok.0 in
    omega arith

pub returns-clause-count : goal.returns-clause-count
returns-clause-count c =
    c.len.ensures ∙ c.self.inside.kept.log.ok.0
    ∙ sym (length-kept_rows c.self.inside.kept.log.items c.self.inside.kept.rows.items
    c.self.invariant.kept.lines)
    ∙ ap (λ b. length b.kept) c.self.view_is
