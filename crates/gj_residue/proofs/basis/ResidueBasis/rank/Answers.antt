use Rattle.std.proofs.Common.{ap, length, sym, ◌∙◌, arith}
use Rattle.gj_theory.proofs.Triangular.{rank_at_most}
use Rattle.gj_residue.specs.Rows.{kept_residues}
use Rattle.gj_residue.proofs.Inserting.{length-kept_residues}
use Rattle.gj_residue.proofs.basis.ResidueBasis.rank.Goals as goal

pub overflow_cast-result : goal.overflow_cast-result
overflow_cast-result c =
    let most = rank_at_most c.self.inside.columns (kept_residues c.self.inside.kept)
    c.self.invariant.kept.triangular in
    let same = length-kept_residues c.self.inside.columns c.self.inside.kept
    c.self.invariant.kept in
    let len = c.self.inside.kept.log.ok.0 in
    let read = c.len.ensures in
    let narrow = c.self.invariant.kept.narrow in
    omega arith

pub returns-clause-count : goal.returns-clause-count
returns-clause-count c =
    c.len.ensures ∙ c.self.inside.kept.log.ok.0
    ∙ sym (length-kept_residues c.self.inside.columns c.self.inside.kept c.self.invariant.kept)
    ∙ ap (λ b. length b.kept) c.self.view_is
