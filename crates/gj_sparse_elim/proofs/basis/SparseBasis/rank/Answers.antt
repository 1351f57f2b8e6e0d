use Rattle.std.proofs.Common.{◌≡◌, ℕ, ℤ, pos, List, ap, length, sym, subst, ◌∙◌, arith}
use Rattle.std.specs.Prelude.{All}
use Rattle.gj_theory.specs.TriangularRows.{SolvesKept, AreTriangular}
use Rattle.gj_theory.proofs.Triangular.{rank_at_most, zeros_of}
use Rattle.gj_elim.specs.Data.{BasisData}
use Rattle.gj_elim.proofs.Keeping.{length-kept_rows}
use Rattle.gj_sparse_elim.specs.Rows.{kept_sparse}
use Rattle.gj_sparse_elim.proofs.KeptEntries.{lines_too}
use Rattle.gj_sparse_elim.proofs.basis.SparseBasis.rank.Goals as goal

pub overflow_cast-result : goal.overflow_cast-result
overflow_cast-result c =
    let most = rank_at_most c.self.inside.columns
    (kept_sparse c.self.inside.columns c.self.inside.kept.log.items c.self.inside.kept.rows.items)
    c.self.invariant.kept.triangular in
    let same = length-kept_rows c.self.inside.kept.log.items _
    (lines_too c.self.inside.columns c.self.inside.kept.log.items c.self.inside.kept.rows.items
    c.self.invariant.kept.lines) in
    let len = c.self.inside.kept.log.ok.0 in
    let narrow = c.self.invariant.kept.narrow in
    omega arith

pub returns-clause-count : goal.returns-clause-count
returns-clause-count c =
    c.len.ensures ∙ c.self.inside.kept.log.ok.0
    ∙ sym (length-kept_rows c.self.inside.kept.log.items _
    (lines_too c.self.inside.columns c.self.inside.kept.log.items c.self.inside.kept.rows.items
    c.self.invariant.kept.lines))
    ∙ ap (λ b. length b.kept) c.self.view_is

full : (b d : BasisData) (r : ℕ) (w : List ℤ) → b ≡ d → AreTriangular b.columns b.kept →
    r ≡ length d.kept → r ≡ d.columns →
    length w ≡ d.columns → SolvesKept w d.kept → All (λ x. x ≡ pos 0) w
full b d r w same triangular count all len solves =
    zeros_of d.columns d.kept w (subst (λ (x : BasisData). AreTriangular x.columns x.kept) same
    triangular) (sym count ∙ all) len solves

pub returns-clause-full : goal.returns-clause-full
returns-clause-full c all w len solves =
    full _ c.args.self.now _ w c.self.view_is c.self.invariant.kept.triangular
    (c.len.ensures ∙ c.self.inside.kept.log.ok.0
    ∙ sym (length-kept_rows c.self.inside.kept.log.items _
    (lines_too c.self.inside.columns c.self.inside.kept.log.items c.self.inside.kept.rows.items
    c.self.invariant.kept.lines))
    ∙ ap (λ b. length b.kept) c.self.view_is) all len solves
