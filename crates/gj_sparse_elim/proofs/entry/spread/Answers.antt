use Rattle.std.proofs.Common.{ℕ, length, sym, subst, ◌∙◌, ap, arith}
use Rattle.gj_theory.proofs.WideNumbers.{read_fitting}
use Rattle.gj_sparse_elim.specs.Sparse.{AreSparse, dense}
use Rattle.gj_sparse_elim.proofs.SparseRows.{entry_at, spread_start, spread_more, spread_end}
use Rattle.gj_sparse_elim.proofs.entry.spread.Goals as goal

pub loop-entry-init : goal.loop-entry-init
loop-entry-init c =
    spread_start (length c.erase.new.row) c.args.entries.now c.erase.new.row
    (subst (λ (n : ℕ). AreSparse n c.args.entries.now) (sym c.erase.auto.row) c.requires)
    c.erase.ensures

pub bounds-row-entry : goal.bounds-row-entry
bounds-row-entry c =
    let here = entry_at _ c.args.entries.now c.loop-entry.entry-index _ c.loop-entry.invariant.at
    (omega arith) in
    let below = here.within.below in
    omega arith

pub loop-entry-preserved : goal.loop-entry-preserved
loop-entry-preserved c =
    let here = entry_at _ c.args.entries.now c.loop-entry.entry-index _ c.loop-entry.invariant.at
    (omega arith) in
    spread_more _ c.args.entries.now c.loop-entry.row c.loop-entry.entry-index _
    c.loop-entry.invariant (omega arith)
    (omega arith) (read_fitting _ here.within.fits)

pub returns : goal.returns
returns c =
    spread_end _ c.args.entries.now c.loop-entry.row c.loop-entry.entry-index c.loop-entry.invariant
    (omega arith) (omega arith)
    ∙ ap (λ n. dense n c.args.entries.now) c.erase.auto.row
