use Rattle.std.proofs.Common.{arith}
use Rattle.gj_theory.proofs.WideNumbers.{read_fitting}
use Rattle.gj_sparse_elim.proofs.SparseRows.{entry_at, spread_start, spread_more, spread_end}
use Rattle.gj_limit_extreme.proofs.ClaimTexts.{zero_at}
use Rattle.gj_limit_extreme.proofs.named_rows.write_entries.Goals as goal

pub loop-entry-init : goal.loop-entry-init
loop-entry-init c = spread_start _ c.args.entries.now c.args.row.now c.requires.sparse
    (λ k. zero_at c.args.row.now k c.requires.zero)

pub bounds-row-entry : goal.bounds-row-entry
bounds-row-entry c =
    let here = entry_at _ c.args.entries.now c.loop-entry.entry-index _ c.loop-entry.invariant.at
    (omega arith) in
    let below = here.within.below in
    omega arith

pub loop-entry-preserved : goal.loop-entry-preserved
loop-entry-preserved c =
    let here = entry_at _ c.args.entries.now c.loop-entry.entry-index _ c.loop-entry.invariant.at
    (omega arith) in
    spread_more _ c.args.entries.now c.loop-entry.row c.loop-entry.entry-index _
    c.loop-entry.invariant (omega arith) (omega arith)
    (read_fitting _ here.within.fits)

pub returns : goal.returns
returns c =
    spread_end _ c.args.entries.now c.loop-entry.row c.loop-entry.entry-index c.loop-entry.invariant
    (omega arith) (omega arith)
