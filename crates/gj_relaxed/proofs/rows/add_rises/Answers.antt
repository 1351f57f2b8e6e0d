use Rattle.std.proofs.Common.{List, subst}
use Rattle.std.proofs.lemmas.List.{take_all}
use Rattle.gj_problem.specs.declared.pieces.Piece.{Piece}
use Rattle.gj_relaxed.specs.Gaps.{AreRisesAdded}
use Rattle.gj_relaxed.proofs.GapSums.{no_rises, rises_next}
use Rattle.gj_relaxed.proofs.rows.add_rises.Goals as goal

pub loop-piece-init : goal.loop-piece-init
loop-piece-init c = λ cs r h. (cs, r, h, no_rises c.args.grid cs r)

pub loop-piece-preserved : goal.loop-piece-preserved
loop-piece-preserved c = λ cs r h.
    let (ds, t, parts, so_far) = c.loop-piece.invariant cs r h in
    let (es, u, new_parts, one) = c.in_ok-add_rise_over_one.ensures ds t parts in (
      es,
      u,
      new_parts,
      rises_next c.args.grid c.args.pieces.now c.loop-piece.piece-index c.piece-item.result
          c.in_ok-entry.entry cs r ds t es u
          c.loop-piece-test.true c.piece-item.is c.in_ok-entry.ensures.above
          c.in_ok-entry.ensures.narrow so_far one,
    )

pub returns : goal.returns
returns c = λ cs r h.
    let (ds, t, parts, added) = c.loop-piece.invariant cs r h in (
      ds,
      t,
      parts,
      subst (λ (ps : List Piece). AreRisesAdded c.args.grid ps cs r ds t)
          (take_all c.loop-piece.piece-index c.args.pieces.now c.loop-piece-test.false) added,
    )
