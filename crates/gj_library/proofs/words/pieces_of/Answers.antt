use Rattle.gj_library.proofs.WordsSoFar.{one_more}
use Rattle.gj_library.proofs.words.pieces_of.Goals as goal

pub loop-piece-preserved : goal.loop-piece-preserved
loop-piece-preserved c =
    one_more _ _ _ _ _ _ c.loop-piece-test.true c.loop-piece.invariant c.in_ok-from_str.ensures.ok
    c.in_ok-push.ensures.items
