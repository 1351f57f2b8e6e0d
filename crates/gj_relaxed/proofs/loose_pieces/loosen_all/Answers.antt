use Rattle.std.proofs.Common.{◌++◌, [], ◌∷◌}
use Rattle.gj_relaxed.specs.LoosePieces.{IsLoosened}
use Rattle.gj_relaxed.proofs.ChangedPieces.{item_set, item_changed}
use Rattle.gj_relaxed.proofs.loose_pieces.loosen_all.Goals as goal

pub loop-piece-preserved : goal.loop-piece-preserved
loop-piece-preserved c =
    let ps = c.args.pieces.now in
    let now = c.loop-piece.pieces in
    let i = c.loop-piece.piece-index in
    let s = c.piece-item.result in
    let (made, is, h) = c.loop-piece.invariant in
    let loose = c.loosen.new.piece in (
      made ++ loose ∷ [],
      item_set (IsLoosened c.args.grid) ps now made i s c.loop-piece-test.true is h loose,
      item_changed (IsLoosened c.args.grid) ps now made i s c.loop-piece-test.true is h loose
          c.in_ok-loosen.ensures,
    )
