use Rattle.std.proofs.Common.{◌++◌, take, ap, ◌∙◌, arith}
use Rattle.gj_verdict_text.proofs.WrittenPieces.{front_written}
use Rattle.gj_verdict_text.proofs.piece.Piece.write.Goals as goal

pub returns-clause-written : goal.returns-clause-written
returns-clause-written c =
    let after = c.copy_from_slice.ensures.after in
    front_written c.args.start _ c.args.self.now.length c.args.text.now _ (omega arith)
    (omega (arith, c.copy_from_slice.ensures.len))
    ∙ ap (λ xs. take c.args.start c.args.text.now ++ take c.args.self.now.length xs) after
