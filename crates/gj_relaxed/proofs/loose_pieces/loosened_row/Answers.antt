use Rattle.std.proofs.Common.{◌++◌, List, sym, subst, subst₂}
use Rattle.std.specs.List.{AllZip}
use Rattle.std.proofs.lemmas.List.Elements.{length_all_zip}
use Rattle.gj_problem.specs.declared.pieces.Piece.{Piece}
use Rattle.gj_problem.proofs.MadePieces.{zip_joined}
use Rattle.gj_relaxed.specs.LoosePieces.{IsLoosened}
use Rattle.gj_relaxed.proofs.RowGaps.{written_back}
use Rattle.gj_relaxed.proofs.loose_pieces.loosened_row.Goals as goal

pub returns-clause-pieces : goal.returns-clause-pieces
returns-clause-pieces c =
    let R : Piece → Piece → Type 0 = IsLoosened c.args.grid in
    let ps = c.args.row.slacks.items in
    let ls = c.loosen_all.new.pieces in
    let qs = c.args.row.bounds.items in
    let ms = c.loosen_all-2.new.pieces in
    let first : AllZip R ps ls =
    subst (λ (xs : List Piece). AllZip R xs ls) c.as_mut_slice.ensures.value
    c.in_ok-loosen_all.ensures in
    let second : AllZip R qs ms =
    subst (λ (xs : List Piece). AllZip R xs ms) c.as_mut_slice-2.ensures.value
    c.in_ok-loosen_all-2.ensures in
    subst₂ (λ (xs ys : List Piece). AllZip R (ps ++ qs) (xs ++ ys))
    (sym (written_back ps ls c.args.row.slacks.len
    (sym (length_all_zip R ps ls first)) c.args.row.slacks.ok.0))
    (sym (written_back qs ms c.args.row.bounds.len
    (sym (length_all_zip R qs ms second)) c.args.row.bounds.ok.0))
    (zip_joined R ps qs ls ms first second)
