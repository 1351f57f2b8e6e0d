use Rattle.std.proofs.Common.{◌++◌, [], ◌∷◌, get_or, refl, subst}
use Rattle.std.proofs.lemmas.List.Elements.{All-get_or}
use Rattle.gj_frac.proofs.Refusals.{on_err}
use Rattle.gj_problem.specs.declared.pieces.Piece.{Piece}
use Rattle.gj_relaxed.specs.RelaxedProblems.{IsWideLifted}
use Rattle.gj_relaxed.specs.Gaps.{CanBeRaised}
use Rattle.gj_relaxed.proofs.RowGaps.{next_is, next_set, next_raised, all_back}
use Rattle.gj_relaxed.proofs.rows.raise_entries.Goals as goal

pub loop-piece-init : goal.loop-piece-init
loop-piece-init c = ([], refl, tt)

pub loop-piece-preserved : goal.loop-piece-preserved
loop-piece-preserved c =
    let n = c.args.grid in
    let ps = c.args.pieces.now in
    let now = c.loop-piece.pieces in
    let i = c.loop-piece.piece-index in
    let s = c.piece-item.result in
    let (made, is, h) = c.loop-piece.invariant in
    let next = get_or now i s in
    let raised : Piece =
    record {
      entry = c.in_ok-piece.field-0;
      inequality = next.inequality;
      is_whole =
          next.is_whole;
    } in (
      made ++ raised ∷ [],
      next_set n ps now made i s c.loop-piece-test.true is h raised,
      next_raised n ps now made i s c.loop-piece-test.true is h c.in_ok-piece.field-0
          c.in_ok-piece.ensures.above,
    )

pub returns-in_err-piece-clause-wide : goal.returns-in_err-piece-clause-wide
returns-in_err-piece-clause-wide c =
    let n = c.args.grid in
    let ps = c.args.pieces.now in
    let now = c.loop-piece.pieces in
    let i = c.loop-piece.piece-index in
    let s = c.piece-item.result in
    let (made, is, h) = c.loop-piece.invariant in
    on_err c.from_residual.result (CanBeRaised n ps → ⊥)
    (λ can.
    All-get_or (λ (s : Piece). IsWideLifted n s.entry → ⊥) ps i s c.loop-piece-test.true can
    (subst (λ (x : Piece). IsWideLifted n x.entry)
    (next_is n ps now made i s c.loop-piece-test.true is h) c.in_err-piece.ensures.wide))

pub returns-clause-raised : goal.returns-clause-raised
returns-clause-raised c =
    let (made, is, h) = c.loop-piece.invariant in
    all_back c.args.grid c.args.pieces.now c.loop-piece.pieces made c.loop-piece.piece-index
    c.loop-piece-test.false is h
