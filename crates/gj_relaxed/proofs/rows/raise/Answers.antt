use Rattle.std.proofs.Common.{inl, inr, List, [], length, take, get_or, refl, sym, subst}
use Rattle.std.proofs.lemmas.List.{take_all}
use Rattle.gj_frac.proofs.Refusals.{on_err}
use Rattle.gj_problem.specs.declared.pieces.Piece.{Piece}
use Rattle.gj_safe_cut.specs.AddedTerms.{surplus_of_sum}
use Rattle.gj_relaxed.specs.RaisedPieces.{IsWideRaising}
use Rattle.gj_relaxed.proofs.RowGaps.{none_raised, next_taken, raised_next, wide_at, all_raised}
use Rattle.gj_relaxed.proofs.NarrowGaps.{narrow_none, narrow_with, narrow_gap_term}
use Rattle.gj_relaxed.proofs.rows.raise.Goals as goal

pub loop-piece-init : goal.loop-piece-init
loop-piece-init c =
    let sum = c.args.sum.now in
    record {
      raised = ([], refl, none_raised c.args.grid sum);
      narrow = narrow_none c.args.grid (length sum.coefficients.items) (surplus_of_sum sum);
    }

pub loop-piece-preserved : goal.loop-piece-preserved
loop-piece-preserved c =
    let n = c.args.grid in
    let ps = c.args.pieces.now in
    let now = c.loop-piece.pieces in
    let i = c.loop-piece.piece-index in
    let s = c.piece-item.result in
    let old = c.args.sum.now in
    let sum = c.loop-piece.sum in
    let entry = c.in_ok-entry.entry in
    let (made, is, h) = c.loop-piece.invariant.raised in
    record {
      raised = raised_next n ps now made i s old sum c.loop-piece-test.true is h entry
          c.add_rise.new.sum
          c.in_ok-entry.ensures.above c.in_ok-add_rise.ensures.rise;
      narrow = subst (λ (xs : List Piece). IsWideRaising n xs old → ⊥)
          (sym (next_taken n ps now made i s c.loop-piece-test.true is h.raised_are))
          (narrow_with n (length old.coefficients.items) (surplus_of_sum old) (take i ps) made
          (get_or now i s) sum.coefficients.items
          sum.right h.raised_are h.count h.adds c.loop-piece.invariant.narrow
          (narrow_gap_term n sum.coefficients.items sum.right entry
          (get_or now i s) c.in_ok-entry.ensures.narrow c.in_ok-entry.ensures.above
          c.in_ok-add_rise.ensures.narrow));
    }

pub returns-in_err-entry-clause-wide : goal.returns-in_err-entry-clause-wide
returns-in_err-entry-clause-wide c =
    let (made, is, h) = c.loop-piece.invariant.raised in
    on_err c.from_residual.result (IsWideRaising c.args.grid c.args.pieces.now c.args.sum.now)
    (wide_at c.args.grid c.args.pieces.now c.loop-piece.pieces made c.loop-piece.piece-index
    c.piece-item.result c.args.sum.now c.loop-piece.sum
    c.loop-piece-test.true is h (inl c.in_err-entry.ensures.wide))

pub returns-in_err-add_rise-clause-wide : goal.returns-in_err-add_rise-clause-wide
returns-in_err-add_rise-clause-wide c =
    let (made, is, h) = c.loop-piece.invariant.raised in
    let now = c.loop-piece.pieces in
    let i = c.loop-piece.piece-index in
    let s = c.piece-item.result in
    let next = get_or now i s in
    on_err c.from_residual-in_err-add_rise.result
    (IsWideRaising c.args.grid c.args.pieces.now c.args.sum.now)
    (wide_at c.args.grid c.args.pieces.now now made i s c.args.sum.now c.loop-piece.sum
    c.loop-piece-test.true is h
    (inr (
      record {
        entry = c.in_ok-entry.entry;
        inequality = next.inequality;
        is_whole =
            next.is_whole;
      },
      record { entry = c.in_ok-entry.ensures.above; inequality = refl; is_whole = refl },
      c.in_err-add_rise.ensures.wide,
    )))

pub returns-clause-raised : goal.returns-clause-raised
returns-clause-raised c =
    let (made, is, h) = c.loop-piece.invariant.raised in
    all_raised c.args.grid c.args.pieces.now c.loop-piece.pieces made c.loop-piece.piece-index
    c.args.sum.now c.loop-piece.sum
    c.loop-piece-test.false is h

pub returns-clause-narrow : goal.returns-clause-narrow
returns-clause-narrow c =
    subst (λ (xs : List Piece). IsWideRaising c.args.grid xs c.args.sum.now → ⊥)
    (take_all c.loop-piece.piece-index c.args.pieces.now c.loop-piece-test.false)
    c.loop-piece.invariant.narrow
