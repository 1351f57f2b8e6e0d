use Rattle.std.proofs.Common.{◌≡◌, IsTrue, true, inr, Option, None, MatchOption, [], ◌∷◌, refl, ap, subst, ◌∙◌}
use Rattle.gj_fields.specs.Rational.{Rational, rational, ◌+ℚ◌, ◌*ℚ◌, neg_ℚ}
use Rattle.gj_fields.proofs.RationalRing.{by_ring_q, ring_q}
use Rattle.gj_problem.specs.declared.bounds.Held.{Held}
use Rattle.gj_problem.specs.Aggregates.{IsLeftOut, IsTurned}
use Rattle.gj_problem.specs.declared.pieces.Piece.{Piece}
use Rattle.gj_problem.proofs.AddedSums.{negation_value}
use Rattle.gj_problem.proofs.OneColumn.{right_kept}
use Rattle.gj_problem.proofs.NarrowRows.{narrow_turn}
use Rattle.gj_problem.proofs.bounds.Held.turn.Goals as goal

minus_times : (r e v : Rational) → r +ℚ neg_ℚ e *ℚ v ≡ r +ℚ neg_ℚ (e *ℚ v)
minus_times r e v = by_ring_q (r ∷ e ∷ v ∷ []) (search ring_q depth 40) refl

pub returns-clause-right : goal.returns-clause-right
returns-clause-right c = λ (done : IsTrue true).
    let s = c.in-Some.piece in
    let old = c.args.bounds.now in
    right_kept (rational old.right) (rational c.in_ok-bounds.field-0) old.pieces.items
    c.push.new.self.items s c.in_ok-push.ensures.items
    (c.in_ok-bounds.ensures.value
    ∙ ap (λ w. rational old.right +ℚ w *ℚ rational s.inequality.right)
    (negation_value s.entry c.neg.result c.neg.ensures)
    ∙ minus_times (rational old.right) (rational s.entry) (rational s.inequality.right))

pub returns-clause-next : goal.returns-clause-next
returns-clause-next c = λ (done : IsTrue true).
    let h : Held = c.args.self in
    let kept : IsLeftOut h → ⊥ = λ passed. let t = c.is_left_out.ensures.1 passed in absurd (cc) in
    let turned : IsTurned h c.in-Some.piece =
    subst (λ (made : Option Piece). MatchOption made
    ((h.column.lower ≡ None) × (h.column.upper ≡ None)) (IsTurned h)) c.in-Some.is
    c.in_ok-piece.ensures in
    inr (kept, c.in-Some.piece, turned, c.in_ok-push.ensures.items)

pub returns-in_err-bounds-clause-wide : goal.returns-in_err-bounds-clause-wide
returns-in_err-bounds-clause-wide c = λ fault.
    let h : Held = c.args.self in
    record {
      kept = λ passed. let t = c.is_left_out.ensures.1 passed in absurd (cc);
      piece = c.in-Some.piece;
      turned = subst (λ (made : Option Piece). MatchOption made
          ((h.column.lower ≡ None) × (h.column.upper ≡ None)) (IsTurned h)) c.in-Some.is
          c.in_ok-piece.ensures;
      against = c.neg.result;
      against_is = negation_value c.in-Some.piece.entry c.neg.result c.neg.ensures;
      wide = c.in_err-bounds.ensures.wide;
    }

pub returns-clause-narrow : goal.returns-clause-narrow
returns-clause-narrow c =
    let h : Held = c.args.self in
    let s = c.in-Some.piece in
    let turned : IsTurned h s =
    subst (λ (made : Option Piece). MatchOption made
    ((h.column.lower ≡ None) × (h.column.upper ≡ None)) (IsTurned h)) c.in-Some.is
    c.in_ok-piece.ensures in
    narrow_turn h c.args.bounds.now.right s c.neg.result turned
    (negation_value s.entry c.neg.result c.neg.ensures) c.in_ok-bounds.ensures.narrow
