use Rattle.std.proofs.Common.{◌≡◌, ℕ, List, pos, refl, sym, ap, subst, subst₂, ◌∙◌}
use Rattle.gj_frac.specs.Fraction.{IsRatio}
use Rattle.gj_fields.specs.Rational.{Rational, whole, rational, ◌*ℚ◌}
use Rattle.gj_problem.specs.Rows.{IsMultiple}
use Rattle.gj_problem.specs.declared.problem.Entry.{Entry}
use Rattle.gj_problem.proofs.AddedSums.{product_value, whole_ratio}
use Rattle.gj_problem.proofs.WideRoundings.{handed_on}
use Rattle.gj_relaxed.proofs.LoosePieces.{one_part, part_times, product_fits}
use Rattle.gj_relaxed.proofs.loose_pieces.loose_piece.Goals as goal

pub returns-in_err-entry-clause-wide : goal.returns-in_err-entry-clause-wide
returns-in_err-entry-clause-wide c = λ fault t is.
    let x = c.of_small.result in
    let e = c.args.piece.now.entry in
    let times : rational x ≡ whole (pos c.args.grid) =
    whole_ratio x (pos c.args.grid)
    (subst (λ (k : ℕ). IsRatio x (pos k) (pos 1)) c.from.ensures c.of_small.ensures) in
    c.in_err-entry.ensures.wide
    (product_fits x e t.entry (is.entry ∙ ap (λ w. w *ℚ rational e) (sym times)))

pub returns-in_err-inequality-clause-wide : goal.returns-in_err-inequality-clause-wide
returns-in_err-inequality-clause-wide c = λ fault t is.
    let n = c.args.grid in
    let q = c.args.piece.now.inequality in
    let k = c.ratio-part.result in
    c.in_err-inequality.ensures.wide
    (handed_on c.from_residual-in_err-inequality.result _ _
    c.from_residual-in_err-inequality.ensures.1 fault)
    t.inequality
    (subst₂ (λ (x : Rational) (es : List Entry). IsMultiple x es q.right t.inequality)
    (one_part (whole (pos n)) is.part (rational k) is.part_is (part_times k n c.ratio-part.ensures))
    (sym c.as_slice.ensures) is.inequality)

pub returns-clause-loose : goal.returns-clause-loose
returns-clause-loose c =
    let n = c.args.grid in
    let s = c.args.piece.now in
    let x = c.of_small.result in
    let k = c.ratio-part.result in
    let times : rational x ≡ whole (pos n) =
    whole_ratio x (pos n)
    (subst (λ (m : ℕ). IsRatio x (pos m) (pos 1)) c.from.ensures c.of_small.ensures) in
    record {
      was_whole = c.requires.was_whole;
      was_small = c.requires.was_small;
      is_whole = refl;
      entry = product_value x s.entry c.in_ok-entry.entry c.in_ok-entry.ensures.value
          ∙ ap (λ w. w *ℚ rational s.entry) times;
      part = rational k;
      part_is = part_times k n c.ratio-part.ensures;
      inequality = subst (λ (es : List Entry). IsMultiple
          (rational k) es s.inequality.right c.in_ok-inequality.inequality) c.as_slice.ensures
          c.in_ok-inequality.ensures.is;
    }
