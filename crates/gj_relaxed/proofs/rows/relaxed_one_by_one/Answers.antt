use Rattle.std.proofs.Common.{◌≡◌, ◌++◌, ◌<◌, ◌^◌, inl, inr, ℕ, List, [], ◌∷◌, length, take, drop, negsuc, false, Option, IfSome, IsNone, append_assoc, rules, sym, ap, ap₂, subst, ◌∙◌}
use Rattle.std.proofs.lemmas.List.Elements.{length_all_zip}
use Rattle.gj_fields.specs.Rational.{Rational, rational, ◌-ℚ◌}
use Rattle.gj_problem.specs.declared.problem.Inequality.{Inequality}
use Rattle.gj_problem.specs.declared.pieces.Piece.{Piece}
use Rattle.gj_problem.specs.Problems.{surplus_at, AreTermsWithin}
use Rattle.gj_problem.proofs.AddedSums.{whole_ratio}
use Rattle.gj_safe_cut.specs.AddedTerms.{surplus_of_sum}
use Rattle.gj_relaxed.specs.RelaxedRows.{IsRaised, IsRelaxedRow, IsWideRelaxedRow}
use Rattle.gj_relaxed.specs.RaisedPieces.{AreRaised, IsWideRaising}
use Rattle.gj_relaxed.proofs.RowGaps.{IsBegun, begun_at, difference_value, raised_joined, gap_from, wide_along, wide_in_first, wide_in_second, written_back}
use Rattle.gj_relaxed.proofs.NarrowGaps.{narrow_row, narrow_joined}
use Rattle.gj_relaxed.proofs.rows.relaxed_one_by_one.Goals as goal

pub returns-in_err-right-clause-wide : goal.returns-in_err-right-clause-wide
returns-in_err-right-clause-wide c = λ fault.
    let row = c.args.row in
    subst (λ (k : ℕ). IsWideRelaxedRow c.args.to k c.args.columns
    (row.slacks.items ++ row.bounds.items) row.right) c.from-grid.ensures
    (inl c.in_err-right.ensures.wide)

pub returns-in_err-fall-clause-wide : goal.returns-in_err-fall-clause-wide
returns-in_err-fall-clause-wide c = λ fault.
    let row = c.args.row in
    subst (λ (k : ℕ). IsWideRelaxedRow c.args.to k c.args.columns
    (row.slacks.items ++ row.bounds.items) row.right) c.from-grid.ensures
    (inr (c.in_ok-right.right, c.in_ok-right.ensures.moved, inl c.in_err-fall.ensures.wide))

pub returns-in_err-raise-clause-wide : goal.returns-in_err-raise-clause-wide
returns-in_err-raise-clause-wide c = λ fault.
    let n = c.from-grid.result in
    let right = c.args.row.right in
    let right' = c.in_ok-right.right in
    let none = c.in_ok-sum.sum in
    let ps = c.args.row.slacks.items in
    let qs = c.args.row.bounds.items in
    let begun : IsBegun c.args.columns right right' none = record {
      count = c.in_ok-sum.ensures.count;
      none = c.in_ok-sum.ensures.none;
      right_is = ap rational c.in_ok-sum.ensures.right
          ∙ difference_value right' right c.in_ok-fall.fall c.in_ok-fall.ensures.value;
    } in
    let wide : IsWideRaising n ps none =
    subst (λ (xs : List Piece). IsWideRaising n xs none) c.as_mut_slice.ensures.value
    c.in_err-raise.ensures.wide in
    subst (λ (k : ℕ). IsWideRelaxedRow c.args.to k c.args.columns
    (c.args.row.slacks.items ++ c.args.row.bounds.items) c.args.row.right) c.from-grid.ensures
    (inr (
      right',
      c.in_ok-right.ensures.moved,
      inr (inl (wide_along n (length none.coefficients.items) c.args.columns (surplus_of_sum none)
          (λ point. rational right -ℚ rational right') (ps ++ qs) begun.count
          (begun_at c.args.columns right right' none begun)
          (wide_in_first n (length none.coefficients.items) (surplus_of_sum none) ps qs wide))),
    ))

pub returns-in_err-raise-2-clause-wide : goal.returns-in_err-raise-2-clause-wide
returns-in_err-raise-2-clause-wide c = λ fault.
    let n = c.from-grid.result in
    let right = c.args.row.right in
    let right' = c.in_ok-right.right in
    let none = c.in_ok-sum.sum in
    let middle = c.raise.new.sum in
    let ps = c.args.row.slacks.items in
    let rs = c.raise.new.pieces in
    let qs = c.args.row.bounds.items in
    let begun : IsBegun c.args.columns right right' none = record {
      count = c.in_ok-sum.ensures.count;
      none = c.in_ok-sum.ensures.none;
      right_is = ap rational c.in_ok-sum.ensures.right
          ∙ difference_value right' right c.in_ok-fall.fall c.in_ok-fall.ensures.value;
    } in
    let first : AreRaised n ps rs none middle =
    subst (λ (xs : List Piece). AreRaised n xs rs none middle) c.as_mut_slice.ensures.value
    c.in_ok-raise.ensures.raised in
    let wide : IsWideRaising n qs middle =
    subst (λ (xs : List Piece). IsWideRaising n xs middle) c.as_mut_slice-2.ensures.value
    c.in_err-raise-2.ensures.wide in
    subst (λ (k : ℕ). IsWideRelaxedRow c.args.to k c.args.columns
    (c.args.row.slacks.items ++ c.args.row.bounds.items) c.args.row.right) c.from-grid.ensures
    (inr (
      right',
      c.in_ok-right.ensures.moved,
      inr (inl (wide_along n (length none.coefficients.items) c.args.columns (surplus_of_sum none)
          (λ point. rational right -ℚ rational right') (ps ++ qs) begun.count
          (begun_at c.args.columns right right' none begun)
          (wide_in_second n ps rs qs none middle first wide))),
    ))

pub returns-in-None-clause-wide : goal.returns-in-None-clause-wide
returns-in-None-clause-wide c = λ fault.
    let n = c.from-grid.result in
    let middle = c.raise.new.sum in
    let last = c.raise-2.new.sum in
    let first = c.in_ok-raise.ensures.raised in
    let second = c.in_ok-raise-2.ensures.raised in
    let nothing : IsNone c.in_ok-inequality.field-0 =
    subst (λ (q : Option Inequality). IsNone q) (sym c.in-None.is) (search rules) in
    subst (λ (k : ℕ). IsWideRelaxedRow c.args.to k c.args.columns
    (c.args.row.slacks.items ++ c.args.row.bounds.items) c.args.row.right) c.from-grid.ensures
    (inr (
      c.in_ok-right.right,
      c.in_ok-right.ensures.moved,
      inr (inr (subst (λ (k : ℕ). 2 ^ 32 < k) (second.count ∙ first.count
          ∙ c.in_ok-sum.ensures.count) (c.in_ok-inequality.ensures.none.0 nothing))),
    ))

pub returns-in_ok-push-in-Some-clause-relaxed : goal.returns-in_ok-push-in-Some-clause-relaxed
returns-in_ok-push-in-Some-clause-relaxed c =
    let n = c.from-grid.result in
    let right = c.args.row.right in
    let right' = c.in_ok-right.right in
    let none = c.in_ok-sum.sum in
    let middle = c.raise.new.sum in
    let last = c.raise-2.new.sum in
    let ps = c.args.row.slacks.items in
    let rs = c.raise.new.pieces in
    let qs = c.args.row.bounds.items in
    let ts = c.raise-2.new.pieces in
    let q = c.in-Some.inequality in
    let begun : IsBegun c.args.columns right right' none = record {
      count = c.in_ok-sum.ensures.count;
      none = c.in_ok-sum.ensures.none;
      right_is = ap rational c.in_ok-sum.ensures.right
          ∙ difference_value right' right c.in_ok-fall.fall c.in_ok-fall.ensures.value;
    } in
    let first : AreRaised n ps rs none middle =
    subst (λ (xs : List Piece). AreRaised n xs rs none middle) c.as_mut_slice.ensures.value
    c.in_ok-raise.ensures.raised in
    let second : AreRaised n qs ts middle last =
    subst (λ (xs : List Piece). AreRaised n xs ts middle last) c.as_mut_slice-2.ensures.value
    c.in_ok-raise-2.ensures.raised in
    let both = raised_joined n ps rs qs ts none middle last first second in
    let made : (point : List Rational) → surplus_at point q ≡ surplus_of_sum last point =
    subst (λ (o : Option Inequality). IfSome o (λ i. (point : List Rational) →
    surplus_at point i ≡ surplus_of_sum last point)) c.in-Some.is
    c.in_ok-inequality.ensures.surplus in
    let terms : AreTermsWithin 0 (length last.coefficients.items) q.entries =
    subst (λ (o : Option Inequality). IfSome o
    (λ i. AreTermsWithin 0 (length last.coefficients.items) i.entries)) c.in-Some.is
    c.in_ok-inequality.ensures.terms in
    let gap : Piece = record { entry = c.ratio.result; inequality = q; is_whole = false } in
    let are : take c.args.row.slacks.len (rs ++ drop (length rs) ps) ++ c.push.new.self.items
    ≡ (rs ++ ts) ++ gap ∷ [] =
    ap₂ (λ (xs ys : List Piece). xs ++ ys)
    (written_back ps rs c.args.row.slacks.len
    (sym (length_all_zip (IsRaised n) ps rs first.raised_are)) c.args.row.slacks.ok.0)
    (c.in_ok-push-in-Some.ensures.items
    ∙ ap (λ (xs : List Piece). xs ++ gap ∷ [])
    (written_back qs ts c.args.row.bounds.len
    (sym (length_all_zip (IsRaised n) qs ts second.raised_are)) c.args.row.bounds.ok.0))
    ∙ sym (append_assoc rs ts (gap ∷ [])) in
    subst (λ (k : ℕ). IsRelaxedRow c.args.to k c.args.columns (ps ++ qs) right
    (take c.args.row.slacks.len (rs ++ drop (length rs) ps) ++ c.push.new.self.items) right')
    c.from-grid.ensures
    (record {
      raised = rs ++ ts;
      raised_are = both.raised_are;
      right_is = c.in_ok-right.ensures.moved;
      gap = gap;
      gap_is = gap_from n c.args.columns (ps ++ qs) (rs ++ ts) right right' c.ratio.result none last
          q begun both made terms
          (whole_ratio c.ratio.result (negsuc 0) c.ratio.ensures);
      relaxed_are = are;
    })

pub returns-in_ok-push-in-Some-clause-narrow : goal.returns-in_ok-push-in-Some-clause-narrow
returns-in_ok-push-in-Some-clause-narrow c =
    let n = c.from-grid.result in
    let right = c.args.row.right in
    let right' = c.in_ok-right.right in
    let none = c.in_ok-sum.sum in
    let middle = c.raise.new.sum in
    let last = c.raise-2.new.sum in
    let ps = c.args.row.slacks.items in
    let rs = c.raise.new.pieces in
    let qs = c.args.row.bounds.items in
    let begun : IsBegun c.args.columns right right' none = record {
      count = c.in_ok-sum.ensures.count;
      none = c.in_ok-sum.ensures.none;
      right_is = ap rational c.in_ok-sum.ensures.right
          ∙ difference_value right' right c.in_ok-fall.fall c.in_ok-fall.ensures.value;
    } in
    let first : AreRaised n ps rs none middle =
    subst (λ (xs : List Piece). AreRaised n xs rs none middle) c.as_mut_slice.ensures.value
    c.in_ok-raise.ensures.raised in
    let few : 2 ^ 32 < length last.coefficients.items → ⊥ =
    λ many. let nothing = subst (λ (o : Option Inequality). IsNone o) c.in-Some.is
    (c.in_ok-inequality.ensures.none.1 many) in absurd (cc) in
    subst (λ (k : ℕ). IsWideRelaxedRow c.args.to k c.args.columns (ps ++ qs) right →
    ⊥) c.from-grid.ensures
    (narrow_row c.args.to n c.args.columns (ps ++ qs) right right' c.in_ok-right.ensures.narrow
    c.in_ok-right.ensures.moved c.in_ok-fall.ensures.fits
    (λ wide.
    narrow_joined n (length none.coefficients.items)
    (surplus_of_sum none) ps rs qs middle.coefficients.items middle.right first.raised_are
    first.count first.adds
    (subst (λ (xs : List Piece). IsWideRaising n xs none → ⊥) c.as_mut_slice.ensures.value
    c.in_ok-raise.ensures.narrow)
    (subst (λ (xs : List Piece). IsWideRaising n xs middle → ⊥) c.as_mut_slice-2.ensures.value
    c.in_ok-raise-2.ensures.narrow)
    (wide_along n c.args.columns (length none.coefficients.items)
    (λ point. rational right -ℚ rational right') (surplus_of_sum none)
    (ps ++ qs) (sym begun.count)
    (λ point. sym (begun_at c.args.columns right right' none begun point)) wide))
    (subst (λ (k : ℕ). 2 ^ 32 < k → ⊥) (c.in_ok-raise-2.ensures.raised.count ∙ first.count
    ∙ c.in_ok-sum.ensures.count) few))
